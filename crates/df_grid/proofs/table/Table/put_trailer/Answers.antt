-- The first of those to come is the next one.
use Rattle.{std.proofs.Common.{◌≡◌, ◌-◌, [], drop, refl, sym, ap, ◌∙◌, arith}, df_units.specs.Meaning.{number_of}}
use Rattle.df_grid.{specs.Table.{TableState, next_written}, proofs.{Groups.{counts_kept}, Views.{coming_inside, coming_kept, coming_whole, first_rest, state_of}}}
use Rattle.df_grid.proofs.table.Table.put_trailer.Goals as goal

pub get-requires : goal.get-requires
get-requires c = let s = c.self.inside in let a = c.remove-address.result in
    let shape = first_rest s.left.items a c.remove-address.ensures.value (λ none.
    c.requires (sym (ap (λ (v : TableState). v.blocks.left) c.self.view_is) ∙ none)) in
    coming_inside s.entries s.free s.written.items s.left.items s.chain.items c.self.invariant.0 a shape

pub replace-requires-clause-inside : goal.replace-requires-clause-inside
replace-requires-clause-inside c = let s = c.self.inside in let a = c.remove-address.result in
    let shape = first_rest s.left.items a c.remove-address.ensures.value (λ none.
    c.requires (sym (ap (λ (v : TableState). v.blocks.left) c.self.view_is) ∙ none)) in
    coming_inside s.entries s.free s.written.items s.left.items s.chain.items c.self.invariant.0 a shape

pub invariant_of-self : goal.invariant_of-self
invariant_of-self c = let s = c.self.inside in let a = c.remove-address.result in
    let coming : s.left.items ≡ [] → ⊥ = λ none. c.requires (sym (ap (λ (v : TableState). v.blocks.left) c.self.view_is) ∙ none) in
    let shape = first_rest s.left.items a c.remove-address.ensures.value coming in
    rw (c.replace.ensures.entries, c.replace.ensures.free, c.insert.ensures.items, c.remove-address.ensures.items) (
      coming_kept s.entries s.free s.written.items s.left.items s.chain.items c.self.invariant.0 a shape (a - 1) c.get.result (omega (arith, (coming_inside s.entries s.free s.written.items s.left.items s.chain.items c.self.invariant.0 a shape).0)) c.get.ensures c.args.checksum,
      counts_kept s.entries
          s.left.items s.counts.items c.self.invariant.1 (a - 1) _ c.get.result c.get.ensures refl (drop 1 s.left.items) (λ some. coming),
    )

pub returns : goal.returns
returns c = let s = c.self.inside in let a = c.remove-address.result in
    let shape = first_rest s.left.items a c.remove-address.ensures.value (λ none.
    c.requires (sym (ap (λ (v : TableState). v.blocks.left) c.self.view_is) ∙ none)) in
    coming_whole s.entries s.free s.written.items s.left.items s.chain.items c.self.invariant.0 a shape (a - 1) c.get.result (omega (arith, (coming_inside s.entries s.free s.written.items s.left.items s.chain.items c.self.invariant.0 a shape).0)) c.get.ensures c.args.checksum c.replace.new.entries c.insert.new.self.items c.remove-address.new.self.items c.replace.ensures.entries c.insert.ensures.items c.remove-address.ensures.items
    ∙ ap (λ (v : TableState). state_of v.size (next_written v.blocks (number_of c.args.checksum))) c.self.view_is
