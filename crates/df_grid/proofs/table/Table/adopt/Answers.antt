-- Its entry was unmarked.
use Rattle.{std.proofs.Common.{◌-◌, length, refl, ap, ◌∙◌, arith}, df_model.specs.Blocks.{is_held_in}}
use Rattle.df_grid.{specs.Table.{TableState}, proofs.{Groups.{counts_kept}, Keeping.{unheld_entry}, Views.{adopt_chained, adopt_chained_state, adopt_live, adopt_live_state, length_pairs}}}
use Rattle.df_grid.proofs.table.Table.adopt.Goals as goal

pub insert-requires : goal.insert-requires
insert-requires c = let s = c.self.inside in (omega arith, (omega arith, omega (arith, c.requires.room c.if-not-live.true, ap (λ (v : TableState). length v.blocks.chain) c.self.view_is, length_pairs s.entries s.chain.items)))

pub invariant_of-self : goal.invariant_of-self
invariant_of-self c = let s = c.self.inside in
    let un = unheld_entry s.entries s.free s.written.items s.left.items s.chain.items c.self.invariant.0 c.args.reference.now.address (c.args.reference.now.address - 1) c.get.result (omega (arith, c.requires.inside.0)) c.get.ensures (ap (λ (v : TableState). is_held_in v.blocks c.args.reference.now.address) c.self.view_is ∙ c.requires.free) in
    rw (c.replace.ensures.entries, c.replace.ensures.free, c.insert.ensures.items) (
      adopt_chained s.entries s.free s.written.items s.left.items s.chain.items c.self.invariant.0 c.args.reference.now.address (c.args.reference.now.address - 1) c.get.result (omega (arith, c.requires.inside.0)) c.get.ensures un c.args.reference.now.checksum c.args.live c.if-not-live.true,
      counts_kept s.entries s.left.items
          s.counts.items c.self.invariant.1 (c.args.reference.now.address - 1) _ c.get.result c.get.ensures refl s.left.items (λ some. some),
    )

pub invariant_of-self-else-not-live : goal.invariant_of-self-else-not-live
invariant_of-self-else-not-live c = let s = c.self.inside in
    let un = unheld_entry s.entries s.free s.written.items s.left.items s.chain.items c.self.invariant.0 c.args.reference.now.address (c.args.reference.now.address - 1) c.get.result (omega (arith, c.requires.inside.0)) c.get.ensures (ap (λ (v : TableState). is_held_in v.blocks c.args.reference.now.address) c.self.view_is ∙ c.requires.free) in
    rw (c.replace.ensures.entries, c.replace.ensures.free) (
      adopt_live s.entries s.free s.written.items s.left.items s.chain.items c.self.invariant.0 c.args.reference.now.address (c.args.reference.now.address - 1) c.get.result (omega (arith, c.requires.inside.0)) c.get.ensures un c.args.reference.now.checksum c.args.live c.if-not-live.false,
      counts_kept s.entries s.left.items
          s.counts.items c.self.invariant.1 (c.args.reference.now.address - 1) _ c.get.result c.get.ensures refl s.left.items (λ some. some),
    )

pub returns-then-not-live : goal.returns-then-not-live
returns-then-not-live c = let s = c.self.inside in
    let un = unheld_entry s.entries s.free s.written.items s.left.items s.chain.items c.self.invariant.0 c.args.reference.now.address (c.args.reference.now.address - 1) c.get.result (omega (arith, c.requires.inside.0)) c.get.ensures (ap (λ (v : TableState). is_held_in v.blocks c.args.reference.now.address) c.self.view_is ∙ c.requires.free) in
    rw (← c.self.view_is, c.replace.ensures.entries, c.insert.ensures.items) (adopt_chained_state s.entries s.free s.written.items s.left.items s.chain.items c.self.invariant.0 c.args.reference.now.address (c.args.reference.now.address - 1) c.get.result (omega (arith, c.requires.inside.0)) c.get.ensures un c.args.reference.now.checksum c.args.live c.if-not-live.true)

pub returns-else-not-live : goal.returns-else-not-live
returns-else-not-live c = let s = c.self.inside in
    let un = unheld_entry s.entries s.free s.written.items s.left.items s.chain.items c.self.invariant.0 c.args.reference.now.address (c.args.reference.now.address - 1) c.get.result (omega (arith, c.requires.inside.0)) c.get.ensures (ap (λ (v : TableState). is_held_in v.blocks c.args.reference.now.address) c.self.view_is ∙ c.requires.free) in
    rw (← c.self.view_is, c.replace.ensures.entries) (adopt_live_state s.entries s.free s.written.items s.left.items s.chain.items c.self.invariant.0 c.args.reference.now.address (c.args.reference.now.address - 1) c.get.result (omega (arith, c.requires.inside.0)) c.get.ensures un c.args.reference.now.checksum c.args.live c.if-not-live.false)
