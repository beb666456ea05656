-- What was live is gone, and nothing else.
use Rattle.std.proofs.{Common.{◌-◌, refl, sym, ap, ◌∙◌}, lemmas.Bool.{not-true, not-false}}
use Rattle.df_model.specs.{Work.{is_known}, Blocks.{sum_at}}
use Rattle.df_grid.{specs.Table.{TableState, is_live}, proofs.{Groups.{counts_kept}, Held.{look_none}, Views.{is_live_there, not_live, not_live_state, released_kept, released_state, entry_is}}}
use Rattle.df_grid.proofs.table.Table.release.Goals as goal

pub returns-in_default-clause-answer : goal.returns-in_default-clause-answer
returns-in_default-clause-answer c = let s = c.self.inside in
    let none = look_none is_live s.entries c.args.address (sym c.entry_in.ensures ∙ c.in_default.is) in
    sym (ap is_known (sym (ap (λ (v : TableState). sum_at c.args.address v.blocks.live) c.self.view_is) ∙ none))

pub returns-in_default-clause-blocks : goal.returns-in_default-clause-blocks
returns-in_default-clause-blocks c = let s = c.self.inside in
    let none = look_none is_live s.entries c.args.address (sym c.entry_in.ensures ∙ c.in_default.is) in
    rw (← c.self.view_is) (not_live_state s.entries s.written.items s.left.items s.chain.items c.args.address none)

pub returns-then-not-entry-clause-answer : goal.returns-then-not-entry-clause-answer
returns-then-not-entry-clause-answer c = let s = c.self.inside in let none = not_live
    s.entries c.args.address c.in-Some.entry (sym c.entry_in.ensures ∙ c.in-Some.is) (not-true c.in-Some.entry.live c.if-not-entry.true) in
    sym (ap is_known (sym (ap (λ (v : TableState). sum_at c.args.address v.blocks.live) c.self.view_is) ∙ none))

pub returns-then-not-entry-clause-blocks : goal.returns-then-not-entry-clause-blocks
returns-then-not-entry-clause-blocks c = let s = c.self.inside in let none = not_live
    s.entries c.args.address c.in-Some.entry (sym c.entry_in.ensures ∙ c.in-Some.is) (not-true c.in-Some.entry.live c.if-not-entry.true) in
    rw (← c.self.view_is) (not_live_state s.entries s.written.items s.left.items s.chain.items c.args.address none)

pub replace-requires-clause-inside : goal.replace-requires-clause-inside
replace-requires-clause-inside c = let s = c.self.inside in
    (entry_is s.entries c.args.address c.in-Some.entry (sym c.entry_in.ensures ∙ c.in-Some.is)).0

pub invariant_of-self : goal.invariant_of-self
invariant_of-self c = let s = c.self.inside in
    let there = entry_is s.entries c.args.address c.in-Some.entry (sym c.entry_in.ensures ∙ c.in-Some.is) in
    rw (c.replace.ensures.entries, c.replace.ensures.free) (
      released_kept s.entries s.free s.written.items s.left.items s.chain.items c.self.invariant.0
          c.args.address c.in-Some.entry (sym c.entry_in.ensures ∙ c.in-Some.is) (not-false c.in-Some.entry.live c.if-not-entry.false),
      counts_kept s.entries
          s.left.items s.counts.items c.self.invariant.1 (c.args.address - 1) _ c.in-Some.entry there.1 refl s.left.items (λ some. some),
    )

pub returns-clause-answer : goal.returns-clause-answer
returns-clause-answer c = let s = c.self.inside in
    is_live_there s.entries c.args.address c.in-Some.entry (sym c.entry_in.ensures ∙ c.in-Some.is) (not-false
    c.in-Some.entry.live c.if-not-entry.false) ∙ ap (λ (v : TableState). is_known (sum_at c.args.address v.blocks.live)) c.self.view_is

pub returns-clause-blocks : goal.returns-clause-blocks
returns-clause-blocks c = let s = c.self.inside in rw (← c.self.view_is, c.replace.ensures.entries) (released_state s.entries s.free
    s.written.items s.left.items s.chain.items c.self.invariant.0 c.args.address c.in-Some.entry (sym c.entry_in.ensures ∙ c.in-Some.is))
