-- What the maker says obeys the rules of a prepare, with any body that fits.
use Rattle.std.proofs.Common.{◌≡◌, ◌+◌, ◌∙◌, true, sym, ap, subst, arith, rules, refl}
use Rattle.df_format.{specs.{declared.header.Header.{Header}, declared.kind.Kind.TheVariants.{Prepare as AsPrepare}, Making.{for_body}, Rules.{ObeysRules}}, proofs.Laws.{given_obeys, of_second}}
use Rattle.df_opening.{proofs.Laws.{boot_made}, specs.Below.{State, state_in}}
use Rattle.df_replica.{specs.Appending.{header_given}, proofs.AppendTests.{small_slot}}
use Rattle.df_replica.proofs.replica.Replica.header_given.Goals as goal

pub returns-clause-value : goal.returns-clause-value
returns-clause-value c = search rules

pub returns-clause-rules : goal.returns-clause-rules
returns-clause-rules c = let s : State = state_in c.self.inside.parts in
    let live : s.live ≡ true = ap (λ (x : State). x.live) c.self.view_is ∙ c.requires.live in
    let head_is = ap (λ (x : State). x.head) c.self.view_is in
    let value = returns-clause-value c ∙ sym (ap (λ (x : State). header_given x c.args.client c.args.request) c.self.view_is) in
    subst (λ (h : Header). ObeysRules (for_body h c.args.body.now)) (sym value)
    (given_obeys s.file.cluster (s.file.named, c.self.invariant.state.cluster) (header_given s c.args.client c.args.request) c.args.body.now AsPrepare (of_second AsPrepare (header_given s c.args.client c.args.request) refl (boot_made s (c.self.invariant.state.booted live), c.self.invariant.state.second.rules.boot) (record { begins = (omega arith, omega arith); ends = (omega arith, omega arith) })) (
      record {
        parent = c.self.invariant.state.parent;
        first = λ one. search rules;
        client = (c.requires.note.named, c.ranges.client.fits);
        op = (omega arith, omega (arith, c.requires.note.op, head_is));
        request = c.requires.note.request;
        mark = search (rules, c.self.invariant.state.waiting);
        checkpoint = search (rules, c.self.invariant.state.sequence);
        slot = small_slot
            (s.head + 1) s.file.layout.slots (omega (arith, s.file.layout.slots_within.0)) (omega (arith, s.file.layout.slots_within.1));
      },
      omega (arith, c.requires.fits, c.self.inside.parts.file.layout.message_size_within.1),
    ))
