-- An address is counted exactly where a block is live.
use Rattle.std.{proofs.{Common.{◌≡◌, ◌∙◌, ℕ, ◌+◌, ◌-◌, true, false, List, length, Option, Some, None, refl, sym, ap, arith}, lemmas.Bool.{false≢true}}, specs.Option.{is_some}}
use Rattle.{df_trailer.specs.Rooms.{number_in}, df_units.specs.Meaning.{number_of}, df_opening.specs.Below.{memory}}
use Rattle.df_model.specs.{Blocks.{sum_at}, Memory.{Memory}, declared.answers.Summary.{Summary}}
use Rattle.df_copy.{specs.Tests.{references, references_from}, proofs.{Planning.{counted_live, counted_none}, plan.count_references.Goals.{then-is_some, else-is_some}}}
use Rattle.df_copy.proofs.plan.count_references.Goals as goal

live : (o : Option (List ℕ)) → is_some o ≡ true → (c : ℕ) × (number_in o ≡ Some c)
live (Some x) is = (number_of x, refl)
live None is = absurd (false≢true is)

none : (o : Option (List ℕ)) → is_some o ≡ false → number_in o ≡ None
none (Some x) is = absurd (false≢true (sym is))
none None is = refl

pub loop-before-preserved : goal.loop-before-preserved
loop-before-preserved c = let m : Memory = memory c.args.replica.now in let b : ℕ = c.loop-before.before in
    let blocks : c.summary-blocks.result.layout.blocks ≡ m.layout.blocks = ap (λ (n : Summary). n.layout.blocks) c.summary-blocks.ensures in
    let total : ℕ = length (references m) in let at : sum_at (b + 1) m.blocks.live ≡ number_in c.reference.result =
    ap (λ (k : ℕ). sum_at (k + 1) m.blocks.live) (sym c.from.ensures) ∙ sym c.reference.ensures in elim c.if-is_some.branch [
      | then-is_some w ↦ let one = live c.reference.result (sym c.is_some.ensures ∙ w.if-is_some.true) in
          let more = counted_live m b (omega (arith, blocks)) c.loop-before.count total one.0 c.loop-before.invariant.counted (at ∙ one.1) in
          record { counted = ap (λ (n : ℕ). n + length (references_from m (b + 1 + 1) (m.layout.blocks - (b + 1)))) w.count-is ∙ more; few = omega (arith, w.count-is) }
      | else-is_some w ↦ let more = counted_none m b (omega (arith, blocks)) c.loop-before.count
          total c.loop-before.invariant.counted (at ∙ none c.reference.result (sym c.is_some.ensures ∙ w.if-is_some.false)) in
          record { counted = ap (λ (n : ℕ). n + length (references_from m (b + 1 + 1) (m.layout.blocks - (b + 1)))) w.count-is ∙ more; few = omega (arith, w.count-is) }
    ]
