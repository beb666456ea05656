-- The first place that is another client's is the least one.
use Rattle.{std.proofs.{Common.{◌≡◌, ◌∙◌, ℕ, length, ap, arith, sym}, lemmas.Bool.{false≢true}}, df_session.specs.Below.{memory}}
use borrow.Author.Count.{below_more}
use Rattle.{df_model.specs.declared.answers.Summary.{Summary}, df_table.specs.Opening.{IsOtherClient, NoneIsOther}}
use Rattle.df_table.proofs.opening.other_client.Goals as goal

pub loop-place-init : goal.loop-place-init
loop-place-init c = λ k less other. absurd (omega (arith, less))

pub loop-place-preserved : goal.loop-place-preserved
loop-place-preserved c = below_more (λ (k : ℕ). IsOtherClient (memory c.args.replica.now) k
    → ⊥) c.loop-place.place c.loop-place.invariant (λ other. false≢true (sym c.if-is_other.false ∙ c.is_other.ensures.1 other))

pub returns-then-is_other-clause-found : goal.returns-then-is_other-clause-found
returns-then-is_other-clause-found c = (c.is_other.ensures.0 c.if-is_other.true, c.loop-place.invariant)

pub returns-clause-none : goal.returns-clause-none
returns-clause-none c = let all : c.loop-place.place ≡ length c.args.replica.now.table.sessions =
    omega (arith, c.loop-place-test, c.loop-place.auto, ap (λ (x : Summary). x.sessions) c.summary-place-end.ensures) in
    rw all at c.loop-place.invariant
