-- How long the text is, and how many blocks it takes.
use Rattle.{std.{proofs.Common.{◌≡◌, ◌∙◌, ℕ, ◌-◌, List, length, ap, sym}, specs.Int.{div_ceil}}, df_opening.specs.Below.{State, memory}}
use Rattle.{df_format.specs.declared.superblock.SuperFields.{SuperFields}, df_model.specs.declared.answers.Summary.{Summary}}
use Rattle.df_copy.{specs.Tests.{trailer_size}, proofs.{Planning.{size_none, text_as}, plan.plan_trailer.Goals.{then-fields-ne0, else-fields-ne0}}}
use Rattle.df_copy.proofs.plan.plan_trailer.Goals as goal

pub returns-clause-plan : goal.returns-clause-plan
returns-clause-plan c = let s : State = c.args.replica.now in let named : c.fields.result.now.trailer_address ≡ s.fields.trailer_address =
    ap (λ (f : SuperFields). f.trailer_address) c.fields.ensures.value in
    let size : c.if-fields-ne0.size ≡ trailer_size c.args.layout.now (memory s) =
    elim c.if-fields-ne0.branch [
      | then-fields-ne0 w ↦ w.size-is ∙ w.trailer_size-size.ensures.value
          ∙ text_as c.args.layout.now s (length w.root.result.now) w.summary-sessions.result.sessions c.args.count (ap (λ (l : List ℕ). length l) w.root.ensures.is) (ap (λ (n : Summary). n.sessions) w.summary-sessions.ensures) c.requires.count (λ is. w.if-fields-ne0.true (named ∙ is))
      | else-fields-ne0 w ↦ w.size-is ∙ sym (size_none c.args.layout.now s (sym named ∙ w.if-fields-ne0.false))
    ] in record {
      size = size;
      blocks = c.div_ceil.ensures ∙ ap (λ (n : ℕ). div_ceil n (c.from.result - 256)) size
          ∙ ap (λ (n : ℕ). div_ceil (trailer_size c.args.layout.now (memory s)) (n - 256)) c.from.ensures;
    }
