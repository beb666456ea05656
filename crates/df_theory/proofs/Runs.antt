-- One step after another, one command after another.
use Rattle.std.proofs.Common.{◌≡◌, inl, inr, List, [], ◌∷◌, ◌++◌, refl, sym}
use Rattle.df_theory.{specs.{Units.{Units}, Shape.{Shape}, View.{View}, Holds.{Holds}, UnitLog.{UnitLog}, Rests.{IsGoodLog, RestsOn}, Runs.{AtEach, Command, HoldsPart, IsPartWay, Step, after_step, after_steps, steps_of, view_after}, WriterLaws.{CommandsLaw}}, proofs.Steps.{rests_safe, rests_holds}}

pub after_append : (ss ts : List Step) (log : UnitLog) → after_steps (ss ++ ts) log ≡ after_steps ts (after_steps ss log)
after_append [] ts log = refl
after_append (s ∷ ss) ts log = after_append ss ts (after_step s log)

pub each_weaker : (P Q : UnitLog → Type 0)
    → ((log : UnitLog) → P log → Q log) → (ss : List Step) (log : UnitLog) → AtEach P log ss → AtEach Q log ss
each_weaker P Q implies [] log each = implies log each
each_weaker P Q implies (s ∷ ss) log each = (implies log each.0, each_weaker P Q implies ss (after_step s log) each.1)

pub each_append : (P : UnitLog → Type 0) (ss ts : List Step) (log : UnitLog)
    → AtEach P log ss → AtEach P (after_steps ss log) ts → AtEach P log (ss ++ ts)
each_append P [] ts log one two = two
each_append P (s ∷ ss) ts log one two = (one.0, each_append P ss ts (after_step s log) one.1 two)

-- the view itself is a part
pub part_none : (sh : Shape) (image : Units) (v : View) (cs : List Command) → Holds sh image v → HoldsPart sh image v cs
part_none sh image v [] holds = holds
part_none sh image v (c ∷ cs) holds = inl holds

pub commands_law : CommandsLaw
commands_law sh log v [] rests lead = (record { safe = rests_safe sh log v rests; left = rests_holds sh log v rests }, rests)
commands_law sh log v (c ∷ cs) rests lead = let rest = commands_law sh (after_steps c.steps log) c.view cs lead.0.rests lead.1 in (
  each_append (IsPartWay sh v (c ∷ cs)) c.steps (steps_of cs) log
      (each_weaker (IsGoodLog sh v c.view) (IsPartWay sh v (c ∷ cs)) (λ l good. record {
        safe = good.safe;
        left = λ image left chance. elim (good.left image left chance) [ inl is ↦ inl is | inr is ↦ inr (part_none sh image c.view cs is) ];
      }) c.steps log lead.0.moments)
      (each_weaker (IsPartWay sh c.view cs) (IsPartWay sh v (c ∷ cs)) (λ l part. record { safe = part.safe; left = λ image left chance. inr (part.left image left chance) }) (steps_of cs) (after_steps c.steps log) rest.0),
  rw (sym (after_append c.steps (steps_of cs) log)) at rest.1,
)
