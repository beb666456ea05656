-- A run of commands from one tidy file to the next.
use Rattle.std.proofs.Common.{◌⊎◌, inl, inr, List, [], ◌∷◌, sym, subst}
use Rattle.df_theory.{specs.{Shape.{Shape}, View.{View}, UnitLog.{UnitLog}, Chance.{EachLeft}, Runs.{Command, LeadOn, after_steps, steps_of, view_after}, WholeLaws.{IsStanding}, TidyLaws.{IsGoodWhole, IsTidy, LeadTidily, StandingRunLaw, SurvivesWhole, TidyRunLaw}}, proofs.{Steps.{rests_safe, rests_holds}, Runs.{each_weaker, after_append}, Headline.{headline_law, survives}, Keeps.{stands_law}}}

-- what one command after the other leads to
tidily_leads : (sh : Shape) (log : UnitLog) (v : View) (cs : List Command) → LeadTidily sh log v cs → LeadOn sh log v cs
tidily_leads sh log v [] lead = tt
tidily_leads sh log v (c ∷ cs) lead = (lead.0.leads, tidily_leads sh (after_steps c.steps log) c.view cs lead.1)

tidy_after : (sh : Shape) (log : UnitLog) (v : View) (cs : List Command)
    → IsTidy sh log v → LeadTidily sh log v cs → IsTidy sh (after_steps (steps_of cs) log) (view_after v cs)
tidy_after sh log v [] tidy lead = tidy
tidy_after sh log v (c ∷ cs) tidy lead = subst (λ (l : UnitLog). IsTidy sh l (view_after c.view cs))
    (sym (after_append c.steps (steps_of cs) log)) (tidy_after sh (after_steps c.steps log) c.view cs lead.0.tidy lead.1)

pub tidy_run_law : TidyRunLaw
tidy_run_law sh log v cs tidy lead = (headline_law sh log v cs tidy.rests (tidily_leads sh log v cs lead), tidy_after sh log v cs tidy lead)

survives_whole : (sh : Shape) (v u : View) (l : UnitLog)
    → IsGoodWhole sh v u l → EachLeft l (λ image. SurvivesWhole sh l image v ⊎ SurvivesWhole sh l image u)
survives_whole sh v u l good image left chance = elim (good.left image left chance) [
  | inl holds ↦ inl (survives sh l image v good.safe left chance holds.0, holds.1)
  | inr holds ↦ inr (survives sh l image u good.safe left chance holds.0, holds.1)
]

pub standing_run_law : StandingRunLaw
standing_run_law sh log v [] tidy lead standing keep = (
  λ image left chance. (survives sh log image v (rests_safe sh log v tidy.rests) left chance (rests_holds sh log v tidy.rests image left chance), (stands_law log v [] standing tt).1 image left chance),
  standing,
)
standing_run_law sh log v (c ∷ cs) tidy lead standing keep =
    let rest = standing_run_law sh (after_steps c.steps log) c.view cs lead.0.tidy lead.1 keep.0.standing keep.1 in (
      (each_weaker (IsGoodWhole sh v c.view) (λ l. EachLeft l (λ image. SurvivesWhole sh l image v ⊎ SurvivesWhole sh l image c.view)) (survives_whole sh v c.view) c.steps log keep.0.moments, rest.0),
      rw (sym (after_append c.steps (steps_of cs) log)) at rest.1,
    )
