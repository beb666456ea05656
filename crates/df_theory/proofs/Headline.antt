-- Stop anywhere, and the next open goes on.
use Rattle.std.proofs.Common.{◌≡◌, ◌⊎◌, inl, inr, [], ◌∷◌}
use Rattle.df_theory.{specs.{Units.{Units}, Shape.{Shape}, View.{View}, Holds.{Holds}, UnitLog.{IsLeftBy, Synced, UnitLog, add, now, settled}, Chance.{EachLeft, NoChance}, Grown.{IsSafe}, Rests.{IsGoodLog, RestsOn}, Runs.{after_steps}, HeadlineLaws.{BarrierLaw, CleanStartLaw, HeadlineLaw, Survives}}, proofs.{Steps.{grows_holds, synced_rests, rests_safe, rests_holds}, Founds.{holds_found, found_holds}, OneFound.{one_found_law}, Writes.{stop_law, anew_law, no_choice}, Runs.{each_weaker}}}

pub survives : (sh : Shape) (log : UnitLog) (image : Units) (w : View)
    → IsSafe sh log → IsLeftBy log image → NoChance log image → Holds sh image w → Survives sh log image w
survives sh log image w safe left chance holds =
    record { found = holds_found sh image w holds; rests = stop_law sh log w image (safe.stopped image left chance) holds }

pub headline_law : HeadlineLaw
headline_law sh log v [] rests lead =
    λ image left chance. survives sh log image v (rests_safe sh log v rests) left chance (rests_holds sh log v rests image left chance)
headline_law sh log v (c ∷ cs) rests lead = (
  each_weaker (IsGoodLog sh v c.view) (λ l. EachLeft l (λ image. Survives sh l image v ⊎ Survives sh l image c.view))
      (λ l good image left chance. elim (good.left image left chance) [
        | inl holds ↦ inl (survives sh l image v good.safe left chance holds)
        | inr holds ↦ inr (survives sh l image c.view good.safe left chance holds)
      ]) c.steps log lead.0.moments,
  headline_law sh (after_steps c.steps log) c.view cs lead.0.rests lead.1,
)

pub barrier_law : BarrierLaw
barrier_law sh log v was found = elim was [
  | inl grown ↦ let holds = grows_holds sh (now log) (settled log) grown.0 grown.1.grows in
      let same : grown.0 ≡ v = one_found_law sh (now log) grown.0 v (holds_found sh (now log) grown.0 holds) found in
      rw same at (synced_rests sh log grown.0 grown.1)
  | inr made ↦ absurd (no_choice made.0 (now log) (settled log) made.1.made v.checkpoint.content found.chosen.agreed)
]

pub clean_start_law : CleanStartLaw
clean_start_law sh image v places found clean = anew_law sh image v (found_holds sh image v places found clean)
