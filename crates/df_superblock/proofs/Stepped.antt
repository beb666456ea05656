-- The events of the writers of copies are steps of the theory.
use Rattle.{std.proofs.Common.{ℕ, ◌+◌, ◌<◌, ◌≤◌, Bool, true, false, List, [], ◌∷◌, length, arith}, df_base.specs.Log.{Sync}}
use Rattle.df_layout.specs.declared.layout.Layout.{Layout}
use Rattle.df_format.specs.{declared.superblock.SuperFields.{SuperFields}, SuperRules.{IsUsable}}
use Rattle.df_theory.specs.{MendLaws.{copy_steps}, Device.{AreSteps}, CopyPuts.{update_steps}}
use Rattle.df_units.{specs.{Puts.{put_copies}, Format.{format_of}}, proofs.Laws.{copy_put}}
use Rattle.df_superblock.specs.{Events.{copy_written, repair_events, update_events}, Steps.{AreStepsOfCopies, copy_write_steps, repair_steps, repaired}}

pub write_is_steps : (number : ℕ) (f : SuperFields)
    → number < 4 → IsUsable f → AreStepsOfCopies (copy_written number f ∷ Sync ∷ []) (copy_write_steps number f)
write_is_steps number f small is layout cluster = (copy_put layout cluster number f small is, tt)

pub update_is_steps : (f : SuperFields) → IsUsable f → AreStepsOfCopies (update_events f) (update_steps (put_copies f))
update_is_steps f is layout cluster = (
  copy_put layout cluster 0 f (omega arith) is,
  (copy_put layout cluster 1 f (omega arith) is, (copy_put layout cluster 2 f (omega arith) is, (copy_put layout cluster 3 f (omega arith) is, tt))),
)

pub repair_from : (layout : Layout) (cluster number : ℕ) (f : SuperFields) (members : List Bool) → number + length members ≤ 4 → IsUsable f
    → AreSteps (format_of layout cluster) (repair_events f number members) (copy_steps (repaired f number members))
repair_from layout cluster number f [] fits is = tt
repair_from layout cluster number f (true ∷ members) fits is = repair_from layout cluster (number + 1) f members (omega (arith, fits)) is
repair_from layout cluster number f (false ∷ members) fits is =
    (copy_put layout cluster number f (omega (arith, fits)) is, repair_from layout cluster (number + 1) f members (omega (arith, fits)) is)

pub repair_is_steps : (f : SuperFields) (members : List Bool)
    → length members ≤ 4 → IsUsable f → AreStepsOfCopies (repair_events f 0 members) (repair_steps f members)
repair_is_steps f members four is layout cluster = repair_from layout cluster 0 f members (omega (arith, four)) is
