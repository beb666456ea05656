-- What is listed is mended, and the four copies are written after it: the device calls are steps, so what they leave is the theory's.
use Rattle.{std.{proofs.Common.{◌≡◌, refl, subst, sym}, specs.Prelude.{Ok, Err}}, df_units.specs.Puts.{put_copies}}
use Rattle.df_format.{specs.{SuperRules.{IsUsable}, declared.superblock.SuperFields.{SuperFields}}, proofs.Laws.{faults}}
use Rattle.df_superblock.{specs.Events.{update_events}, proofs.Laws.{update_is_steps}}
use Rattle.df_theory.{specs.{CopyPuts.{update_steps}, Device.{AreSteps}}, proofs.Laws.{steps_join_law}}
use Rattle.df_opening.{specs.{Keeping.{format}, Mending.{AddsUpdating}, Survey.{Survey}}, proofs.Laws.{updating_error, updating_fault, updating_ok, updating_then}}
use Rattle.df_upgrade.{specs.{Base.{MayUpgradeTo, base_fields}, Old.{IsSoundSurvey}, Upgrading.{UpgradesEach, restoring_events, restoring_steps, upgrading_events, upgrading_steps}}, proofs.{Above.{is_above}, Anew.{upgrades_anew}}}
use Rattle.df_upgrade.proofs.upgraded.upgrade_surveyed.Goals as goal

both_steps : (s : Survey) → IsUsable (base_fields s.state) → AreSteps (format s.state.file) (restoring_events s) (restoring_steps s)
    → AreSteps (format s.state.file) (upgrading_events s) (upgrading_steps s)
both_steps s usable mending =
    steps_join_law (format s.state.file) (restoring_events s) (update_events (base_fields s.state)) (restoring_steps s) (update_steps
    (put_copies (base_fields s.state))) mending (update_is_steps (base_fields s.state) usable s.state.file.layout s.state.file.cluster)

upgrades_each : (s : Survey) → IsSoundSurvey s → s.state.file.version ≡ 1
    → IsUsable (base_fields s.state) → AreSteps (format s.state.file) (restoring_events s) (restoring_steps s) → UpgradesEach s
upgrades_each s sound one usable mending = let steps = both_steps s usable mending in
    record { steps = steps; anew = λ base view plan whole found distinct stands. upgrades_anew view s base sound.four one usable plan whole found distinct stands steps }

-- ---- the superblock

pub upgrade_in-requires : goal.upgrade_in-requires
upgrade_in-requires g c = let told = g.D.Disk.told c.restore.new.disk in let sound = c.restore.ensures.sound in
    let base : MayUpgradeTo told (base_fields c.args.surveyed.state) = record {
      version = refl;
      rules = (faults (base_fields c.args.surveyed.state)).1 (subst IsUsable c.base-base.ensures.fields c.base-base.ensures.usable).rules;
      above = is_above c.args.surveyed
          (g.D.Disk.told c.args.disk.now) told sound.four sound.usable c.requires.version c.requires.planned c.in-Ok.ensures.does.events;
    } in record { may = subst (MayUpgradeTo told) (sym c.base-base.ensures.fields) base }

-- ---- the calls are steps, and what they leave

pub returns-in-Err-clause-leaves : goal.returns-in-Err-clause-leaves
returns-in-Err-clause-leaves g c = upgrades_each c.args.surveyed c.restore.ensures.sound
    c.requires.version (subst IsUsable c.base-base.ensures.fields c.base-base.ensures.usable) c.restore.ensures.does.steps

pub returns-in-Ok-upgrade_in-clause-leaves : goal.returns-in-Ok-upgrade_in-clause-leaves
returns-in-Ok-upgrade_in-clause-leaves g c = upgrades_each c.args.surveyed c.restore.ensures.sound
    c.requires.version (subst IsUsable c.base-base.ensures.fields c.base-base.ensures.usable) c.restore.ensures.does.steps

pub returns-in-Err-upgrade_in-clause-leaves : goal.returns-in-Err-upgrade_in-clause-leaves
returns-in-Err-upgrade_in-clause-leaves g c = upgrades_each c.args.surveyed c.restore.ensures.sound
    c.requires.version (subst IsUsable c.base-base.ensures.fields c.base-base.ensures.usable) c.restore.ensures.does.steps

-- ---- which calls were made

pub returns-in-Err-clause-does : goal.returns-in-Err-clause-does
returns-in-Err-clause-does g c = let s : Survey = c.args.surveyed in
    updating_fault _ (restoring_events s) (update_events (base_fields s.state))
    (base_fields s.state) (g.D.Disk.told c.args.disk.now) (g.D.Disk.told c.restore.new.disk) c.in-Err.ensures.does.events

pub returns-in-Ok-upgrade_in-clause-does : goal.returns-in-Ok-upgrade_in-clause-does
returns-in-Ok-upgrade_in-clause-does g c = let s : Survey = c.args.surveyed in let old = g.D.Disk.told c.args.disk.now in
    let mid = g.D.Disk.told c.restore.new.disk in let new = g.D.Disk.told c.upgrade_in.new.disk in
    let does = rw c.base-base.ensures.fields at c.in-Ok-upgrade_in.ensures.does in
    updating_ok (upgrading_events s) (base_fields s.state) old new tt _ (updating_then {T = Unit {0}}
    (restoring_events s) (update_events (base_fields s.state)) (base_fields s.state) old mid new (Ok tt) c.in-Ok.ensures.does.events does)

pub returns-in-Err-upgrade_in-clause-does : goal.returns-in-Err-upgrade_in-clause-does
returns-in-Err-upgrade_in-clause-does g c = let s : Survey = c.args.surveyed in let old = g.D.Disk.told c.args.disk.now in
    let mid = g.D.Disk.told c.restore.new.disk in let new = g.D.Disk.told c.upgrade_in.new.disk in let error = c.in-Err-upgrade_in.error in
    let does = rw c.base-base.ensures.fields at c.in-Err-upgrade_in.ensures.does in
    updating_error (Unit {0}) _ (upgrading_events s) (base_fields s.state) old new error (updating_then {T = Unit {0}} (restoring_events s)
    (update_events (base_fields s.state)) (base_fields s.state) old mid new (Err error) c.in-Ok.ensures.does.events does)
