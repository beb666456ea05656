-- What the contracts here and above cite of the crates below this one, in the order of its use.
pub use Rattle.df_format.specs.SuperRules.{IsUsable, fault_of}
pub use Rattle.df_base.specs.Causes.{HasCause, IsBlamed}
pub use Rattle.df_opening.specs.{Keeping.{format}, Mending.{AddsSteps, AddsUpdating, mending_events, mending_steps}, Raising.{IsPlannedOf}, Surveying.{IsSurveyed, state_of}}
pub use Rattle.df_disk.specs.Told.{Told}
pub use Rattle.df_damage.specs.{Anew.{MayRestart}, Scanning.{without_rooms}, Found.{IsLayoutShownAs, Syncs, TellsLayoutAs}, Surveying.{TellsSurveyAs}, Disks.{MayBeHurtAs}}
pub use Rattle.df_damage.specs.{Opening.{HasSuperAs, RefusesAs, fault_as}, Surveys.{IsOpenedAs, SurveysAs}, Unrefused.{IsNotRefusedAs}}
pub use Rattle.df_model.specs.Faults.{is_mend_fault, is_open_fault}
pub use Rattle.df_superblock.specs.{Events.{update_events}, Calls.{is_update_fault}}
