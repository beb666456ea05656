-- What the contracts here and above cite of the crates below this one, by name.
pub use Rattle.df_disk.specs.{Adds.{Adds}, Told.{after}}
pub use Rattle.df_damage.specs.Below.{AreAsked, AreFound, AreStaging, AreWhole, DataFile, FitsGrid, HasCause, IsBlamed, IsCourse, IsLevel, IsMachineStep, IsMachines, IsRequest, IsRunningCheckpoint, IsSealedOf, IsState, IsStep, IsVerdict, ListsFailing, MayRecord, Parts, Represents, RunningCheckpoint, RunningState, ScrubState, Staged, Stages, State, Told, View, after_scrub_step, asker_of, asks_of, boot_fields, captured_text, course_in, course_of, failing_among, failing_in, fault_of, first_request, grid_with, is_open_fault, left_in, memory, prepare_sum, recorded, reply_sum, running_of, running_state, sessions_of, shape, spelling, state_in, stored_sum, sum_of_header, summary_of, verdict_in, with_check}
pub use Rattle.df_damage.specs.{Plan.{AreDistinctUnits, if_wanted, needs_header, slot_mends}, Checkpoints.{AreOfCheckpoint}, Anew.{restarted, told_after}}
pub use Rattle.df_damage.specs.Answers.{FindsHad, IsNeedless, RefusesHurt, TellsHurt}
pub use Rattle.df_damage.specs.{Histories.{FindsSince, HasLived, HasRaised, IsLivedDisk, LivesOn, MayReopen, TellsLived, WasHadSince, units_logs}, Hurt.{HasTwoCopies, IsHurtFile}}
pub use Rattle.df_damage.specs.{Disks.{HasEqualCopies, MayBeHurt}, Finding.{IsDamage}, Found.{IsLayoutShown, Syncs, TellsLayout}, Unrefused.{IsNotRefused}, Surveys.{IsOpened, Surveys}}
pub use Rattle.df_damage.specs.{Written.{IsTheOne, IsWritten, WasWritten}, Opening.{IsUnformatted, Refuses}, Refusals.{MayBeOfDamage}, Openings.{OpensAsLeft}, Waiting.{waiting_in}}
pub use Rattle.df_damage.specs.Scanning.{without_rooms}
pub use Rattle.df_theory.specs.Device.{AreSteps}
pub use Rattle.df_journal.specs.{Below.{EachMoment}, Starting.{start_of}}
pub use Rattle.df_format.specs.{First.{first_super}, SuperRules.{IsUsable}}
pub use Rattle.df_units.specs.{Format.{format_of}, Making.{header_writes}}
pub use Rattle.df_model.specs.Faults.{is_format_fault, is_mend_fault}
pub use Rattle.df_base.specs.Image.{IsImage}
pub use Rattle.df_headers.specs.Ring.{sector_writes}
pub use Rattle.df_superblock.specs.{Below.{Sync}, Events.{update_events}}
