-- What the contracts above cite of the crates below this one.
pub use Rattle.df_replica.specs.Below.{AreDistinctUnits, DataFile, FindsHad, FindsSince, HasEqualCopies, HasLived, HasTwoCopies, IsHurtFile, IsLayoutShown, IsLivedDisk, IsNeedless, IsNotRefused, IsOpened, IsStep, IsUnformatted, IsVerdict, MayBeHurt, MayBeOfDamage, MayReopen, OpensAsLeft, Refuses, RefusesHurt, RunningState, ScrubState, State, Surveys, Syncs, TellsLayout, after_scrub_step, failing_among, failing_in, grid_with, if_wanted, is_running, left_in, memory, needs_header, reply_sum, restarted, shape, slot_mends, spelling, start_of, stored_sum, told_after, verdict_in, with_check, boot_fields, units_logs}
