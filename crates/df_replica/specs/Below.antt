-- What the contracts here and above cite of the crates below this one.
pub use Rattle.df_base.specs.{Fields.{spelled}, Image.{IsImage}}
pub use Rattle.df_disk.specs.Told.{after}
pub use Rattle.df_buffers.specs.{Below.{AreBytes, ClientReplies, Prepare, WalPrepares}, Sounds.{Holding}}
pub use Rattle.df_model.specs.Commands.{Advance, Append, Begin, Flush, ReadBlock, ReadPrepare, ReadReply, Recent, Release, Stage, ToAdvance, ToReadBlock, ToReadPrepare, ToReadReply, ToRecent, WriteBlock}
pub use Rattle.df_model.specs.Faults.{is_append_fault, is_block_fault, is_flush_fault, is_lookup_fault, is_prepare_fault, is_read_fault, is_reply_fault, is_step_fault}
pub use Rattle.df_model.specs.{Making.{next_address, place_of_op}, Memory.{Memory, block_room, free_of, prepare_sum, referenced_of}}
pub use Rattle.df_model.specs.Refusals.{append_refusals, block_refusals, counted_staged, first_refusal, flush_refusals, is_running, lookup_refusals, prepare_refusals, reply_refusals, request_refusals, session_of_client, stage_refusals}
pub use Rattle.df_sessions.specs.{Requests.{session_of}, Table.{has_client}}
pub use Rattle.df_superblock.specs.{Below.{Sync, put_copies, update_steps}, Events.{update_events}, Steps.{AreStepsOfCopies}}
pub use Rattle.df_grid.specs.Below.{Adds, AreSteps, Block, Grid, HasCause, IsCheck, ObeysRules, block_of, block_written, for_body, format_of, number_in, number_of, own_place, place_in, sum_at}
pub use Rattle.df_grid.specs.{Grid.{IsKnownBlock, IsUnheld}, Writes.{first_sum, version_in}}
pub use Rattle.df_journal.specs.{Append.{with_header}, Below.{EachMoment}}
pub use Rattle.df_checkpoint.specs.Below.{block_steps, made_events, with_blocks}
pub use Rattle.df_opening.specs.Below.{IsStep, Represents, course_in, IsVerdict, ListsFailing, ScrubState, after_scrub_step, failing_among, failing_in, left_in, verdict_in, with_check, running_state, RunningState, IsState, grid_with, memory, reply_sum, spelling, stored_sum, DataFile, FindsHad, FindsSince, HasLived, HasRaised, HasTwoCopies, HasEqualCopies, IsBlamed, IsHurtFile, IsLayoutShown, IsLivedDisk, IsNeedless, IsNotRefused, IsOpened, IsUnformatted, LivesOn, MayBeHurt, MayBeOfDamage, MayReopen, OpensAsLeft, Refuses, RefusesHurt, State, Surveys, Syncs, TellsHurt, TellsLayout, TellsLived, Told, View, WasHadSince, restarted, fault_of, if_wanted, is_open_fault, needs_header, sessions_of, shape, slot_mends, start_of, told_after, units_logs, without_rooms, boot_fields, is_mend_fault, AreDistinctUnits}
