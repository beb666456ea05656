-- What the contracts here and above cite of the crates below this one.
pub use Rattle.df_format.specs.{Spelling.{no_checksum}, SuperRules.{fault_of}}
pub use Rattle.df_theory.specs.{Sessions.{Tracks}, Units.{CopyPlace, PreparePlace, ReplyPlace}, View.{Checkpoint, View}}
pub use Rattle.df_units.specs.Meaning.{pin_checksum_of, pin_of}
pub use Rattle.df_model.specs.Faults.{is_open_fault}
pub use Rattle.df_replies.specs.Shown.{ShowsReplies}
pub use Rattle.df_superblock.specs.Calls.{ShowsCopies, ShowsSlots}
pub use Rattle.df_journal.specs.{Below.{HasCause, IsCheck, Layout, Session, Shape, Told, Units, decision_of, sessions_of}, Counts.{CountsAll, CountsBound, CountsReplies}, Scan.{entry}}
pub use Rattle.df_journal.specs.{Seen.{class_of, header_of_seen}, Shows.{ShowsTable, TellsRings}, Tail.{AreNumbered, AreUnstored, IsWithinRing, KeepsRules}}
pub use Rattle.df_checkpoint.specs.Below.{AreFieldsOf, IsBlamed, parse_of}
pub use Rattle.df_trailer.specs.Sessions.{AreReadSessions}
pub use Rattle.df_rooms.specs.Below.{IsMachineStep, IsMachines, IsStep, IsVerdict, ListsFailing, ScrubState, after_scrub_step, failing_among, failing_in, left_in, verdict_in, with_check}
pub use Rattle.df_rooms.specs.{Courses.{running_of, running_state}, Parts.{AreFound, AreWhole, FitsGrid, state_in, summary_of}, Recorded.{MayRecord, boot_fields, recorded}}
pub use Rattle.df_rooms.specs.Stagings.{IsSealedOf, Staged, first_request}
pub use Rattle.df_rooms.specs.State.{AreAsked, AreStaging, IsCourse, IsLevel, IsRequest, IsRunningCheckpoint, IsState, Represents, RunningState, Stages, State, asker_of, asks_of, captured_text, course_in, course_of, grid_with, memory, prepare_sum, reply_sum, shape, spelling, stored_sum, sum_of_header}
pub use Rattle.df_rooms.specs.{declared.file.DataFile.{DataFile}, declared.log_rooms.LogRooms.{LogRooms}, declared.parts.Parts.{Parts}, declared.running.RunningCheckpoint.{RunningCheckpoint}}
