-- What the crates above cite of a file, and of a state that goes on.
use Rattle.{std.proofs.Common.{◌<◌, ◌≤◌, inl, inr, ℕ, List, Option, Some, None, ap, arith}, df_model.specs.Blocks.{Blocks}}
use Rattle.{df_format.specs.declared.superblock.SuperFields.{SuperFields}, df_theory.{specs.Sessions.{noted}, proofs.Laws.{noted_get}}}
use Rattle.df_theory.specs.Units
use Rattle.df_rooms.specs.{declared.file.DataFile.{DataFile}, State.{AreAsked, IsBooted, IsCourse, IsLevel, RunningState, State}}
pub use Rattle.df_rooms.proofs.{Asking.{staging_none, staging_on}, SameFile.{same_file}}
pub use Rattle.df_rooms.proofs.Records.{boot_may_record, numbers_as, recorded_content, recorded_is_super, second_as, second_super}

-- a request that is noted is the last one of its client
pub asked_noted : (h : Units.Header) (ss : List Units.Session) → AreAsked ss → 0 < h.request → AreAsked (noted h ss)
asked_noted h ss asked some k t at = elim (noted_get h ss k t at) [
  | inl new ↦ omega (arith, some, ap (λ (s : Units.Session). s.request) new)
  | inr old ↦ asked k t old
]

-- a running checkpoint goes with a log that grew
pub course_on : (file : DataFile) (f : SuperFields) (head later : ℕ) (b : Blocks) (r : Option RunningState)
    → head ≤ later → IsCourse file f head b r → IsCourse file f later b r
course_on file f head later b None more idle = idle
course_on file f head later b (Some r) more is = record {
  begun = record { op_from = is.op_from; op_to = omega (arith, is.op_to); sequence = is.sequence };
  contents = is.contents;
  trailer = is.trailer;
  progress = is.progress;
}

-- which captured none of what it grew by
pub level_beyond : (file : DataFile) (f : SuperFields) (head later : ℕ) (checksum : List ℕ) (b : Blocks) (r : Option RunningState)
    → head < later → IsCourse file f head b r → IsLevel later checksum r
level_beyond file f head later checksum b None more idle = tt
level_beyond file f head later checksum b (Some r) more is = λ same. absurd (omega (arith, more, same, is.op_to))

-- the boot in which units are made is some
pub boot_made : (s : State) → IsBooted s.boot s.fields.boot → 0 < s.fields.boot
boot_made s booted = omega (arith, booted.boot, booted.some)
