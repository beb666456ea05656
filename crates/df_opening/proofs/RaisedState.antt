-- The state after a boot update makes sense, and what it writes obeys the rules of a superblock.
use Rattle.{std.proofs.Common.{◌≡◌, ◌<◌, ◌+◌, ◌^◌, Option, Some, None, refl, arith}, df_sessions.specs.Table.{IsSessionTable}}
use Rattle.{df_format.{specs.SuperRules.{IsSuper, IsUsable, fault_of}, proofs.Laws.{faults}}, df_opening.specs.Mending.{raised_state}}
use Rattle.df_damage.{specs.Below.{IsCourse, IsState, RunningState, State, boot_fields}, proofs.Laws.{boot_may_record, recorded_is_super, second_as}}

pub no_fault : (s : State) → IsState s → IsSessionTable s.table → IsSuper s.fields → s.fields.boot < 2 ^ 62 → fault_of (boot_fields s) ≡ None
no_fault s is table super unspent = (faults (boot_fields s)).1
    (recorded_is_super s (record s.fields { boot = s.fields.boot + 1 }) is table (boot_may_record s is super unspent))

-- a checkpoint that runs goes with the superblock of the next boot, too
course_raised : (s : State) (r : Option RunningState)
    → IsCourse s.file s.fields s.head s.blocks r → IsCourse s.file (boot_fields s) s.head s.blocks r
course_raised s None is = is
course_raised s (Some r) is = record { begun = is.begun; contents = is.contents; trailer = is.trailer; progress = is.progress }

pub raised_sense : (s : State) → IsState s → IsUsable (boot_fields s) → IsState (raised_state s)
raised_sense s is usable = record {
  in_file = record {
    cluster = is.cluster;
    version = is.version;
    second = second_as s.file s.fields (boot_fields s) is.second refl is.second.rules.version usable;
    sequence = is.sequence;
    root = is.root;
    ring = is.ring;
  };
  booted = λ live. record { boot = refl; some = omega arith };
  ends = is.ends;
  awaits = is.awaits;
  staging = is.staging;
  captured = is.captured;
  course = course_raised s s.running is.course;
}
