-- A state in which no call may follow makes sense as before.
use Rattle.{std.proofs.Common.{◌≡◌, Bool, true, false, sym, ◌∙◌}, df_opening.specs.Below.{IsState, State}}

pub stopped_sense : (s : State) (live : Bool) → live ≡ false → IsState s → IsState (record s { live = live })
stopped_sense s live dead is = record {
  in_file = is.in_file;
  booted = λ alive. absurd (let no : false ≡ true = sym dead ∙ alive in cc);
  ends = is.ends;
  awaits = is.awaits;
  staging = is.staging;
  captured = is.captured;
  course = is.course;
}
