-- The paced loop: a script of which each line is followed by a bounded piece of work. What is due is a list of commands, which the machine does as it does those of the script.
use Rattle.std.specs.Prelude.{ℕ, ◌+◌, ◌==◌, Bool, true, false, ◌&&◌, nat_le, not, min, List, [], ◌∷◌, ◌++◌, replicate, Option, Ok}
use Rattle.df_theory.specs.Shape.{Shape}
use Rattle.df_model.specs.{Work.{Work}, Memory.{Course, memory_of}, Refusals.{is_running, steps_left}, Commands.{Advance, Answer, Begin, Command, Scrub, ToAppend, ToBegin, ToFlush}}
use Rattle.df_model.specs.Supply.{Codec, Shown, next, shown_after}
use Rattle.df_script_model.specs.Script.{answer_text}
use Rattle.df_pace.specs.declared.pace.Pace.{Pace}

-- a begin is due where no checkpoint runs, and as many prepares were accepted since the loop's last begin as the pace asks for, which isn't 0
abbrev pub is_begin_due : Pace → (appended : ℕ) → (running : Bool) → Bool
is_begin_due pace appended running = not running && (not (pace.every == 0) && nat_le pace.every appended)

-- ---- commands

-- where a script stands: what is shown, the state, and how many prepares were accepted since the loop's last begin
pub record Stand : Type 0 where
  pub shown : Shown
  pub work : Work
  pub appended : ℕ

abbrev pub start : Shown → Work → Stand
start shown w = record { shown = shown; work = w; appended = 0 }

abbrev pub answer_at : Shape → Codec → Stand → Command → Answer
answer_at sh codec x c = (next sh codec x.shown x.work c).1

-- after a command, with this count
abbrev pub led : Shape → Codec → Stand → Command → (appended : ℕ) → Stand
led sh codec x c n = record { shown = shown_after codec x.shown (memory_of sh codec.spell x.work) c; work = (next sh codec x.shown x.work c).0; appended = n }

-- an append that is accepted counts, and a flush counts as many as it appends; what is staged doesn't
abbrev pub counted_answer : ℕ → Answer → ℕ
counted_answer n (ToAppend (Ok done)) = n + 1
counted_answer n (ToFlush (Ok count)) = n + count
counted_answer n answer = n

-- with a begin of the loop that is accepted the count restarts
abbrev pub recounted : ℕ → Answer → ℕ
recounted n (ToBegin (Ok blocks)) = 0
recounted n answer = n

-- a command of the script, whose own begin doesn't change the count; and one of the loop
abbrev pub by_script : Shape → Codec → Stand → Command → Stand
by_script sh codec x c = led sh codec x c (counted_answer x.appended (answer_at sh codec x c))

abbrev pub by_loop : Shape → Codec → Stand → Command → Stand
by_loop sh codec x c = led sh codec x c (recounted x.appended (answer_at sh codec x c))

abbrev pub all_by_loop : Shape → Codec → Stand → List Command → Stand
all_by_loop sh codec x [] = x
all_by_loop sh codec x (c ∷ cs) = all_by_loop sh codec (by_loop sh codec x c) cs

-- ---- what is due

abbrev pub course_at : Shape → Codec → Stand → Option Course
course_at sh codec x = (memory_of sh codec.spell x.work).running

abbrev pub begin_if : Bool → (root : List ℕ) → List Command
begin_if true root = Begin root ∷ []
begin_if false root = []

-- first a begin, with the durable root
abbrev pub begin_due : Shape → Codec → Pace → Stand → List Command
begin_due sh codec pace x = begin_if (is_begin_due pace x.appended (is_running (course_at sh codec x))) x.work.view.checkpoint.parts.root

-- then steps, while a checkpoint runs
abbrev pub steps_due : Shape → Codec → Pace → Stand → List Command
steps_due sh codec pace x = replicate (min pace.steps (steps_left (course_at sh codec x))) Advance

-- then those of the scrubber
abbrev pub scrubs_due : Pace → List Command
scrubs_due pace = replicate pace.scrub Scrub

-- all that is due
abbrev pub commands_due : Shape → Codec → Pace → Stand → List Command
commands_due sh codec pace x =
    let begins = begin_due sh codec pace x in
    begins ++ (steps_due sh codec pace (all_by_loop sh codec x begins) ++ scrubs_due pace)

abbrev pub stand_after : Shape → Codec → Pace → Stand → Stand
stand_after sh codec pace x = all_by_loop sh codec x (commands_due sh codec pace x)

-- ---- a script

-- a line, also one that is refused, and the work after it
abbrev pub passed : Shape → Codec → Pace → Stand → Command → Stand
passed sh codec pace x c = stand_after sh codec pace (by_script sh codec x c)

-- the lines that a script prints beside the loop's work, one for each of its own; nothing of that work is printed
abbrev pub paced : Shape → Codec → Pace → Stand → List Command → List (List ℕ)
paced sh codec pace x [] = []
paced sh codec pace x (c ∷ more) = answer_text c (answer_at sh codec x c) ∷ paced sh codec pace (passed sh codec pace x c) more

-- where it stands at its end
abbrev pub ended : Shape → Codec → Pace → Stand → List Command → Stand
ended sh codec pace x [] = x
ended sh codec pace x (c ∷ more) = ended sh codec pace (passed sh codec pace x c) more

-- the answers of its lines
abbrev pub answered : Shape → Codec → Pace → Stand → List Command → List Answer
answered sh codec pace x [] = []
answered sh codec pace x (c ∷ more) = answer_at sh codec x c ∷ answered sh codec pace (passed sh codec pace x c) more

-- the commands of the script and of the loop, in their order
abbrev pub all_commands : Shape → Codec → Pace → Stand → List Command → List Command
all_commands sh codec pace x [] = []
all_commands sh codec pace x (c ∷ more) = c ∷ (commands_due sh codec pace (by_script sh codec x c) ++ all_commands sh codec pace (passed sh codec pace x c) more)
