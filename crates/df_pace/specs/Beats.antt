-- The loop's work piece by piece: what is next of what is due after a line, and what is left then.
use Rattle.std.specs.Prelude.{◌≡◌, ◌<◌, ℕ, ◌+◌, ◌-◌, Bool, true, false, ◌&&◌, nat_lt, if◌then◌else◌, min, List, [], ◌∷◌, ◌++◌, replicate, Option, Some, None, Ok}
use Rattle.df_theory.specs.{Shape.{Shape}, View.{head}}
use Rattle.df_model.specs.{Refusals.{is_running, steps_left}, Commands.{Advance, Answer, Begin, Command, Scrub, ToBegin}, Sense.{IsWork}, Supply.{Codec}}
use Rattle.df_pace.specs.{declared.beat.Beat.{Beat}, declared.beat.Piece.{Piece}, declared.pace.Due.{Due}, declared.pace.Pace.{Pace}}
use Rattle.df_pace.specs.Loop.{Stand, all_by_loop, answer_at, begin_if, by_loop, by_script, commands_due, course_at, is_begin_due}
use Rattle.df_pace.specs.declared.beat.Piece.TheVariants as piece

-- ---- what is left

-- what is due after a line
abbrev pub due_at : Pace → (appended : ℕ) → (running : Bool) → Due
due_at pace appended running = record { begin = is_begin_due pace appended running; steps = pace.steps; scrub = pace.scrub }

-- a begin comes first, then steps while a checkpoint runs, then those of the scrubber
abbrev pub next_piece : Due → (running : Bool) → Option Piece
next_piece d running = if d.begin then Some piece.Begin else (if (running && nat_lt 0 d.steps) then Some piece.Step else (if nat_lt 0 d.scrub then Some piece.Scrub else None))

abbrev pub without : Piece → Due → Due
without piece.Begin d = record d { begin = false }
without piece.Step d = record d { steps = d.steps - 1 }
without piece.Scrub d = record d { scrub = d.scrub - 1 }

-- the command of a piece, with this durable root
abbrev pub command_of_piece : Piece → (root : List ℕ) → Command
command_of_piece piece.Begin root = Begin root
command_of_piece piece.Step root = Advance
command_of_piece piece.Scrub root = Scrub

-- no work at all
abbrev pub idle : Pace
idle = record { scrub = 0; every = 0; steps = 0 }

-- this many pieces are left at most
abbrev pub pieces_left : Due → ℕ
pieces_left d = (if d.begin then 1 else 0) + d.steps + d.scrub

-- ---- where the loop stands, and the head then

abbrev pub started : (last : ℕ) → Beat
started last = record { since = last; due = record { begin = false; steps = 0; scrub = 0 } }

-- after a line: as many prepares were accepted since the last begin as the head has grown
abbrev pub beat_after_line : Pace → Beat → (last : ℕ) → (running : Bool) → Beat
beat_after_line pace b last running = record { since = b.since; due = due_at pace (last - b.since) running }

-- a begin that is accepted
abbrev pub is_begun : Answer → Bool
is_begun (ToBegin (Ok blocks)) = true
is_begun answer = false

-- after a piece: with such a begin the count restarts
abbrev pub beat_after_piece : Piece → (begun : Bool) → Beat → (last : ℕ) → Beat
beat_after_piece p begun b last = record { since = if begun then last else b.since; due = without p b.due }

-- ---- and so all is done that is due

-- what is left from a stand on, as commands
abbrev pub rest_due : Shape → Codec → Due → Stand → List Command
rest_due sh codec d x =
    let begins = begin_if d.begin x.work.view.checkpoint.parts.root in
    begins ++ (replicate (min d.steps (steps_left (course_at sh codec (all_by_loop sh codec x begins)))) Advance ++ replicate d.scrub Scrub)

abbrev pub runs_at : Shape → Codec → Stand → Bool
runs_at sh codec x = is_running (course_at sh codec x)

-- after a line it is all that is due
abbrev pub WholeDue : Type 0
WholeDue = (sh : Shape) (codec : Codec) (pace : Pace) (x : Stand) → commands_due sh codec pace x ≡ rest_due sh codec (due_at pace x.appended (runs_at sh codec x)) x

-- where no piece is next nothing is left
abbrev pub NothingDue : Type 0
NothingDue = (sh : Shape) (codec : Codec) (d : Due) (x : Stand) → next_piece d (runs_at sh codec x) ≡ None → rest_due sh codec d x ≡ []

-- so it is at an open
abbrev pub StartsIdle : Type 0
StartsIdle = (last : ℕ) (running : Bool) → next_piece (started last).due running ≡ None

-- else its command comes first, and then what is left after it
abbrev pub PieceDue : Type 0
PieceDue =
    (sh : Shape) (codec : Codec) (d : Due) (x : Stand) (p : Piece) → next_piece d (runs_at sh codec x) ≡ Some p
    → let c = command_of_piece p x.work.view.checkpoint.parts.root in rest_due sh codec d x ≡ c ∷ rest_due sh codec (without p d) (by_loop sh codec x c)

-- and so fewer pieces are left after each
abbrev pub FewerDue : Type 0
FewerDue = (d : Due) (running : Bool) (p : Piece) → next_piece d running ≡ Some p → pieces_left (without p d) < pieces_left d

-- ---- and counted as it is

-- the head has grown by what was counted since the loop's last begin
abbrev pub IsHeadCounted : Stand → (since : ℕ) → Type 0
IsHeadCounted x since = x.appended + since ≡ head x.work.view

-- so it is after each command of the script, and after each of the loop, from a state that makes sense
abbrev pub LineCounts : Type 0
LineCounts = (sh : Shape) (codec : Codec) (x : Stand) (c : Command) (since : ℕ) → IsWork sh codec.spell x.work → IsHeadCounted x since → IsHeadCounted (by_script sh codec x c) since

abbrev pub PieceCounts : Type 0
PieceCounts =
    (sh : Shape) (codec : Codec) (x : Stand) (p : Piece) (since : ℕ) → IsWork sh codec.spell x.work → IsHeadCounted x since
    → let c = command_of_piece p x.work.view.checkpoint.parts.root in
    let y = by_loop sh codec x c in
    IsHeadCounted y (if is_begun (answer_at sh codec x c) then head y.work.view else since)
