-- The answers of calls over a device are the result: the fold of the machine over what the device shows at first.
use Rattle.std.specs.Prelude.{◌≡◌, ℕ, List, [], ◌∷◌, map}
use Rattle.df_layout.specs.declared.damage.Class.{Class}
use Rattle.df_theory.specs.{Units.{BlockPlace, Parts, Place, PreparePlace, ReplyPlace, Units, overlay}, Shape.{Shape}, UnitLog.{UnitLog, now}, Runs.{Step, after_steps}}
use Rattle.df_model.specs.{Work.{Work}, Memory.{memory_of}, Commands.{Command, Given, after, supplied_sums}, Supply.{Codec, result, supplied, puts_of}, Laws.{DoesCommand}, Reading.{shown_by}}
use Rattle.df_model.specs.Runs.{Stepped, act_of, command_in, run_answers}

-- two images show the same at each place that a command reads
pub record AgreeReads (image other : Units) : Type 0 where
  pub prepare : (s : ℕ) → image (PreparePlace s) ≡ other (PreparePlace s)
  pub reply : (k : ℕ) → image (ReplyPlace k) ≡ other (ReplyPlace k)
  pub block : (a : ℕ) → image (BlockPlace a) ≡ other (BlockPlace a)

-- what a command leaves there is what it makes of what is in memory
abbrev pub WritesLaw : Type 0
WritesLaw =
    (sh : Shape) (spell : Parts → List ℕ) (log : UnitLog) (w : Work) (given : Given) (command : Command) (steps : List Step) → DoesCommand sh spell (now log) w given command steps
    → AgreeReads (now (after_steps steps log)) (overlay (puts_of (memory_of sh spell w) (supplied_sums given) command) (now log))

-- each act is supplied by what is shown at its start, and does its steps
abbrev pub AreServed : Shape → Codec → (Place → Class) → UnitLog → Work → List Stepped → Type 0
AreServed sh codec damage log w [] = Unit {0}
AreServed sh codec damage log w (x ∷ xs) =
    (x.act.given ≡ supplied codec (shown_by log damage) (memory_of sh codec.spell w) x.act.command) × DoesCommand sh codec.spell (now log) w x.act.given x.act.command x.steps
    × AreServed sh codec damage (after_steps x.steps log) (after sh codec.spell w x.act.given x.act.command).0 xs

abbrev pub ResultLaw : Type 0
ResultLaw =
    (sh : Shape) (codec : Codec) (damage : Place → Class) (log : UnitLog) (w : Work) (xs : List Stepped) → AreServed sh codec damage log w xs
    → run_answers sh codec.spell w (map act_of xs) ≡ result sh codec (shown_by log damage) w (map command_in (map act_of xs))
