-- The state of a file between two commands: nothing but blocks of the grid is loose, and nothing is to be mended. Each command begins and ends in it.
-- Whether the referenced blocks stand is said beside it: a file with one hurt block is tidy too.
use Rattle.std.specs.Prelude.{◌≡◌, ◌⊎◌, ◌<◌, ◌%◌, ℕ, List, [], ◌∷◌, Some}
use Rattle.df_theory.specs.{Units.{Block, BlockPlace, BlockUnit, Header, HeaderPlace, HeaderUnit, Message, PreparePlace, PrepareUnit, ReplyPlace, ReplyUnit, Units}, Shape.{Shape, slots}}
use Rattle.df_theory.specs.{Trailer.{InChain}, View.{Checkpoint, View}, Holds.{Held, IsWhole, Stands}, Next.{MayAppend, MayFinish, MayReply, checkpointed}, UnitLog.{PutsOne, UnitLog, now, settled}}
use Rattle.df_theory.specs.{Chance.{EachLeft}, First.{IsFirst}, Grown.{IsClear, IsSafe}, Rests.{IsQuiet, RestsOn}, Runs.{AtEach, Command, Leads, after_steps, steps_of, view_after}}
use Rattle.df_theory.specs.{CopyPuts.{PutsCopies}, WriterLaws.{IsHeaderSector}, MakingLaws.{AllReserved, IsMaking, format_steps}, MendLaws.{MayMend, Reaches}}
use Rattle.df_theory.specs.{Commands.{append_command, block_command, finish_command, idle_command, mend_command, reply_command, sync_command}, WholeLaws.{IsStanding}}
use Rattle.df_theory.specs.HeadlineLaws.{Survives, SurvivesEach}

-- the file is tidy, with this view: nothing of its boot survived above its head
pub record IsTidy (sh : Shape) (log : UnitLog) (v : View) : Type 0 where
  pub rests : RestsOn sh log v
  pub quiet : IsQuiet log
  pub clear : IsClear (settled log) v
  pub whole : IsWhole sh (now log) v

-- a moment at which each image left has one of two views, with each block that it references
pub record IsGoodWhole (sh : Shape) (v u : View) (log : UnitLog) : Type 0 where
  pub safe : IsSafe sh log
  pub left : EachLeft log (λ image. (Held sh image v × Stands image v) ⊎ (Held sh image u × Stands image u))

-- the command leads from one tidy file to the next
pub record LeadsTidily (sh : Shape) (log : UnitLog) (v : View) (c : Command) : Type 0 where
  pub leads : Leads sh log v c
  pub tidy : IsTidy sh (after_steps c.steps log) c.view

-- and the referenced blocks stand at each moment, and at its end
pub record KeepsStanding (sh : Shape) (log : UnitLog) (v : View) (c : Command) : Type 0 where
  pub moments : AtEach (IsGoodWhole sh v c.view) log c.steps
  pub standing : IsStanding (after_steps c.steps log) c.view

-- an append with its header
abbrev pub TidyAppendLaw : Type 0
TidyAppendLaw =
    (sh : Shape) (log : UnitLog) (v : View) (p : Message) (prepare headers : Units)
    → IsTidy sh log v → MayAppend sh v (p ∷ []) → PutsOne prepare (PreparePlace (p.header.op % slots sh)) (PrepareUnit p)
    → IsHeaderSector sh (now log) p headers → headers (HeaderPlace (p.header.op % slots sh)) ≡ Some (HeaderUnit p.header)
    → LeadsTidily sh log v (append_command v p prepare headers) × (IsStanding log v → KeepsStanding sh log v (append_command v p prepare headers))

-- a reply
abbrev pub TidyReplyLaw : Type 0
TidyReplyLaw =
    (sh : Shape) (log : UnitLog) (v : View) (put : Units) (place : ℕ) (r : Message)
    → IsTidy sh log v → MayReply v place r → PutsOne put (ReplyPlace place) (ReplyUnit r)
    → LeadsTidily sh log v (reply_command v place r put) × (IsStanding log v → KeepsStanding sh log v (reply_command v place r put))

-- a block at an address that the trailer doesn't stand at, and for the blocks that stand, at none that is referenced; it stays loose
abbrev pub TidyBlockLaw : Type 0
TidyBlockLaw =
    (sh : Shape) (log : UnitLog) (v : View) (put : Units) (a : ℕ) (b : Block)
    → IsTidy sh log v → ((c : Block) → InChain a c v.checkpoint.chain → ⊥) → PutsOne put (BlockPlace a) (BlockUnit b)
    → LeadsTidily sh log v (block_command v put) × (IsStanding log v → ((c : ℕ) → v.checkpoint.parts.references a ≡ Some c → ⊥) → KeepsStanding sh log v (block_command v put))

-- nothing at all
abbrev pub TidyIdleLaw : Type 0
TidyIdleLaw = (sh : Shape) (log : UnitLog) (v : View) → IsTidy sh log v → LeadsTidily sh log v (idle_command v) × (IsStanding log v → KeepsStanding sh log v (idle_command v))

-- a sync
abbrev pub TidySyncLaw : Type 0
TidySyncLaw = (sh : Shape) (log : UnitLog) (v : View) → IsTidy sh log v → LeadsTidily sh log v (sync_command v) × (IsStanding log v → KeepsStanding sh log v (sync_command v))

-- a finished checkpoint, whose trailer and references are shown: the sync that settles them, and the update
abbrev pub TidyFinishLaw : Type 0
TidyFinishLaw =
    (sh : Shape) (log : UnitLog) (v : View) (c : Checkpoint) (puts : PutsCopies c.content)
    → IsTidy sh log v → MayFinish sh v c → ((a : ℕ) (b : Block) → InChain a b c.chain → now log (BlockPlace a) ≡ Some (BlockUnit b))
    → LeadsTidily sh log v (finish_command v c puts) × (IsStanding log v → Stands (now log) (checkpointed v c) → KeepsStanding sh log v (finish_command v c puts))

-- the mending of an open
abbrev pub TidyMendLaw : Type 0
TidyMendLaw =
    (sh : Shape) (log : UnitLog) (v : View) (table : ℕ → Header) (headers : List Units) (copies : List (ℕ × Units)) → MayMend sh log v table headers copies → IsClear (settled log) v
    → LeadsTidily sh log v (mend_command v headers copies) × (IsStanding log v → KeepsStanding sh log v (mend_command v headers copies))

-- a format that writes each header; its first view references no block
abbrev pub TidyFormatLaw : Type 0
TidyFormatLaw =
    (sh : Shape) (log : UnitLog) (v : View) (headers : List Units) (puts : PutsCopies v.checkpoint.content) → IsMaking sh log v.checkpoint.content → IsFirst sh v → AllReserved headers → ((s : ℕ) → s < slots sh → Reaches headers (HeaderPlace s))
    → IsTidy sh (after_steps (format_steps headers puts) log) v × IsStanding (after_steps (format_steps headers puts) log) v

-- one command after the other, each from one tidy state to the next
abbrev pub LeadTidily : Shape → UnitLog → View → List Command → Type 0
LeadTidily sh log v [] = Unit {0}
LeadTidily sh log v (c ∷ cs) = LeadsTidily sh log v c × LeadTidily sh (after_steps c.steps log) c.view cs

-- and each of them keeps the referenced blocks standing
abbrev pub KeepStanding : Shape → UnitLog → View → List Command → Type 0
KeepStanding sh log v [] = Unit {0}
KeepStanding sh log v (c ∷ cs) = KeepsStanding sh log v c × KeepStanding sh (after_steps c.steps log) c.view cs

-- what a stop left survives with this view, and shows each block that it references
abbrev pub SurvivesWhole : Shape → UnitLog → Units → View → Type 0
SurvivesWhole sh log image w = Survives sh log image w × Stands image w

-- at each moment of each command whatever a stop leaves survives so, with the view before the command or after it
abbrev pub SurvivesWholeEach : Shape → UnitLog → View → List Command → Type 0
SurvivesWholeEach sh log v [] = EachLeft log (λ image. SurvivesWhole sh log image v)
SurvivesWholeEach sh log v (c ∷ cs) = AtEach (λ l. EachLeft l (λ image. SurvivesWhole sh l image v ⊎ SurvivesWhole sh l image c.view)) log c.steps × SurvivesWholeEach sh (after_steps c.steps log) c.view cs

-- a run of commands from a tidy file ends in a tidy file, and a stop anywhere is survived
abbrev pub TidyRunLaw : Type 0
TidyRunLaw =
    (sh : Shape) (log : UnitLog) (v : View) (cs : List Command) → IsTidy sh log v → LeadTidily sh log v cs
    → SurvivesEach sh log v cs × IsTidy sh (after_steps (steps_of cs) log) (view_after v cs)

-- and where the referenced blocks stand, they do so in whatever a stop leaves, and at the end
abbrev pub StandingRunLaw : Type 0
StandingRunLaw =
    (sh : Shape) (log : UnitLog) (v : View) (cs : List Command) → IsTidy sh log v → LeadTidily sh log v cs → IsStanding log v → KeepStanding sh log v cs
    → SurvivesWholeEach sh log v cs × IsStanding (after_steps (steps_of cs) log) (view_after v cs)
