-- After each writer nothing is left to mend, and each referenced block still stands.
use Rattle.std.specs.Prelude.{◌≡◌, ◌%◌, ℕ, false, List, [], ◌∷◌, Some, None}
use Rattle.df_theory.specs.{CopyPuts.{PutsCopies}, Units.{Block, BlockPlace, BlockUnit, HeaderPlace, HeaderUnit, Message, PreparePlace, PrepareUnit, ReplyPlace, ReplyUnit, Units, overlay}}
use Rattle.df_theory.specs.{Shape.{Shape, slots}, View.{Checkpoint, View}, Holds.{IsWhole, Sound, Stands}, Next.{MayAppend, appended, checkpointed, replied}, UnitLog.{PutsOne, UnitLog, loose, now}}
use Rattle.df_theory.specs.{Chance.{EachLeft}, Runs.{AtEach, Puts, Step, Syncs}, WriterLaws.{IsHeaderSector}}

-- an append with its header
abbrev pub WholeAppendLaw : Type 0
WholeAppendLaw =
    (sh : Shape) (image : Units) (v : View) (p : Message) (prepare headers : Units) → Sound sh v → MayAppend sh v (p ∷ [])
    → PutsOne prepare (PreparePlace (p.header.op % slots sh)) (PrepareUnit p) → IsHeaderSector sh image p headers → headers (HeaderPlace (p.header.op % slots sh)) ≡ Some (HeaderUnit p.header)
    → IsWhole sh image v → IsWhole sh (overlay headers (overlay prepare image)) (appended v (p ∷ []))

-- a reply
abbrev pub WholeReplyLaw : Type 0
WholeReplyLaw = (sh : Shape) (image put : Units) (v : View) (place : ℕ) (r : Message) → PutsOne put (ReplyPlace place) (ReplyUnit r) → IsWhole sh image v → IsWhole sh (overlay put image) (replied v place r)

-- a block
abbrev pub WholeBlockLaw : Type 0
WholeBlockLaw = (sh : Shape) (image put : Units) (v : View) (a : ℕ) (b : Block) → PutsOne put (BlockPlace a) (BlockUnit b) → IsWhole sh image v → IsWhole sh (overlay put image) v

-- the four copies of a checkpoint
abbrev pub WholeUpdateLaw : Type 0
WholeUpdateLaw =
    (sh : Shape) (image : Units) (v : View) (c : Checkpoint) (puts : PutsCopies c.content)
    → IsWhole sh image v → IsWhole sh (overlay puts.put3 (overlay puts.put2 (overlay puts.put1 (overlay puts.put0 image)))) (checkpointed v c)

-- each referenced block is shown, and none is being written
pub record IsStanding (log : UnitLog) (v : View) : Type 0 where
  pub shown : Stands (now log) v
  pub firm : (a c : ℕ) → v.checkpoint.parts.references a ≡ Some c → loose log (BlockPlace a) ≡ false

-- a write that reaches no referenced block
abbrev pub Spares : View → Units → Type 0
Spares v put = (a c : ℕ) → v.checkpoint.parts.references a ≡ Some c → put (BlockPlace a) ≡ None

abbrev pub AllSpare : View → List Step → Type 0
AllSpare v [] = Unit {0}
AllSpare v ((Puts put) ∷ ss) = Spares v put × AllSpare v ss
AllSpare v (Syncs ∷ ss) = AllSpare v ss

-- while the writes reach no referenced block, each image left at any moment shows all of them
abbrev pub StandsLaw : Type 0
StandsLaw = (log : UnitLog) (v : View) (ss : List Step) → IsStanding log v → AllSpare v ss → AtEach (λ l. IsStanding l v × EachLeft l (λ image. Stands image v)) log ss
