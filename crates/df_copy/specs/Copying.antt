-- The whole of a copy, after the open of its source: what is written of the target, and which refusal it is.
use Rattle.std.specs.Prelude.{◌≡◌, ◌⊎◌, ◌++◌, ℕ, List, [], length, Option, Some, None, Result, Ok, Err}
use Rattle.df_base.specs.{Image.{Image}, Log.{Event}}
use Rattle.df_disk.specs.{Told.{Told}, Adds.{Adds, AddsPart, after_all}}
use Rattle.df_layout.specs.declared.layout.Layout.{Layout}
use Rattle.df_format.specs.Message.{Message}
use Rattle.df_grid.specs.Writes.{made_events}
use Rattle.df_model.specs.{Refusals.{first_refusal}, Supply.{Shown}}
use Rattle.df_opening.specs.Below.{State, memory}
use Rattle.df_copy.specs.{declared.ending.Ending.{Ending}, declared.ending.Ending.TheVariants.{Target}, declared.target.Target.{Target as Copy}, Acts.{FitBlocks, FitReplies, StopsBehind}}
use Rattle.df_copy.specs.{Statuses.{ByEnding}, Targets.{IsTarget, copy_events, events_before_trailer, ring_events, superblock_events, trailer_of}}
use Rattle.df_copy.specs.{Tests.{blank_tests, references, rest_tests, tests, unit_tests}, Units.{OverShown, all_events, moved_from, reply_events}}

-- what is copied of a source: its replies and its blocks, whole or the first of them, and no block before all replies
pub record Copied (layout : Layout) (s : State) (told : Option Told) : Type 0 where
  pub replies : List Message
  pub blocks : List Message
  pub are_replies : FitReplies layout s told replies
  pub are_blocks : FitBlocks layout s told blocks
  pub in_order : (blocks ≡ []) ⊎ (length replies ≡ length s.table.sessions)

-- all of them
pub record IsAll {layout : Layout} {s : State} {told : Option Told} (c : Copied layout s told) : Type 0 where
  pub replies : length c.replies ≡ length s.table.sessions
  pub blocks : length c.blocks ≡ length (references (memory s))

-- What is written of the target, and nothing else: all of it; or the first of it, up to the trailer, where the copy was refused or the source's disk failed, and nothing where that was before the target was begun; or a part of it, from
-- the first write on, where the target's disk failed.
abbrev pub WritesCopy : {T : Type 0} → Layout → State → (from old new : Option Told) → Result T Ending → Type 0
WritesCopy layout s from old new (Ok x) = (c : Copied layout s from) × IsAll c × (new ≡ after_all (copy_events layout s c.replies c.blocks) old)
WritesCopy layout s from old new (Err Target) =
    (c : Copied layout s from) × (AddsPart (events_before_trailer layout s.file.cluster c.replies c.blocks) old new ⊎ (IsAll c × AddsPart (copy_events layout s c.replies c.blocks) old new))
WritesCopy layout s from old new (Err e) = (new ≡ old) ⊎ ((c : Copied layout s from) × (new ≡ after_all (events_before_trailer layout s.file.cluster c.replies c.blocks) old))

-- Which refusal it is: none of the tests holds where the copy is made, and else the first that does is answered; a failing disk says nothing of them.
abbrev pub JudgesCopy : {T : Type 0} → Layout → State → Shown → Image → Result T Ending → Type 0
JudgesCopy layout s shown image (Ok x) = first_refusal (tests layout shown (memory s) image) ≡ None
JudgesCopy layout s shown image (Err e) = ByEnding (Unit {0}) (Unit {0}) (λ x. first_refusal (tests layout shown (memory s) image) ≡ Some x) e

-- a fact of what the target's disk shows, where it tells that
abbrev pub OverTold : Option Told → (Image → Type 0) → Type 0
OverTold None P = Unit {0}
OverTold (Some o) P = P o.shown

-- so it is where both disks tell what they show
abbrev pub IsCopyJudged : {T : Type 0} → Layout → State → (from to : Option Told) → Result T Ending → Type 0
IsCopyJudged layout s from to result = OverTold to (λ image. OverShown s.file from (λ shown. JudgesCopy layout s shown image result))

-- a copy of a source that was opened, into a target of this layout of which nothing is written: nothing is written either unless the source passes the tests that read nothing
pub record CopiesInto {T : Type 0} (layout : Layout) (s : State) (from old new : Option Told) (result : Result T Ending) : Type 0 where
  pub tested : (new ≡ old) ⊎ (first_refusal (rest_tests layout (memory s)) ≡ None)
  pub writes : WritesCopy layout s from old new result
  pub judged : IsCopyJudged layout s from old result

-- ---- its parts

-- the test of the target's sectors and the header ring
abbrev pub BeginsTarget : {T : Type 0} → Layout → (cluster : ℕ) → (old new : Option Told) → Result T Ending → Type 0
BeginsTarget layout cluster old new (Ok x) = (new ≡ after_all (ring_events layout cluster) old) × OverTold old (λ image. first_refusal (blank_tests image) ≡ None)
BeginsTarget layout cluster old new (Err e) = ByEnding (AddsPart (ring_events layout cluster) old new) ⊥ (λ x. (new ≡ old) × OverTold old (λ image. first_refusal (blank_tests image) ≡ Some x)) e

-- the replies and the blocks
abbrev pub units_written : Layout → (replies blocks : List Message) → List Event
units_written layout replies blocks = all_events (reply_events layout) replies ++ all_events (made_events layout) (moved_from 1 blocks)

abbrev pub CopiesUnits : {T : Type 0} → State → (t n : Copy) → (from old new : Option Told) → Result T Ending → Type 0
CopiesUnits s t n from old new (Ok x) =
    (c : Copied t.layout s from) × IsAll c × (new ≡ after_all (units_written t.layout c.replies c.blocks) old) × IsTarget t.layout s.file.cluster c.replies c.blocks n
    × OverShown s.file from (λ shown. first_refusal (unit_tests t.layout shown (memory s)) ≡ None)
CopiesUnits s t n from old new (Err e) = StopsBehind {X = Copied t.layout s from} s.file from (λ c. units_written t.layout c.replies c.blocks) (λ shown. unit_tests t.layout shown (memory s)) old new e

-- the trailer, and the superblock after a sync
abbrev pub Finishes : {T : Type 0} → Layout → State → (replies blocks : List Message) → (old new : Option Told) → Result T Ending → Type 0
Finishes layout s replies blocks old new result = Adds (all_events (made_events layout) (trailer_of layout s (moved_from 1 blocks)) ++ superblock_events layout s replies blocks) old new result

-- what passed the tests that read nothing
abbrev pub PassesTo : {T : Type 0} → Layout → State → Shown → Image → Result T Ending → Type 0
PassesTo layout s shown image (Ok x) = first_refusal (blank_tests image ++ unit_tests layout shown (memory s)) ≡ None
PassesTo layout s shown image (Err e) = ByEnding (Unit {0}) (Unit {0}) (λ x. first_refusal (blank_tests image ++ unit_tests layout shown (memory s)) ≡ Some x) e

pub record CopiesPlanned {T : Type 0} (layout : Layout) (s : State) (from old new : Option Told) (result : Result T Ending) : Type 0 where
  pub writes : WritesCopy layout s from old new result
  pub judged : OverTold old (λ image. OverShown s.file from (λ shown. PassesTo layout s shown image result))
