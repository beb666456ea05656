-- How a trailer is begun and written, block by block, and how the superblock names it.
use Rattle.std.specs.Prelude.{◌≡◌, ◌≤◌, ℕ, List, [], length, Option, None, Some, Result, OnOk}
use Rattle.df_disk.specs.{Told.{Told}, Adds.{Adds}}
use Rattle.df_format.specs.{Message.{Message}, Spelling.{no_checksum}, declared.reference.Reference.{Reference}, declared.superblock.SuperFields.{SuperFields}}
use Rattle.df_checkpoint.specs.declared.capture.Capture.{Capture}
use Rattle.df_checkpoint.specs.Writing as checkpoint
use Rattle.df_grid.specs.{Grid.{GridState}, Table.{last_trailer_block, pair_in}, Writes.{made_events}}
use Rattle.df_opening.specs.Below.{State}
use Rattle.df_copy.specs.{declared.ending.Ending.{Ending}, declared.target.Target.{Target}, Acts.{IsTrailerWritten}, Targets.{named_with, trailer_of}, Units.{all_events, moved_from}}

-- this many blocks of a trailer are to come, and none is written
pub record IsBegunGrid (blocks : ℕ) (g : GridState) : Type 0 where
  pub left : length g.blocks.left ≡ blocks
  pub written : g.blocks.written ≡ []
  pub few : blocks ≤ 70

-- the text of what was captured
abbrev pub text_in : GridState → Capture → List ℕ
text_in g capture = checkpoint.text_in g capture

-- the trailer is written after these replies and blocks, or a part of it where the disk failed
pub record AddsTrailer {T : Type 0} (s : State) (rs bs : List Message) (t n : Target) (old new : Option Told) (result : Result T Ending) : Type 0 where
  pub events : Adds (all_events (made_events t.layout) (trailer_of t.layout s (moved_from 1 bs))) old new result
  pub written : OnOk result (IsTrailerWritten t.layout s rs bs n)

-- the last block of the trailer that is written, or nothing where there is none
abbrev pub NamesLast : Option (ℕ × ℕ) → Reference → Type 0
NamesLast None r = (r.address ≡ 0) × (r.checksum ≡ no_checksum)
NamesLast (Some x) r = pair_in (Some r) ≡ Some x

abbrev pub IsLastOf : GridState → Reference → Type 0
IsLastOf g r = NamesLast (last_trailer_block g.blocks.left g.blocks.written) r

-- and a trailer that ends with this block
abbrev pub with_trailer : Reference → (size : ℕ) → SuperFields → SuperFields
with_trailer r size f = named_with r.address r.checksum size f
