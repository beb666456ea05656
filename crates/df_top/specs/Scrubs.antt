-- What the word `scrub` promises of a file.
use Rattle.std.specs.Prelude.{◌≡◌, ◌⊎◌, ℕ, zero, suc, List, ◌++◌, length, Option, Some}
use Rattle.df_base.specs.{Image.{Image}, Streams.{Appends}}
use Rattle.df_disk.specs.Told.{Told}
use Rattle.df_inspect.specs.Reports.{failing_texts}
use Rattle.df_layout.specs.{declared.damage.Finding.{Finding}, declared.layout.Layout.{Layout}}
use Rattle.df_model.specs.{Memory.{referenced_of}, declared.answers.Scrubbed.TheVariants.{TourEnd}}
use Rattle.df_session.specs.{Below.{failing_in, State as Replica, grid_with, memory}, Leaving.{SparesReads}, Scrubbing.{IsMachineTour}, Found.{FoundFile, no_calls}, Laws.{CallsKeep}}
use Rattle.df_script_model.specs.Texts.{scrubbed_text}
use Rattle.df_top.specs.{Outside.{Outside, PrintsLine}, declared.status.Status.{Status}, declared.status.Status.TheVariants.{DiskFault, Done, Found}}

-- ---- a whole tour

-- the referenced blocks of an open file that fail over an image, in order of address
abbrev pub failing_blocks : Replica → Image → List Finding
failing_blocks s image = failing_in (grid_with s.file s.boot s.blocks) image

-- their lines, and the line that counts the referenced blocks and those that fail
abbrev pub tour_report : Replica → Image → List ℕ
tour_report s image = failing_texts (failing_blocks s image) ++ scrubbed_text (TourEnd (length (referenced_of (memory s))) (length (failing_blocks s image)))

-- whether a tour that listed this many blocks found something
abbrev pub tour_status : ℕ → Status
tour_status zero = Done
tour_status (suc more) = Found

-- the disk failed in a read: the lines of those that were found before it are there, from the first one on
pub record StopsTour (list : List Finding) (old new : Option (List ℕ)) (status : Status) : Type 0 where
  pub fault : status ≡ DiskFault
  pub listed : List Finding
  pub left : List Finding
  pub front : list ≡ listed ++ left
  pub prints : Appends old new (failing_texts listed)

-- all lines are printed, and the status says whether a block is listed; or a front of them is there where the sink failed; or the disk failed on the way
abbrev pub PrintsTour : Replica → Image → (old new : Option (List ℕ)) → Status → Type 0
PrintsTour s image old new status = PrintsLine (tour_report s image) (tour_status (length (failing_blocks s image))) old new status ⊎ StopsTour (failing_blocks s image) old new status

-- ---- the word

-- A whole tour over what the disk shows after the mending is printed; it is the machine's. What is kept of the file is what calls keep that were none, and whatever a disk shows, the
-- open and the tour leave each place that a call reads as it was: no block is written.
pub record ScrubsFile (layout : Layout) (t : Told) (found : FoundFile layout t) (old new : Outside) (status : Status) : Type 0 where
  pub after : Told
  pub is_mended : found.mended ≡ Some after
  pub told : new.told ≡ Some after
  pub prints : PrintsTour found.replica after.shown old.written new.written status
  pub machine : IsMachineTour found.replica after.shown
  pub unread : new.left ≡ old.left
  pub calls : CallsKeep t found.replica found.mended found.mending (no_calls found)
  pub spares : SparesReads found.replica.file t.shown after.shown
