-- The read of a block: what it finds at a live address, over each image that a disk may show, and what it answers.
use Rattle.std.specs.Prelude.{◌≡◌, ℕ, Option, Some, None, Result, Ok, Err}
use Rattle.df_base.specs.Image.{Image}
use Rattle.df_disk.specs.Told.{Told}
use Rattle.df_layout.specs.{declared.damage.Class.{Class}, declared.places.Zone.TheVariants.{Grid}}
use Rattle.df_format.specs.{Message.{Message}, Own.{place_in}}
use Rattle.df_theory.specs.Units
use Rattle.df_units.specs.Meaning.{block_of}
use Rattle.df_model.specs.{Commands.{ReadBlock}, Refusals.{first_refusal, read_refusals}, Supply.{block_read}, declared.reading.ReadError.{ReadError}}
use Rattle.df_model.specs.declared.reading.ReadError.TheVariants as read
use Rattle.df_opening.specs.Below.{State, memory}
use Rattle.df_replica.specs.Reading.{shown_of}

-- what a read finds at an address over an image: the block with the checksum that is known, no trailer's, else the class of what is shown
abbrev pub block_found : State → (address : ℕ) → Image → Result Units.Block Class
block_found s address image = block_read (shown_of s.file image) (memory s) (ReadBlock address)

-- this is found, where the disk tells what it shows
abbrev pub IsBlockFound : State → (address : ℕ) → Option Told → Result Units.Block Class → Type 0
IsBlockFound s address None found = Unit {0}
IsBlockFound s address (Some t) found = found ≡ block_found s address t.shown

-- a block that is lent, in the words of the machine
abbrev pub block_words : {A E : Type 0} → (A → Message) → Result A E → Result Units.Block E
block_words unit (Ok x) = Ok (block_of (unit x))
block_words unit (Err e) = Err e

-- what was found, if it came to that
abbrev pub what_block : Result Units.Block ReadError → Option (Result Units.Block Class)
what_block (Ok b) = Some (Ok b)
what_block (Err (read.Damaged place class)) = Some (Err class)
what_block (Err e) = None

-- what a read of a block answers: the first refusal, or what its address shows, or that the disk failed
abbrev pub IsReadBlock : (address : ℕ) → State → Option Told → Result Units.Block ReadError → Type 0
IsReadBlock address s told (Ok b) = (first_refusal (read_refusals (memory s) address) ≡ None) × IsBlockFound s address told (Ok b)
IsReadBlock address s told (Err (read.Damaged place class)) =
    (first_refusal (read_refusals (memory s) address) ≡ None) × (place ≡ place_in Grid address) × IsBlockFound s address told (Err class)
IsReadBlock address s told (Err read.DiskFault) = first_refusal (read_refusals (memory s) address) ≡ None
IsReadBlock address s told (Err e) = first_refusal (read_refusals (memory s) address) ≡ Some e
