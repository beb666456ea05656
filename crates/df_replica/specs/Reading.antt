-- The reads of a replica: what they find at their places, over each image that a disk may show, and what they answer.
use Rattle.std.specs.Prelude.{◌≡◌, ◌%◌, ℕ, List, [], slice_get, Option, Some, None, Result, Ok, Err}
use Rattle.df_base.specs.Image.{Image}
use Rattle.df_disk.specs.Told.{Told}
use Rattle.df_layout.specs.{declared.damage.Class.{Class}, declared.places.Place.{Place}, declared.places.Zone.TheVariants.{WalPrepares}}
use Rattle.df_format.specs.{declared.header.Header.{Header}, declared.kind.Kind.{Kind}, Message.{Message}, Own.{place_in}, Valid.{IsUnit}}
use Rattle.df_buffers.specs.{declared.identity.Identity.{Identity}, declared.identity.Wanted.TheVariants.{Checksum}, Sounds.{Holding}}
use Rattle.df_theory.specs.Units
use Rattle.df_places.specs.Shelves.{HoldsFound, IsRead}
use Rattle.df_units.specs.{Bytes.{unit_at}, Meaning.{message_of, number_of}, Wanted.{class_at}}
use Rattle.df_model.specs.{Commands.{Command, ReadPrepare}, Refusals.{first_refusal, prepare_refusals}, Supply.{Shown, message_given}, declared.reading.PrepareError.{PrepareError}}
use Rattle.df_model.specs.declared.reading.PrepareError.TheVariants as prepare
use Rattle.df_opening.specs.Below.{DataFile, State, memory}

-- ---- what is found

-- what an image shows, place by place, in the words of the machine
abbrev pub shown_of : DataFile → Image → Shown
shown_of file image = record { units = unit_at file.layout file.cluster image; damage = class_at file.layout file.cluster image }

-- what a read finds at its place over an image: the unit with the checksum that is known, else the class of what is shown
abbrev pub message_at : State → Command → Image → Result Units.Message Class
message_at s command image = message_given (shown_of s.file image) (memory s) command

-- this is found, where the disk tells what it shows
abbrev pub IsFoundBy : State → Command → Option Told → Result Units.Message Class → Type 0
IsFoundBy s command None found = Unit {0}
IsFoundBy s command (Some t) found = found ≡ message_at s command t.shown

-- the unit is one of the kind that is valid at the place, with the checksum that is known
pub record IsKnownUnit (kind : Kind) (file : DataFile) (place : Place) (known : Option ℕ) (u : Message) : Type 0 where
  pub is : IsUnit file.layout file.cluster place u
  pub of_kind : u.header.kind ≡ kind
  pub sum : known ≡ Some (number_of u.header.checksum)

-- ---- the unit that is wanted

abbrev pub check_in : Option Header → List ℕ
check_in None = []
check_in (Some h) = h.checksum

-- the prepare of an op, in its slot, with the checksum that the table of headers has there
abbrev pub prepare_wanted : DataFile → List Header → ℕ → Identity
prepare_wanted file headers op = record {
  layout = file.layout;
  cluster = file.cluster;
  place = place_in WalPrepares (op % file.layout.slots);
  wanted = Checksum (check_in (slice_get headers (op % file.layout.slots)));
}

-- what a read of it into a room finds
pub record IsLoaded (kind : Kind) (identity : Identity) (told : Option Told) (wrong : Option Class) (held : Option Holding) : Type 0 where
  -- the room holds the unit that is wanted exactly where nothing is wrong
  pub holds : HoldsFound kind identity wrong held
  -- where the disk tells what it shows, the place shows that
  pub read : IsRead kind identity told wrong held

-- ---- a prepare

-- a unit that is lent, in the words of the machine
abbrev pub in_words : {A E : Type 0} → (A → Message) → Result A E → Result Units.Message E
in_words unit (Ok x) = Ok (message_of (unit x))
in_words unit (Err e) = Err e

-- what a read of a prepare answers: the first refusal, or what its slot shows, or that the disk failed
abbrev pub IsReadPrepare : (op : ℕ) → State → Option Told → Result Units.Message PrepareError → Type 0
IsReadPrepare op s told (Ok message) = (first_refusal (prepare_refusals (memory s) op) ≡ None) × IsFoundBy s (ReadPrepare op) told (Ok message)
IsReadPrepare op s told (Err (prepare.Damaged place class)) =
    (first_refusal (prepare_refusals (memory s) op) ≡ None) × (place ≡ place_in WalPrepares (op % s.file.layout.slots)) × IsFoundBy s (ReadPrepare op) told (Err class)
IsReadPrepare op s told (Err prepare.DiskFault) = first_refusal (prepare_refusals (memory s) op) ≡ None
IsReadPrepare op s told (Err e) = first_refusal (prepare_refusals (memory s) op) ≡ Some e

-- what was found, if it came to that
abbrev pub prepare_found : Result Units.Message PrepareError → Option (Result Units.Message Class)
prepare_found (Ok message) = Some (Ok message)
prepare_found (Err (prepare.Damaged place class)) = Some (Err class)
prepare_found (Err e) = None
