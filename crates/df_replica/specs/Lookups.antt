-- The read of a client's reply: what it finds at the place of the client's session, over each image that a disk may show, and what it answers.
use Rattle.std.specs.Prelude.{◌≡◌, ◌<◌, ℕ, List, Option, Some, None, Result, Ok, Err}
use Rattle.df_base.specs.Image.{Image}
use Rattle.df_disk.specs.Told.{Told}
use Rattle.df_layout.specs.{declared.damage.Class.{Class}, declared.places.Place.{Place}, declared.places.Zone.TheVariants.{ClientReplies}}
use Rattle.df_format.specs.{declared.kind.Kind.{Kind}, Own.{place_in}}
use Rattle.df_buffers.specs.Sounds.{Holding}
use Rattle.df_theory.specs.Units
use Rattle.df_units.specs.Meaning.{message_of}
use Rattle.df_model.specs.{After.{place_of_client}, Commands.{ReadReply}, Refusals.{first_refusal, lookup_refusals}, Supply.{reply_at}, declared.reading.LookupError.{LookupError}}
use Rattle.df_model.specs.Memory as memory
use Rattle.df_model.specs.declared.reading.LookupError.TheVariants as lookup
use Rattle.df_opening.specs.Below.{DataFile, State, memory, reply_sum}
use Rattle.df_replica.specs.{declared.lookup.Stored.{Stored}, Reading.{IsFoundBy, IsKnownUnit, shown_of}}

-- the place of a client's session
abbrev pub place_for : State → (client : ℕ) → ℕ
place_for s client = place_of_client client (memory s).sessions

-- what an image shows at a session's place, where this is the checksum of its reply
abbrev pub reply_shown : DataFile → (place : ℕ) → Option (List ℕ) → Image → Result Units.Message Class
reply_shown file place known image = reply_at (shown_of file image) (reply_sum known) place

-- what was read is what the image shows: the unit that the room holds, or a class
abbrev pub TellsShown : Option Told → (Image → Result Units.Message Class) → Option Class → Option Holding → Type 0
TellsShown None shown wrong held = Unit {0}
TellsShown (Some t) shown None (Some h) = Ok (message_of h.unit) ≡ shown t.shown
TellsShown (Some t) shown None None = ⊥
TellsShown (Some t) shown (Some class) held = Err class ≡ shown t.shown

-- whatever it tells, where nothing is wrong the room holds the known unit
abbrev pub HoldsKnown : Kind → DataFile → Place → Option ℕ → Option Class → Option Holding → Type 0
HoldsKnown kind file place known None (Some h) = IsKnownUnit kind file place known h.unit
HoldsKnown kind file place known None None = ⊥
HoldsKnown kind file place known (Some class) held = Unit {0}

-- what was found, if it came to that
abbrev pub reply_found : Result Units.Message LookupError → Option (Result Units.Message Class)
reply_found (Ok message) = Some (Ok message)
reply_found (Err (lookup.Damaged place class)) = Some (Err class)
reply_found (Err e) = None

-- what a read of a client's reply answers: the first refusal, or what the session's place shows, or that the disk failed
abbrev pub IsReadReply : (client : ℕ) → State → Option Told → Result Units.Message LookupError → Type 0
IsReadReply client s told (Ok message) = (first_refusal (lookup_refusals (memory s) client) ≡ None) × IsFoundBy s (ReadReply client) told (Ok message)
IsReadReply client s told (Err (lookup.Damaged place class)) =
    (first_refusal (lookup_refusals (memory s) client) ≡ None) × (place ≡ place_in ClientReplies (place_for s client)) × IsFoundBy s (ReadReply client) told (Err class)
IsReadReply client s told (Err lookup.DiskFault) = first_refusal (lookup_refusals (memory s) client) ≡ None
IsReadReply client s told (Err e) = first_refusal (lookup_refusals (memory s) client) ≡ Some e

-- the place of a client's session whose reply is stored, and what is known of that reply
pub record IsStoredFor (s : State) (client : ℕ) (stored : Stored) : Type 0 where
  pub place : stored.place ≡ place_for s client
  pub inside : stored.place < s.file.layout.clients
  pub known : memory.reply_sum (memory s) stored.place ≡ reply_sum stored.reply
  pub served : first_refusal (lookup_refusals (memory s) client) ≡ None
