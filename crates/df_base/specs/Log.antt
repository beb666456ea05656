-- What a disk has been asked to do, what a stop may leave of it, and what has been made durable.
use Rattle.std.specs.Prelude.{◌≡◌, ℕ, true, false, Bool, ◌||◌, List, [], ◌∷◌}
use Rattle.df_base.specs.Image.{Image, IsSector, IsImage, IsPiece, blank, covers, written, changed}

-- a write of whole sectors from sector at on, a sync, or a stop (a power cut, say) that changed these sectors
pub data Event : Type 0 where
  Write : (at : ℕ) (bytes : List ℕ) → Event
  Sync : Event
  Stop : (changes : List (ℕ × List ℕ)) → Event

-- what the sectors held at first, and what happened since, the newest event first
pub record Log : Type 0 where
  pub start : Image
  pub events : List Event

-- a new disk: blank, and nothing has happened
abbrev pub new_log : Log
new_log = record { start = blank; events = [] }

-- the log after one more event
abbrev pub add : Event → Log → Log
add e log = record { start = log.start; events = e ∷ log.events }

-- an image after an event
abbrev pub after_event : Event → Image → Image
after_event (Write at bytes) image = written at bytes image
after_event Sync image = image
after_event (Stop cs) image = changed cs image

abbrev pub now_of : Image → List Event → Image
now_of start [] = start
now_of start (e ∷ es) = after_event e (now_of start es)

-- the image after all writes and all changes of stops
abbrev pub now : Log → Image
now log = now_of log.start log.events

abbrev pub loose_of : List Event → ℕ → Bool
loose_of [] sector = false
loose_of ((Write at bytes) ∷ es) sector = covers at bytes sector || loose_of es sector
loose_of (Sync ∷ es) sector = false
loose_of ((Stop cs) ∷ es) sector = false

-- the sector was written since the last sync or stop
abbrev pub loose : Log → ℕ → Bool
loose log sector = loose_of log.events sector

-- A stop now may leave this image: any bytes in the loose sectors, and in all others what stands there now.
pub record IsLeft (log : Log) (image : Image) : Type 0 where
  pub whole : IsImage image
  pub kept : (sector : ℕ) → loose log sector ≡ false → image sector ≡ now log sector

-- a stop now may make these changes: each gives a loose sector the bytes of a sector
abbrev pub AreLoose : List Event → List (ℕ × List ℕ) → Type 0
AreLoose es [] = Unit {0}
AreLoose es (c ∷ cs) = (loose_of es c.0 ≡ true) × IsSector c.1 × AreLoose es cs

abbrev pub settled_of : Image → List Event → List Image
settled_of start [] = start ∷ []
settled_of start ((Write at bytes) ∷ es) = settled_of start es
settled_of start (Sync ∷ es) = now_of start es ∷ settled_of start es
settled_of start ((Stop cs) ∷ es) = changed cs (now_of start es) ∷ settled_of start es

-- what was made durable: the start, and the image after each sync and each stop, the newest first
abbrev pub settled : Log → List Image
settled log = settled_of log.start log.events

-- each write has whole sectors, and each stop changed loose sectors alone
abbrev pub AreEvents : List Event → Type 0
AreEvents [] = Unit {0}
AreEvents ((Write at bytes) ∷ es) = IsPiece bytes × AreEvents es
AreEvents (Sync ∷ es) = AreEvents es
AreEvents ((Stop cs) ∷ es) = AreLoose es cs × AreEvents es

-- syncs alone
abbrev pub AreSyncs : List Event → Type 0
AreSyncs [] = Unit {0}
AreSyncs ((Write at bytes) ∷ es) = ⊥
AreSyncs (Sync ∷ es) = AreSyncs es
AreSyncs ((Stop cs) ∷ es) = ⊥

-- a log that a disk can have
pub record IsLog (log : Log) : Type 0 where
  pub start : IsImage log.start
  pub events : AreEvents log.events
