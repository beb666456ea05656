-- A restarted log: what a disk shows at a moment is its start, and what happened before is forgotten. And on what image one may begin.
use Rattle.std.specs.Prelude.{◌≡◌, ◌↔◌, ℕ, false, List, [], ◌∷◌, Some}
use Rattle.df_base.specs.{Image.{Image, IsImage}, Log.{AreLoose, Event, IsLeft, Log, Stop, Sync, loose}}
use Rattle.df_disk.specs.{Told.{IsHonest, Told, did}, Adds.{AddsPart, after_all}}
use Rattle.df_theory.specs.{Found.{IsClean, IsFound}, View.{View}}
use Rattle.df_units.specs.Bytes.{unit_at}
use Rattle.df_recovery.specs.{Below.{DataFile, shape}, Plan.{AreDistinctUnits}}
use Rattle.df_damage.specs.Disks.{MayBeHurtAs}

-- the log restarted now
abbrev pub restarted : Told → Told
restarted t = record { log = record { start = t.shown; events = [] }; shown = t.shown }

-- what a disk that tells tells after these events
abbrev pub told_after : List Event → Told → Told
told_after [] t = t
told_after (e ∷ es) t = told_after es (did e t)

-- nothing is loose
abbrev pub IsStill : Log → Type 0
IsStill log = (sector : ℕ) → loose log sector ≡ false

-- a view is found in the image, and a log may be restarted there: beside copy 0 no copy shows a content above the choice, to which a later repair could be
-- misled, and one checksum is one unit
pub record MayRestart (file : DataFile) (view : View) (image : Image) : Type 0 where
  pub whole : IsImage image
  pub found : IsFound (shape file) (unit_at file.layout file.cluster image) view
  pub clean : IsClean (unit_at file.layout file.cluster image) view
  pub distinct : AreDistinctUnits (unit_at file.layout file.cluster image)

-- ---- the laws

-- every disk is honest over it
abbrev pub BegunIsHonest : Type 0
BegunIsHonest = (t : Told) → IsHonest (restarted t)

-- and stays so: an honest disk is honest after any events
abbrev pub HonestStays : Type 0
HonestStays = (events : List Event) (t : Told) → IsHonest t → IsHonest (told_after events t)

-- a barrier shows nothing new: what is begun after it is what was begun before it
abbrev pub BarrierBegins : Type 0
BarrierBegins = (t : Told) → restarted (did Sync t) ≡ restarted t

-- what is told is told after events, by the call that adds them
abbrev pub AddedIsTold : Type 0
AddedIsTold = (events : List Event) (t : Told) → after_all events (Some t) ≡ Some (told_after events t)

-- Two logs of which one disk tells show the same, and go on to: a call that adds events to one adds the same to the other.
abbrev pub SameGoesOn : Type 0
SameGoesOn = (events : List Event) (t b : Told) → b.shown ≡ t.shown → (told_after events b).shown ≡ (told_after events t).shown

-- where a part of some events was added to one log, a part of them was: these, and added to any other they are a part of them, too
pub record Part (events : List Event) (t n : Told) : Type 0 where
  pub part : List Event
  pub is : n ≡ told_after part t
  pub again : (b : Told) → AddsPart events (Some b) (Some (told_after part b))

abbrev pub PartIsEvents : Type 0
PartIsEvents = (events : List Event) (t n : Told) → AddsPart events (Some t) (Some n) → Part events t n

-- Over an honest disk of which nothing is loose the log restarted says of stops what the whole one says: from then on they leave the same images.
abbrev pub LeavesTheSame : Type 0
LeavesTheSame = (events : List Event) (t : Told) (image : Image) → IsHonest t → IsStill t.log → IsLeft (told_after events t).log image ↔ IsLeft (told_after events (restarted t)).log image

-- After a barrier a stop changes by the one log what it may change by the other, and then both show the same: so the next open has its base, too.
abbrev pub StopsAlike : Type 0
StopsAlike =
    (events : List Event) (t b : Told) (changes : List (ℕ × List ℕ)) → b.shown ≡ t.shown → AreLoose (told_after events (did Sync t)).log.events changes
    → AreLoose (told_after events (did Sync b)).log.events changes × ((did (Stop changes) (told_after events (did Sync b))).shown ≡ (did (Stop changes) (told_after events (did Sync t))).shown)

-- Whatever of a file is hurt, a log may be restarted at what it shows, where an open finds the file's own checkpoint there.
abbrev pub HurtMayBegin : Type 0
HurtMayBegin =
    (version : ℕ) (file : DataFile) (view found : View) (t : Told) → MayBeHurtAs version file view t → IsFound (shape file) (unit_at file.layout file.cluster t.shown) found → (found.checkpoint ≡ view.checkpoint)
    → MayRestart file found t.shown
