-- The four copies of the superblock over a log: what a stop may leave of them at a moment of a call.
use Rattle.std.specs.Prelude.{◌≡◌, ◌≢◌, ◌⊎◌, ◌<◌, ◌≤◌, ℕ, true, false, List, [], ◌∷◌, Some}
use Rattle.df_base.specs.{Image.{Image, covers}, Log.{Event, Write, Sync, Stop, Log, IsLeft, loose, now}, Moments.{Extends}}
use Rattle.df_format.specs.Copies.{Content, content_at, rank_of_copy}
use Rattle.df_quorum.specs.{declared.choice.Chosen.{Chosen}, Quorum.{Copies, IsChosenContent, AreMembers}}

-- no copy's sector was written since the last sync or stop: the four copies are sectors 0 to 3
abbrev pub AreQuiet : Log → Type 0
AreQuiet log = (n : ℕ) → n < 4 → loose log n ≡ false

-- the four copies show this content
abbrev pub AreEqual : Image → Content → Type 0
AreEqual image c = (n : ℕ) → n < 4 → content_at image n ≡ Some c

-- a fact of the new content where copy 1 shows it, and of the old one where it doesn't
abbrev pub OfEither : Image → Content → Content → (Content → Type 0) → Type 0
OfEither image old new P = ((content_at image 1 ≡ Some new) × P new) ⊎ ((content_at image 1 ≢ Some new) × P old)

-- The copy that is being written agrees with another one on another content, not below the chosen one, and before the
-- call the two did not.
pub record IsMisled (before : Copies) (log : Log) (c : Content) (image : Image) : Type 0 where
  pub place : ℕ
  pub other : ℕ
  pub content : Content
  pub inside : place < 4
  pub other_inside : other < 4
  pub apart : place ≢ other
  pub loose : loose log place ≡ true
  pub at_place : content_at image place ≡ Some content
  pub at_other : content_at image other ≡ Some content
  pub differs : content ≢ c
  pub not_below : rank_of_copy c ≤ rank_of_copy content
  pub new : before place ≡ Some content → before other ≢ Some content

-- none of these events writes the sector, and none is a stop
abbrev pub Spare : List Event → ℕ → Type 0
Spare [] sector = Unit {0}
Spare ((Write at bytes) ∷ es) sector = (covers at bytes sector ≡ false) × Spare es sector
Spare (Sync ∷ es) sector = Spare es sector
Spare ((Stop cs) ∷ es) sector = ⊥

-- At a moment of an update, with no word on the history: whatever a stop leaves has the new content chosen if copy 1
-- shows it, and else the old one; and the old one as long as copy 1 wasn't written.
pub record IsOldOrNew (entry : Log) (old new : Content) (log : Log) : Type 0 where
  pub left : (image : Image) → IsLeft log image → OfEither image old new (IsChosenContent (content_at image))
  pub first : (since : Extends log entry) → Spare since.0 1 → (image : Image) → IsLeft log image → IsChosenContent (content_at image) old

-- four equal copies that are to be updated to a content above theirs
pub record MayUpdate (log : Log) (old new : Content) : Type 0 where
  pub quiet : AreQuiet log
  pub equal : AreEqual (now log) old
  pub above : rank_of_copy old < rank_of_copy new

-- the choice among these copies, with its members
pub record IsChoice (copies : Copies) (chosen : Chosen) (c : Content) : Type 0 where
  pub is : IsChosenContent copies c
  pub fields : c.fields ≡ chosen.content
  pub members : AreMembers copies c chosen.members
