-- What a table of replies says of a disk, and of the theory's image: the reply slots, place by place.
use Rattle.std.specs.Prelude.{◌≡◌, ◌<◌, ◌≤◌, ℕ, List, length, slice_get, Option, Some, None, Result, Ok, Err}
use Rattle.df_disk.specs.Told.{Told}
use Rattle.df_layout.specs.{declared.damage.Class.{Class}, declared.layout.Layout.{Layout}}
use Rattle.df_format.specs.declared.header.Header.{Header}
use Rattle.df_theory.specs.Units
use Rattle.df_theory.specs.Units.{AnyUnit, ReplyPlace, ReplyUnit}
use Rattle.df_units.specs.{Bytes.{unit_at}, Meaning.{header_of}}
use Rattle.df_places.specs.Units.{IsSeen}
use Rattle.df_replies.specs.Slots.{reply_place}

-- the first n entries are what the disk shows, where it tells that
abbrev pub AreSeenReplies : Layout → ℕ → Option Told → ℕ → List (Result Header Class) → Type 0
AreSeenReplies layout cluster told n replies = (k : ℕ) (reply : Result Header Class) → k < n → slice_get replies k ≡ Some reply → IsSeen layout cluster told (reply_place k) reply

-- the table has an entry for each slot of the layout, and it is what the disk shows there
pub record AreRepliesScanned (layout : Layout) (cluster : ℕ) (told : Option Told) (replies : List (Result Header Class)) : Type 0 where
  pub size : length replies ≡ layout.clients
  pub seen : AreSeenReplies layout cluster told layout.clients replies

-- a place of the theory shows a reply with this header, or no unit
abbrev pub ShowsReply : Option AnyUnit → Result Header Class → Type 0
ShowsReply x (Ok h) = (r : Units.Message) × (x ≡ Some (ReplyUnit r)) × (r.header ≡ header_of h)
ShowsReply x (Err class) = x ≡ None

-- the reply places of an image show what the table says, and there is no further one
pub record ShowsReplies (image : Units.Units) (replies : List (Result Header Class)) : Type 0 where
  pub each : (k : ℕ) (reply : Result Header Class) → slice_get replies k ≡ Some reply → ShowsReply (image (ReplyPlace k)) reply
  pub no_more : (k : ℕ) → length replies ≤ k → image (ReplyPlace k) ≡ None

-- what was scanned is what the theory sees
abbrev pub ScannedIsShown : Type 0
ScannedIsShown =
    (layout : Layout) (cluster : ℕ) (t : Told) (replies : List (Result Header Class)) → AreRepliesScanned layout cluster (Some t) replies → ShowsReplies (unit_at layout cluster t.shown) replies
