-- The units of a copy: which of the source's are written, as what, and by which writes.
use Rattle.std.specs.Prelude.{◌≡◌, ℕ, ◌+◌, List, [], ◌∷◌, ◌++◌, slice_get, Option, Some, None, Ok}
use Rattle.df_base.specs.Log.{Event, Write}
use Rattle.df_disk.specs.Told.{Told}
use Rattle.df_layout.specs.{declared.layout.Layout.{Layout}, declared.places.Zone.TheVariants.{ClientReplies}, Spans.{span_of}}
use Rattle.df_format.specs.{declared.kind.Kind.TheVariants.{Block, Reply}, Message.{Message, sectors_of}, Own.{place_in}}
use Rattle.df_units.specs.Meaning.{block_of, message_of}
use Rattle.df_grid.specs.Grid as grid
use Rattle.df_grid.specs.Writes.{made}
use Rattle.df_model.specs.{Blocks.{sum_at}, Commands.{ReadBlock}, Memory.{reply_sum}, Supply.{Shown, block_read, reply_at}}
use Rattle.df_opening.specs.Below.{DataFile, State, memory}
use Rattle.df_replica.specs.Reading.{IsKnownUnit, shown_of}
use Rattle.df_copy.specs.Tests.{references}

-- ---- in the source

-- a fact of what the source's disk shows, where it tells that
abbrev pub OverShown : DataFile → Option Told → (Shown → Type 0) → Type 0
OverShown file None P = Unit {0}
OverShown file (Some t) P = P (shown_of file t.shown)

-- the stored reply of the session at a place: it is valid there, it has the checksum that is known, and it is shown
pub record IsReplyAt (s : State) (told : Option Told) (place : ℕ) (u : Message) : Type 0 where
  pub known : IsKnownUnit Reply s.file (place_in ClientReplies place) (reply_sum (memory s) place) u
  pub shown : OverShown s.file told (λ shown. reply_at shown (reply_sum (memory s) place) place ≡ Ok (message_of u))

-- the live block at an address
pub record IsBlockAt (s : State) (told : Option Told) (address : ℕ) (u : Message) : Type 0 where
  pub known : grid.IsKnownBlock Block s.file.layout s.file.cluster address (sum_at address (memory s).blocks.live) u
  pub shown : OverShown s.file told (λ shown. block_read shown (memory s) (ReadBlock address) ≡ Ok (block_of u))

-- the replies of the first places, in order
pub record AreReplies (s : State) (told : Option Told) (us : List Message) : Type 0 where
  pub each : (k : ℕ) (u : Message) → slice_get us k ≡ Some u → IsReplyAt s told k u

-- the first of the live blocks, in order of address
pub record AreLiveBlocks (s : State) (told : Option Told) (us : List Message) : Type 0 where
  pub each : (i : ℕ) (u : Message) → slice_get us i ≡ Some u → (x : ℕ × ℕ) × (slice_get (references (memory s)) i ≡ Some x) × IsBlockAt s told x.0 u

-- ---- in the target

-- a block at another address: its kind, its body, its version and its boot stay
abbrev pub moved : ℕ → Message → Message
moved address u = made (record u.header { op = address }) u.body

-- one after the other, from this address on
abbrev pub moved_from : ℕ → List Message → List Message
moved_from address [] = []
moved_from address (u ∷ us) = moved address u ∷ moved_from (address + 1) us

-- a reply is written into the place that it names
abbrev pub reply_events : Layout → Message → List Event
reply_events layout u = Write (span_of layout (place_in ClientReplies u.header.slot)).first (sectors_of u) ∷ []

-- the writes of units, one after the other
abbrev pub all_events : (Message → List Event) → List Message → List Event
all_events events [] = []
all_events events (u ∷ us) = events u ++ all_events events us
