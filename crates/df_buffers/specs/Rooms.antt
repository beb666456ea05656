-- Rooms: the bytes of one place of a layout.
use Rattle.std.specs.Prelude.{◌≡◌, ◌*◌, ℕ, List, length, take, drop}
use Rattle.df_base.specs.declared.TheConstants.{HEADER, SECTOR}
use Rattle.df_layout.specs.{declared.layout.Layout.{Layout}, declared.places.Zone.{Zone}, declared.places.Zone.TheVariants.{WalPrepares, ClientReplies, Grid}, Spans.{place_sectors}}
use Rattle.df_format.specs.{declared.kind.Kind.{Kind}, declared.kind.Kind.TheVariants.{Prepare, Reply, Block, Trailer}}

-- the zone that has a whole slot for each unit of the kind
abbrev pub StandsIn : Kind → Zone → Type 0
StandsIn Prepare WalPrepares = Unit {0}
StandsIn Reply ClientReplies = Unit {0}
StandsIn Block Grid = Unit {0}
StandsIn Trailer Grid = Unit {0}
StandsIn kind zone = ⊥

-- the bytes of the sectors of a place of the zone
abbrev pub room_size : Layout → Zone → ℕ
room_size layout zone = SECTOR * place_sectors layout zone

-- the bytes fill a room of the zone
abbrev pub FillsRoom : Layout → Zone → List ℕ → Type 0
FillsRoom layout zone bytes = length bytes ≡ room_size layout zone

-- what a raw room is seen as: the layout that it was reserved for, and its bytes
pub record Room : Type 0 where
  pub layout : Layout
  pub bytes : List ℕ

-- the bytes of one of the sixteen headers of a sector
abbrev pub header_bytes : ℕ → List ℕ → List ℕ
header_bytes place bytes = take HEADER (drop (HEADER * place) bytes)
