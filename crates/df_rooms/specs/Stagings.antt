-- The requests that the next flush appends, each with its body in the room of its prepare, and the prepares that the last flush made.
use Rattle.std.specs.Prelude.{◌≡◌, ◌+◌, ◌≤◌, ℕ, List, [], ◌∷◌, ◌++◌, length, map, take, All}
use Rattle.df_layout.specs.declared.layout.Layout.{Layout}
use Rattle.df_format.specs.{declared.header.Header.{Header}, Making.{for_body}, Message.{sectors_end, sectors_of}, Spelling.{sealed}}
use Rattle.df_buffers.specs.{Rooms.{Room}, Sounds.{Holding}}
use Rattle.df_model.specs.Work.{Request}
use Rattle.df_rooms.specs.declared.staging.Held.{Held}

-- what is staged, in order, and the prepares of the last flush, in order of op
pub record Staged : Type 0 where
  pub layout : Layout
  pub requests : List Request
  pub sealed : List Holding

-- ---- one of them

-- the first request; the words below speak of it where something is staged
abbrev pub first_request : List Request → Request
first_request [] = record { client = 0; request = 0; body = [] }
first_request (r ∷ rs) = r

-- the prepare of the first request by this header is the last one of these units, after those that were there
pub record IsSealedOf (s : Staged) (header : Header) (units : List Holding) : Type 0 where
  pub held : Holding
  pub layout : held.layout ≡ s.layout
  pub unit : held.unit ≡ record { header = sealed (for_body header (first_request s.requests).body); body = (first_request s.requests).body }
  pub sectors : take (sectors_end held.unit.header.size) held.bytes ≡ sectors_of held.unit
  pub last : units ≡ s.sealed ++ held ∷ []

-- ---- the rooms

abbrev pub request_in : Held → Request
request_in h = record { client = h.client; request = h.request; body = h.room.body }

abbrev pub staged_in : Layout → List Held → List Holding → Staged
staged_in layout held units = record { layout = layout; requests = map request_in held; sealed = units }

-- each room is of the layout: of those that are free, that have a body, and that have a prepare
abbrev pub AreFree : Layout → List Room → Type 0
AreFree layout rooms = All (λ room. room.layout ≡ layout) rooms

abbrev pub AreHeld : Layout → List Held → Type 0
AreHeld layout held = All (λ h. h.room.layout ≡ layout) held

abbrev pub AreSealed : Layout → List Holding → Type 0
AreSealed layout units = All (λ unit. unit.layout ≡ layout) units

-- there are eight rooms in all, each of the layout, and each list has a place for all of them
pub record IsStaging (layout : Layout) (free : List Room) (held : List Held) (units : List Holding) (for_free for_held for_units : ℕ) : Type 0 where
  pub eight : length free + length held + length units ≡ 8
  pub free_fit : AreFree layout free
  pub held_fit : AreHeld layout held
  pub units_fit : AreSealed layout units
  pub places : (8 ≤ for_free) × (8 ≤ for_held) × (8 ≤ for_units)
