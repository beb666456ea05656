-- An append of a replica: what it makes, what it asks of the disk, and the state that it leads to. No state of the machine is in sight.
use Rattle.std.specs.Prelude.{◌≡◌, ◌⊎◌, ◌<◌, ◌≤◌, ◌+◌, ◌/◌, ◌%◌, ℕ, List, [], ◌∷◌, ◌++◌, length, Option, Some, None, IsSome, Result, Ok, Err, IfOk, true}
use Rattle.df_base.specs.{declared.TheConstants.{GREATEST, HEADER, VERSION}, Log.{Event}, declared.Failed.{Failed}}
use Rattle.df_layout.specs.{declared.layout.Layout.{Layout}, declared.places.Place.{Place}, declared.places.Zone.{Zone}}
use Rattle.df_disk.specs.{Told.{Told}, Adds.{AddsPart, after_all}}
use Rattle.df_format.specs.{declared.header.Header.{Header}, declared.kind.Kind.{Kind}, declared.kind.Kind.TheVariants.{Prepare as AsPrepare}, Making.{blank_header, for_body}}
use Rattle.df_format.specs.{Message.{Message, sectors_of}, Own.{own_place}, Rules.{ObeysRules}, Spelling.{no_checksum, sealed}, Valid.{IsUnit}, Whole.{greatest_size}}
use Rattle.df_sessions.specs.{Requests.{sessions_of}, Table.{IsKnownClient, with_request}}
use Rattle.df_theory.specs.Sessions.{MayAsk}
use Rattle.df_theory.specs.Units
use Rattle.df_units.specs.Append.{append_events as calls_of}
use Rattle.df_journal.specs.Append as journal
use Rattle.df_model.specs.{Refusals.{append_refusals, first_refusal}, declared.answers.Receipt.{Receipt}, declared.errors.AppendError.{AppendError}}
use Rattle.df_model.specs.declared.errors.AppendError.TheVariants as append
use Rattle.df_opening.specs.Below.{State, memory}
use Rattle.df_replica.specs.Stopping.{stopped}

-- ---- a unit that a call makes and writes

-- the unit of a header and a body
abbrev pub unit_made : Header → List ℕ → Message
unit_made h body = record { header = sealed (for_body h body); body = body }

-- a unit of this kind may be made of a header and a body, to stand in a zone of the layout
pub record MayBeMade (layout : Layout) (zone : Zone) (kind : Kind) (h : Header) (body : List ℕ) : Type 0 where
  -- with what follows from the body, the header obeys the rules
  pub rules : ObeysRules (for_body h body)
  -- it is the kind's
  pub of_kind : h.kind ≡ kind
  -- it names a place that the layout has
  pub own : IsSome (own_place layout zone h)
  -- header and body are no longer than a place of the zone
  pub fits : HEADER + length body ≤ greatest_size layout zone

-- what the call answers and what it wrote
pub record IsMadeUnit (layout : Layout) (place : Place) (u : Message) (result : Result Header Failed) : Type 0 where
  -- the answer is the unit's header
  pub header : IfOk result (λ h. h ≡ u.header)
  -- the unit is valid at its place
  pub own : IsUnit layout u.header.cluster place u

-- ---- a prepare

-- what the maker of the next prepare says of it
abbrev pub header_given : State → (client request : ℕ) → Header
header_given s client request = record (blank_header AsPrepare s.file.cluster) {
  parent = s.head_checksum;
  slot = (s.head + 1) % s.file.layout.slots;
  client = client;
  op = s.head + 1;
  request = request;
  mark = s.replies;
  checkpoint = s.fields.sequence;
  version = VERSION;
  boot = s.fields.boot;
  group = s.head + 1;
  group_last = s.head + 1;
}

-- the next prepare
abbrev pub next_unit : State → (client request : ℕ) → List ℕ → Message
next_unit s client request body = unit_made (header_given s client request) body

-- the prepare, a sync, its header sector, a sync
abbrev pub prepare_events : Layout → Message → List Header → List Event
prepare_events layout u table = calls_of layout u.header.slot (sectors_of u) (u.header.slot / 16) (journal.new_sector u table)

abbrev pub append_events : State → Message → List Event
append_events s u = prepare_events s.file.layout u s.headers

-- the state with the header of a prepare in its slot
abbrev pub with_header : State → Message → State
with_header s u = record s { headers = journal.with_header u s.headers }

-- the state with a prepare more, the ring of headers aside
abbrev pub noted : State → Header → State
noted s h = record s {
  head = s.head + 1;
  head_checksum = h.checksum;
  waiting = s.waiting ++ h.checksum ∷ [];
  table = record s.table { sessions = with_request h.client h.request h.op s.table.sessions };
}

-- the state with a prepare more
abbrev pub with_prepare_appended : State → Message → State
with_prepare_appended s u = noted (with_header s u) u.header

abbrev pub receipt_of : Header → Receipt
receipt_of h = record { op = h.op; checksum = h.checksum }

-- a request that may be noted, where nothing is staged
pub record MayNote (s : State) (client asked : ℕ) : Type 0 where
  pub unstaged : s.staged ≡ []
  pub named : 0 < client
  pub request : (0 < asked) × (asked ≤ GREATEST)
  pub few : length s.waiting < 8
  pub op : s.head < GREATEST
  pub room : s.head + 1 ≤ s.fields.op + s.file.layout.slots
  pub asks : (h : Units.Header) → h.client ≡ client → h.request ≡ asked → h.mark ≡ s.replies → MayAsk s.file.layout.clients h (sessions_of s.table.sessions)
  pub place : IsKnownClient client s.table.sessions ⊎ (length s.table.sessions < s.table.max)

-- an append that isn't refused, as far as the code needs it
pub record MayNext (s : State) (client asked size : ℕ) : Type 0 where
  pub live : s.live ≡ true
  pub note : MayNote s client asked
  pub fits : HEADER + size ≤ s.file.layout.message_size
  pub first : s.head ≡ 0 → s.head_checksum ≡ no_checksum

-- what an append answers, with the state after it and what the disk then tells: exact for a receipt and for each refusal, and after a fault the replica isn't live, and nothing in memory but the table of headers moved
abbrev pub IsAppendCall : (client request : ℕ) → List ℕ → (s t : State) → (old new : Option Told) → Result Receipt AppendError → Type 0
IsAppendCall client request body s t old new (Ok receipt) =
    let u = next_unit s client request body in
    (first_refusal (append_refusals (memory s) client request body) ≡ None) × (receipt ≡ receipt_of u.header) × (t ≡ with_prepare_appended s u) × (new ≡ after_all (append_events s u) old)
IsAppendCall client request body s t old new (Err append.DiskFault) =
    (first_refusal (append_refusals (memory s) client request body) ≡ None) × (t ≡ stopped (record s { headers = t.headers })) × AddsPart (append_events s (next_unit s client request body)) old new
IsAppendCall client request body s t old new (Err e) = (first_refusal (append_refusals (memory s) client request body) ≡ Some e) × (t ≡ s) × (new ≡ old)
