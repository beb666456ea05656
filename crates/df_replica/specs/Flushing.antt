-- What `stage` and `flush` of a replica do: the prepares of a group, what it asks of the disk, and the state that it leads to. No state of the machine is in sight.
use Rattle.std.specs.Prelude.{◌≡◌, ◌⊎◌, ◌<◌, ◌≤◌, ◌+◌, ◌%◌, ◌^◌, ℕ, List, [], ◌∷◌, ◌++◌, length, map, slice_get, take, Option, Some, None, Result, Ok, Err}
use Rattle.df_base.specs.{declared.TheConstants.{GREATEST, VERSION}, Log.{Event, Write}}
use Rattle.df_disk.specs.{Told.{Told}, Adds.{AddsPart, after_all}}
use Rattle.df_layout.specs.declared.layout.Layout.{Layout}
use Rattle.df_format.specs.{declared.header.Header.{Header}, declared.kind.Kind.TheVariants.{Prepare as AsPrepare}, Making.{blank_header}, Message.{Message, sectors_end, sectors_of}}
use Rattle.df_format.specs.Spelling.{IsCheck, no_checksum}
use Rattle.df_buffers.specs.Sounds.{Holding}
use Rattle.df_sessions.specs.{declared.session.Session.{Session}, Requests.{sessions_of}, Table.{IsKnownClient, with_request}}
use Rattle.df_theory.specs.{Sessions.{sessions_after}, Units.{PreparePlace}}
use Rattle.df_theory.specs.Units
use Rattle.df_units.specs.{Bytes.{first_at}, Meaning.{number_of}}
use Rattle.df_journal.specs.Append as settling
use Rattle.df_journal.specs.Flush as journal
use Rattle.df_model.specs.{Refusals.{first_refusal, flush_refusals, stage_refusals}, Work.{Request}, declared.errors.AppendError.{AppendError}, declared.errors.FlushError.{FlushError}}
use Rattle.df_model.specs.declared.errors.FlushError.TheVariants as flush
use Rattle.df_opening.specs.Below.{DataFile, IsRequest, State, asks_of, memory}
use Rattle.df_replica.specs.{declared.flush.Group.{Group}, Appending.{unit_made}, Stopping.{stopped}}

-- ---- the prepares of a group

-- what the prepares of the group of all that is staged have alike: its first and its last op, and the counters as they are now
abbrev pub group_in : State → Group
group_in s = record { file = s.file; mark = s.replies; sequence = s.fields.sequence; boot = s.fields.boot; first = s.head + 1; last = s.head + length s.staged }

-- what the maker of one of them says of it, after the prepare with the checksum `parent`
abbrev pub header_in : Group → (op : ℕ) → (parent : List ℕ) → Request → Header
header_in g op parent r = record (blank_header AsPrepare g.file.cluster) {
  parent = parent;
  slot = op % g.file.layout.slots;
  client = r.client;
  op = op;
  request = r.request;
  mark = g.mark;
  checkpoint = g.sequence;
  version = VERSION;
  boot = g.boot;
  group = g.first;
  group_last = g.last;
}

-- requests as prepares of one group, from this op on, each the parent of the next
abbrev pub group_prepares : Group → (op : ℕ) → (parent : List ℕ) → List Request → List Message
group_prepares g op parent [] = []
group_prepares g op parent (r ∷ rs) =
    let u = unit_made (header_in g op parent r) r.body in
    u ∷ group_prepares g (op + 1) u.header.checksum rs

-- all that is staged, as the next group
abbrev pub flush_units : State → List Message
flush_units s = group_prepares (group_in s) (s.head + 1) s.head_checksum s.staged

-- their checksums, and these as numbers
abbrev pub checks_of : List Message → List (List ℕ)
checks_of us = map (λ u. u.header.checksum) us

abbrev pub sums_of : List Message → List ℕ
sums_of us = map (λ u. number_of u.header.checksum) us

-- ---- its device calls

-- each prepare is put: a write into its slot
abbrev pub group_put_events : Layout → List Message → List Event
group_put_events layout [] = []
group_put_events layout (u ∷ us) = Write (first_at layout (PreparePlace u.header.slot)) (sectors_of u) ∷ group_put_events layout us

-- the prepares, a sync, their one or two header sectors, a sync
abbrev pub group_events : Layout → List Message → List Header → List Event
group_events layout us table = group_put_events layout us ++ settling.settle_events layout (journal.with_headers us table) (journal.sectors_of us)

abbrev pub flush_events : State → List Event
flush_events s = group_events s.file.layout (flush_units s) s.headers

-- ---- the state

-- the checksum of the last, or this one where there is none
abbrev pub last_check : List ℕ → List Message → List ℕ
last_check check [] = check
last_check check (u ∷ us) = last_check u.header.checksum us

-- the sessions with the request of each
abbrev pub with_requests : List Message → List Session → List Session
with_requests [] ss = ss
with_requests (u ∷ us) ss = with_requests us (with_request u.header.client u.header.request u.header.op ss)

-- the state with a group more, and nothing staged
abbrev pub flushed : State → List Message → State
flushed s us = record s {
  head = s.head + length us;
  head_checksum = last_check s.head_checksum us;
  waiting = s.waiting ++ checks_of us;
  table = record s.table { sessions = with_requests us s.table.sessions };
  headers = journal.with_headers us s.headers;
  staged = [];
}

abbrev pub request_made : (client request : ℕ) → List ℕ → Request
request_made client request body = record { client = client; request = request; body = body }

-- the state with a request more that is staged
abbrev pub staged_with : State → Request → State
staged_with s r = record s { staged = s.staged ++ r ∷ [] }

-- the sessions as if this many of these requests, from the first on, were appended after this head
abbrev pub sessions_staged : List Session → List Request → (head count : ℕ) → List Units.Session
sessions_staged ss rs head count = sessions_after (sessions_of ss) (asks_of 0 (head + 1) (take count rs))

-- ---- the answers

-- what a stage answers, with the state after it: exact for the op to come and for each refusal
abbrev pub IsStage : (client request : ℕ) → List ℕ → (s t : State) → Result ℕ AppendError → Type 0
IsStage client request body s t (Ok op) =
    (first_refusal (stage_refusals (memory s) client request body) ≡ None) × (op ≡ s.head + length s.staged + 1) × (t ≡ staged_with s (request_made client request body))
IsStage client request body s t (Err e) = (first_refusal (stage_refusals (memory s) client request body) ≡ Some e) × (t ≡ s)

-- what a flush answers, with the state after it and what the disk then tells: exact for a count and for the refusal, and after a fault the replica isn't live, nothing is staged, and nothing else in memory but the table of headers moved
abbrev pub IsFlush : (s t : State) → (old new : Option Told) → Result ℕ FlushError → Type 0
IsFlush s t old new (Ok count) =
    (first_refusal (flush_refusals (memory s)) ≡ None) × (count ≡ length s.staged) × (t ≡ flushed s (flush_units s)) × (new ≡ after_all (flush_events s) old)
IsFlush s t old new (Err flush.DiskFault) =
    (first_refusal (flush_refusals (memory s)) ≡ None) × (t ≡ stopped (record s { headers = t.headers; staged = [] })) × AddsPart (flush_events s) old new
IsFlush s t old new (Err e) = (first_refusal (flush_refusals (memory s)) ≡ Some e) × (t ≡ s) × (new ≡ old)

-- ---- what the code needs

-- their numbers are in range
abbrev pub AreSmall : List Request → Type 0
AreSmall rs = (i : ℕ) (r : Request) → slice_get rs i ≡ Some r → r.request ≤ GREATEST

-- prepares of the group may be made: of a file with boots, eight at most, of ops that are left
pub record MayGroup (g : Group) : Type 0 where
  pub cluster : g.file.cluster < 2 ^ 128
  pub boot : (0 < g.boot) × (g.boot ≤ GREATEST)
  pub sequence : (0 < g.sequence) × (g.sequence ≤ GREATEST)
  pub mark : g.mark < g.first
  pub few : g.last < g.first + 8
  pub unspent : g.last ≤ GREATEST

-- the one with this op, after a prepare with this checksum, which is the first prepare's parent only where that is zero
pub record MayBeIn (g : Group) (op : ℕ) (parent : List ℕ) : Type 0 where
  pub group : MayGroup g
  pub from : g.first ≤ op
  pub parent_is : IsCheck parent
  pub first : op ≡ 1 → parent ≡ no_checksum

-- these requests are the rest of the group, from this op on
pub record MaySeal (g : Group) (op : ℕ) (parent : List ℕ) (requests : List Request) : Type 0 where
  pub next : MayBeIn g op parent
  pub to : op + length requests ≡ g.last + 1
  pub each : (i : ℕ) (r : Request) → slice_get requests i ≡ Some r → IsRequest g.file.layout r

-- a prepare of the file, in whole sectors of a room of its layout
pub record IsMadeFor (file : DataFile) (held : Holding) : Type 0 where
  pub layout_is : held.layout ≡ file.layout
  pub cluster : held.unit.header.cluster ≡ file.cluster
  pub sectors : take (sectors_end held.unit.header.size) held.bytes ≡ sectors_of held.unit

abbrev pub AreMadeFor : DataFile → List Holding → Type 0
AreMadeFor file helds = (i : ℕ) (held : Holding) → slice_get helds i ≡ Some held → IsMadeFor file held

-- rooms hold these prepares, each of which is valid in its own slot, and from these they are written
pub record AreHeld (file : DataFile) (us : List Message) : Type 0 where
  pub helds : List Holding
  pub units : journal.held_prepares helds ≡ us
  pub made : AreMadeFor file helds
  pub own : journal.AreOwn file.layout helds

-- the table of sessions has a place for the client of each, one after the other
abbrev pub HavePlaces : (places : ℕ) → List Session → List Message → Type 0
HavePlaces places ss [] = Unit {0}
HavePlaces places ss (u ∷ us) =
    (0 < u.header.client) × (IsKnownClient u.header.client ss ⊎ (length ss < places)) × HavePlaces places (with_request u.header.client u.header.request u.header.op ss) us
