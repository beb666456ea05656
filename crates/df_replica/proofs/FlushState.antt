-- The state after a group that is noted makes sense.
use Rattle.std.{proofs.{Common.{◌≡◌, ◌⊎◌, inl, inr, ℕ, suc, ◌+◌, ◌^◌, ◌<◌, ◌≤◌, ◌==◌, Bool, true, false, if◌then◌else◌, List, [], ◌∷◌, ◌++◌, length, Option, Some, None, refl, sym, ◌∙◌, ap, subst, arith, append_assoc, length-append}, lemmas.Bool.{cond-true, eq-eqb}, lemmas.List.{append-nil}}, specs.List.{slice_get}}
use Rattle.{df_layout.specs.declared.layout.Layout.{Layout}, df_headers.specs.Ring.{IsHeaderTable}, df_buffers.specs.Sounds.{Holding}}
use Rattle.{df_base.{specs.Fields.{check_of}, proofs.Laws.{AreBytes-check_of, length-check_of}}, df_journal.specs.Flush.{held_prepares}}
use Rattle.df_format.specs.{declared.header.Header.{Header}, Message.{Message}, Spelling.{IsCheck}}
use Rattle.df_model.specs.{Refusals.{is_new, session_of_client}, Work.{Request}}
use Rattle.df_opening.{specs.Below.{AreAsked, IsRequest, IsState, State, asker_of, asks_of}, proofs.Laws.{asked_noted, course_on, level_beyond, staging_none}}
use Rattle.df_sessions.specs.declared.session.Session as told
use Rattle.df_sessions.{specs.{Requests.{sessions_of}, Table.{IsKnownClient, Table, with_request}}, proofs.Laws.{length_sessions}}
use Rattle.df_theory.{specs.{Next.{MayAskInTurn}, Sessions.{MayAsk, Tracks, noted}}, proofs.Laws.{tracks_noted}}
use Rattle.df_theory.specs.Units
use Rattle.df_replica.{specs.{declared.flush.Group.{Group}, Appending.{unit_made}, Flushing.{HavePlaces, checks_of, flush_units, flushed, group_in, group_prepares, header_in, last_check, with_requests}}, proofs.{AppendMemory.{noted_table}, AppendTests.{known_client, numbered_on}}}
use Rattle.df_replica.specs.Appending as appending

-- ---- a place for each client

-- a new client that may ask has one
asks_place : (room : ℕ) (h : Units.Header) (ss : List Units.Session) → MayAsk room h ss → session_of_client h.client ss ≡ None → length ss < room
asks_place room h [] may none = omega (arith, may.1)
asks_place room h (x ∷ ss) (inl here) none = absurd (let same : (x.client == h.client) ≡ true = eq-eqb x.client h.client here.0 in
    let some : None ≡ Some x = sym none ∙ cond-true (x.client == h.client) (Some x) (session_of_client h.client ss) same in cc)
asks_place room h (x ∷ ss) (inr there) none = omega (arith, there.2, asks_place there.1 h ss there.3 (other (x.client == h.client) none))
  where
    other : (b : Bool) → (if b then Some x else session_of_client h.client ss) ≡ None → session_of_client h.client ss ≡ None
    other true is = absurd (cc)
    other false is = is

has_place : (room : ℕ) (h : Units.Header) (ss : List told.Session) → MayAsk room h (sessions_of ss) → (o : Option Units.Session)
    → session_of_client h.client (sessions_of ss) ≡ o → length (sessions_of ss) ≡ length ss → IsKnownClient h.client ss ⊎ (length ss < room)
has_place room h ss may None at same = inr (omega (arith, asks_place room h (sessions_of ss) may at, same))
has_place room h ss may (Some s) at same = inl (known_client h.client ss (ap is_new at))

pub have_places : (layout : Layout) (g : Group) (replies op : ℕ) (parent : List ℕ) (rs : List Request) (ss : List told.Session) → ((i : ℕ)
    (r : Request) → slice_get rs i ≡ Some r → IsRequest layout r) → MayAskInTurn layout.clients (sessions_of ss) (asks_of replies op rs)
    → HavePlaces layout.clients ss (group_prepares g op parent rs)
have_places layout g replies op parent [] ss each asks = tt
have_places layout g replies op parent (r ∷ rs) ss each asks = let h = asker_of replies op r in (
  (each 0 r refl).client.0,
  has_place layout.clients h ss asks.0 (session_of_client r.client (sessions_of ss)) refl (length_sessions ss),
  have_places layout g replies (op
      + 1) (unit_made (header_in g op parent r) r.body).header.checksum rs (with_request r.client r.request op ss) (λ i x at. each (suc i) x at)
      (subst (λ (xs : List Units.Session). MayAskInTurn layout.clients xs (asks_of replies (op + 1) rs)) (sym (noted_table h ss)) asks.1),
)

-- ---- one of them

-- its request has its turn
record HasTurn (s : State) (h : Header) : Type 0 where
  op : h.op ≡ s.head + 1
  sum : IsCheck h.checksum
  request : (0 < h.request) × (h.request ≤ 2 ^ 62)
  unspent : s.head < 2 ^ 62
  room : s.head + 1 ≤ s.fields.op + s.file.layout.slots
  few : length s.waiting < 8
  asks : MayAsk s.file.layout.clients
      (asker_of s.replies h.op (record { client = h.client; request = h.request; body = [] })) (sessions_of s.table.sessions)

noted_state : (s : State) (h : Header) → IsState s → s.staged ≡ [] → HasTurn s h → IsState (appending.noted s h)
noted_state s h is none turn =
    let a : Units.Header = asker_of s.replies h.op (record { client = h.client; request = h.request; body = [] }) in
    let ss = s.table.sessions in
    let sessions : sessions_of (with_request h.client h.request h.op ss) ≡ noted a (sessions_of ss) = noted_table a ss in
    let more : length (s.waiting ++ h.checksum ∷ []) ≡ length s.waiting + 1 = length-append s.waiting (h.checksum ∷ []) in record {
      in_file = is.in_file;
      booted = is.booted;
      ends = record {
        parent = turn.sum;
        order = omega (arith, is.order);
        room = turn.room;
        head_to = omega (arith, turn.unspent);
        first = λ zero_head. absurd (omega (arith, zero_head));
        level = λ same. absurd (omega (arith, same, is.order));
      };
      awaits = record {
        waiting = omega (arith, is.waiting, more);
        few = omega (arith, turn.few, more);
        places = is.places;
        requests = numbered_on h.client h.request h.op ss is.requests turn.request.1;
        asked = subst AreAsked (sym sessions) (asked_noted a (sessions_of ss) is.asked turn.request.0);
        tracks = subst (λ (xs : List Units.Session). Tracks s.replies (s.head + 1) xs) (sym sessions) (tracks_noted
            s.file.layout.clients s.replies s.replies s.head a (sessions_of ss) is.tracks turn.asks turn.op (omega arith) (omega arith));
      };
      staging = staging_none (appending.noted s h) none (omega (arith, is.waiting, turn.few)) turn.room (omega (arith, turn.unspent));
      captured = level_beyond s.file s.fields s.head (s.head + 1) h.checksum s.blocks s.running (omega arith) is.course;
      course = course_on s.file s.fields s.head (s.head + 1) s.blocks s.running (omega arith) is.course;
    }

-- ---- all of them

abbrev pub noted_all : State → List Message → State
noted_all s [] = s
noted_all s (u ∷ us) = noted_all (appending.noted s u.header) us

check_is : (bytes : List ℕ) → IsCheck (check_of bytes)
check_is bytes = record { size = length-check_of bytes; each = AreBytes-check_of bytes }

all_noted : (s : State) (g : Group) (op : ℕ) (parent : List ℕ) (rs : List Request) → IsState s → s.staged ≡ [] → op ≡ s.head + 1
    → s.head + length rs ≤ 2 ^ 62 → s.head + length rs ≤ s.fields.op + s.file.layout.slots → length s.waiting + length rs ≤ 8
    → ((i : ℕ) (r : Request) → slice_get rs i ≡ Some r → IsRequest s.file.layout r) → MayAskInTurn
    s.file.layout.clients (sessions_of s.table.sessions) (asks_of s.replies op rs) → IsState (noted_all s (group_prepares g op parent rs))
all_noted s g op parent [] is none here unspent room few each asks = is
all_noted s g op parent (r ∷ rs) is none here unspent room few each asks = let u = unit_made (header_in g op parent r) r.body in
    let h = u.header in
    let more : length (s.waiting ++ h.checksum ∷ []) ≡ length s.waiting + 1 = length-append s.waiting (h.checksum ∷ []) in
    let turn : HasTurn s h = record {
      op = here;
      sum = check_is _;
      request = (each 0 r refl).request;
      unspent = omega (arith, unspent);
      room = omega (arith, room);
      few = omega (arith, few);
      asks = asks.0;
    } in all_noted (appending.noted s h) g (op + 1) h.checksum rs (noted_state s h is none turn)
    none (omega (arith, here)) (omega (arith, unspent)) (omega (arith, room)) (omega (arith, few, more)) (λ i x at. each (suc i) x at)
    (subst (λ (xs : List Units.Session). MayAskInTurn s.file.layout.clients xs (asks_of s.replies (op + 1) rs))
    (sym (noted_table (asker_of s.replies op r) s.table.sessions)) asks.1)

-- one after the other, or all at once
noted_whole : (s : State) (us : List Message)
    → noted_all s us ≡ record s { head = s.head + length us; head_checksum = last_check s.head_checksum us; waiting = s.waiting ++ checks_of us; table = record s.table { sessions = with_requests us s.table.sessions } }
noted_whole s [] = λ i. let head : s.head ≡ s.head + 0 = omega arith in record s { head = head i; waiting = sym (append-nil s.waiting) i }
noted_whole s (u ∷ us) = let t = appending.noted s u.header in let head : s.head + 1 + length us ≡ s.head + length (u ∷ us) = omega arith in
    noted_whole t us ∙ (λ i. record s {
      head = head i;
      head_checksum = last_check u.header.checksum us;
      waiting = append_assoc s.waiting (u.header.checksum ∷ []) (checks_of us) i;
      table = record s.table { sessions = with_requests us t.table.sessions };
    })

-- nothing is staged then
pub unstaged : (s : State) (headers : List Header)
    → IsState s → IsHeaderTable s.file.layout s.file.cluster headers → IsState (record s { headers = headers; staged = [] })
unstaged s headers is ring = record {
  in_file = record { cluster = is.cluster; version = is.version; second = is.second; sequence = is.sequence; root = is.root; ring = ring };
  booted = is.booted;
  ends = is.ends;
  awaits = is.awaits;
  staging = staging_none (record s { headers = headers; staged = [] }) refl (omega (arith, is.waiting, is.few)) is.room is.head_to;
  captured = is.captured;
  course = is.course;
}

-- the state that a flush leads to, with the headers as they are after it
pub flushed_state : (s : State) (headers : List Header)
    → IsState s → IsHeaderTable s.file.layout s.file.cluster headers → IsState (record (flushed s (flush_units s)) { headers = headers })
flushed_state s headers is ring = let t : State = record s { headers = headers; staged = [] } in
    subst IsState (noted_whole t (flush_units s))
    (all_noted t (group_in s) (s.head + 1) s.head_checksum s.staged (unstaged s headers is ring)
    refl refl is.staging.unspent is.staging.behind (omega (arith, is.staging.pipeline, is.waiting)) is.staging.each is.staging.asks)

-- what is noted of the rooms that hold them, with the headers that are then there
pub flushed_as : (s : State) (us : List Message) (lent : List Holding) (head : ℕ) (check : List ℕ) (waiting : List (List ℕ))
    (table : Table) (headers : List Header) (staged : List Request) → held_prepares lent ≡ us → head ≡ s.head + length lent
    → check ≡ last_check s.head_checksum (held_prepares lent) → waiting ≡ s.waiting ++ checks_of (held_prepares lent)
    → table ≡ record s.table { sessions = with_requests (held_prepares lent) s.table.sessions } → staged ≡ [] → length lent ≡ length us
    → record s { head = head; head_checksum = check; waiting = waiting; table = table; headers = headers; staged = staged }
    ≡ record (flushed s us) { headers = headers }
flushed_as s us lent head check waiting table headers staged of heads checks waits tables none count =
    let top : head ≡ s.head + length us = omega (arith, heads, count) in λ i. record s {
      head = top i;
      head_checksum = (checks ∙ ap (last_check s.head_checksum) of) i;
      waiting = (waits ∙ ap (λ (xs : List Message). s.waiting ++ checks_of xs) of) i;
      table = (tables ∙ ap (λ (xs : List Message). record s.table { sessions = with_requests xs s.table.sessions }) of) i;
      headers = headers;
      staged = none i;
    }
