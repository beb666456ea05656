-- What a request makes of a table, where the client is known and where it is new.
use Rattle.std.{proofs.Common.{IsSome, Option, ◌≡◌, ◌≢◌, ℕ, ◌<◌, ◌⊎◌, inl, inr, Some, None, List, [], ◌∷◌, ◌++◌, length, get_or, set, arith, sym, subst, ◌∙◌, ap}, specs.List.{position, slice_get}}
use Rattle.df_theory.specs.{Units.{Header}, Sessions.{noted, session_of_header}}
use Rattle.df_sessions.{specs.{declared.session.Session.{Session}, Table.{Table, IsSessionTable, IsKnownClient, has_client, requested, with_request, with_reply_stored}, Changes.{Change, changed, sessions_after}, Changes.Change.{Request, Reply}, Requests.{sessions_of}}, proofs.{Kept.{request_keeps, reply_keeps}, Noted.{one_more, request_noted}, Places.{IsFirst, first_place, request_known, request_new, place_known, place_new, reply_at, get_set_same, get_set_other, get_push_last, get_push_other}}}

-- the request of a client is at this place, and nothing else has changed: what `apply` ensures
abbrev pub HasRequest : ℕ → ℕ → ℕ → ℕ → Table → List Session → ℕ → Type 0
HasRequest max client request op old new k = record {
  sessions : new ≡ with_request client request op old.sessions;
  places : max ≡ old.max;
  place : position (has_client client) new ≡ Some k;
  there : slice_get new k ≡ Some (requested client request op);
  others : (i : ℕ) → i ≢ k → slice_get new i ≡ slice_get old.sessions i;
  history : (changes : List Change) → old.sessions ≡ sessions_after changes → new ≡ sessions_after (changes ++ Request client request op ∷ []);
  noted : (h : Header)
      → session_of_header h ≡ record { client = client; request = request; op = op } → sessions_of new ≡ noted h (sessions_of old.sessions);
}

-- what was so after changes is so after one more
pub history_on : (change : Change) (old new : List Session) → new ≡ changed change old
    → (changes : List Change) → old ≡ sessions_after changes → new ≡ sessions_after (changes ++ change ∷ [])
history_on change old new step changes before = step ∙ ap (λ (all : List Session). changed change all) before ∙ sym (one_more changes change [])

known_list : (max client request op : ℕ) (old : Table) (new : List Session) (k : ℕ)
    → max ≡ old.max → Some k ≡ position (has_client client) old.sessions
    → new ≡ set old.sessions k (requested client request op) → HasRequest max client request op old new k
known_list max client request op old new k most found put = let d : Session = requested client request op in
    let first : IsFirst (has_client client) old.sessions k d = first_place (has_client client) old.sessions k d (sym found) in
    let step : with_request client request op old.sessions ≡ set old.sessions k d = request_known client request op old.sessions k d first in
    record {
      sessions = put ∙ sym step;
      places = most;
      place = rw put (rw (← step) (place_known client request op old.sessions k d first));
      there = rw put (get_set_same old.sessions k d first.within);
      others = λ i other. rw put (get_set_other old.sessions k i d other);
      history = history_on (Request client request op) old.sessions new (put ∙ sym step);
      noted = λ h is.
          ap sessions_of (put ∙ sym step) ∙ request_noted (record { client = client; request = request; op = op }) h old.sessions is;
    }

new_list : (max client request op : ℕ) (old : Table) (new : List Session) → max ≡ old.max → None ≡ position (has_client client) old.sessions
    → new ≡ old.sessions ++ requested client request op ∷ [] → HasRequest max client request op old new (length old.sessions)
new_list max client request op old new most none push = let d : Session = requested client request op in
    let step : with_request client request op old.sessions ≡ old.sessions ++ d ∷ [] = request_new client request op old.sessions d (sym none) in
    record {
      sessions = push ∙ sym step;
      places = most;
      place = rw push (rw (← step) (place_new client request op old.sessions d (sym none)));
      there = rw push (get_push_last old.sessions d);
      others = λ i other. rw push (get_push_other old.sessions i d other);
      history = history_on (Request client request op) old.sessions new (push ∙ sym step);
      noted = λ h is.
          ap sessions_of (push ∙ sym step) ∙ request_noted (record { client = client; request = request; op = op }) h old.sessions is;
    }

-- for a table that is seen as its fields
pub known_client : (max client request op : ℕ) (items new : List Session) (k : ℕ) (now : Table) → record { max = max; sessions = items } ≡ now
    → Some k ≡ position (has_client client) now.sessions
    → new ≡ set items k (requested client request op) → HasRequest max client request op now new k
known_client max client request op items new k now view found put = let same : items ≡ now.sessions = ap (λ (t : Table). t.sessions) view in
    known_list max client request
    op now new k (ap (λ (t : Table). t.max) view) found (put ∙ ap (λ (all : List Session). set all k (requested client request op)) same)

pub new_client : (max client request op : ℕ) (items new : List Session) (k : ℕ) (now : Table) → record { max = max; sessions = items } ≡ now
    → None ≡ position (has_client client) now.sessions
    → new ≡ items ++ requested client request op ∷ [] → k ≡ length items → HasRequest max client request op now new k
new_client max client request op items new k now view none push last =
    let same : items ≡ now.sessions = ap (λ (t : Table). t.sessions) view in
    let is : HasRequest max client request op now new (length now.sessions) =
    new_list max client request
    op now new (ap (λ (t : Table). t.max) view) none (push ∙ ap (λ (all : List Session). all ++ requested client request op ∷ []) same) in
    subst (λ (n : ℕ). HasRequest max client request op now new n) (sym (last ∙ ap length same)) is

-- the table stays one
pub stays_table : (max client request op : ℕ) (items new : List Session) (place : ℕ) (now : Table) → record { max = max; sessions = items } ≡ now
    → IsSessionTable (record { max = max; sessions = items }) → client ≢ 0 → IsKnownClient client now.sessions ⊎ (length now.sessions < now.max)
    → HasRequest max client request op now new place → IsSessionTable (record { max = max; sessions = new })
stays_table max client request op items new place now view is named room has =
    let old : IsSessionTable now = subst IsSessionTable view is in
    let kept : IsSessionTable (record { max = now.max; sessions = with_request client request op now.sessions }) =
    request_keeps now.max client request op now.sessions old named room in rw (has.places, has.sessions) kept

-- there is room for a new client
pub has_room : (max client : ℕ) (items : List Session) (now : Table) → record { max = max; sessions = items } ≡ now
    → IsSessionTable (record { max = max; sessions = items }) → None ≡ position (has_client client) now.sessions
    → IsKnownClient client now.sessions ⊎ (length now.sessions < now.max) → length items < 64
has_room max client items now view is none room = let same : items ≡ now.sessions = ap (λ (t : Table). t.sessions) view in
    let most : max ≡ now.max = ap (λ (t : Table). t.max) view in let long : length items ≡ length now.sessions = ap length same in
    elim room [
      | inl known ↦ (let no : IsSome {T = ℕ} None = rw (sym none) at known in cc)
      | inr left ↦ omega arith
    ]

-- what a stored reply makes of a table
pub replied : (max place : ℕ) (reply : List ℕ) (items new : List Session) (d : Session) (now : Table)
    → record { max = max; sessions = items } ≡ now → place < length now.sessions
    → new ≡ set items place (record (get_or items place d) { reply = Some reply }) → new ≡ with_reply_stored place reply now.sessions
replied max place reply items new d now view within put = let same : items ≡ now.sessions = ap (λ (t : Table). t.sessions) view in
    put ∙ ap (λ (all : List Session). set all place (record (get_or all place d) { reply = Some reply })) same
    ∙ sym (reply_at place reply now.sessions d within)

-- the reply of the session at this place is stored, and nothing else has changed
pub record HasReply (place : ℕ) (reply : List ℕ) (old new : List Session) : Type 0 where
  pub sessions : new ≡ with_reply_stored place reply old
  pub others : (k : ℕ) → k ≢ place → slice_get new k ≡ slice_get old k
  pub history : (changes : List Change) → old ≡ sessions_after changes → new ≡ sessions_after (changes ++ Reply place reply ∷ [])

pub has_reply : (max place : ℕ) (reply : List ℕ) (items new : List Session) (d : Session) (now : Table)
    → record { max = max; sessions = items } ≡ now → place < length now.sessions
    → new ≡ set items place (record (get_or items place d) { reply = Some reply }) → HasReply place reply now.sessions new
has_reply max place reply items new d now view within put =
    let step : new ≡ with_reply_stored place reply now.sessions = replied max place reply items new d now view within put in
    let same : items ≡ now.sessions = ap (λ (t : Table). t.sessions) view in record {
      sessions = step;
      others = λ k other. rw put (get_set_other items place k (record (get_or items place d) { reply = Some reply }) other)
          ∙ ap (λ (all : List Session). slice_get all k) same;
      history = history_on (Reply place reply) now.sessions new step;
    }

pub reply_stays_table : (max place : ℕ) (reply : List ℕ) (items new : List Session) (now : Table) → record { max = max; sessions = items } ≡ now
    → IsSessionTable (record { max = max; sessions = items })
    → HasReply place reply now.sessions new → IsSessionTable (record { max = max; sessions = new })
reply_stays_table max place reply items new now view is has = let old : IsSessionTable now = subst IsSessionTable view is in
    let most : max ≡ now.max = ap (λ (t : Table). t.max) view in
    let kept : IsSessionTable (record { max = now.max; sessions = with_reply_stored place reply now.sessions }) =
    reply_keeps now.max place reply now.sessions old in rw (most, has.sessions) kept
