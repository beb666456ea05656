-- The sessions as if what is staged were appended, and what a request that isn't refused may rely on.
use Rattle.std.{proofs.{Common.{◌≡◌, inl, inr, ℕ, zero, suc, ◌+◌, ◌^◌, ◌<◌, ◌≤◌, ◌==◌, Bool, true, false, if◌then◌else◌, List, [], ◌∷◌, ◌++◌, length, take, drop, Option, Some, None, refl, sym, ◌∙◌, ap, subst, arith, length-append, ltb-false, eqb-true}, lemmas.Bool.{eq-eqb, eqb-false}, lemmas.List.{length-map, take_all}, lemmas.Option.{same_Some}}, specs.{Prelude.{is_some, option_map}, List.{slice_get}}}
use Rattle.df_sessions.specs.declared.session.Session as told
use Rattle.df_sessions.specs.Requests as requests
use Rattle.df_sessions.specs.{Requests.{sessions_of}, Table.{IsSessionTable}}
use Rattle.df_theory.specs.{Next.{MayAskInTurn}, Sessions.{MayAsk, noted, session_of_header, sessions_after}, Units.{Header, Session}}
use Rattle.df_model.{specs.{Making.{first_of, prepare_in, prepares_in}, Memory.{Memory}, Refusals.{counted_staged, first_refusal, session_of_client, stage_refusals}, Work.{Request}}, proofs.Laws.{all_pass, allowed, allowed_asks, ask_on, some_request, noted_alike}}
use Rattle.df_opening.specs.Below.{AreStaging, IsRequest, IsState, State, asker_of, asks_of, memory}
use Rattle.df_replica.specs.Flushing.{request_made, sessions_staged, staged_with}

-- what stands at a place
pub request_at : (rs : List Request) (i : ℕ) → i < length rs → (r : Request) × (slice_get rs i ≡ Some r)
request_at [] i inside = absurd (omega (arith, inside))
request_at (r ∷ rs) zero inside = (r, refl)
request_at (r ∷ rs) (suc i) inside = request_at rs i (omega (arith, inside))

-- ---- sessions after requests

-- so the machine's group leads to the same sessions as what it asks, where this many replies are stored
pub group_sessions : (m : Memory) (f l op p replies : ℕ) (rs : List Request) (sums : List ℕ) (ss : List Session)
    → sessions_after ss (prepares_in m f l op p rs sums) ≡ sessions_after ss (asks_of replies op rs)
group_sessions m f l op p replies [] sums ss = refl
group_sessions m f l op p replies (r ∷ rs) sums ss = let h = (prepare_in m f l op p (first_of sums) r).header in
    group_sessions m f l (op + 1) (first_of sums) replies rs (drop 1 sums) (noted h ss)
    ∙ ap (λ (x : List Session). sessions_after x (asks_of replies (op + 1) rs)) (noted_alike h (asker_of replies op r) ss refl)

-- all that is staged
pub all_staged : (s : State) → (counted_staged (memory s)).sessions ≡ sessions_staged s.table.sessions s.staged s.head (length s.staged)
all_staged s = group_sessions
    (memory s) (s.head + 1) (s.head + length s.staged) (s.head + 1) (memory s).head_checksum 0 s.staged [] (sessions_of s.table.sessions)
    ∙ ap (λ (rs : List Request).
    sessions_after (sessions_of s.table.sessions) (asks_of 0 (s.head + 1) rs)) (sym (take_all (length s.staged) s.staged (omega arith)))

-- one more
behind_more : (op n : ℕ) (rs : List Request) (r : Request) (ss : List Session) → slice_get rs n ≡ Some r
    → sessions_after ss (asks_of 0 op (take (suc n) rs)) ≡ noted (asker_of 0 (op + n) r) (sessions_after ss (asks_of 0 op (take n rs)))
behind_more op n [] r ss at = absurd (cc)
behind_more op zero (x ∷ rs) r ss at = let one : x ≡ r = same_Some _ _ at in let same : op ≡ op + 0 = omega arith in
    λ i. noted (asker_of 0 (same i) (one i)) ss
behind_more op (suc n) (x ∷ rs) r ss at = let same : op + 1 + n ≡ op + suc n = omega arith in
    behind_more (op + 1) n rs r (noted (asker_of 0 op x) ss) at
    ∙ ap (λ (k : ℕ). noted (asker_of 0 k r) (sessions_after (noted (asker_of 0 op x) ss) (asks_of 0 (op + 1) (take n rs)))) same

pub staged_more : (table : List told.Session) (rs : List Request) (head n next op : ℕ) (r : Request) → slice_get rs n ≡ Some r
    → next ≡ n + 1 → op ≡ head + next → sessions_staged table rs head next ≡ noted (asker_of 0 op r) (sessions_staged table rs head n)
staged_more table rs head n next op r at more here = let one : next ≡ suc n = omega (arith, more) in
    let there : head + 1 + n ≡ op = omega (arith, more, here) in ap (λ (k : ℕ). sessions_staged table rs head k) one
    ∙ behind_more (head + 1) n rs r (sessions_of table) at ∙ ap (λ (k : ℕ). noted (asker_of 0 k r) (sessions_staged table rs head n)) there

-- ---- the session of a client after one of them

own_case : (client : ℕ) (h : Header) (x : Session) (ss rest : List Session) (b : Bool)
    → (x.client == h.client) ≡ b → h.client ≡ client → session_of_client client rest ≡ Some (session_of_header h)
    → session_of_client client (if b then session_of_header h ∷ ss else x ∷ rest) ≡ Some (session_of_header h)
own_case client h x ss rest true is own more = let same : (h.client == client) ≡ true = eq-eqb h.client client own in rw same refl
own_case client h x ss rest false is own more =
    let other : (x.client == client) ≡ false = subst (λ (k : ℕ). (x.client == k) ≡ false) own is in rw other more

pub own_session : (client : ℕ) (h : Header) (ss : List Session)
    → h.client ≡ client → session_of_client client (noted h ss) ≡ Some (session_of_header h)
own_session client h [] own = let same : (h.client == client) ≡ true = eq-eqb h.client client own in rw same refl
own_session client h (x ∷ ss) own = own_case client h x ss (noted h ss) (x.client == h.client) refl own (own_session client h ss own)

other_case : (client : ℕ) (h : Header) (x : Session) (ss rest : List Session) (b : Bool)
    → (x.client == h.client) ≡ b → (h.client == client) ≡ false → session_of_client client rest ≡ session_of_client client ss
    → session_of_client client (if b then session_of_header h ∷ ss else x ∷ rest)
    ≡ (if x.client == client then Some x else session_of_client client ss)
other_case client h x ss rest true is other more =
    let apart : (x.client == client) ≡ false = subst (λ (k : ℕ). (k == client) ≡ false) (sym (eqb-true x.client h.client is)) other in
    rw (other, apart) refl
other_case client h x ss rest false is other more = ap (λ (o : Option Session). if x.client == client then Some x else o) more

pub other_session : (client : ℕ) (h : Header) (ss : List Session)
    → (h.client == client) ≡ false → session_of_client client (noted h ss) ≡ session_of_client client ss
other_session client h [] other = rw other refl
other_session client h (x ∷ ss) other = other_case client h x ss (noted h ss) (x.client == h.client) refl other (other_session client h ss other)

-- ---- how many there are

known_case : (h : Header) (x s : Session) (ss : List Session) (b : Bool) → (if b then Some x else session_of_client h.client ss) ≡ Some s
    → (session_of_client h.client ss ≡ Some s → length (noted h ss) ≡ length ss)
    → length (if b then session_of_header h ∷ ss else x ∷ noted h ss) ≡ length (x ∷ ss)
known_case h x s ss true there more = omega arith
known_case h x s ss false there more = omega (arith, more there)

pub count_known : (h : Header) (s : Session) (ss : List Session) → session_of_client h.client ss ≡ Some s → length (noted h ss) ≡ length ss
count_known h s [] there = absurd (cc)
count_known h s (x ∷ ss) there = known_case h x s ss (x.client == h.client) there (λ at. count_known h s ss at)

new_case : (h : Header) (x : Session) (ss : List Session) (b : Bool) → (if b then Some x else session_of_client h.client ss) ≡ None
    → (session_of_client h.client ss ≡ None → length (noted h ss) ≡ length ss + 1)
    → length (if b then session_of_header h ∷ ss else x ∷ noted h ss) ≡ length (x ∷ ss) + 1
new_case h x ss true there more = absurd (cc)
new_case h x ss false there more = omega (arith, more there)

pub count_new : (h : Header) (ss : List Session) → session_of_client h.client ss ≡ None → length (noted h ss) ≡ length ss + 1
count_new h [] there = omega arith
count_new h (x ∷ ss) there = new_case h x ss (x.client == h.client) there (λ at. count_new h ss at)

-- a request of a client takes a place where the client has no session
pub count_one : (op client : ℕ) (r : Request) (ss : List Session) (o : Option told.Session)
    → client ≡ r.client → session_of_client client ss ≡ option_map requests.session_of o
    → (is_some o ≡ false → length (noted (asker_of 0 op r) ss) ≡ length ss + 1)
    × (is_some o ≡ true → length (noted (asker_of 0 op r) ss) ≡ length ss)
count_one op client r ss None same there =
    (λ none. count_new (asker_of 0 op r) ss (subst (λ (k : ℕ). session_of_client k ss ≡ None) same there), λ some. absurd (cc))
count_one op client r ss (Some s) same there =
    (λ none. absurd (cc), λ some. count_known (asker_of 0 op r) (requests.session_of s) ss (subst (λ (k : ℕ). session_of_client k ss ≡ Some (requests.session_of s)) same there))

-- ---- a request more

asks_more : (places replies op o : ℕ) (rs : List Request) (r : Request) (ss : List Session)
    → MayAskInTurn places ss (asks_of replies op rs) → MayAsk places (asker_of replies o r) (sessions_after ss (asks_of replies op rs))
    → MayAskInTurn places ss (asks_of replies op (rs ++ r ∷ []))
asks_more places replies op o [] r ss asks may =
    (ask_on places (asker_of replies o r) (asker_of replies op r) ss refl refl (omega arith) may, tt)
asks_more places replies op o (x ∷ rs) r ss asks may =
    (asks.0, asks_more places replies (op + 1) o rs r (noted (asker_of replies op x) ss) asks.1 may)

pub get_pushed : {X : Type 0} (P : X → Type 0) (xs : List X) (y : X)
    → ((i : ℕ) (x : X) → slice_get xs i ≡ Some x → P x) → P y → (i : ℕ) (x : X) → slice_get (xs ++ y ∷ []) i ≡ Some x → P x
get_pushed P [] y all new zero x at = subst P (same_Some _ _ at) new
get_pushed P [] y all new (suc i) x at = absurd (cc)
get_pushed P (z ∷ xs) y all new zero x at = all 0 x at
get_pushed P (z ∷ xs) y all new (suc i) x at = get_pushed P xs y (λ j w there. all (suc j) w there) new i x at

-- no client has asked more often than there are places
staged_few : (room replies op : ℕ) (rs : List Request) (ss : List Session)
    → MayAskInTurn room ss (asks_of replies op rs) → length ss ≤ room → length (sessions_after ss (asks_of replies op rs)) ≤ room
staged_few room replies op [] ss asks few = few
staged_few room replies op (r ∷ rs) ss asks few =
    staged_few room replies (op + 1) rs (noted (asker_of replies op r) ss) asks.1 (noted_few room (asker_of replies op r) ss asks.0 few)
  where
    few_case : (h : Header) (x : Session) (ys rest : List Session) (k : ℕ) (b : Bool)
        → (x.client == h.client) ≡ b → MayAsk k h (x ∷ ys) → length ys + 1 ≤ k
        → ((n : ℕ) → MayAsk n h ys → length ys ≤ n → length rest ≤ n) → length (if b then session_of_header h ∷ ys else x ∷ rest) ≤ k
    few_case h x ys rest k true is may less more = omega (arith, less)
    few_case h x ys rest k false is (inl here) less more = absurd (eqb-false x.client h.client is here.0)
    few_case h x ys rest k false is (inr there) less more = omega (arith, more there.1 there.3 (omega (arith, there.2, less)), there.2)

    noted_few : (k : ℕ) (h : Header) (ys : List Session) → MayAsk k h ys → length ys ≤ k → length (noted h ys) ≤ k
    noted_few k h [] may less = omega (arith, may.1)
    noted_few k h (x ∷ ys) may less = few_case
        h x ys (noted h ys) k (x.client == h.client) refl may (omega (arith, less)) (λ n asking fewer. noted_few n h ys asking fewer)

pub may_stage : (s : State) (client request : ℕ) (body : List ℕ) → IsState s → IsSessionTable s.table → client < 2 ^ 128
    → first_refusal (stage_refusals (memory s) client request body) ≡ None → AreStaging (staged_with s (request_made client request body))
may_stage s client request body is table fits none = let m : Memory = counted_staged (memory s) in
    let r : Request = request_made client request body in let ss : List Session = sessions_of s.table.sessions in
    let may = allowed m client request body none in let tests = all_pass (stage_refusals (memory s) client request body) none in
    let more : length (s.staged ++ r ∷ []) ≡ length s.staged + 1 = length-append s.staged (r ∷ []) in
    let same : m.sessions ≡ sessions_after ss (asks_of s.replies (s.head + 1) s.staged) =
    group_sessions (memory s) (s.head + 1) (s.head + length s.staged) (s.head + 1) (memory s).head_checksum s.replies s.staged [] ss in
    let few : length m.sessions ≤ m.layout.clients =
    subst (λ (xs : List Session). length xs ≤ s.file.layout.clients) (sym same) (staged_few s.file.layout.clients s.replies
    (s.head + 1) s.staged ss is.staging.asks (omega (arith, length-map s.table.sessions requests.session_of, table.within, is.places))) in
    let asks : MayAsk s.file.layout.clients (asker_of s.replies 0 r) m.sessions =
    allowed_asks m (asker_of s.replies 0 r) body few (omega arith) may in record {
      pipeline = omega (arith, more, may.pipeline, is.staging.pipeline, is.waiting);
      behind = omega (arith, more, may.room);
      unspent = omega (arith, more, may.op, is.staging.unspent);
      each = get_pushed (IsRequest s.file.layout) s.staged r is.staging.each (record {
        client = ((let named = may.named in omega arith), fits);
        request = (omega (arith, may.next, some_request (session_of_client client m.sessions)), may.request_to);
        fits = (let fits = ltb-false _ _ tests.1.0 in omega (arith, s.file.layout.message_size_within.0));
      });
      asks = asks_more s.file.layout.clients
          s.replies (s.head + 1) 0 s.staged r ss is.staging.asks (subst (MayAsk s.file.layout.clients (asker_of s.replies 0 r)) same asks);
    }
