-- An append.
use Rattle.std.{proofs.{Common.{◌≡◌, inl, inr, ℕ, ◌+◌, ◌<◌, ◌≤◌, nat_lt, true, false, List, [], ◌∷◌, ◌++◌, length, take, Option, Some, None, refl, sym, ◌∙◌, ap, subst, arith, length-append, ltb-false, eqb-true}, lemmas.List.{take-append-le}, lemmas.Bool.{or_parts, not-false, eqb-false}}, specs.Prelude.{◌-◌, ◌^◌}}
use Rattle.df_base.proofs.Laws.{and_false}
use Rattle.df_theory.{specs.{Units.{Header, Message, Session, Parts}, Sessions.{MayAsk}, Shape.{Shape}, View.{View, head, sessions}, Next.{IsStamped, MayAppend, appended}}, proofs.Laws.{in_either, in_single, sessions-append, append_sound}}
use Rattle.df_model.{specs.{Work.{Request, Running, Work}, Codec.{AreLawful}, Refusals.{append_refusals, first_refusal, is_new, is_staged, last_op, next_request, request_refusals, session_of_client}, After.{with_group}, Sense.{AreWaiting, IsCapture, IsWork}, Laws.{AppendMayLaw}, Memory.{Memory, memory_of}, Making.{prepare_of}}, proofs.{Captures.{capture_on}, Tests.{get_front, get_last, all_pass, pass_both}, Groups.{nothing_staged}, Knows.{group_knows, one_fewer}, Sessions.{known_asks, new_asks, noted_lawful}}}
use Rattle.df_model.specs.declared.errors.AppendError.TheVariants as append

-- what is known of a request that isn't refused
pub record IsAllowed (m : Memory) (client request : ℕ) (session : Option Session) : Type 0 where
  pub named : client ≡ 0 → ⊥
  pub places : is_new session ≡ true → length m.sessions ≡ m.layout.clients → ⊥
  pub answered : last_op session ≤ m.replies
  pub next : request ≡ next_request session
  pub pipeline : m.head - m.replies ≡ 8 → ⊥
  pub room : m.head + 1 ≤ m.content.op + m.layout.slots
  pub op : m.head ≡ 2 ^ 62 → ⊥
  pub request_to : request ≤ 2 ^ 62

pub allowed : (m : Memory) (client request : ℕ) (body : List ℕ)
    → first_refusal (request_refusals m client request body) ≡ None → IsAllowed m client request (session_of_client client m.sessions)
allowed m client request body none = let tests = all_pass (request_refusals m client request body) none in
    let last = or_parts _ _ tests.1.1.1.1.1.1.1.1.0 in record {
      named = eqb-false _ _ tests.0;
      places = λ new. eqb-false _ _ (and_false _ _ tests.1.1.0 new);
      answered = ltb-false _ _ tests.1.1.1.1.0;
      next = eqb-true _ _ (not-false _ tests.1.1.1.1.1.0);
      pipeline = eqb-false _ _ tests.1.1.1.1.1.1.0;
      room = ltb-false _ _ tests.1.1.1.1.1.1.1.0;
      op = eqb-false _ _ last.0;
      request_to = ltb-false _ _ last.1;
    }

-- so its client may ask
pub allowed_asks : (m : Memory) (h : Header) (body : List ℕ) → length m.sessions ≤ m.layout.clients
    → m.replies ≤ h.mark → IsAllowed m h.client h.request (session_of_client h.client m.sessions) → MayAsk m.layout.clients h m.sessions
allowed_asks m h body few mark is = go (session_of_client h.client m.sessions) refl is
  where
    go : (o : Option Session)
        → session_of_client h.client m.sessions ≡ o → IsAllowed m h.client h.request o → MayAsk m.layout.clients h m.sessions
    go None at fine = new_asks m.layout.clients h m.sessions at (let full = fine.places refl in omega arith) fine.next
    go (Some s) at fine = known_asks m.layout.clients h m.sessions s at few fine.next (omega (arith, fine.answered, mark))

-- the first request of a new client, or one more
pub some_request : (o : Option Session) → 0 < next_request o
some_request None = omega arith
some_request (Some s) = omega arith

-- nothing is staged
no_requests : (rs : List Request) → (nat_lt 0 (length rs)) ≡ false → rs ≡ []
no_requests [] none = refl
no_requests (r ∷ rs) none = absurd (omega (arith, ltb-false 0 (length (r ∷ rs)) none))

-- an append isn't refused: neither is its request, and nothing is staged
pub both_pass : (m : Memory) (client request : ℕ) (body : List ℕ) → first_refusal (append_refusals m client request body) ≡ None
    → (first_refusal (request_refusals m client request body) ≡ None) × (m.staged ≡ [])
both_pass m client request body none = let tests = (is_staged m, append.Staged (length m.staged)) ∷ [] in
    let both = pass_both (request_refusals m client request body) tests none in (both.0, no_requests m.staged (all_pass tests both.1).0)

module _ (sh : Shape) (spell : Parts → List ℕ) (w : Work) (sum client request : ℕ) (body : List ℕ)
    (work : IsWork sh spell w) (none : first_refusal (append_refusals (memory_of sh spell w) client request body) ≡ None) where
  abbrev v : View
  v = w.view

  abbrev p : Message
  p = prepare_of (memory_of sh spell w) sum client request body

  is : IsAllowed (memory_of sh spell w) client request (session_of_client client (sessions v))
  is = allowed (memory_of sh spell w) client request body (both_pass (memory_of sh spell w) client request body none).0

  asks : MayAsk sh.layout.clients p.header (sessions v)
  asks = allowed_asks (memory_of sh spell w) p.header body work.sessions.few (omega arith) is

  pub may_append : MayAppend sh v (p ∷ [])
  may_append = record {
    is = record {
      some = omega arith;
      turn = (refl, refl, tt);
      stamped = λ q at. rw ((in_single q p at)) (record { mark = refl; checkpoint = refl; boot = refl; group = refl; group_last = refl });
    };
    room = omega (arith, is.room);
    pipeline = omega (arith, is.pipeline, work.view.pipeline);
    unspent = omega (arith, is.op, work.view.head_to);
    asks = (asks, tt);
  }

  head_is : head (appended v (p ∷ [])) ≡ head v + 1
  head_is = omega (arith, length-append v.tail (p ∷ []))

  lawful : client < 2 ^ 128 → AreLawful sh.layout.clients (sessions (appended v (p ∷ [])))
  lawful fits = subst (AreLawful sh.layout.clients) (sym (sessions-append v.checkpoint.parts.sessions v.tail (p ∷ [])))
      (noted_lawful sh.layout.clients p.header (sessions v) work.sessions asks (record {
        client = ((let named = is.named in omega arith), fits);
        request = (omega (arith, is.next, some_request (session_of_client client (sessions v))), is.request_to);
        op = (omega arith, omega (arith, is.op, work.view.head_to));
      }))

  waiting : AreWaiting (appended v (p ∷ [])) (w.waiting ++ sum ∷ [])
  waiting = record {
    count = omega (arith, work.waiting.count, length-append w.waiting (sum ∷ []), head_is);
    each = λ i q at op. elim (in_either q v.tail (p ∷ []) at) [
      | inl old ↦ get_front w.waiting sum i q.header.checksum (work.waiting.each i q old op)
      | inr new ↦ let one : q ≡ p = in_single q p new in let op_is : q.header.op ≡ head v + 1 = ap (λ (x : Message). x.header.op) one in
          get_last w.waiting sum i (omega (arith, op, op_is, work.waiting.count)) ∙ ap (λ (x : Message). Some x.header.checksum) (sym one)
    ];
  }

  capture : (r : Running) → IsCapture sh spell v r → IsCapture sh spell (appended v (p ∷ [])) r
  capture r old = let same : take (r.op - v.checkpoint.content.op) (v.tail ++ p ∷ []) ≡ take (r.op - v.checkpoint.content.op) v.tail =
      take-append-le (r.op - v.checkpoint.content.op) v.tail (p ∷ []) (omega (arith, old.op_to, old.op_from)) in
      capture_on sh spell v r old (v.tail ++ p ∷ []) v.replies (appended v (p ∷ [])).stored same
      (λ q at low. elim (in_either q v.tail (p ∷ []) at) [ inl before ↦ old.ends q before low | inr new ↦ absurd (omega (arith, ap (λ (x : Message). x.header.op) (in_single q p new), old.op_to)) ])
      (omega (arith, old.op_to, head_is))

  -- a group of one
  pub append_keeps : client < 2 ^ 128 → IsWork sh spell (with_group w (p ∷ []))
  append_keeps fits = record {
    codec = work.codec;
    version = record { version = work.version.version; places = work.version.places; names = work.version.names };
    view = append_sound sh v (p ∷ []) work.view may_append;
    staged = nothing_staged sh (appended v (p ∷ [])) (append_sound sh v (p ∷ []) work.view may_append) (lawful fits);
    sessions = lawful fits;
    grid = work.grid;
    waiting = waiting;
    running = λ r at. capture r (work.running r at);
    one = one_fewer w (with_group w (p ∷ [])) (group_knows w (p ∷ [])) work.one;
    sums = work.sums;
    few = work.few;
    clear = work.clear;
  }

pub append_may_law : AppendMayLaw
append_may_law sh spell w sum client request body work none = may_append sh spell w sum client request body work none
