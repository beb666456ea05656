-- What may be done isn't refused.
use Rattle.std.{proofs.{Common.{◌≡◌, inl, inr, ℕ, ◌+◌, ◌<◌, ◌≤◌, ◌==◌, ◌&&◌, not, nat_le, nat_lt, Bool, true, false, if◌then◌else◌, List, [], ◌∷◌, ◌++◌, length, Option, Some, None, refl, sym, ◌∙◌, ap, subst, arith, length-append, ne_eqb, le-ltb, eqb-true, eq-eqb}, lemmas.Bool.Decides.{nat_tests}, lemmas.Bool.{or_from, eqb-false}}, specs.Prelude.{◌^◌}}
use Rattle.df_theory.specs.{Units.{Header, Session}, Sessions.{MayAsk}, View.{head, sessions}}
use Rattle.df_model.specs.declared.errors.AppendError.TheVariants as append
use Rattle.df_model.{specs.{Refusals.{counted_staged, first_refusal, is_last_request, is_new, is_staged, last_op, next_request, reply_refusals, request_refusals, session_of_client}, Work.{Request}, After.{with_staged}, Laws.{AppendExactLaw, ReplyExactLaw, StageExactLaw}, Memory.{Memory, memory_of, message_room}, Making.{prepare_in, prepare_of}}, proofs.{Tests.{AllPass, behind_decides}, Groups.{alike_sessions, asks_behind, length_in}}}

pass_one : {E : Type 0} (b : Bool) (e : E) (ts : List (Bool × E))
    → b ≡ false → first_refusal ts ≡ None → (if b then Some e else first_refusal ts) ≡ None
pass_one true e ts is rest = absurd (cc)
pass_one false e ts is rest = rest

pub pass_all : {E : Type 0} (ts : List (Bool × E)) → AllPass ts → first_refusal ts ≡ None
pass_all [] all = refl
pass_all (t ∷ ts) all = pass_one t.0 t.1 ts all.0 (pass_all ts all.1)

-- what who may ask has asked before
pub record HasAsked (room : ℕ) (ss : List Session) (h : Header) (o : Option Session) : Type 0 where
  pub next : h.request ≡ next_request o
  pub answered : last_op o ≤ h.mark
  pub place : is_new o ≡ true → length ss < room

asked_case : (room : ℕ) (h : Header) (x : Session) (ss : List Session) (b : Bool)
    → (x.client == h.client) ≡ b → MayAsk room h (x ∷ ss) → ((k : ℕ) → MayAsk k h ss → HasAsked k ss h (session_of_client h.client ss))
    → HasAsked room (x ∷ ss) h (if b then Some x else session_of_client h.client ss)
asked_case room h x ss true is (inl here) more = record { next = here.1; answered = here.2; place = λ none. absurd (cc) }
asked_case room h x ss true is (inr there) more = absurd (there.0 (eqb-true x.client h.client is))
asked_case room h x ss false is (inl here) more = absurd (eqb-false x.client h.client is here.0)
asked_case room h x ss false is (inr there) more = let rest = more there.1 there.3 in
    record { next = rest.next; answered = rest.answered; place = λ new. omega (arith, rest.place new, there.2) }

has_asked : (room : ℕ) (h : Header) (ss : List Session) → MayAsk room h ss → HasAsked room ss h (session_of_client h.client ss)
has_asked room h [] may = record { next = may.0; answered = omega arith; place = λ new. may.1 }
has_asked room h (x ∷ ss) may = asked_case room h x ss (x.client == h.client) refl may (λ k asks. has_asked k h ss asks)

new_test : (o : Option Session) (n room : ℕ) → (is_new o ≡ true → n < room) → (is_new o && (n == room)) ≡ false
new_test None n room place = ne_eqb n room (λ same. let less = place refl in omega arith)
new_test (Some s) n room place = refl

repeated_test : (o : Option Session) (request n : ℕ) → request ≡ next_request o → (is_last_request request o && nat_le (last_op o) n) ≡ false
repeated_test None request n next = refl
repeated_test (Some s) request n next = grind (arith, nat_tests)

-- a request whose client may ask, and for which slots and ops are left, passes all of its tests
requests_pass : (m : Memory) (client request : ℕ) (body : List ℕ) (h : Header) → 0 < client → length body ≤ message_room m.layout
    → request ≤ 2 ^ 62 → h.client ≡ client → h.request ≡ request → h.mark ≡ m.replies → MayAsk m.layout.clients h m.sessions
    → m.head + 1 ≤ m.content.op + m.layout.slots
    → m.head + 1 ≤ m.replies + 8 → m.head + 1 ≤ 2 ^ 62 → first_refusal (request_refusals m client request body) ≡ None
requests_pass m client request body h named fits in_range of_client of_request of_mark may room pipeline unspent =
    let asked : HasAsked m.layout.clients m.sessions h (session_of_client client m.sessions) =
    rw (← of_client) (has_asked m.layout.clients h m.sessions may) in
    let next : request ≡ next_request (session_of_client client m.sessions) = sym of_request ∙ asked.next in
    pass_all (request_refusals m client request body) (
      ne_eqb client 0 (λ same. omega arith),
      (le-ltb _ _ fits, (new_test (session_of_client client m.sessions) (length m.sessions) m.layout.clients asked.place, (repeated_test (session_of_client client m.sessions) request m.replies next, (le-ltb _ _ (omega (arith, asked.answered, of_mark)), (ap not (eq-eqb _ _ next), (ne_eqb _ _ (λ same. omega (arith, pipeline)), (le-ltb _ _ room, (or_from _ _ (ne_eqb _ _ (λ same. omega (arith, unspent))) (le-ltb _ _ in_range), tt)))))))),
    )

pub append_exact_law : AppendExactLaw
append_exact_law sh spell w sum client request body work none named fits in_range may = let m = memory_of sh spell w in
    behind_decides (request_refusals m client request body) ((is_staged m, append.Staged (length m.staged)) ∷ [])
    (requests_pass m client request body (prepare_of m sum client request body).header
    named fits in_range refl refl refl may.asks.0 (omega (arith, may.room)) may.pipeline may.unspent)
    ∙ ap (λ (rs : List Request). if nat_lt 0 (length rs) then Some (append.Staged (length rs)) else None) none

pub stage_exact_law : StageExactLaw
stage_exact_law sh spell w client request body work named fits in_range may = let m = memory_of sh spell w in let top = head w.view in
    let r : Request = record { client = client; request = request; body = body } in let n = memory_of sh spell (with_staged w r) in
    let many = length (w.staged ++ r ∷ []) in let longer : many ≡ length w.staged + 1 = length-append w.staged (r ∷ []) in
    let all = length_in n (top + 1) (top + many) (top + 1) n.head_checksum (w.staged ++ r ∷ []) [] in
    let one = prepare_in n (top + 1) (top + many) 0 0 0 r in
    let asks = asks_behind n (top + 1) (top + many) sh.layout.clients (top + 1) n.head_checksum w.staged r [] (sessions w.view) may.asks in
    let same = alike_sessions n m (top + 1) (top
    + many) (top + 1) (top + length w.staged) (top + 1) (top + 1) n.head_checksum m.head_checksum w.staged [] [] (sessions w.view) refl in
    requests_pass (counted_staged m)
    client request body one.header named fits in_range refl refl refl (subst (MayAsk sh.layout.clients one.header) same asks)
    (omega (arith, may.room, all, longer)) (omega (arith, may.pipeline, all, longer)) (omega (arith, may.unspent, all, longer))

pub reply_exact_law : ReplyExactLaw
reply_exact_law sh spell w sum body fits may = pass_all (reply_refusals (memory_of sh spell w) (w.view.replies + 1) body) (
  ne_eqb w.view.replies (head w.view) (λ same. omega (arith, may.waits)),
  (ap not (eq-eqb (w.view.replies + 1) (w.view.replies + 1) refl), (le-ltb _ _ fits, tt)),
)
