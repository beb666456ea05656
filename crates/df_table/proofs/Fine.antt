-- No reason refuses the calls of a table's session, but that no op or no sequence is left.
use Rattle.std.{proofs.Common.{◌≡◌, ◌⊎◌, inl, inr, ℕ, ◌+◌, ◌-◌, ◌^◌, ◌<◌, ◌≤◌, ◌==◌, ◌&&◌, ◌||◌, not, nat_le, nat_lt, Bool, true, false, if◌then◌else◌, List, [], ◌∷◌, ◌++◌, length, take, Option, Some, None, refl, sym, ap, subst, arith, length-append, ne_eqb, le-ltb, eq-eqb}, specs.List.{slice_get}}
use Rattle.{df_base.{specs.Fields.{spelled}, proofs.Laws.{length-spelled}}, df_layout.specs.declared.layout.Layout.{Layout}}
use Rattle.df_theory.{specs.Units.{Session}, proofs.Laws.{tracks}}
use Rattle.df_model.{specs.{Memory.{Memory, free_of}, Refusals.{begin_refusals, block_refusals, first_refusal, is_last_request, is_new, is_running, is_staged, last_op, next_request, reply_refusals, request_refusals, session_of_client}, Work.{Request}, declared.errors.AppendError.{AppendError}}, proofs.Laws.{pass_all}}
use Rattle.df_model.specs.declared.errors.AppendError.TheVariants as append
use Rattle.df_model.specs.declared.errors.BeginError.TheVariants as begin
use Rattle.df_rows.specs.{declared.command.Command.{Command}, declared.command.Command.TheVariants.{Drop, Put}, Commands.{IsCommand, body_of}}
use Rattle.df_session.specs.{Below.{State as Replica, memory}, Appending.{next_unit, with_prepare_appended}, Beginning.{needed}}
use Rattle.df_table.specs.{Calls.{MayAppendCommand, MayBegin}, Policy.{is_full, the_client}, Ready.{IsReadyReplica}}

-- ---- tests, of which only the last one may hold

abbrev AllPass : {E : Type 0} → List (Bool × E) → Type 0
AllPass [] = Unit {0}
AllPass (t ∷ ts) = (t.0 ≡ false) × AllPass ts

passed : {E : Type 0} (b : Bool) (e : E) (o p : Option E) → b ≡ false → o ≡ p → (if b then Some e else o) ≡ p
passed true e o p is rest = absurd (cc)
passed false e o p is rest = rest

last_one : {E : Type 0} (b : Bool) (e : E) → (first_refusal ((b, e) ∷ []) ≡ None) ⊎ (first_refusal ((b, e) ∷ []) ≡ Some e)
last_one true e = inr refl
last_one false e = inl refl

but_last : {E : Type 0} (ts : List (Bool × E)) (b : Bool) (e : E)
    → AllPass ts → (first_refusal (ts ++ (b, e) ∷ []) ≡ None) ⊎ (first_refusal (ts ++ (b, e) ∷ []) ≡ Some e)
but_last [] b e all = last_one b e
but_last (t ∷ ts) b e all = elim (but_last ts b e all.1) [
  | inl none ↦ inl (passed t.0 t.1 (first_refusal (ts ++ (b, e) ∷ [])) None all.0 none)
  | inr some ↦ inr (passed t.0 t.1 (first_refusal (ts ++ (b, e) ∷ [])) (Some e) all.0 some)
]

-- one that doesn't hold comes last
last_passed : {E : Type 0} (ts : List (Bool × E)) (b : Bool) (e : E) → b ≡ false → first_refusal (ts ++ (b, e) ∷ []) ≡ first_refusal ts
last_passed [] b e is = passed b e None None is refl
last_passed (t ∷ ts) b e is = ap (λ (o : Option _). if t.0 then Some t.1 else o) (last_passed ts b e is)

-- ---- the one session

abbrev pub AreOwn : List Session → Type 0
AreOwn ss = (place : ℕ) (s : Session) → slice_get ss place ≡ Some s → s.client ≡ the_client

-- it is the first one, if there is one
pub own_session : (ss : List Session) → AreOwn ss → session_of_client the_client ss ≡ slice_get ss 0
own_session [] own = refl
own_session (s ∷ ss) own = ap (λ (b : Bool). if b then Some s else session_of_client the_client ss) (eq-eqb s.client the_client (own 0 s refl))

room_test : (ss : List Session) (clients : ℕ) → 1 ≤ clients → (is_new (slice_get ss 0) && (length ss == clients)) ≡ false
room_test [] clients some = ne_eqb 0 clients (λ same. omega arith)
room_test (s ∷ ss) clients some = refl

repeated_test : (o : Option Session) (n : ℕ) → (is_last_request (next_request o) o && nat_le (last_op o) n) ≡ false
repeated_test None n = refl
repeated_test (Some s) n = ap (λ (b : Bool). b && nat_le s.op n) (ne_eqb (s.request + 1) s.request (λ same. omega (arith, same)))

low_op : (ss : List Session) (n : ℕ) → ((k : ℕ) (s : Session) → slice_get ss k ≡ Some s → s.op ≤ n) → last_op (slice_get ss 0) ≤ n
low_op [] n low = omega arith
low_op (s ∷ ss) n low = low 0 s refl

-- ---- an append

module _ (layout : Layout) (s : Replica) (ready : IsReadyReplica layout s) where
  -- the ops of all sessions are up to the head
  ops : (k : ℕ) (t : Session) → slice_get (memory s).sessions k ≡ Some t → t.op ≤ (memory s).head
  ops = subst (λ (n : Memory). (k : ℕ) (t : Session)
      → slice_get n.sessions k ≡ Some t → t.op ≤ n.head) (sym ready.stands.1) (tracks _ _ ready.stands.0.view).below

  answered : last_op (slice_get (memory s).sessions 0) ≤ (memory s).replies
  answered = let low = low_op (memory s).sessions (memory s).head ops in omega (arith, low, ready.own.answered)

  tests : (body : List ℕ) → is_full (memory s) ≡ false → length body ≤ 64
      → AllPass (take 8 (request_refusals (memory s) the_client (next_request (session_of_client the_client (memory s).sessions)) body))
  tests body room short = let o = session_of_client the_client (memory s).sessions in
      let is = own_session (memory s).sessions ready.own.alone in
      let first = rw (sym is) at (room_test (memory s).sessions (memory s).layout.clients s.file.layout.clients_within.0) in
      let low = rw (sym is) at answered in (
        refl,
        (le-ltb _ _ (omega (arith, short, s.file.layout.message_size_within.0)), (first, (repeated_test o (memory s).replies, (le-ltb _ _ low, (ap not (eq-eqb (next_request o) (next_request o) refl), (ne_eqb _ _ (λ same. omega (arith, same, ready.own.answered)), (room, tt))))))),
      )

  pub may_append : (body : List ℕ) → is_full (memory s) ≡ false
      → length body ≤ 64 → MayAppendCommand s (next_request (session_of_client the_client (memory s).sessions)) body
  may_append body room short = let o = session_of_client the_client (memory s).sessions in
      let asks = request_refusals (memory s) the_client (next_request o) body in
      subst (λ (r : Option AppendError). (r ≡ None) ⊎ (r ≡ Some append.OpsSpent)) (sym (last_passed asks (is_staged (memory s))
      (append.Staged (length (memory s).staged)) (ap (λ (l : List Request). nat_lt 0 (length l)) ready.own.unstaged)))
      (but_last (take 8 asks) (((memory s).head == 2 ^ 62) || nat_lt (2 ^ 62) (next_request o)) append.OpsSpent (tests body room short))

  -- the reply to it isn't refused
  pub may_reply : (request : ℕ) (body : List ℕ) (op : ℕ) → op ≡ s.head + 1
      → first_refusal (reply_refusals (memory (with_prepare_appended s (next_unit s the_client request body))) op []) ≡ None
  may_reply request body op is = pass_all (reply_refusals (memory (with_prepare_appended s (next_unit s the_client request body))) op []) (
    ne_eqb s.replies (s.head + 1) (λ same. omega (arith, same, ready.own.answered)),
    (ap not (eq-eqb op (s.replies + 1) (omega (arith, is, ready.own.answered))), (le-ltb _ _ (omega arith), tt)),
  )

-- ---- a block

pub may_write : (s : Replica) (body : List ℕ) → length body ≤ s.file.layout.block_size - 256
    → 0 < length (free_of (memory s)) → first_refusal (block_refusals (memory s) 1 body) ≡ None
may_write s body short free =
    pass_all (block_refusals (memory s) 1 body) (refl, (le-ltb _ _ short, (ne_eqb _ _ (λ same. omega (arith, same, free)), tt)))

-- ---- the body of a command

pub short_body : (c : Command) → IsCommand c → length (body_of c) ≤ 64
short_body (Put entry) fits = omega (arith, length-append (spelled 16 entry.0) entry.1, length-spelled 16 entry.0, fits.value)
short_body (Drop key) fits = omega (arith, length-spelled 16 key)

-- ---- a checkpoint

pub may_begin : (s : Replica) → (memory s).running ≡ None → needed s [] ≤ length (free_of (memory s)) → MayBegin s
may_begin s idle free = but_last (take 3 (begin_refusals (memory s) (needed s []) [])) ((memory s).content.sequence == 2 ^ 62)
    begin.SequenceSpent (ap is_running idle, (refl, (le-ltb _ _ free, tt)))

-- ---- a command is stored

-- with the client's next number and the command's body
pub may_store : (layout : Layout) (s : Replica) → IsReadyReplica layout s → is_full (memory s) ≡ false → (c : Command) → IsCommand c → (n : ℕ) (body : List ℕ) → n ≡ next_request (session_of_client the_client (memory s).sessions) → body ≡ body_of c → MayAppendCommand s n body
may_store layout s ready room c fits n body number spells = subst (λ (k : ℕ). MayAppendCommand s k body) (sym number)
    (rw (sym spells) at (may_append layout s ready (body_of c) room (short_body c fits)))

-- and the reply to it
pub may_answer : (layout : Layout) (s t : Replica) → IsReadyReplica layout s → (n : ℕ) (body : List ℕ) (op : ℕ)
    → op ≡ s.head + 1 → t ≡ with_prepare_appended s (next_unit s the_client n body) → first_refusal (reply_refusals (memory t) op []) ≡ None
may_answer layout s t ready n body op next behind = rw behind (may_reply layout s ready n body op next)
