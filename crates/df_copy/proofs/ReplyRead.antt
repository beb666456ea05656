-- The reply of a session that is read: of which place it is, and what the copy does with it.
use Rattle.std.{proofs.{Common.{◌≡◌, inl, inr, ℕ, zero, suc, ◌+◌, ◌<◌, ◌≤◌, ◌==◌, Bool, true, if◌then◌else◌, List, [], ◌∷◌, length, Option, Some, None, Result, Ok, Err, refl, sym, ◌∙◌, ap, subst, arith, eqb-true}, lemmas.Bool.{and_parts, cases_eq, eq-eqb, le-ltb, lt-ltb, ne_eqb}, lemmas.Option.{none-some, same_Some}}, specs.Prelude.{OnOk, nat_lt, slice_get, slice_set}}
use Rattle.{df_disk.specs.Told.{Told}, df_units.specs.Meaning.{message_of}, df_opening.specs.Below.{IsState, State, memory}}
use Rattle.df_layout.specs.{declared.damage.Class.{Class}, declared.layout.Layout.{Layout}, declared.places.Place.{Place}, declared.places.Zone.TheVariants.{ClientReplies}}
use Rattle.df_format.{specs.{declared.kind.Kind.TheVariants.{Reply}, Message.{Message}, Own.{place_in}, Valid.{IsUnit}}, proofs.Laws.{valid_belongs}}
use Rattle.df_theory.specs.Units as units
use Rattle.df_sessions.specs.declared.session.Session as told
use Rattle.df_sessions.specs.{Requests.{session_of, sessions_of}, Table.{AreDistinctClients}}
use Rattle.df_model.specs.{After.{place_of_client}, Memory.{reply_sum}, Refusals.{first_refusal, is_new, last_op, lookup_refusals, session_of_client}, Supply.{reply_at}, declared.reading.LookupError.{LookupError}}
use Rattle.df_model.specs.declared.reading.LookupError.TheVariants as lookup
use Rattle.df_replica.specs.{Lookups.{IsReadReply, place_for}, Reading.{IsKnownUnit, shown_of}}
use Rattle.df_copy.specs.{declared.ending.Ending.{Ending}, declared.ending.Ending.TheVariants.{BlockTooLong, Damaged, NotAtRest, NotBlank, ReplyTooLong, Source, Target as TargetFails, TooFewBlocks, TooFewClients}, declared.target.Target.{Target}, Acts.{CopiesReply, HasReplyPlace, PutsReply, SetsCheck}, Statuses.{reply_ending}, Tests.{is_at_rest, reply_test}, Units.{IsReplyAt, OverShown}}

-- ---- the place of a session's client

told_some : (ss : List told.Session) (place : ℕ) (x : told.Session)
    → slice_get ss place ≡ Some x → slice_get (sessions_of ss) place ≡ Some (session_of x)
told_some [] place x is = absurd (none-some x is)
told_some (y ∷ ss) zero x is = ap (λ (z : told.Session). Some (session_of z)) (same_Some y x is)
told_some (y ∷ ss) (suc place) x is = told_some ss place x is

place_at : (xs : List told.Session) (k : ℕ) (x : told.Session) → slice_get xs k ≡ Some x
    → ((j : ℕ) (y : told.Session) → slice_get xs j ≡ Some y → y.client ≡ x.client → j ≡ k) → place_of_client x.client (sessions_of xs) ≡ k
place_at [] k x at only = absurd (none-some x at)
place_at (y ∷ ys) zero x at only = ap (λ (b : Bool). if b then 0 else suc (place_of_client x.client (sessions_of ys)))
    (eq-eqb y.client x.client (ap (λ (z : told.Session). z.client) (same_Some y x at)))
place_at (y ∷ ys) (suc k) x at only = elim (cases_eq y.client x.client) [
  | inl same ↦ absurd (let zeroth : 0 ≡ suc k = only 0 y refl same in omega (arith, zeroth))
  | inr other ↦ ap (λ (b : Bool). if b then 0 else suc (place_of_client x.client (sessions_of ys))) (ne_eqb y.client x.client other)
      ∙ ap suc (place_at ys k x at (λ j z there same. let later : suc j ≡ suc k = only (suc j) z there same in omega (arith, later)))
]

pub place_is : (s : State) (k : ℕ) (x : told.Session)
    → AreDistinctClients s.table.sessions → slice_get s.table.sessions k ≡ Some x → place_for s x.client ≡ k
place_is s k x apart at = place_at s.table.sessions k x at (λ j y there same. apart j k y x there at same)

place_in_list : (xs : List told.Session) (k : ℕ) (x : told.Session)
    → slice_get xs k ≡ Some x → place_of_client x.client (sessions_of xs) < length xs
place_in_list [] k x at = absurd (none-some x at)
place_in_list (y ∷ ys) zero x at =
    subst (λ (n : ℕ). n < suc (length ys)) (sym (ap (λ (b : Bool). if b then 0 else suc (place_of_client x.client (sessions_of ys)))
    (eq-eqb y.client x.client (ap (λ (z : told.Session). z.client) (same_Some y x at))))) (omega arith)
place_in_list (y ∷ ys) (suc k) x at = elim (cases_eq y.client x.client) [
  | inl same ↦ rw ((ap (λ (b : Bool). if b then 0 else suc (place_of_client x.client (sessions_of ys))) (eq-eqb y.client x.client same)))
      (omega arith)
  | inr other ↦ let later = place_in_list ys k x at in
      rw ((ap (λ (b : Bool). if b then 0 else suc (place_of_client x.client (sessions_of ys))) (ne_eqb y.client x.client other)))
      (omega (arith, later))
]

pub place_within : (s : State) (k : ℕ) (x : told.Session)
    → slice_get s.table.sessions k ≡ Some x → place_for s x.client < length s.table.sessions
place_within s k x at = place_in_list s.table.sessions k x at

-- ---- at rest each session's reply is stored

-- the client has a session of the table
pub record HasSession (client : ℕ) (xs : List told.Session) : Type 0 where
  pub place : ℕ
  pub session : told.Session
  pub at : slice_get xs place ≡ Some session
  pub is : session_of_client client (sessions_of xs) ≡ Some (session_of session)

-- the session at the head of the table
first_of : (client : ℕ) (y : told.Session) (ys : List told.Session) → y.client ≡ client → HasSession client (y ∷ ys)
first_of client y ys same = record { place = 0; session = y; at = refl; is = ap (λ (b : Bool). if b then Some (session_of y) else session_of_client client (sessions_of ys)) (eq-eqb y.client client same) }

has_session : (xs : List told.Session) (k : ℕ) (x : told.Session) → slice_get xs k ≡ Some x → HasSession x.client xs
has_session [] k x at = absurd (none-some x at)
has_session (y ∷ ys) zero x at = first_of x.client y ys (ap (λ (z : told.Session). z.client) (same_Some y x at))
has_session (y ∷ ys) (suc k) x at = let more = has_session ys k x at in elim (cases_eq y.client x.client) [
  | inl same ↦ first_of x.client y ys same
  | inr other ↦ record {
    place = suc more.place;
    session = more.session;
    at = more.at;
    is = ap (λ (b : Bool). if b then Some (session_of y) else session_of_client x.client (sessions_of ys)) (ne_eqb y.client x.client other)
        ∙ more.is;
  }
]

pub rest_is : (s : State) → is_at_rest (memory s) ≡ true → (s.fields.op ≡ s.head) × (s.head ≡ s.replies)
rest_is s rest = let parts = and_parts (s.fields.op == s.head) (s.head == s.replies) rest in
    (eqb-true s.fields.op s.head parts.0, eqb-true s.head s.replies parts.1)

abbrev by_session : ℕ → Option units.Session → Option LookupError
by_session replies o = first_refusal ((is_new o, lookup.NoClient) ∷ (nat_lt replies (last_op o), lookup.ReplyPending (last_op o)) ∷ [])

pub served : (s : State) (k : ℕ) (x : told.Session) → IsState s
    → is_at_rest (memory s) ≡ true → slice_get s.table.sessions k ≡ Some x → first_refusal (lookup_refusals (memory s) x.client) ≡ None
served s k x is rest at = let has = has_session s.table.sessions k x at in
    let below = is.awaits.tracks.below has.place (session_of has.session) (told_some s.table.sessions has.place has.session has.at) in
    ap (by_session s.replies) has.is ∙ ap (λ (b : Bool). if b then Some (lookup.ReplyPending has.session.op) else None)
    (le-ltb s.replies has.session.op (omega (arith, below, (rest_is s rest).1)))

-- so no read of it is refused
pub not_no_client : (s : State) (told : Option Told) (client : ℕ) (e : LookupError)
    → first_refusal (lookup_refusals (memory s) client) ≡ None → IsReadReply client s told (Err e) → e ≡ lookup.NoClient → ⊥
not_no_client s told client e none exact is = none-some lookup.NoClient (sym none ∙ rw is at exact)

pub not_pending : (s : State) (told : Option Told) (client : ℕ) (e : LookupError) → first_refusal (lookup_refusals (memory s) client) ≡ None
    → IsReadReply client s told (Err e) → (op : ℕ) → e ≡ lookup.ReplyPending op → ⊥
not_pending s told client e none exact op is = none-some (lookup.ReplyPending op) (sym none ∙ rw is at exact)

-- ---- what is read

module _ (s : State) (from : Option Told) (client place : ℕ) where
  pub reply_is : (u : Message) → place_for s client ≡ place → IsKnownUnit Reply s.file (place_in ClientReplies (place_for s client))
      (reply_sum (memory s) (place_for s client)) u → IsReadReply client s from (Ok (message_of u)) → IsReplyAt s from place u
  reply_is u is known exact = record { known = rw is at known; shown = there from exact }
    where
      there : (o : Option Told) → IsReadReply client s o (Ok (message_of u))
          → OverShown s.file o (λ shown. reply_at shown (reply_sum (memory s) place) place ≡ Ok (message_of u))
      there None read = tt
      there (Some t) read = subst (λ (k : ℕ). reply_at (shown_of s.file t.shown) (reply_sum (memory s) k) k ≡ Ok (message_of u)) is (sym read.1)

  -- a reply that isn't shown as it is known ends the copy
  pub reply_unread : (T : Type 0) (layout : Layout) (before behind : List (List ℕ)) (new : Option Told) (e : LookupError) → place_for s client ≡ place → first_refusal (lookup_refusals (memory s) client) ≡ None → IsReadReply client s from (Err e) → CopiesReply {T = T} layout place s before behind from new new (Err (reply_ending e))
  reply_unread T layout before behind new lookup.DiskFault is none exact = refl
  reply_unread T layout before behind new lookup.NoClient is none exact = absurd (not_no_client s from client lookup.NoClient none exact refl)
  reply_unread T layout before behind new (lookup.ReplyPending op) is none exact =
      absurd (not_pending s from client (lookup.ReplyPending op) none exact op refl)
  reply_unread T layout before behind new (lookup.Damaged at class) is none exact = (there from exact, refl)
    where
      there : (o : Option Told) → IsReadReply client s o (Err (lookup.Damaged at class)) → OverShown s.file o (λ shown.
          reply_test layout place (reply_at shown (reply_sum (memory s) place) place) ≡ (true, Damaged at class))
      there None read = tt
      there (Some t) read = ap (λ (r : Result units.Message Class). reply_test layout place r) (rw is at (sym read.2))
          ∙ ap (λ (p : Place). (true, Damaged p class)) (ap (place_in ClientReplies) (sym is) ∙ sym read.1)

-- ---- what is written

-- it has its place in any layout with this many clients
pub has_place : (s : State) (layout : Layout) (client : ℕ) (sum : Option ℕ) (u : Message) → IsKnownUnit Reply s.file (place_in ClientReplies (place_for s client)) sum u → place_for s client < length s.table.sessions → length s.table.sessions ≤ layout.clients → HasReplyPlace layout u
has_place s layout client sum u known less fits =
    let slot = (valid_belongs s.file.layout s.file.cluster (place_in ClientReplies (place_for s client)) u known.is).belongs.slot in
    record {
      own = s.file.layout;
      is = rw (sym known.is.owner) at (rw (sym slot) at known.is);
      kind = known.of_kind;
      inside = omega (arith, slot, less, fits);
    }

pub slot_is : (s : State) (client place : ℕ) (sum : Option ℕ) (u : Message)
    → IsKnownUnit Reply s.file (place_in ClientReplies (place_for s client)) sum u → place_for s client ≡ place → u.header.slot ≡ place
slot_is s client place sum u known is =
    (valid_belongs s.file.layout s.file.cluster (place_in ClientReplies (place_for s client)) u known.is).belongs.slot ∙ is

-- what was written of it set the checksum of a session's place
pub reply_names : {T : Type 0} (s : State) (client : ℕ) (sum : Option ℕ) (u : Message) (t n : Target)
    (old new : Option Told) (r : Result T Ending) → IsKnownUnit Reply s.file (place_in ClientReplies (place_for s client)) sum u
    → place_for s client < length s.table.sessions → PutsReply u t n old new r → OnOk r (SetsCheck (length s.table.sessions) t.checks n.checks)
reply_names s client sum u t n old new (Ok x) known less puts =
    let slot = (valid_belongs s.file.layout s.file.cluster (place_in ClientReplies (place_for s client)) u known.is).belongs.slot in
    record { place = u.header.slot; check = u.header.checksum; inside = omega (arith, slot, less); set = puts.2 }
reply_names s client sum u t n old new (Err e) known less puts = tt

-- a reply that was read is written, or is too long, or the target's disk fails
module _ {T : Type 0} (s : State) (place : ℕ)
    (u : Message) (t n : Target) (from old new : Option Told) (is : IsReplyAt s from place u) (slot : u.header.slot ≡ place) where
  pub reply_put : (r : Result T Ending) → PutsReply u t n old new r → CopiesReply t.layout place s t.checks n.checks from old new r
  reply_put (Ok x) puts = (u, record { is = is; fits = puts.0 }, puts.1, puts.2 ∙ ap (λ (k : ℕ). slice_set t.checks k u.header.checksum) slot)
  reply_put (Err TargetFails) puts = (u, record { is = is; fits = puts.0 }, puts.1)
  reply_put (Err (ReplyTooLong p size)) puts = (there from is.shown, puts.3)
    where
      too_long : nat_lt t.layout.message_size (256 + length u.body) ≡ true
      too_long = lt-ltb t.layout.message_size (256 + length u.body) (omega (arith, puts.1, puts.2))

      there : (o : Option Told) → OverShown s.file o (λ shown. reply_at shown (reply_sum (memory s) place) place ≡ Ok (message_of u))
          → OverShown s.file o (λ shown.
          reply_test t.layout place (reply_at shown (reply_sum (memory s) place) place) ≡ (true, ReplyTooLong p size))
      there None shown = tt
      there (Some told) shown = ap (λ (x : Result units.Message Class). reply_test t.layout place x) shown
          ∙ ap (λ (b : Bool). (b, ReplyTooLong place (256 + length u.body))) too_long
          ∙ ap (λ (k : ℕ). (true, ReplyTooLong k (256 + length u.body))) (sym slot ∙ sym puts.0)
          ∙ ap (λ (k : ℕ). (true, ReplyTooLong p k)) (sym puts.1)
  reply_put (Err Source) puts = absurd puts
  reply_put (Err (Damaged a b)) puts = absurd puts
  reply_put (Err (NotBlank a)) puts = absurd puts
  reply_put (Err (BlockTooLong a b)) puts = absurd puts
  reply_put (Err (NotAtRest a b c)) puts = absurd puts
  reply_put (Err (TooFewClients a b)) puts = absurd puts
  reply_put (Err (TooFewBlocks a b)) puts = absurd puts
