-- Which session a read of a reply goes by, and what is known of its reply.
use Rattle.std.{proofs.{Common.{◌≡◌, ℕ, zero, suc, ◌<◌, ◌≤◌, Bool, true, false, cond, nat_lt, List, [], ◌∷◌, length, get_or, map, Option, Some, None, refl, sym, ◌∙◌, ap, arith}, lemmas.Bool.Decides.{nat_tests}, lemmas.List.Quantifiers.{position-Some}}, specs.{Prelude.{option_map}, List.{position, slice_get}}}
use Rattle.df_sessions.specs.declared.session.Session as told
use Rattle.{df_sessions.specs.{Requests.{session_of}, Table.{IsSessionTable, has_client}}, df_theory.specs.Units.{Session}}
use Rattle.df_model.specs.{After.{place_of_client}, Refusals.{first_refusal, is_new, last_op, lookup_refusals, session_of_client}, declared.reading.LookupError.{LookupError}, declared.reading.LookupError.TheVariants.{NoClient, ReplyPending}}
use Rattle.df_model.specs.Memory as memory
use Rattle.df_opening.specs.Below.{IsState, State, memory, reply_sum, stored_sum}
use Rattle.df_replica.{specs.{Lookups.{IsStoredFor}, Refusing.{session_at}}, proofs.AppendTests.{session_found, no_session}}

-- why a reply isn't read, by the client's session
abbrev by_session : ℕ → Option Session → Option LookupError
by_session replies o = first_refusal ((is_new o, NoClient) ∷ (nat_lt replies (last_op o), ReplyPending (last_op o)) ∷ [])

place_first : (client : ℕ) (ss : List told.Session) (i : ℕ) (d : told.Session) → i < length ss → has_client client (get_or ss i d) ≡ true
    → ((k : ℕ) → k < i → has_client client (get_or ss k d) ≡ false) → place_of_client client (map session_of ss) ≡ i
place_first client [] i d within passes before = absurd (omega arith)
place_first client (s ∷ ss) zero d within passes before = let same : has_client client s ≡ true = passes in rw same refl
place_first client (s ∷ ss) (suc i) d within passes before = let other : has_client client s ≡ false = before 0 (omega arith) in
    rw other (ap suc (place_first client ss i d (omega arith) passes (λ k h. before (suc k) (omega arith))))

-- the place of a client's session
pub place_found : (client : ℕ) (ss : List told.Session) (i : ℕ)
    → position (has_client client) ss ≡ Some i → place_of_client client (map session_of ss) ≡ i
place_found client ss i is = let facts = position-Some (has_client client) ss i no_session is in
    place_first client ss i no_session facts.0 facts.1 facts.2

map_at : {X Y : Type 0} (f : X → Y) (xs : List X) (i : ℕ) (x : X) → slice_get xs i ≡ Some x → slice_get (map f xs) i ≡ Some (f x)
map_at f [] i x at = absurd (cc)
map_at f (y ∷ ys) zero x at = let same : y ≡ x = cc in ap (λ z. Some (f z)) same
map_at f (y ∷ ys) (suc i) x at = map_at f ys i x at

inside : (client : ℕ) (ss : List told.Session) (place : ℕ) → position (has_client client) ss ≡ Some place → place < length ss
inside client ss place here = (position-Some (has_client client) ss place no_session here).0

module _ (s : State) (client : ℕ) where
  pub no_client : position (has_client client) s.table.sessions ≡ None → first_refusal (lookup_refusals (memory s) client) ≡ Some NoClient
  no_client none = ap (by_session s.replies)
      (session_found client s.table.sessions ∙ ap (λ (o : Option ℕ). option_map session_of (session_at s.table.sessions o)) none)

  module _ (place : ℕ) (session : told.Session)
      (here : position (has_client client) s.table.sessions ≡ Some place) (at : slice_get s.table.sessions place ≡ Some session) where
    session_is : session_of_client client (map session_of s.table.sessions) ≡ Some (session_of session)
    session_is = session_found client s.table.sessions
        ∙ ap (λ (o : Option ℕ). option_map session_of (session_at s.table.sessions o)) here ∙ ap (option_map session_of) at

    pub pending : s.replies < session.op → first_refusal (lookup_refusals (memory s) client) ≡ Some (ReplyPending session.op)
    pending waits = let test : nat_lt s.replies session.op ≡ true = grind (arith, nat_tests) in
        ap (by_session s.replies) session_is ∙ ap (λ (b : Bool). cond b (Some (ReplyPending session.op)) None) test

    pub answered : session.op ≤ s.replies → first_refusal (lookup_refusals (memory s) client) ≡ None
    answered stored = let test : nat_lt s.replies session.op ≡ false = grind (arith, nat_tests) in
        ap (by_session s.replies) session_is ∙ ap (λ (b : Bool). cond b (Some (ReplyPending session.op)) None) test

    -- the checksum of its reply
    pub known_reply : memory.reply_sum (memory s) place ≡ reply_sum session.reply
    known_reply = ap memory.joined (map_at stored_sum s.table.sessions place session at)

    pub is_stored : IsState s
        → IsSessionTable s.table → session.op ≤ s.replies → IsStoredFor s client (record { place = place; reply = session.reply })
    is_stored is table stored = record {
      place = sym (place_found client s.table.sessions place here);
      inside = omega (arith, inside client s.table.sessions place here, table.within, is.places);
      known = known_reply;
      served = answered stored;
    }
