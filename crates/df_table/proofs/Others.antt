-- Whose sessions there are.
use Rattle.std.{proofs.{Common.{◌≡◌, ◌==◌, not, Bool, true, false, eqb-true, ℕ, zero, suc, List, [], ◌∷◌, Some, None, refl, sym, ◌∙◌, ap}, lemmas.Bool.{eqb-false}, lemmas.Option.{none-some}}, specs.{List.{slice_get}, Prelude.{◌↔◌, IsTrue}}}
use Rattle.df_sessions.specs.declared.session.Session as told
use Rattle.{df_sessions.{specs.Requests.{session_of, sessions_of}, proofs.Laws.{session_at}}, df_theory.specs.Units.{Session}}
use Rattle.{df_session.specs.Below.{State as Replica, memory}, df_table.specs.{Opening.{IsOtherClient}, Policy.{the_client}}}

told_none : (ss : List told.Session) (place : ℕ) → slice_get ss place ≡ None → slice_get (sessions_of ss) place ≡ None
told_none [] place is = refl
told_none (y ∷ ss) zero is = absurd (none-some y (sym is))
told_none (y ∷ ss) (suc place) is = told_none ss place is

module _ (s : Replica) (place : ℕ) where
  pub is_other : (x : told.Session) → slice_get s.table.sessions place ≡ Some x → (x.client ≡ the_client → ⊥) → IsOtherClient (memory s) place
  is_other x is other = record { session = session_of x; at = session_at s.table.sessions place x is; other = other }

  pub is_own : (x : told.Session) → slice_get s.table.sessions place ≡ Some x → x.client ≡ the_client → IsOtherClient (memory s) place → ⊥
  is_own x is own other = let same : Some other.session ≡ Some (session_of x) = sym other.at ∙ session_at s.table.sessions place x is in
      let one : other.session ≡ session_of x = cc in other.other (ap (λ (y : Session). y.client) one ∙ own)

  pub is_none : slice_get s.table.sessions place ≡ None → IsOtherClient (memory s) place → ⊥
  is_none is other = none-some other.session (sym (told_none s.table.sessions place is) ∙ other.at)

  pub other_test : (x : told.Session)
      → slice_get s.table.sessions place ≡ Some x → IsTrue (not (x.client == the_client)) ↔ IsOtherClient (memory s) place
  other_test x is = go (x.client == the_client) refl
    where
      go : (b : Bool) → (x.client == the_client) ≡ b → IsTrue (not b) ↔ IsOtherClient (memory s) place
      go true same =
          ((λ yes. absurd (let apart : false ≡ true = yes in cc)), λ other. absurd (is_own x is (eqb-true x.client the_client same) other))
      go false apart = ((λ yes. is_other x is (eqb-false x.client the_client apart)), λ other. refl)
