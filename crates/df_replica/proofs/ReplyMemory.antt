-- What a reply leaves in memory is what the machine's reply leaves there.
use Rattle.std.{proofs.Common.{◌≡◌, ◌∙◌, ℕ, zero, suc, List, [], ◌∷◌, drop, map, Option, Some, refl, ap}, specs.Prelude.{slice_set}}
use Rattle.{df_format.specs.declared.header.Header.{Header}, df_units.specs.Meaning.{number_of}}
use Rattle.df_sessions.specs.declared.session.Session as told
use Rattle.df_sessions.{specs.{Requests.{sessions_of}, Table.{with_reply_stored}}, proofs.Laws.{reply_unnoted}}
use Rattle.df_theory.specs.Units as theory
use Rattle.{df_model.specs.{Memory.{Memory}, Changing.{replied_in}}, df_opening.specs.Below.{State, memory, stored_sum}}
use Rattle.df_replica.specs.Replying.{place_waiting, with_stored_reply}

stored_there : (place : ℕ) (check : List ℕ) (ss : List told.Session)
    → map stored_sum (with_reply_stored place check ss) ≡ slice_set (map stored_sum ss) place (Some (number_of check))
stored_there place check [] = refl
stored_there zero check (s ∷ ss) = refl
stored_there (suc place) check (s ∷ ss) = ap (λ (l : List (Option ℕ)). stored_sum s ∷ l) (stored_there place check ss)

fewer : (ws : List (List ℕ)) → map number_of (drop 1 ws) ≡ drop 1 (map number_of ws)
fewer [] = refl
fewer (w ∷ ws) = refl

pub replied_memory : (s : State) (h : Header)
    → h.slot ≡ place_waiting s → memory (with_stored_reply s h) ≡ replied_in (memory s) (number_of h.checksum)
replied_memory s h place = let t : State = with_stored_reply s h in let T : List theory.Session
    → List (Option ℕ) → List ℕ → Memory = λ ss st ws. record (memory t) { sessions = ss; stored = st; waiting = ws } in
    ap (λ (ss : List theory.Session).
    T ss (map stored_sum t.table.sessions) (map number_of t.waiting)) (reply_unnoted h.slot h.checksum s.table.sessions)
    ∙ ap (λ (st : List (Option ℕ)).
    T (sessions_of s.table.sessions) st (map number_of t.waiting)) (stored_there h.slot h.checksum s.table.sessions)
    ∙ ap (λ (k : ℕ). T (sessions_of s.table.sessions)
    (slice_set (map stored_sum s.table.sessions) k (Some (number_of h.checksum))) (map number_of t.waiting)) place
    ∙ ap (λ (ws : List ℕ). T (sessions_of s.table.sessions)
    (slice_set (map stored_sum s.table.sessions) (place_waiting s) (Some (number_of h.checksum))) ws) (fewer s.waiting)
