-- The notes before one that a loop has come to are kept; one more is, or isn't, or there is none.
use Rattle.std.proofs.{Common.{◌≡◌, ℕ, ◌+◌, ◌<◌, ◌≤◌, suc, List, [], ◌∷◌, length, get_or, map, take, drop, Option, sym, ◌∙◌, ap, subst, Result, Ok, Err}, lemmas.List.{map-append, take_all, take_more}, Math.Seq.{split_at}}
use Rattle.{df_disk.specs.Told.{Told}, df_model.specs.declared.answers.Receipt.{Receipt}, df_session.specs.Below.{State}}
use Rattle.df_notes.specs.{Keeping.{AppendsNote, AreKept, NoteFails, InReply, IsNoteKept, Kept, KeepsNote, KeepsNotes, Moment, StoresReply}, declared.ended.Ended.{Ended}}

-- a note whose reply isn't stored
pub in_reply : (note : List ℕ) (m n : Moment) (receipt : Receipt) (between : State) (mid : Option Told)
    (ended : Ended) (r : Result (Unit {0}) Ended) → r ≡ Err ended → AppendsNote note m.replica between m.told mid (Ok receipt)
    → StoresReply receipt.op between n.replica mid n.told (Err ended) → n.written ≡ m.written → KeepsNote note m n r
in_reply note m n receipt between mid ended r is appended stores same =
    subst (λ (q : Result (Unit {0}) Ended). KeepsNote note m n q) (sym is) (InReply receipt between mid appended stores same)

module _ {A : Type 0} (f : A → List ℕ) (xs : List A) (i : ℕ) (m : Moment) where
  pub goes_on : (d : A) (note : List ℕ) (mid n : Moment) → note ≡ f (get_or xs i d)
      → i < length xs → AreKept m (map f (take i xs)) mid → IsNoteKept note mid n → AreKept m (map f (take (i + 1) xs)) n
  goes_on d note mid n same within kept is =
      subst (λ (l : List (List ℕ)). AreKept m l n) (sym (ap (map f) (take_more xs i d within) ∙ map-append f (take i xs) (get_or xs i d ∷ [])))
      (Kept (map f (take i xs)) (f (get_or xs i d)) mid n kept (subst (λ (x : List ℕ). IsNoteKept x mid n) same is))

  pub stops : (d : A) (note : List ℕ) (last n : Moment) (ended : Ended) (r : Result (Unit {0}) Ended) → r ≡ Err ended → note
      ≡ f (get_or xs i d) → i < length xs → AreKept m (map f (take i xs)) last → NoteFails note last n ended → KeepsNotes (map f xs) m n r
  stops d note last n ended r is same within kept fails =
      subst (λ (q : Result (Unit {0}) Ended). KeepsNotes (map f xs) m n q) (sym is) (record {
        kept = map f (take i xs);
        note = f (get_or xs i d);
        rest = map f (drop (suc i) xs);
        are = ap (map f) (split_at xs i d within) ∙ map-append f (take i xs) (get_or xs i d ∷ drop (suc i) xs);
        last = last;
        calls = kept;
        fails = subst (λ (x : List ℕ). NoteFails x last n ended) same fails;
      })

  pub ends : (n : Moment) → length xs ≤ i → AreKept m (map f (take i xs)) n → KeepsNotes (map f xs) m n (Ok tt)
  ends n past kept = subst (λ (l : List A). AreKept m (map f l) n) (take_all i xs past) kept
