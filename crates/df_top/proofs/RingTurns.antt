-- The ring of what the scrubber found, and what is printed of it.
use Rattle.std.{proofs.Common.{◌≡◌, ℕ, ◌+◌, List, [], ◌∷◌, ◌++◌, ◌≤◌, ◌<◌, length, take, Option, Some, None, refl, ◌∙◌, ap, arith, Result}, specs.Prelude.{zero, suc, slice_get, slice_set}}
use Rattle.{df_disk.specs.Told.{Told}, df_inspect.specs.Prints.{Prints}, df_layout.specs.declared.damage.Finding.{Finding}}
use Rattle.{df_model.specs.Commands.{ForRecent, Recent, ToRecent}, df_script_model.specs.Texts.{recent_text}}
use Rattle.df_session.{specs.{Answering.{Serves}, Below.{State as Replica}}, proofs.Laws.{made}}
use Rattle.df_top.{specs.{Findings.{items_of}, Step.{AnswersCommand}, Turning.{printed_turn}}, proofs.Answered.{printed_is, prints_turn}}

-- an item is put after the first n ones
pub take_set : {A : Type 0} (xs : List A) (n : ℕ) (x : A) → n < length xs → take (n + 1) (slice_set xs n x) ≡ take n xs ++ x ∷ []
take_set [] n x few = absurd (omega (arith, few))
take_set (y ∷ xs) zero x few = refl
take_set (y ∷ xs) (suc n) x few = let one : suc n + 1 ≡ suc (n + 1) = omega arith in
    ap (λ (k : ℕ). take k (y ∷ slice_set xs n x)) one ∙ ap (λ (l : List _). y ∷ l) (take_set xs n x (omega (arith, few)))

-- a place has one finding at most
pub items_few : (found : Option Finding) → length (items_of found) ≤ 1
items_few None = omega arith
items_few (Some f) = omega arith

-- the first n findings and that at the next place
pub take_more : (xs : List Finding) (n : ℕ) → take (n + 1) xs ≡ take n xs ++ items_of (slice_get xs n)
take_more [] zero = refl
take_more [] (suc n) = let one : suc n + 1 ≡ suc (n + 1) = omega arith in ap (λ (k : ℕ). take {A = Finding} k []) one
take_more (x ∷ xs) zero = refl
take_more (x ∷ xs) (suc n) = let one : suc n + 1 ≡ suc (n + 1) = omega arith in
    ap (λ (k : ℕ). take k (x ∷ xs)) one ∙ ap (λ (l : List Finding). x ∷ l) (take_more xs n)

-- what was printed of them is the line's text
pub ring_printed : (s : Replica) (told : Option Told) (written took : Option (List ℕ)) → Serves
    Recent s s told told (Some (ToRecent s.findings)) → {T E : Type 0} (r : Result T E) → Prints (recent_text s.findings) written took r
    → AnswersCommand Recent s s told told written took (printed_turn r)
ring_printed s told written took serves r prints = printed_is Recent s s told told
    written took (ToRecent s.findings) (made Recent ForRecent s s told told (Some (ToRecent s.findings)) refl serves refl) (printed_turn r)
    (prints_turn (recent_text s.findings) written took r prints)
