-- The texts of a list's items, printed one after the other.
use Rattle.std.proofs.{Common.{◌≡◌, ℕ, ◌+◌, ◌<◌, suc, List, [], ◌∷◌, ◌++◌, length, get_or, take, drop, Option, Result, IsErr, codes, refl, sym, ap, subst, ◌∙◌, arith, append_assoc}, lemmas.List.{append-nil, length-take-le, take_more}, Math.Seq.{split_at}}
use Rattle.{df_layout.specs.declared.damage.Finding.{Finding}, df_script_model.specs.Texts.{findings_text, numbered, recent_text}}
use Rattle.df_base.{specs.Streams.{Appends, AppendsPart}, proofs.Laws.{appends_more, appends_part}}
use Rattle.df_inspect.{specs.{Prints.{Prints}, Reports.{each_text, finding_text}}, proofs.Written.{prints_front}}

place_is : {A : Type 0} (text : ℕ → A → List ℕ) (m n : ℕ) (xs : List A) → m ≡ n → each_text text m xs ≡ each_text text n xs
place_is text m n xs same = ap (λ (k : ℕ). each_text text k xs) same

each_append : {A : Type 0} (text : ℕ → A → List ℕ) (place : ℕ) (xs ys : List A)
    → each_text text place (xs ++ ys) ≡ each_text text place xs ++ each_text text (place + length xs) ys
each_append text place [] ys = place_is text place (place + 0) ys (omega arith)
each_append text place (x ∷ xs) ys = ap (λ (l : List ℕ). text place x ++ l) (each_append text (place + 1) xs ys ∙ ap (λ (l : List ℕ).
    each_text text (place + 1) xs ++ l) (place_is text (place + 1 + length xs) (place + suc (length xs)) ys (omega arith)))
    ∙ sym (append_assoc (text place x) (each_text text (place + 1) xs) (each_text text (place + suc (length xs)) ys))

-- the items before one, and those from it on
each_split : {A : Type 0} (text : ℕ → A → List ℕ) (i : ℕ) (xs ys : List A) (x : A)
    → i < length xs → each_text text 0 (take i xs ++ (x ∷ ys)) ≡ each_text text 0 (take i xs) ++ (text i x ++ each_text text (i + 1) ys)
each_split text i xs ys x within = each_append text 0 (take i xs) (x ∷ ys) ∙ ap (λ (l : List ℕ). each_text text 0 (take i xs)
    ++ l) (place_is text (0 + length (take i xs)) i (x ∷ ys) (omega (arith, length-take-le i xs (omega arith))))

one_more : {A : Type 0} (text : ℕ → A → List ℕ) (i : ℕ) (xs : List A) (d : A)
    → i < length xs → each_text text 0 (take (i + 1) xs) ≡ each_text text 0 (take i xs) ++ text i (get_or xs i d)
one_more text i xs d within =
    ap (λ (l : List _). each_text text 0 l) (take_more xs i d within) ∙ each_split text i xs [] (get_or xs i d) within
    ∙ ap (λ (l : List ℕ). each_text text 0 (take i xs) ++ l) (append-nil (text i (get_or xs i d)))

all_of : {A : Type 0} (text : ℕ → A → List ℕ) (i : ℕ) (xs : List A) (d : A) → i < length xs
    → each_text text 0 xs ≡ (each_text text 0 (take i xs) ++ text i (get_or xs i d)) ++ each_text text (i + 1) (drop (suc i) xs)
all_of text i xs d within =
    ap (λ (l : List _). each_text text 0 l) (split_at xs i d within) ∙ each_split text i xs (drop (suc i) xs) (get_or xs i d) within
    ∙ sym (append_assoc (each_text text 0 (take i xs)) (text i (get_or xs i d)) (each_text text (i + 1) (drop (suc i) xs)))

-- ---- a loop over the items

-- one item more
pub each_printed : {A : Type 0} (text : ℕ → A → List ℕ) (old mid new : Option (List ℕ)) (i : ℕ) (xs : List A) (d : A) → i < length xs → Appends old mid (each_text text 0 (take i xs)) → Appends mid new (text i (get_or xs i d)) → Appends old new (each_text text 0 (take (i + 1) xs))
each_printed text old mid new i xs d within one two = subst (λ (l : List ℕ). Appends old new l)
    (sym (one_more text i xs d within)) (appends_more old mid new (each_text text 0 (take i xs)) (text i (get_or xs i d)) one two)

-- where the next item fails, a front of the whole is printed
pub each_failed : {A T E : Type 0} (text : ℕ → A → List ℕ) (old mid new : Option (List ℕ))
    (i : ℕ) (xs : List A) (d : A) (result : Result T E) → IsErr result → i < length xs → Appends old mid (each_text text 0 (take i xs))
    → AppendsPart mid new (text i (get_or xs i d)) → Prints (each_text text 0 xs) old new result
each_failed text old mid new i xs d result failed within one two = prints_front (each_text text 0 (take i xs) ++ text i (get_or xs i d))
    (each_text text (i + 1) (drop (suc i) xs)) (each_text text 0 xs) old new result failed (all_of text i xs d within)
    (appends_part old mid new (each_text text 0 (take i xs)) (text i (get_or xs i d)) one two)

-- ---- the ring of findings

findings_each : (place : ℕ) (fs : List Finding) → each_text (λ place f. finding_text f) place fs ≡ findings_text fs
findings_each place [] = refl
findings_each place (f ∷ fs) = ap (λ (l : List ℕ). finding_text f ++ l) (findings_each (place + 1) fs)

-- the line on the ring: its front, the findings and its end
pub recent_is : (fs : List Finding)
    → recent_text fs ≡ numbered (codes "recent") (length fs) ++ (each_text (λ place f. finding_text f) 0 fs ++ 10 ∷ [])
recent_is fs = append_assoc (numbered (codes "recent") (length fs)) (findings_text fs) (10 ∷ [])
    ∙ ap (λ (l : List ℕ). numbered (codes "recent") (length fs) ++ (l ++ 10 ∷ [])) (sym (findings_each 0 fs))
