-- What a buffer holds after bytes were taken from it, and after a read into it.
use Rattle.std.{proofs.{Common.{◌≡◌, ℕ, ◌+◌, ◌-◌, ◌≤◌, List, ◌++◌, length, take, drop, refl, sym, ap, ◌∙◌, append_assoc, arith, length-take, []}, lemmas.List.{take-append-drop, take-take, drop-take, drop-drop}}, specs.Prelude.{Option, None, Some}}
use Rattle.{df_base.specs.Streams.{Gives}, df_lines.specs.Text.{unread}}

take_sum : (n m : ℕ) (xs : List ℕ) → take (n + m) xs ≡ take n xs ++ take m (drop n xs)
take_sum n m xs =
    sym (take-append-drop n (take (n + m) xs)) ∙ ap (λ (l : List ℕ). l ++ drop n (take (n + m) xs)) (take-take n (n + m) xs (omega arith))
    ∙ ap (λ (l : List ℕ). take n xs ++ l) (drop-take n m xs)

pub taken_front : (buffer : List ℕ) (start end count : ℕ) → start ≤ end → count ≤ length (take (end - start) (drop start buffer))
    → take (end - (start + count)) (drop (start + count) buffer) ≡ drop count (take (end - start) (drop start buffer))
taken_front buffer start end count ordered within =
    let fits : count ≤ end - start = omega (arith, length-take (end - start) (drop start buffer)) in
    let sizes : end - start ≡ count + (end - (start + count)) = omega arith in
    sym (ap (λ (n : ℕ). drop count (take n (drop start buffer))) sizes ∙ drop-take count (end - (start + count)) (drop start buffer)
    ∙ ap (λ (l : List ℕ). take (end - (start + count)) l) (drop-drop count start buffer))

-- a read after the bytes that are held leaves the text as it was
pub read_on : (bytes buffer : List ℕ) (n k count : ℕ) (before after : Option (List ℕ))
    → take n buffer ≡ bytes → k ≡ n + count → Gives before after count (drop n buffer) → unread (take k buffer) after ≡ unread bytes before
read_on bytes buffer n k count None None held sum gives = refl
read_on bytes buffer n k count None (Some ys) held sum gives = absurd gives
read_on bytes buffer n k count (Some xs) None held sum gives = absurd gives
read_on bytes buffer n k count (Some xs) (Some ys) held sum gives = let front : take k buffer ≡ bytes ++ take count (drop n buffer) =
    ap (λ (m : ℕ). take m buffer) sum ∙ take_sum n count buffer ∙ ap (λ (l : List ℕ). l ++ take count (drop n buffer)) held in
    ap (λ (l : List ℕ). Some (l ++ ys)) front
    ∙ ap Some (append_assoc bytes (take count (drop n buffer)) ys ∙ ap (λ (l : List ℕ). bytes ++ l) (sym gives.0))

pub unread_none : (left : Option (List ℕ)) → unread [] left ≡ left
unread_none None = refl
unread_none (Some xs) = refl
