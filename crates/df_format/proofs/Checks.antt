-- Checksums one after the other: their bytes, how they are read again, and what stands where none of them is named.
use Rattle.std.{proofs.{Common.{◌≡◌, ◌<◌, ◌≤◌, ◌+◌, ◌-◌, ◌*◌, ℕ, zero, suc, List, [], ◌∷◌, ◌++◌, length, take, drop, replicate, get_or, refl, sym, ◌∙◌, ap, arith, append_assoc, length-append}, lemmas.List.{take_at, take-replicate, drop-replicate, take-append-drop, drop-drop, length-take-le, length-drop, length-replicate, get_or-replicate, replicate-append-replicate, ext_get_or, append-nil}, Math.Seq.{take-add}}, specs.Prelude.{All}}
use Rattle.df_base.{specs.{Fields.{AreBytes}, Text.{AreSo}}, proofs.Laws.{AreBytes-nil, AreBytes-append, AreBytes-take, AreBytes-drop, past}}
use Rattle.df_format.specs.{Spelling.{IsCheck, no_checksum}, Super.{AreNone, checks_bytes, no_checksums}, Copies.{checks_at}}

-- ---- their bytes

behind : (P : List ℕ → Type 0) (check : List ℕ) (checks : List (List ℕ)) → All P (check ∷ checks) → All P checks
behind P check checks each k d inside = each (suc k) d (omega arith)

length-checks : (checks : List (List ℕ)) → All IsCheck checks → length (checks_bytes checks) ≡ 16 * length checks
unfolding checks_bytes
length-checks [] each = refl
length-checks (check ∷ checks) each = let first : IsCheck check = each 0 check (omega arith) in
    let rest = length-checks checks (behind IsCheck check checks each) in
    omega (arith, length-append check (checks_bytes checks), first.size, rest)

AreBytes-checks : (checks : List (List ℕ)) → All IsCheck checks → AreBytes (checks_bytes checks)
unfolding checks_bytes
AreBytes-checks [] each = AreBytes-nil
AreBytes-checks (check ∷ checks) each = let first : IsCheck check = each 0 check (omega arith) in
    AreBytes-append check (checks_bytes checks) first.each (AreBytes-checks checks (behind IsCheck check checks each))

-- as many bytes as they have together
pub so_many_checks : (n : ℕ) (checks : List (List ℕ)) → length checks ≡ n → All IsCheck checks → AreSo (16 * n) (checks_bytes checks)
so_many_checks n checks size each = record { size = length-checks checks each ∙ ap (λ (k : ℕ). 16 * k) size; each = AreBytes-checks checks each }

-- where none is named they are zeros
pub checks_zero : (checks : List (List ℕ)) (n : ℕ) → 16 * length checks ≡ n → AreNone checks → checks_bytes checks ≡ replicate n 0
unfolding checks_bytes no_checksum
checks_zero [] n size none = ap (λ (m : ℕ). replicate m 0) (let empty : 0 ≡ n = omega (arith, size) in empty)
checks_zero (check ∷ checks) n size none = let first : check ≡ replicate 16 0 = none 0 check (omega arith) in
    let rest = checks_zero checks (n - 16) (omega (arith, size)) (behind (λ (c : List ℕ). c ≡ no_checksum) check checks none) in
    (λ i. first i ++ rest i) ∙ replicate-append-replicate 16 (n - 16) 0
    ∙ ap (λ (m : ℕ). replicate m 0) (let all : 16 + (n - 16) ≡ n = omega (arith, size) in all)

appended : (xs ys : List (List ℕ)) → checks_bytes (xs ++ ys) ≡ checks_bytes xs ++ checks_bytes ys
unfolding checks_bytes
appended [] ys = refl
appended (x ∷ xs) ys = ap (λ (l : List ℕ). x ++ l) (appended xs ys) ∙ sym (append_assoc x (checks_bytes xs) (checks_bytes ys))

one_check : (check : List ℕ) → checks_bytes (check ∷ []) ≡ check ++ []
unfolding checks_bytes
one_check check = refl

-- one checksum more
pub checks_more : (checks : List (List ℕ)) (k : ℕ) (d : List ℕ) → take (k + 1) checks ≡ take k checks ++ get_or checks k d ∷ []
    → checks_bytes (take (k + 1) checks) ≡ checks_bytes (take k checks) ++ get_or checks k d
unfolding checks_bytes
checks_more checks k d more = let check : List ℕ = get_or checks k d in ap checks_bytes more
    ∙ appended (take k checks) (check ∷ []) ∙ ap (λ (l : List ℕ). checks_bytes (take k checks) ++ l) (one_check check ∙ append-nil check)

-- ---- how they are read

pub length-checks_at : (n at : ℕ) (bytes : List ℕ) → length (checks_at n at bytes) ≡ n
unfolding checks_at
length-checks_at zero at bytes = refl
length-checks_at (suc n) at bytes = omega (arith, length-checks_at n (at + 16) bytes)

pub check_in : (n at : ℕ) (bytes : List ℕ) (k : ℕ) (past : List ℕ)
    → k < n → get_or (checks_at n at bytes) k past ≡ take 16 (drop (at + 16 * k) bytes)
unfolding checks_at
check_in zero at bytes k past inside = absurd (omega arith)
check_in (suc n) at bytes zero past inside = ap (λ (m : ℕ). take 16 (drop m bytes)) (let here : at ≡ at + 16 * 0 = omega arith in here)
check_in (suc n) at bytes (suc k) past inside = check_in n (at + 16) bytes k past (omega arith)
    ∙ ap (λ (m : ℕ). take 16 (drop m bytes)) (let there : at + 16 + 16 * k ≡ at + 16 * suc k = omega arith in there)

-- a list of this many checksums, each as it stands at its offset
pub checks_are : (checks : List (List ℕ)) (n at : ℕ) (bytes : List ℕ)
    → length checks ≡ n → ((k : ℕ) → k < n → get_or checks k [] ≡ take 16 (drop (at + 16 * k) bytes)) → checks ≡ checks_at n at bytes
checks_are checks n at bytes size each = ext_get_or [] checks (checks_at n at bytes) (size ∙ sym (length-checks_at n at bytes)) (λ k inside.
    each k (omega (arith, size)) ∙ sym (check_in n at bytes k [] (omega (arith, size))))

pub are_checks : (n at : ℕ) (bytes : List ℕ) → AreBytes bytes → at + 16 * n ≤ length bytes → All IsCheck (checks_at n at bytes)
unfolding checks_at
are_checks zero at bytes are fits k d inside = absurd (omega arith)
are_checks (suc n) at bytes are fits zero d inside = record {
  size = length-take-le 16 (drop at bytes) (omega (arith, length-drop at bytes, fits));
  each = AreBytes-take 16 (drop at bytes) (AreBytes-drop at bytes are);
}
are_checks (suc n) at bytes are fits (suc k) d inside = are_checks n (at + 16) bytes are (omega (arith, fits)) k d (omega arith)

-- what is read as checksums is their bytes
pub checks_read : (n at : ℕ) (bytes : List ℕ) → at + 16 * n ≤ length bytes → take (16 * n) (drop at bytes) ≡ checks_bytes (checks_at n at bytes)
unfolding checks_at checks_bytes
checks_read zero at bytes inside = refl
checks_read (suc n) at bytes inside = let more : 16 * suc n ≡ 16 + 16 * n = omega arith in ap (λ (m : ℕ). take m (drop at bytes)) more
    ∙ take-add 16 (16 * n) (drop at bytes) ∙ ap (λ (l : List ℕ). take 16 (drop at bytes)
    ++ l) (ap (λ (l : List ℕ). take (16 * n) l) (drop-drop 16 at bytes) ∙ checks_read n (at + 16) bytes (omega arith))

checks_there : (checks : List (List ℕ)) (at : ℕ) (bytes rest : List ℕ)
    → All IsCheck checks → drop at bytes ≡ checks_bytes checks ++ rest → checks_at (length checks) at bytes ≡ checks
unfolding checks_at checks_bytes
checks_there [] at bytes rest each is = refl
checks_there (check ∷ checks) at bytes rest each is = let size : length check ≡ 16 = (each 0 check (omega arith)).size in
    let here : drop at bytes ≡ check ++ (checks_bytes checks ++ rest) = is ∙ append_assoc check (checks_bytes checks) rest in
    let first : take 16 (drop at bytes) ≡ check = ap (λ (l : List ℕ). take 16 l) here ∙ take_at check (checks_bytes checks ++ rest) 16 size in
    let others = checks_there
    checks (at + 16) bytes rest (behind IsCheck check checks each) (past at 16 bytes check (checks_bytes checks ++ rest) here size) in
    λ i. first i ∷ others i

-- and their bytes are read as they
pub read_checks : (n : ℕ) (checks : List (List ℕ)) (at : ℕ) (bytes : List ℕ)
    → length checks ≡ n → All IsCheck checks → take (16 * n) (drop at bytes) ≡ checks_bytes checks → checks_at n at bytes ≡ checks
read_checks n checks at bytes size each is =
    ap (λ (m : ℕ). checks_at m at bytes) (sym size) ∙ checks_there checks at bytes (drop (16 * n) (drop at bytes))
    each (sym (take-append-drop (16 * n) (drop at bytes)) ∙ ap (λ (l : List ℕ). l ++ drop (16 * n) (drop at bytes)) is)

-- among zeros none is named
pub none_at : (n at m : ℕ) (bytes : List ℕ) → drop at bytes ≡ replicate m 0 → 16 * n ≤ m → AreNone (checks_at n at bytes)
unfolding checks_at no_checksum
none_at zero at m bytes is fits k d inside = absurd (omega arith)
none_at (suc n) at m bytes is fits zero d inside = ap (λ (l : List ℕ). take 16 l) is ∙ take-replicate 16 m 0 (omega (arith, fits))
none_at (suc n) at m bytes is fits (suc k) d inside = none_at n (at + 16) (m - 16)
    bytes (sym (drop-drop 16 at bytes) ∙ ap (λ (l : List ℕ). drop 16 l) is ∙ drop-replicate 16 m 0) (omega (arith, fits)) k d (omega arith)

-- zeros for each place name none
pub no_names : AreNone no_checksums
unfolding no_checksums
no_names k past inside = get_or-replicate 64 k no_checksum past (omega (arith, inside, length-replicate {A = List ℕ} 64 no_checksum))
