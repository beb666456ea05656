-- What the rooms of a reader say of the blocks of a text in which nothing fails.
use Rattle.std.{proofs.{Common.{◌≡◌, ℕ, zero, suc, ◌+◌, ◌-◌, ◌*◌, ◌/◌, ◌%◌, ◌<◌, ◌≤◌, ◌==◌, Bool, true, false, Option, Some, None, List, ◌∷◌, ◌++◌, length, drop, refl, sym, ap, ◌∙◌, arith, length-append}, lemmas.Bool.{eqb-true}, lemmas.Nat.Bits.{bit_at-suc}}, specs.{Prelude.{if◌then◌else◌, slice_index}, Int.{bit_at}}}
use Rattle.{df_base.{specs.Fields.{field_at}, proofs.Laws.{field_moved, suc_minus, over_one}}, df_theory.specs.Units.{Layout}}
use Rattle.df_model.specs.Refusals.{first_refusal}
use Rattle.df_trailer.{specs.{Reading.{AreChecksKept, IsTextFront}, Text.{known_at_address, at_place, fault, read_blocks, bits, bits_at, bits_in, bits_of, checks_at, end_at, head_tests, ones, tests}}, proofs.{Kept.{append_first, bits_at_front, bits_kept, head_ends, head_same, first_none}, OneBit.{ones_more}, Read.{fine, no_fault}}}

-- what bits and the checksums after them say of the block at a place
abbrev pub reference_of : List ℕ → List ℕ → ℕ → Option ℕ
reference_of bits checks place =
    if bit_at (bits_in bits) place == 1 then Some (field_at 16 (16 * ones (bits_of place (bits_in bits))) checks) else None

-- what is known of the block at a place: its bit, and the checksum after those of the earlier ones
pub block_at : (n x at : ℕ) (text : List ℕ) (k : ℕ) → k < n
    → at_place (read_blocks (bits_of n x) at text) k ≡ (if bit_at x k == 1 then Some (field_at 16 (at + 16 * ones (bits_of k x)) text) else None)
block_at zero x at text k within = absurd (omega arith)
block_at (suc n) x at text zero within = first (x % 2 == 1) (bit_at x 0 == 1) (ap (λ (y : ℕ). y % 2 == 1) (sym (over_one x)))
  where
    first : (b c : Bool)
        → b ≡ c → at_place (read_blocks (b ∷ bits_of n (x / 2)) at text) 0 ≡ (if c then Some (field_at 16 (at + 16 * 0) text) else None)
    first true true e = ap (λ (m : ℕ). Some (field_at 16 m text)) none
      where
        none : at ≡ at + 16 * 0
        none = omega arith
    first false false e = refl
    first true false e = absurd (cc)
    first false true e = absurd (cc)
block_at (suc n) x at text (suc k) within =
    next (x % 2 == 1) (block_at n (x / 2) (at + 16) text k (omega arith)) (block_at n (x / 2) at text k (omega arith))
  where
    up : bit_at x (suc k) ≡ bit_at (x / 2) k
    up = bit_at-suc x k

    more : at + 16 + 16 * ones (bits_of k (x / 2)) ≡ at + 16 * suc (ones (bits_of k (x / 2)))
    more = omega arith

    next : (b : Bool) → at_place (read_blocks (bits_of n (x / 2)) (at + 16) text) k
        ≡ (if bit_at (x / 2) k == 1 then Some (field_at 16 (at + 16 + 16 * ones (bits_of k (x / 2))) text) else None)
        → at_place (read_blocks (bits_of n (x / 2)) at text) k
        ≡ (if bit_at (x / 2) k == 1 then Some (field_at 16 (at + 16 * ones (bits_of k (x / 2))) text) else None)
        → at_place (read_blocks (b ∷ bits_of n (x / 2)) at text) (suc k)
        ≡ (if bit_at x (suc k) == 1 then Some (field_at 16 (at + 16 * ones (b ∷ bits_of k (x / 2))) text) else None)
    next true a b = a ∙ rw (up, more) refl
    next false a b = b ∙ rw up refl

ones_up : (n k x : ℕ) → k ≤ n → ones (bits_of k x) ≤ ones (bits_of n x)
ones_up zero zero x h = omega arith
ones_up zero (suc k) x h = absurd (omega arith)
ones_up (suc n) zero x h = omega arith
ones_up (suc n) (suc k) x h = more (x % 2 == 1) (ones_up n k (x / 2) (omega arith))
  where
    more : (b : Bool) → ones (bits_of k (x / 2)) ≤ ones (bits_of n (x / 2)) → ones (b ∷ bits_of k (x / 2)) ≤ ones (b ∷ bits_of n (x / 2))
    more true g = omega arith
    more false g = g

pub few_ones : (n x : ℕ) → ones (bits_of n x) ≤ n
few_ones zero x = omega arith
few_ones (suc n) x = more (x % 2 == 1) (few_ones n (x / 2))
  where
    more : (b : Bool) → ones (bits_of n (x / 2)) ≤ n → ones (b ∷ bits_of n (x / 2)) ≤ suc n
    more true g = omega arith
    more false g = omega arith

-- in a text in which nothing fails, a block's checksum is where the reader kept it
pub reference_kept : (l : Layout) (op : ℕ) (text head bs cs : List ℕ) (behind place : ℕ)
    → l.clients ≤ 64 → IsTextFront l text head bs behind → length cs ≡ 16 * l.blocks
    → AreChecksKept text (length head + length bs) cs → first_refusal (tests l op text) ≡ None → length text ≡ end_at l text → place < l.blocks
    → reference_of bs cs place ≡ at_place (read_blocks (bits_of l.blocks (bits l text)) (checks_at l text) text) place
reference_kept l op text head bs cs behind place few k room kept none ends within =
    let head_none : first_refusal (head_tests l.clients op head) ≡ None =
    sym (head_same l op head k.rest few k.whole)
    ∙ first_none (first_refusal (head_tests l.clients op (head ++ k.rest))) (first_refusal (drop 7 (tests l op (head ++ k.rest))))
    (sym (append_first (head_tests l.clients op (head ++ k.rest)) (drop 7 (tests l op (head ++ k.rest))))
    ∙ ap (λ (t : List ℕ). first_refusal (tests l op t)) (sym k.is) ∙ none) in let e = head_ends l.clients op head k.fits head_none in
    let start : bits_at text ≡ length head = ap (λ (t : List ℕ). bits_at t) k.is ∙ bits_at_front head k.rest e in
    let size : length text ≡ length head + length k.rest = ap (λ (t : List ℕ). length t) k.is ∙ length-append head k.rest in
    let enough : length bs ≤ length k.rest = omega (arith, k.room, start, ends, size) in let number : bits l text ≡ bits_in bs =
    ap (λ (n : ℕ). field_at n (bits_at text) text) (sym k.room)
    ∙ ap (λ (at : ℕ). field_at (length bs) at text) start ∙ ap (λ (t : List ℕ). field_at (length bs) (length head) t) k.is
    ∙ bits_kept (length bs) head k.rest bs refl enough k.bits_are in
    let from : checks_at l text ≡ length head + length bs = omega (arith, k.room, start) in
    let there : at_place (read_blocks (bits_of l.blocks (bits l text)) (checks_at l text) text) place
    ≡ at_place (read_blocks (bits_of l.blocks (bits_in bs)) (length head + length bs) text) place =
    ap (λ (x : ℕ). at_place (read_blocks (bits_of l.blocks x) (checks_at l text) text) place) number
    ∙ ap (λ (at : ℕ). at_place (read_blocks (bits_of l.blocks (bits_in bs)) at text) place) from in
    let last : length text ≡ length head + length bs + 16 * ones (bits_of l.blocks (bits_in bs)) = ends ∙ ap (λ (x : ℕ).
    checks_at l text + 16 * ones (bits_of l.blocks x)) number ∙ ap (λ (at : ℕ). at + 16 * ones (bits_of l.blocks (bits_in bs))) from in
    let n : ℕ = ones (bits_of place (bits_in bs)) in
    let moved : (bit_at (bits_in bs) place == 1) ≡ true → field_at 16 (16 * n) cs ≡ field_at 16 (length head + length bs + 16 * n) text = λ set.
    let one : bit_at (bits_in bs) place ≡ 1 = eqb-true (bit_at (bits_in bs) place) 1 set in let more = ones_more place (bits_in bs) in
    let up = ones_up l.blocks (suc place) (bits_in bs) (omega arith) in let low = few_ones place (bits_in bs) in
    field_moved 16 (16 * n) (length head + length bs + 16 * n) cs text (λ j h. kept (16 * n + j) (omega (arith, room)) (omega (arith, last))
    ∙ ap (λ (m : ℕ). slice_index text m) (group (length head + length bs) (16 * n) j)) in
    pick (bit_at (bits_in bs) place == 1) moved ∙ sym (there ∙ block_at l.blocks (bits_in bs) (length head + length bs) text place within)
  where
    pick : {x y : ℕ} (b : Bool) → (b ≡ true → x ≡ y) → (if b then Some x else None) ≡ (if b then Some y else None)
    pick true same = ap (λ (c : ℕ). Some c) (same refl)
    pick false same = refl

    group : (a b j : ℕ) → a + (b + j) ≡ (a + b) + j
    group a b j = omega arith

address_at : (bs : List (Option ℕ)) (a : ℕ) → 1 ≤ a → at_place bs (a - 1) ≡ known_at_address bs a
address_at bs zero h = absurd (omega arith)
address_at bs (suc k) h = ap (λ (j : ℕ). at_place bs j) (suc_minus k)

pub reference_at : (l : Layout) (op : ℕ) (text head bs cs : List ℕ) (behind address : ℕ)
    → l.clients ≤ 64 → IsTextFront l text head bs behind → length cs ≡ 16 * l.blocks
    → AreChecksKept text (length head + length bs) cs → fault l op text ≡ None → 1 ≤ address → address ≤ l.blocks
    → reference_of bs cs (address - 1) ≡ known_at_address (read_blocks (bits_of l.blocks (bits l text)) (checks_at l text) text) address
reference_at l op text head bs cs behind address few k room kept none some most = reference_kept l op text head
    bs cs behind (address - 1) few k room kept (no_fault (first_refusal (tests l op text)) none) (fine l op text none).ends (omega arith)
    ∙ address_at (read_blocks (bits_of l.blocks (bits l text)) (checks_at l text) text) address some
