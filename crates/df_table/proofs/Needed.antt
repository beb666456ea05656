-- How many blocks the trailer of a table's checkpoint has: no more than half of what three tables leave.
use Rattle.std.{proofs.{Common.{◌≡◌, ℕ, zero, suc, ◌+◌, ◌-◌, ◌*◌, ◌<◌, ◌≤◌, Bool, List, [], ◌∷◌, length, map, Option, Some, None, refl, sym, ◌∙◌, ap, subst, arith}, Math.Nat.{mul-le-mul_right, mul_comm}}, specs.List.{range_with_len}}
use Rattle.{df_base.proofs.Laws.{zero_plus, suc_minus, suc_plus}, df_layout.specs.declared.layout.Layout.{Layout}}
use Rattle.{df_theory.specs.Units.{Parts}, df_units.specs.Meaning.{layout_of}, df_rows.specs.Limits.{blocks_of_table}}
use Rattle.df_theory.specs.Units as model
use Rattle.df_trailer.{specs.{Spelling.{block_checksums, is_referenced, listed, spell}, Text.{ones}}, proofs.Laws.{text_sized}}
use Rattle.df_model.specs.{Blocks.{sum_at}, Making.{parts_of, pieces_of}, Work.{is_known}}
use Rattle.{df_session.specs.{Beginning.{needed}, Below.{State as Replica, memory}}, df_table.proofs.Free.{count, known_few, one_if}}

-- ---- pieces

-- pieces of at least this many bytes: a text of this many is in few of them
few_pieces : (room size q t : ℕ) → 3840 ≤ room → room * q < size + room → size ≤ 49 * t + 3400 → 2 * q ≤ t + 4
few_pieces room size zero t big fits short = omega arith
few_pieces room size (suc p) t big fits short =
    let more : room * suc p ≡ room * p + room = mul_comm room (suc p) ∙ next p ∙ ap (λ (n : ℕ). n + room) (mul_comm p room) in
    omega (arith, more, fits, short, mul-le-mul_right p big)
  where
    next : (k : ℕ) → suc k * room ≡ k * room + room
    next k = omega arith

cut : (room size : ℕ) → 0 < room → room * pieces_of room size < size + room
cut room size some = omega arith

-- ---- references

-- how many are referenced is how many are known
ones_case : (o : Option ℕ) (bs : List Bool) (n : ℕ) → ones bs ≡ n → ones (is_referenced o ∷ bs) ≡ one_if (is_known o) + n
ones_case None bs n is = omega (arith, is)
ones_case (Some c) bs n is = omega (arith, is)

ones_known : (live : List (ℕ × ℕ)) (f : ℕ → Option ℕ) (s n : ℕ) → ((k : ℕ) → f k ≡ sum_at (k + s) live)
    → ones (map is_referenced (listed f n)) ≡ count (λ a. is_known (sum_at a live)) (range_with_len s n)
ones_known live f s zero is = refl
ones_known live f s (suc n) is =
    let rest = ones_known live (λ k. f (suc k)) (s + 1) n (λ k. is (suc k) ∙ ap (λ (a : ℕ). sum_at a live) (later k s)) in
    first (sum_at s live) (f 0) (is 0 ∙ ap (λ (a : ℕ). sum_at a live) (zero_plus s))
    (map is_referenced (listed (λ k. f (suc k)) n)) (count (λ a. is_known (sum_at a live)) (range_with_len (s + 1) n)) rest
  where
    later : (k s : ℕ) → suc k + s ≡ k + (s + 1)
    later k s = omega arith

    first : (o p : Option ℕ) → p ≡ o → (bs : List Bool) (m : ℕ) → ones bs ≡ m → ones (is_referenced p ∷ bs) ≡ one_if (is_known o) + m
    first o p same bs m rest = ap (λ (q : Option ℕ). ones (is_referenced q ∷ bs)) same ∙ ones_case o bs m rest

few_ones : (l : model.Layout) (parts : Parts) (live : List (ℕ × ℕ))
    → parts.references ≡ (λ a. sum_at a live) → ones (map is_referenced (block_checksums l parts)) ≤ length live
few_ones l parts live is =
    let all : ones (map is_referenced (listed (λ k. sum_at (suc k) live) l.blocks)) ≡ count (λ a. is_known (sum_at a live))
    (range_with_len 1 l.blocks) = ones_known live (λ k. sum_at (suc k) live) 1 l.blocks (λ k. ap (λ (a : ℕ). sum_at a live) (suc_plus k)) in
    subst (λ (f : ℕ → Option ℕ).
    ones (map is_referenced (listed (λ k. f (suc k)) l.blocks)) ≤ length live) (sym is) (omega (arith, all, known_few live 1 l.blocks))

-- ---- a checkpoint without a root

module _ (s : Replica) (few : length (memory s).sessions ≤ 64) where
  abbrev own : Layout
  own = s.file.layout

  abbrev parts : Parts
  parts = parts_of (memory s) []

  abbrev room : ℕ
  room = own.block_size - 256

  abbrev size : ℕ
  size = length (spell (layout_of own) parts)

  short : length s.blocks.live ≤ blocks_of_table own → size ≤ 49 * blocks_of_table own + 3400
  short live = omega (arith, text_sized (layout_of own) parts, few_ones (layout_of own) parts s.blocks.live refl, few, live, own.blocks_within)

  own_needed : length s.blocks.live ≤ blocks_of_table own → 2 * needed s [] ≤ blocks_of_table own + 4
  own_needed live = few_pieces room size (needed s [])
      (blocks_of_table own) (omega (arith, own.block_size_within)) (cut room size (omega (arith, own.block_size_within))) (short live)

pub few_needed : (layout : Layout) (s : Replica) → s.file.layout ≡ layout
    → length (memory s).sessions ≤ 64 → length s.blocks.live ≤ blocks_of_table layout → 2 * needed s [] ≤ blocks_of_table layout + 4
few_needed layout s is few live =
    subst (λ (l : Layout). 2 * needed s [] ≤ blocks_of_table l + 4) is (own_needed s few (rw (sym is) at live))

-- ---- the trailer of a checkpoint that is durable

pub few_linked : (room size n t : ℕ) → 3840 ≤ room → (0 < n → room * (n - 1) < size) → (0 < n → size ≤ 49 * t + 3400) → 2 * n ≤ t + 4
few_linked room size zero t big needed short = omega arith
few_linked room size (suc p) t big needed short = let less : room * p < size = rw (suc_minus p) at (needed (omega arith)) in
    omega (arith, short (omega arith), less, mul-le-mul_right p big)
