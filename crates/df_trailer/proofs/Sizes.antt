-- How long a trailer is, and how many pieces that makes.
use Rattle.std.{proofs.{Common.{◌≡◌, ℕ, zero, suc, ◌+◌, ◌-◌, ◌*◌, ◌/◌, ◌%◌, ◌<◌, ◌≤◌, List, ◌++◌, length, drop, ap, ◌∙◌, arith, length-append}, Math.Nat.{mul_comm, suc-mul}, lemmas.Grind.{div_ceil_times}}, specs.{Prelude.{map, min}, Int.{div_ceil}}}
use Rattle.df_base.{specs.{Fields.{spelled}, Text.{Piece, text}}, proofs.Laws.{length-spelled, so_text}}
use Rattle.df_theory.specs.{Trailer.{IsCount}, Units.{Layout, Parts}}
use Rattle.df_trailer.{specs.{Spelling.{block_checksums, is_referenced, spell, spell_checks, text_size, trailer_pieces}, Text.{ones}}, proofs.{Blocks.{so_checks}, Sessions.{so_sessions}}}

pub text_sized : (l : Layout) (parts : Parts)
    → length (spell l parts) ≡ text_size l (length parts.root) (length parts.sessions) (ones (map is_referenced (block_checksums l parts)))
text_sized l parts = let pieces : List (Piece Parts) = drop 2 (trailer_pieces l 0 (length parts.sessions)) in
    let rest : List ℕ = text pieces parts (spell_checks (block_checksums l parts)) in
    let all = so_text pieces parts (assumption (so_sessions parts.sessions)) (so_checks (block_checksums l parts)) in
    omega (arith, all.size, length-append (spelled 4 (length parts.root)) (parts.root ++ rest), length-append parts.root rest, length-spelled 4 (length parts.root))

pub count_is : (size room n : ℕ) → 0 < room → n ≡ div_ceil size room → IsCount room size n
count_is size room n some is = let t = div_ceil_times size room some in
    let m : n * room ≡ (size / room + min 1 (size % room)) * room = ap (λ (k : ℕ). k * room) is in record {
      holds = le (mul_comm n room) (omega (arith, t.0, m));
      needed = λ positive. before n positive (omega (arith, t.1, m));
    }
  where
    le : {a b : ℕ} → a ≡ b → size ≤ a → size ≤ b
    le e h = omega arith

    before : (n : ℕ) → 0 < n → n * room < size + room → room * (n - 1) < size
    before zero positive h = absurd (omega arith)
    before (suc k) positive h = let s : suc k * room ≡ k * room + room = suc-mul k room in
        let c : k * room ≡ room * (suc k - 1) = mul_comm k room ∙ ap (λ (j : ℕ). room * j) (less k) in omega (arith, s, c)
      where
        less : (k : ℕ) → k ≡ suc k - 1
        less k = omega arith
