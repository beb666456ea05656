-- How long the trailer of a checkpoint is that is begun: what the code counts is what the machine does.
use Rattle.std.proofs.{Common.{◌≡◌, ◌∙◌, ℕ, zero, suc, ◌+◌, ◌-◌, ◌*◌, ◌/◌, ◌%◌, ◌<◌, ◌≤◌, List, length, map, sym, ap, subst, arith}, Math.Nat.{div-add-mod, lt_of_mul-lt-mul_left}, lemmas.List.{length-map}}
use Rattle.{df_base.proofs.Laws.{suc_minus}, df_sessions.specs.Requests.{session_of}, df_theory.specs.Trailer.{IsCount}}
use Rattle.{df_units.specs.Meaning.{layout_of}, df_model.specs.{Blocks.{sum_at}, Making.{parts_of, pieces_of}}}
use Rattle.df_trailer.{specs.{Spelling.{is_referenced, text_size}, Text.{ones}, Writing.{captured_blocks}}, proofs.Laws.{text_sized}}
use Rattle.{df_opening.specs.Below.{State, memory}, df_replica.specs.Beginning.{IsPlan, text_to_write}}

-- a text has one count of pieces
pub pieces_is : (room size n : ℕ) → 0 < room → 0 < size → IsCount room size n → n ≡ pieces_of room size
pieces_is room size zero some any is = absurd (let none : room * 0 ≡ 0 = omega arith in omega (arith, is.holds, none))
pieces_is room size (suc k) some any is = let q : ℕ = (size + room - 1) / room in
    let split : room * q + (size + room - 1) % room ≡ size + room - 1 = div-add-mod (size + room - 1) room in
    let rest : (size + room - 1) % room < room = omega arith in
    let needed : room * k < size = subst (λ (i : ℕ). room * i < size) (suc_minus k) (is.needed (omega arith)) in
    let one : room * suc k ≡ room * k + room = omega arith in let two : room * suc (suc k) ≡ room * suc k + room = omega arith in
    let above : k < q = lt_of_mul-lt-mul_left room (omega (arith, split, rest, needed, some)) in
    let below : q < suc (suc k) = lt_of_mul-lt-mul_left room (omega (arith, split, is.holds, two, some)) in omega (arith, above, below)

module _ (s : State) (root : List ℕ) (live size : ℕ) (live_is : live ≡ ones (map is_referenced (captured_blocks (λ a. sum_at a s.blocks.live) s.file.layout.blocks))) (size_is : size ≡ text_size (layout_of s.file.layout) (length root) (length s.table.sessions) live) where
  pub size_planned : size ≡ length (text_to_write s root)
  size_planned = size_is ∙ ap (λ (n : ℕ). text_size (layout_of s.file.layout) (length root) (length s.table.sessions) n) live_is
      ∙ ap (λ (n : ℕ). text_size (layout_of s.file.layout) (length root) n (ones (map
      is_referenced (captured_blocks (λ a. sum_at a s.blocks.live) s.file.layout.blocks)))) (sym (length-map s.table.sessions session_of))
      ∙ sym (text_sized (layout_of s.file.layout) (parts_of (memory s) root))

  pub planned : (blocks : ℕ) → length root ≤ 1024 → length s.table.sessions ≤ s.file.layout.clients → live ≤ s.file.layout.blocks
      → IsCount (s.file.layout.block_size - 256) (text_size (layout_of s.file.layout) (length root) (length s.table.sessions) live) blocks
      → blocks ≤ 70 → IsPlan s root (record { size = size; blocks = blocks })
  planned blocks short few_sessions few_live count few = let counts : IsCount (s.file.layout.block_size - 256) size blocks =
      subst (λ (n : ℕ). IsCount (s.file.layout.block_size - 256) n blocks) (sym size_is) count in
      let some : 0 < size = omega (arith, size_is) in record {
        size = size_planned;
        blocks = pieces_is (s.file.layout.block_size - 256) size blocks (omega (arith, s.file.layout.block_size_within.0)) some counts
            ∙ ap (pieces_of (s.file.layout.block_size - 256)) size_planned;
        some = some;
        longest = omega (arith, size_is, short, few_sessions, few_live);
        count = counts;
        few = few;
      }
