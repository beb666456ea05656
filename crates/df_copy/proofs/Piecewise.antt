-- A trailer is written block by block: what stands after each of them.
use Rattle.std.{proofs.Common.{◌≡◌, ℕ, zero, suc, ◌+◌, ◌-◌, ◌<◌, ◌≤◌, List, [], ◌∷◌, ◌++◌, length, Option, Some, refl, sym, ◌∙◌, ap, arith, append_assoc}, specs.{Prelude.{slice_get}, List.{range_with_len}}}
use Rattle.{df_base.{specs.Log.{Event}, proofs.Laws.{minus_zero, plus_zero}}, df_layout.specs.declared.layout.Layout.{Layout}}
use Rattle.df_disk.{specs.{Told.{Told}, Adds.{AddsPart, after_all}}, proofs.Laws.{after_append, all_then, part_then}}
use Rattle.{df_format.specs.Message.{Message}, df_units.specs.Meaning.{number_of}, df_model.specs.{Blocks.{Blocks}, Making.{first_of}}}
use Rattle.df_grid.specs.{Grid.{GridState}, Table.{written_of}, Writes.{made_events}}
use Rattle.df_copy.{specs.{Targets.{address_of_block, grid_after_piece, grid_behind, last_message, next_piece, pieces_from, reference_pair}, Units.{all_events}}, proofs.Listed.{events_push}}

pub events_join : (events : Message → List Event) (us vs : List Message)
    → all_events events (us ++ vs) ≡ all_events events us ++ all_events events vs
events_join events [] vs = refl
events_join events (u ∷ us) vs = ap (λ (l : List Event). events u ++ l) (events_join events us vs)
    ∙ sym (append_assoc (events u) (all_events events us) (all_events events vs))

one_captured : (b : Blocks) (c : ℕ) (left : List ℕ) → (written_of b c left).captured ≡ b.captured
one_captured b c [] = refl
one_captured b c (a ∷ left) = refl

one_left : (b : Blocks) (c : ℕ) (left : List ℕ) → b.left ≡ left → length (written_of b c left).left ≡ length b.left - 1
one_left b c [] is = let none = ap (λ (l : List ℕ). length l) is in omega (arith, none)
one_left b c (a ∷ left) is = let some = ap (λ (l : List ℕ). length l) is in omega (arith, some)

one_written : (b : Blocks) (c : ℕ) (left : List ℕ) → 0 < length left → length (written_of b c left).written ≡ length b.written + 1
one_written b c [] some = absurd (omega (arith, some))
one_written b c (a ∷ left) some = omega arith

module _ (sequence : ℕ) (text : List ℕ) where
  abbrev grid : GridState → ℕ → GridState
  grid g n = grid_behind g sequence text n

  abbrev next : GridState → Message
  next g = next_piece g sequence text

  abbrev written : GridState → ℕ → List Message
  written g n = pieces_from g sequence text n

  pub grid_more : (g : GridState) (n m : ℕ) → m ≡ n + 1 → grid g m ≡ grid_after_piece (grid g n) sequence text
  grid_more g zero m is = ap (grid g) (one m is)
    where
      one : (k : ℕ) → k ≡ 0 + 1 → k ≡ suc zero
      one k same = omega (arith, same)
  grid_more g (suc n) zero is = absurd (omega (arith, is))
  grid_more g (suc n) (suc m) is = grid_more (grid_after_piece g sequence text) n m (omega (arith, is))

  pub written_more : (g : GridState) (n m : ℕ) → m ≡ n + 1 → written g m ≡ written g n ++ next (grid g n) ∷ []
  written_more g zero m is = ap (written g) (one m is)
    where
      one : (k : ℕ) → k ≡ 0 + 1 → k ≡ suc zero
      one k same = omega (arith, same)
  written_more g (suc n) zero is = absurd (omega (arith, is))
  written_more g (suc n) (suc m) is =
      ap (λ (l : List Message). next g ∷ l) (written_more (grid_after_piece g sequence text) n m (omega (arith, is)))

  pub written_split : (g : GridState) (n k m : ℕ)
      → m ≡ n + suc k → written g m ≡ written g n ++ next (grid g n) ∷ written (grid_after_piece (grid g n) sequence text) k
  written_split g zero k m is = ap (written g) (one m is)
    where
      one : (j : ℕ) → j ≡ 0 + suc k → j ≡ suc k
      one j same = omega (arith, same)
  written_split g (suc n) k zero is = absurd (omega (arith, is))
  written_split g (suc n) k (suc m) is =
      ap (λ (l : List Message). next g ∷ l) (written_split (grid_after_piece g sequence text) n k m (omega (arith, is)))

  -- ---- what stays

  pub kept_layout : (g : GridState) (n : ℕ) → (grid g n).layout ≡ g.layout
  kept_layout g zero = refl
  kept_layout g (suc n) = kept_layout (grid_after_piece g sequence text) n

  pub kept_captured : (g : GridState) (n : ℕ) → (grid g n).blocks.captured ≡ g.blocks.captured
  kept_captured g zero = refl
  kept_captured g (suc n) =
      kept_captured (grid_after_piece g sequence text) n ∙ one_captured g.blocks (number_of (next g).header.checksum) g.blocks.left

  -- ---- what is counted

  pub count_left : (g : GridState) (n : ℕ) → length (grid g n).blocks.left ≡ length g.blocks.left - n
  count_left g zero = minus_zero (length g.blocks.left)
  count_left g (suc n) = let more = count_left (grid_after_piece g sequence text) n in
      let one = one_left g.blocks (number_of (next g).header.checksum) g.blocks.left refl in omega (arith, more, one)

  pub count_written : (g : GridState) (n : ℕ) → n ≤ length g.blocks.left → length (grid g n).blocks.written ≡ length g.blocks.written + n
  count_written g zero inside = plus_zero (length g.blocks.written)
  count_written g (suc n) inside = let left = one_left g.blocks (number_of (next g).header.checksum) g.blocks.left refl in
      let more = count_written (grid_after_piece g sequence text) n (omega (arith, inside, left)) in
      let one = one_written g.blocks (number_of (next g).header.checksum) g.blocks.left (omega (arith, inside)) in omega (arith, more, one)

  -- the grid names the last of them
  first_written : (b : Blocks) (c : ℕ) (left : List ℕ) → 0 < length left → slice_get (written_of b c left).written 0 ≡ Some (first_of left, c)
  first_written b c [] some = absurd (omega (arith, some))
  first_written b c (a ∷ left) some = refl

  pub last_written : (g : GridState) (n : ℕ)
      → 0 < n → n ≤ length g.blocks.left → slice_get (grid g n).blocks.written 0 ≡ reference_pair (last_message (written g n))
  last_written g zero some inside = absurd (omega (arith, some))
  last_written g (suc zero) some inside = first_written g.blocks (number_of (next g).header.checksum) g.blocks.left (omega (arith, inside))
  last_written g (suc (suc n)) some inside = let one = one_left g.blocks (number_of (next g).header.checksum) g.blocks.left refl in
      last_written (grid_after_piece g sequence text) (suc n) (omega arith) (omega (arith, inside, one))

  -- and they stand one after the other
  pub last_address : (g : GridState) (n at : ℕ)
      → g.blocks.left ≡ range_with_len at n → 0 < n → address_of_block (last_message (written g n)) + 1 ≡ at + n
  last_address g zero at left some = absurd (omega (arith, some))
  last_address g (suc zero) at left some = let here : (next g).header.op ≡ at = ap first_of left in omega (arith, here)
  last_address g (suc (suc n)) at left some = let more = last_address (grid_after_piece g sequence text)
      (suc n) (at + 1) (ap (λ (l : List ℕ). (written_of g.blocks (number_of (next g).header.checksum) l).left) left) (omega arith) in
      omega (arith, more)

  -- ---- what is written

  module _ (layout : Layout) (g : GridState) (old mid new : Option Told) (n : ℕ) where
    abbrev events : ℕ → List Event
    events m = all_events (made_events layout) (written g m)

    pub piece_added : mid ≡ after_all (events n) old
        → new ≡ after_all (made_events layout (next (grid g n))) mid → new ≡ after_all (events (n + 1)) old
    piece_added before now = now ∙ ap (after_all (made_events layout (next (grid g n)))) before
        ∙ sym (after_append (events n) (made_events layout (next (grid g n))) old)
        ∙ ap (λ (l : List Event). after_all l old) (sym (ap (all_events (made_events layout)) (written_more g n (n + 1) refl)
        ∙ events_push (made_events layout) (written g n) (next (grid g n))))

    pub piece_fails : (m : ℕ)
        → n < m → mid ≡ after_all (events n) old → AddsPart (made_events layout (next (grid g n))) mid new → AddsPart (events m) old new
    piece_fails m less before now = rw (sym (ap (all_events (made_events layout)) (written_split g n (m - suc n) m (omega (arith, less)))
        ∙ events_join (made_events layout) (written g n) (next (grid g n) ∷ rest))) at
        (all_then (events n) (all_events (made_events layout) (next (grid g n) ∷ rest))
        old mid new before (part_then (made_events layout (next (grid g n))) (all_events (made_events layout) rest) mid new now))
      where
        rest : List Message
        rest = written (grid_after_piece (grid g n) sequence text) (m - suc n)
