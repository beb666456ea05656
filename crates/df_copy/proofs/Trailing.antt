-- A trailer is written by a grid that knows the blocks: it is the one of these, and the grid names its last block.
use Rattle.std.proofs.{Common.{◌≡◌, ℕ, ◌+◌, ◌-◌, ◌<◌, ◌≤◌, List, [], ◌∷◌, length, take, refl, sym, ◌∙◌, ap, arith}, lemmas.List.FromFn.{length-range_with_len}}
use Rattle.{df_layout.specs.declared.layout.Layout.{Layout}, df_format.specs.Message.{Message}, df_model.specs.Blocks.{sum_at}}
use Rattle.{df_units.specs.Meaning.{layout_of, number_of}, df_trailer.specs.{Spelling.{spell}, Writing.{captured_parts, piece_of}}}
use Rattle.{df_checkpoint.specs.{declared.capture.Capture.{Capture}, Writing.{unit_in}}, df_opening.specs.Below.{State, memory}}
use Rattle.df_grid.specs.{Grid.{GridState, free_addresses, with_blocks}, Table.{last_trailer_block, next_written}, Writes.{made_events, next_unit}}
use Rattle.df_copy.{specs.{Targets.{begun_grid, grid_behind, grid_with, last_message as last_block, next_piece, pieces_from, reference_pair, sequence_of, trailer_of}, Tests.{needed, references, trailer_blocks}, Trailers.{text_in}, Units.{all_events, moved_from}}, proofs.{Frees.{free_behind, next_free}, Listed.{moved_length}, Piecewise.{count_left, count_written, grid_more, kept_captured, kept_layout, last_written}}}

-- ---- some

-- what the grid makes of what was captured
pub same_trailer : (layout : Layout) (s : State) (us : List Message) (g : GridState) (capture : Capture) (boot blocks : ℕ)
    → g ≡ grid_with layout s.file.cluster us → boot ≡ s.fields.boot → blocks ≡ trailer_blocks layout (memory s)
    → capture.sequence ≡ sequence_of s → capture.root.items ≡ s.root → capture.sessions.items ≡ s.table.sessions
    → pieces_from (begun_grid g boot blocks) capture.sequence (text_in (begun_grid g boot blocks) capture) blocks ≡ trailer_of layout s us
same_trailer layout s us g capture boot blocks grid booted count sequence root sessions =
    λ i. pieces_from (begun_grid (grid i) (booted i) (count i))
    (sequence i) (spell (layout_of (grid i).layout) (captured_parts (root i) (sessions i) (λ a. sum_at a (grid i).blocks.live))) (count i)

none_left : (left : List ℕ) → length left ≡ 0 → left ≡ []
none_left [] none = refl
none_left (a ∷ left) none = absurd (omega arith)

pub last_named : (g : GridState) (sequence : ℕ) (text : List ℕ) (n : ℕ) → 0 < n → length g.blocks.left ≡ n
    → last_trailer_block (grid_behind g sequence text n).blocks.left (grid_behind g sequence text n).blocks.written
    ≡ reference_pair (last_block (pieces_from g sequence text n))
last_named g sequence text n some all = let behind = grid_behind g sequence text n in
    let none = none_left behind.blocks.left (omega (arith, count_left sequence text g n, all)) in
    ap (λ (l : List ℕ). last_trailer_block l behind.blocks.written) none ∙ last_written sequence text g n some (omega (arith, all))

-- ---- room for it

module _ (layout : Layout) (s : State)
    (bs : List Message) (all : length bs ≡ length (references (memory s))) (room : needed layout (memory s) ≤ layout.blocks) where
  abbrev us : List Message
  us = moved_from 1 bs

  few : length us + trailer_blocks layout (memory s) ≤ layout.blocks
  few = omega (arith, moved_length 1 bs, all, room)

  pub enough_free : trailer_blocks layout (memory s) ≤ length (free_addresses (grid_with layout s.file.cluster us))
  enough_free = let free = ap length (free_behind layout s.file.cluster us (omega (arith, few)))
      ∙ length-range_with_len (length us + 1) (layout.blocks - length us) in omega (arith, free, few)

  pub left_all : length (take (trailer_blocks layout (memory s)) (free_addresses (grid_with layout s.file.cluster us)))
      ≡ trailer_blocks layout (memory s)
  left_all = ap length (next_free layout s.file.cluster us (trailer_blocks layout (memory s)) few)
      ∙ length-range_with_len (length us + 1) (trailer_blocks layout (memory s))

-- ---- block by block

module _ (g : GridState) (capture : Capture) (n : ℕ) (none : g.blocks.written ≡ []) (inside : n ≤ length g.blocks.left) where
  abbrev behind : GridState
  behind = grid_behind g capture.sequence (text_in g capture) n

  same_text : text_in behind capture ≡ text_in g capture
  same_text = λ i. spell (layout_of (kept_layout capture.sequence (text_in g capture) g n i))
      (captured_parts capture.root.items capture.sessions.items (λ a. sum_at a (kept_captured capture.sequence (text_in g capture) g n i)))

  how_many : length behind.blocks.written ≡ n
  how_many = let count = count_written capture.sequence (text_in g capture) g n inside in omega (arith, count, ap length none)

  -- the unit of the next piece is the next one of the text
  pub same_unit : unit_in behind capture n ≡ next_piece behind capture.sequence (text_in g capture)
  same_unit = ap (λ (t : List ℕ). next_unit behind capture.sequence (piece_of (behind.layout.block_size - 256) n t)) same_text
      ∙ ap (λ (k : ℕ). next_unit behind capture.sequence (piece_of (behind.layout.block_size - 256) k (text_in g capture))) (sym how_many)

  -- of a grid that has come so far: its unit, what is written of it, and where it comes
  module _ (now : GridState) (is : now ≡ behind) where
    its_unit : unit_in now capture n ≡ next_piece behind capture.sequence (text_in g capture)
    its_unit = ap (λ (h : GridState). unit_in h capture n) is ∙ same_unit

    pub its_events : made_events now.layout (unit_in now capture n)
        ≡ made_events g.layout (next_piece behind capture.sequence (text_in g capture))
    its_events = ap (λ (l : Layout). made_events l (unit_in now capture n))
        (ap (λ (h : GridState). h.layout) is ∙ kept_layout capture.sequence (text_in g capture) g n) ∙ ap (made_events g.layout) its_unit

    pub its_next : with_blocks now (next_written now.blocks (number_of (unit_in now capture n).header.checksum))
        ≡ grid_behind g capture.sequence (text_in g capture) (n + 1)
    its_next = ap (λ (h : GridState). with_blocks h (next_written h.blocks (number_of (unit_in now capture n).header.checksum))) is
        ∙ ap (λ (u : Message). with_blocks behind (next_written behind.blocks (number_of u.header.checksum))) its_unit
        ∙ sym (grid_more capture.sequence (text_in g capture) g n (n + 1) refl)

-- ---- a grid that was begun

module _ (layout : Layout) (s : State) (us : List Message) (g begun : GridState) (capture : Capture) (boot blocks : ℕ)
    (whole : begun ≡ begun_grid g boot blocks) (grid : g ≡ grid_with layout s.file.cluster us) (booted : boot ≡ s.fields.boot)
    (count : blocks ≡ trailer_blocks layout (memory s)) (sequence : capture.sequence ≡ sequence_of s)
    (root : capture.root.items ≡ s.root) (sessions : capture.sessions.items ≡ s.table.sessions) where
  -- what it makes of the text is the copy's trailer
  pub own_pieces : pieces_from begun capture.sequence (text_in begun capture) blocks ≡ trailer_of layout s us
  own_pieces = ap (λ (h : GridState). pieces_from h capture.sequence (text_in h capture) blocks) whole
      ∙ same_trailer layout s us g capture boot blocks grid booted count sequence root sessions

  pub own_events : all_events (made_events begun.layout) (pieces_from begun capture.sequence (text_in begun capture) blocks)
      ≡ all_events (made_events layout) (trailer_of layout s us)
  own_events = ap (λ (l : Layout). all_events (made_events l) (pieces_from begun capture.sequence (text_in begun capture) blocks))
      (ap (λ (h : GridState). h.layout) whole ∙ ap (λ (h : GridState). h.layout) grid) ∙ ap (all_events (made_events layout)) own_pieces

  pub own_left : length (take (trailer_blocks layout (memory s)) (free_addresses (grid_with layout s.file.cluster us)))
      ≡ trailer_blocks layout (memory s) → length begun.blocks.left ≡ blocks
  own_left all = ap (λ (h : GridState). length h.blocks.left) whole ∙ ap (λ (h : GridState). length (take blocks (free_addresses h))) grid
      ∙ ap (λ (k : ℕ). length (take k (free_addresses (grid_with layout s.file.cluster us)))) count ∙ all ∙ sym count

  -- and it names the last block
  pub own_last : 0 < blocks → length begun.blocks.left ≡ blocks → (now : GridState) → now ≡ grid_behind begun capture.sequence (text_in
      begun capture) blocks → last_trailer_block now.blocks.left now.blocks.written ≡ reference_pair (last_block (trailer_of layout s us))
  own_last some left now is = ap (λ (h : GridState). last_trailer_block h.blocks.left h.blocks.written) is ∙ last_named
      begun capture.sequence (text_in begun capture) blocks some left ∙ ap (λ (l : List Message). reference_pair (last_block l)) own_pieces
