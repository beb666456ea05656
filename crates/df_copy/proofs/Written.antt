-- What is written of a target, in the words of the theory: the header ring, replies and blocks that were read, and the trailer after them.
use Rattle.std.{proofs.{Common.{◌≡◌, ℕ, suc, ◌+◌, ◌-◌, ◌*◌, ◌<◌, ◌≤◌, take, true, List, [], ◌∷◌, ◌++◌, length, Option, Some, refl, ◌∙◌, ap, arith}, lemmas.Option.{slice_get_within}}, specs.{Prelude.{slice_get}, List.{range_with_len}}}
use Rattle.{df_base.specs.Fields.{AreBytes}, df_disk.specs.Told.{Told}, df_model.specs.Blocks.{sum_at}}
use Rattle.df_layout.specs.{declared.layout.Layout.{Layout}, declared.places.Zone.TheVariants.{ClientReplies, Grid}}
use Rattle.df_format.{specs.{declared.kind.Kind.{Kind}, Making.{for_body}, Message.{Message}, Own.{has_op_of_slot, named_elsewhere, place_in}, Valid.{IsUnit}, Copies.{content_with}}, proofs.Laws.{is_own, sealed_is, valid_belongs}}
use Rattle.df_theory.{specs.{Device.{AreSteps}, Units.{Content}}, proofs.Laws.{steps_join_law}}
use Rattle.{df_units.specs.{Format.{format_of}, Meaning.{content_of, layout_of}}, df_opening.specs.Below.{IsState, State, memory}}
use Rattle.df_trailer.{specs.Writing.{captured_parts}, proofs.Laws.{text_bytes}}
use Rattle.df_grid.specs.{Grid.{GridState}, Writes.{block_steps, made_events}}
use Rattle.df_copy.{specs.{Acts.{FitBlocks, FitReplies, IsBlockOf}, Targets.{all_steps, begun_grid, events_before_trailer, front_events, front_steps, grid_with, numbered, reply_steps, ring_events, ring_steps, sequence_of, text_with, trailer_of, unit_steps}, Tests.{needed, references, trailer_blocks}, Units.{IsBlockAt, IsReplyAt, all_events, moved, moved_from, reply_events}}, proofs.{Frees.{next_free}, Listed.{moved_length}, Pieces.{ArePieces, IsPieced, IsWriting, pieces_are, zeros_back}, Rings.{ring_steps as ring_is_steps}, Rows.{AreInRow, AreReplyRow, block_rows, reply_rows, row_steps}, Units.{block_owned, moved_made}}}

-- ---- units of the source in the target

module _ (layout : Layout) (s : State) (told : Option Told) where
  abbrev cluster : ℕ
  cluster = s.file.cluster

  reply_there : (k : ℕ) (u : Message) → IsReplyAt s told k u → k < layout.clients
      → 256 + length u.body ≤ layout.message_size → (u.header.slot ≡ k) × IsUnit layout cluster (place_in ClientReplies k) u
  reply_there k u at inside fits = let is : IsUnit s.file.layout cluster (place_in ClientReplies k) u = at.known.is in
      let of = (valid_belongs s.file.layout cluster (place_in ClientReplies k) u is).belongs in (
        of.slot,
        record {
          sealed = is.sealed;
          owner = is.owner;
          fits = omega (arith, is.body.size, fits);
          body = is.body;
          own = is_own layout ClientReplies u.header (place_in ClientReplies k) (record {
            op = ap (λ (kind : Kind). has_op_of_slot layout kind u.header) of.kind;
            named = ap (λ (kind : Kind). named_elsewhere kind u.header) of.kind ∙ ap (λ (j : ℕ). Some (place_in ClientReplies j)) of.slot;
            has = inside;
          });
        },
      )

  reply_row : (from : ℕ) (us : List Message) → ((i : ℕ) (u : Message) → slice_get us i ≡ Some u
      → (u.header.slot ≡ from + i) × IsUnit layout cluster (place_in ClientReplies (from + i)) u) → AreReplyRow layout cluster from us
  reply_row from [] each = tt
  reply_row from (u ∷ us) each = let here = each 0 u refl in let plain : from + 0 ≡ from = omega arith in (
    here.0 ∙ plain,
    rw plain at here.1,
    reply_row (from + 1) us (λ i v at. let later = each (suc i) v at in let next : from + suc i ≡ from + 1 + i = omega arith in
        (later.0 ∙ next, rw next at later.1)),
  )

  -- the replies that were read, each at its place
  pub replies_in_row : (us : List Message) → FitReplies layout s told us → length us ≤ layout.clients → AreReplyRow layout cluster 0 us
  replies_in_row us fit few = reply_row 0 us (λ i u at. let plain : i ≡ 0 + i = omega arith in let inside = slice_get_within us i u at in
      let there = reply_there i u (fit.are.each i u at) (omega (arith, inside, few)) (fit.fit i u at) in
      (there.0 ∙ plain, rw plain at there.1))

  block_there : (to address : ℕ) (u : Message) → IsBlockAt s told address u
      → 0 < to → to ≤ layout.blocks → 256 + length u.body ≤ layout.block_size → IsUnit layout cluster (place_in Grid to) (moved to u)
  block_there to address u at some inside fits =
      let of : IsBlockOf cluster address u = record { own = s.file.layout; is = at.known.is; kind = at.known.of_kind } in record {
        sealed = sealed_is (for_body (record u.header { op = to }) u.body)
            (moved_made cluster address u of to some (omega (arith, inside, layout.blocks_within)));
        owner = at.known.is.owner;
        fits = fits;
        body = record { size = refl; checksum = refl; each = at.known.is.body.each };
        own = block_owned layout (moved to u).header at.known.of_kind (some, inside);
      }

  block_row : (from : ℕ) (us : List Message) → ((i : ℕ) (u : Message) → slice_get us i ≡ Some u
      → IsUnit layout cluster (place_in Grid (from + i)) (moved (from + i) u)) → AreInRow layout cluster from (moved_from from us)
  block_row from [] each = tt
  block_row from (u ∷ us) each = let plain : from + 0 ≡ from = omega arith in (
    refl,
    rw plain at (each 0 u refl),
    block_row (from + 1) us (λ i v at. let next : from + suc i ≡ from + 1 + i = omega arith in rw next at (each (suc i) v at)),
  )

  -- the blocks that were read, each at its new address
  pub blocks_in_row : (us : List Message) → FitBlocks layout s told us → length us ≤ layout.blocks → AreInRow layout cluster 1 (moved_from 1 us)
  blocks_in_row us fit few = block_row 1 us (λ i u at. let there = fit.are.each i u at in
      block_there (1 + i) there.0.0 u there.2 (omega arith) (omega (arith, slice_get_within us i u at, few)) (fit.fit i u at))

-- ---- all that is written

-- what may be written: units that stand in the target, and room for the trailer after them
pub record IsWritable (layout : Layout) (s : State) (rs bs : List Message) : Type 0 where
  pub live : s.live ≡ true
  pub state : IsState s
  pub root : AreBytes s.root
  pub replies : AreReplyRow layout s.file.cluster 0 rs
  pub blocks : AreInRow layout s.file.cluster 1 (moved_from 1 bs)
  pub all : length bs ≡ length (references (memory s))
  pub room : needed layout (memory s) ≤ layout.blocks

-- the trailer's addresses are the next ones
pub next_left : (layout : Layout) (s : State) (bs : List Message)
    → length bs ≡ length (references (memory s)) → needed layout (memory s) ≤ layout.blocks
    → (begun_grid (grid_with layout s.file.cluster (moved_from 1 bs)) s.fields.boot (trailer_blocks layout (memory s))).blocks.left
    ≡ range_with_len (length (moved_from 1 bs) + 1) (trailer_blocks layout (memory s))
next_left layout s bs all room =
    next_free layout s.file.cluster (moved_from 1 bs) (trailer_blocks layout (memory s)) (omega (arith, moved_length 1 bs, all, room))

module _ (layout : Layout) (s : State) (rs bs : List Message) (is : IsWritable layout s rs bs) where
  abbrev us : List Message
  us = moved_from 1 bs

  abbrev n : ℕ
  n = trailer_blocks layout (memory s)

  abbrev grid : GridState
  grid = begun_grid (grid_with layout s.file.cluster us) s.fields.boot n

  abbrev text : List ℕ
  text = text_with layout s us

  abbrev sequence : ℕ
  sequence = sequence_of s

  few : length us + n ≤ layout.blocks
  few = omega (arith, moved_length 1 bs, is.all, is.room)

  pub bytes : AreBytes text
  bytes = text_bytes (layout_of layout) (captured_parts s.root s.table.sessions (λ a. sum_at a (numbered 1 us))) is.root

  writing : IsWriting sequence grid
  writing = let booted = is.state.booted is.live in record {
    named = (s.file.named, is.state.cluster);
    boot = (omega (arith, booted.boot, booted.some), is.state.second.rules.boot);
    running = (omega arith, omega (arith, is.state.sequence.1));
  }

  left : grid.blocks.left ≡ range_with_len (length us + 1) n
  left = next_left layout s bs is.all is.room

  module _ (c : Content) (same : c.sequence ≡ sequence) (long : c.trailer_size ≡ length text) where
    pub next_some : 0 < length us + 1
    next_some = omega arith

    nothing_yet : (room : ℕ) → 0 ≡ room * 0
    nothing_yet room = omega arith

    begun : IsPieced sequence text bytes c same long (length us + 1) next_some (length us + 1) grid []
    begun = record { pairs = refl; links = refl; text_is = ap (λ (k : ℕ). take k text) (nothing_yet (layout.block_size - 256)); back = zeros_back; each = λ a b at. absurd at; count = omega arith }

    -- the trailer's blocks, as a superblock of this sequence and this size names them
    pub trailer_is : ArePieces sequence text bytes c same long (length us + 1) next_some grid n (length us + 1) []
    trailer_is = pieces_are
        sequence text bytes c same long (length us + 1) next_some grid writing n (length us + 1) [] begun left (omega (arith, few))

  -- each stands at its address
  pub trailer_in_row : AreInRow layout s.file.cluster (length us + 1) (trailer_of layout s us)
  trailer_in_row = (trailer_is (record (content_of (content_with s.fields)) { sequence = sequence; trailer_size = length text }) refl refl).row

  pub units_are_steps : AreSteps
      (format_of layout s.file.cluster) (events_before_trailer layout s.file.cluster rs bs) (unit_steps layout s.file.cluster rs bs)
  units_are_steps = let f = format_of layout s.file.cluster in
      steps_join_law f (ring_events layout s.file.cluster) (all_events (reply_events layout) rs
      ++ all_events (made_events layout) us) (ring_steps layout s.file.cluster) (all_steps reply_steps rs ++ all_steps block_steps us)
      (ring_is_steps layout s.file.cluster s.file.named is.state.cluster) (steps_join_law
      f (all_events (reply_events layout) rs) (all_events (made_events layout) us) (all_steps reply_steps rs) (all_steps block_steps us)
      (row_steps (reply_rows layout s.file.cluster) 0 rs is.replies) (row_steps (block_rows layout s.file.cluster) 1 us is.blocks))

  pub front_are_steps : AreSteps (format_of layout s.file.cluster) (front_events layout s rs bs) (front_steps layout s rs bs)
  front_are_steps =
      steps_join_law (format_of layout s.file.cluster) (events_before_trailer layout s.file.cluster rs bs) (all_events (made_events layout)
      (trailer_of layout s us)) (unit_steps layout s.file.cluster rs bs) (all_steps block_steps (trailer_of layout s us))
      units_are_steps (row_steps (block_rows layout s.file.cluster) (length us + 1) (trailer_of layout s us) trailer_in_row)
