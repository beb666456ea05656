-- The superblock of a copy can be used: the source's can, and what changes in it is in its range.
use Rattle.std.{proofs.{Common.{◌≡◌, ◌≢◌, inl, inr, ℕ, zero, suc, ◌+◌, ◌-◌, ◌*◌, ◌/◌, ◌<◌, ◌≤◌, List, [], ◌∷◌, length, drop, Option, Some, None, refl, sym, ◌∙◌, ap, subst, arith}, lemmas.Bool.{cases_eq}, lemmas.List.{get_or-drop, length-drop}}, specs.Prelude.{slice_get}}
use Rattle.{df_layout.specs.declared.layout.Layout.{Layout}, df_model.specs.Making.{named_places}, df_grid.specs.Grid.{GridState}}
use Rattle.df_format.{specs.{declared.superblock.SuperFields.{SuperFields}, Message.{Message}, Spelling.{IsCheck, no_checksum}, Super.{AreNone}, SuperRules.{IsSuper, IsUsable}}, proofs.Laws.{no_check}}
use Rattle.df_theory.{specs.{Device.{AreSteps}, Trailer.{IsCount}}, proofs.Laws.{steps_join_law}}
use Rattle.df_units.{specs.{Format.{format_of}, Meaning.{layout_of}, Superblocks.{AreFieldsOf}}, proofs.Laws.{copy_put, sealed_check}}
use Rattle.{df_trailer.{specs.Spelling.{text_size}, proofs.Laws.{count_is}}, df_opening.specs.Below.{IsState, State, memory}}
use Rattle.df_copy.{specs.{Targets.{address_of_block, begun_grid, check_of, checks_of, copy_events, copy_steps, front_events, front_steps, grid_after_piece, grid_with, last_message, pieces_from, sequence_of, superblock_events, superblock_of, superblock_steps, text_with, trailer_of}, Tests.{needed, references, trailer_blocks, trailer_size}, Units.{moved_from}}, proofs.{Listed.{check_at, many_checks, moved_length}, Piecewise.{last_address}, Planning.{size_none, size_some}, Rows.{AreInRow, AreReplyRow, block_rows, reply_rows, row_at, row_last}, Written.{IsWritable, front_are_steps, next_left, trailer_in_row}}}

-- ---- the checksums of replies

nothing_past : (us : List Message) (i : ℕ) → length us ≤ i → slice_get us i ≡ None
nothing_past [] i past = refl
nothing_past (u ∷ us) zero past = absurd (omega (arith, past))
nothing_past (u ∷ us) (suc i) past = nothing_past us i (omega (arith, past))

are_checks : (layout : Layout) (cluster : ℕ) (us : List Message)
    → AreReplyRow layout cluster 0 us → (k : ℕ) (o : Option Message) → slice_get us k ≡ o → IsCheck (check_of o)
are_checks layout cluster us row k None at = no_check
are_checks layout cluster us row k (Some u) at = let plain : k ≡ 0 + k = omega arith in
    sealed_check u.header (row_at (reply_rows layout cluster) 0 k k us u row at plain).1.sealed

-- no place is named that has no session
none_spare : (us : List Message) (clients : ℕ) → length us ≤ clients → AreNone (drop clients (checks_of us))
none_spare us clients few = λ k past inside.
    let low : clients + k < named_places = omega (arith, inside, length-drop clients (checks_of us), many_checks us) in
    get_or-drop clients (checks_of us) k past
    ∙ check_at us (clients + k) past low ∙ ap check_of (nothing_past us (clients + k) (omega (arith, few)))

-- ---- the trailer

pub how_many : (g : GridState) (sequence : ℕ) (text : List ℕ) (n : ℕ) → length (pieces_from g sequence text n) ≡ n
how_many g sequence text zero = refl
how_many g sequence text (suc n) = ap suc (how_many (grid_after_piece g sequence text) sequence text n)

-- what a superblock names where there is none
none_named : (ts : List Message) → length ts ≡ 0 → (address_of_block (last_message ts) ≡ 0) × (check_of (last_message ts) ≡ no_checksum)
none_named [] none = (refl, refl)
none_named (t ∷ ts) none = absurd (omega arith)

-- the checksum of the last block is one
last_check : (layout : Layout) (cluster from : ℕ) (ts : List Message) → AreInRow layout cluster from ts → IsCheck (check_of (last_message ts))
last_check layout cluster from [] row = no_check
last_check layout cluster from (t ∷ ts) row = let last = row_last (block_rows layout cluster) from t ts row in
    subst (λ (o : Option Message). IsCheck (check_of o)) (sym last.1) (sealed_check last.0.header last.3.sealed)

-- a trailer is no longer than the longest one, and is cut into as many blocks as it fills
pub trailer_count : (layout : Layout) (s : State)
    → IsCount (layout.block_size - 256) (trailer_size layout (memory s)) (trailer_blocks layout (memory s))
trailer_count layout s = count_is (trailer_size layout (memory s))
    (layout.block_size - 256) (trailer_blocks layout (memory s)) (omega (arith, layout.block_size_within)) refl

pub size_to : (layout : Layout) (s : State) → length s.root ≤ 1024 → length s.table.sessions ≤ layout.clients → needed layout (memory s)
    ≤ layout.blocks → trailer_size layout (memory s) ≤ 4 + 1024 + 4 + 32 * layout.clients + (layout.blocks + 7) / 8 + 16 * layout.blocks
size_to layout s root fits room = elim (cases_eq s.fields.trailer_address 0) [
  | inl none ↦ let nothing = size_none layout s none in omega (arith, nothing)
  | inr some ↦ let same = size_some layout s some in omega (arith, same, root, fits, room)
]

-- ---- all fields

-- the layout has room for all that the source has, whose superblock can be used
pub record IsFitted (layout : Layout) (s : State) (rs bs : List Message) : Type 0 where
  pub state : IsState s
  pub usable : IsUsable s.fields
  pub fits : length s.table.sessions ≤ layout.clients
  pub each : length rs ≡ length s.table.sessions
  pub all : length bs ≡ length (references (memory s))
  pub room : needed layout (memory s) ≤ layout.blocks

-- and its units stand in their places
pub record IsNamed (layout : Layout) (s : State) (rs bs : List Message) : Type 0 where
  pub writable : IsWritable layout s rs bs
  pub open writable use *
  pub usable : IsUsable s.fields
  pub fits : length s.table.sessions ≤ layout.clients
  pub each : length rs ≡ length s.table.sessions

pub fitted : (layout : Layout) (s : State) (rs bs : List Message) → IsNamed layout s rs bs → IsFitted layout s rs bs
fitted layout s rs bs is =
    record { state = is.writable.state; usable = is.usable; fits = is.fits; each = is.each; all = is.writable.all; room = is.writable.room }

module _ (layout : Layout) (s : State) (rs bs : List Message) (is : IsFitted layout s rs bs) where
  abbrev us : List Message
  us = moved_from 1 bs

  abbrev ts : List Message
  ts = trailer_of layout s us

  abbrev n : ℕ
  n = trailer_blocks layout (memory s)

  abbrev size : ℕ
  size = trailer_size layout (memory s)

  abbrev f : SuperFields
  f = superblock_of layout s rs bs

  pub long : length ts ≡ n
  long = how_many _ _ _ n

  pub count : IsCount (layout.block_size - 256) size n
  count = trailer_count layout s

  inside : length us + n ≤ layout.blocks
  inside = omega (arith, is.all, is.room, moved_length 1 bs)

  -- none is needed where there is no text
  no_size : n ≡ 0 → size ≡ 0
  no_size none = let holds : size ≤ (layout.block_size - 256) * n = count.holds in
      let nothing : (layout.block_size - 256) * n ≡ 0 = ap (λ (k : ℕ). (layout.block_size - 256) * k) none ∙ times (layout.block_size - 256) in
      omega (arith, holds, nothing)
    where
      times : (k : ℕ) → k * 0 ≡ 0
      times k = omega arith

  some_size : 0 < n → 0 < size
  some_size some = let needed = count.needed some in omega (arith, needed)

  pub named_some : 0 < n → f.trailer_address + 1 ≡ length us + 1 + n
  named_some some = last_address (sequence_of s) (text_with layout s us)
      (begun_grid (grid_with layout s.file.cluster us) s.fields.boot n) n (length us + 1) (next_left layout s bs is.all is.room) some

  pub named_none : n ≡ 0 → (f.trailer_address ≡ 0) × (f.trailer_checksum ≡ no_checksum)
  named_none none = none_named ts (omega (arith, long, none))

  -- a copy has a trailer where its source has one
  pub trailer_there : s.fields.trailer_address ≢ 0
      → (0 < n) × (size ≡ text_size (layout_of layout) (length s.root) (length s.table.sessions) (length (references (memory s))))
  trailer_there some = let same = size_some layout s some in (
    elim (cases_eq n 0) [
      | inl none ↦ let nothing = no_size none in absurd (omega (arith, same, nothing))
      | inr any ↦ omega (arith, any)
    ],
    same,
  )

  pub no_trailer_there : s.fields.trailer_address ≡ 0 → (n ≡ 0) × (size ≡ 0)
  no_trailer_there none = let same = size_none layout s none in (
    elim (cases_eq n 0) [
      | inl nothing ↦ nothing
      | inr any ↦ let some = some_size (omega (arith, any)) in absurd (omega (arith, some, same))
    ],
    same,
  )

  pub copy_super : IsSuper f
  copy_super = record {
    version = inr (record {
      version = is.state.second.rules.version;
      boot = is.state.second.rules.boot;
      no_head = is.usable.rules.op_checksum;
      head_is_op = λ same. refl;
      spare = none_spare rs layout.clients (omega (arith, is.each, is.fits));
    });
    layout = record { slots_within = layout.slots_within; message_size_within = layout.message_size_within; clients_within = layout.clients_within; block_size_within = layout.block_size_within; blocks_within = layout.blocks_within };
    cluster = is.usable.rules.cluster;
    sequence = is.usable.rules.sequence;
    op = is.usable.rules.op;
    op_checksum = is.usable.rules.op_checksum;
    head = (omega arith, omega arith, is.usable.rules.op);
    replies = (omega arith, omega arith);
    trailer = (
      elim (cases_eq n 0) [ inl none ↦ let zeros = (named_none none).0 in omega (arith, zeros) | inr any ↦ let last = named_some (omega (arith, any)) in omega (arith, last, inside) ],
      λ some none. let there = trailer_there (is.usable.rules.trailer.1 some) in let last = named_some there.0 in
          omega (arith, last, none, there.0),
    );
    trailer_checksum = λ none. elim (cases_eq n 0) [ inl nothing ↦ (named_none nothing).1 | inr any ↦ let last = named_some (omega (arith, any)) in absurd (omega (arith, last, none, any)) ];
    no_trailer = λ none. elim (cases_eq n 0) [ inl nothing ↦ no_size nothing | inr any ↦ let last = named_some (omega (arith, any)) in absurd (omega (arith, last, none, any)) ];
    trailer_size = λ some. (elim (cases_eq n 0) [ inl nothing ↦ absurd (some (named_none nothing).0) | inr any ↦ some_size (omega (arith, any)) ], size_to layout s is.state.root is.fits is.room);
    zero = is.state.second.first_nonzero;
  }

module _ (layout : Layout) (s : State) (rs bs : List Message) (is : IsNamed layout s rs bs) where
  abbrev super : SuperFields
  super = superblock_of layout s rs bs

  rules : IsSuper super
  rules = copy_super layout s rs bs (fitted layout s rs bs is)

  pub copy_usable : IsUsable super
  copy_usable = record {
    rules = rules;
    fits = record {
      version = is.usable.fits.version;
      slots = omega (arith, layout.slots_within);
      message_size = omega (arith, layout.message_size_within);
      clients = omega (arith, layout.clients_within);
      block_size = omega (arith, layout.block_size_within);
      blocks = omega (arith, layout.blocks_within);
      cluster = is.usable.fits.cluster;
      sequence = is.usable.fits.sequence;
      op = is.usable.fits.op;
      op_checksum = is.usable.fits.op_checksum;
      head = is.usable.fits.op;
      replies = is.usable.fits.op;
      trailer_address = omega (arith, rules.trailer.0, layout.blocks_within);
      trailer_checksum = last_check layout
          s.file.cluster (length (moved_from 1 bs) + 1) (trailer_of layout s (moved_from 1 bs)) (trailer_in_row layout s rs bs is.writable);
      trailer_size = (let to = size_to layout s is.writable.state.root is.fits is.writable.room in
          omega (arith, to, layout.clients_within, layout.blocks_within));
      boot = is.usable.fits.boot;
      head_checksum = is.usable.fits.op_checksum;
      reply_checksums = record {
        size = many_checks rs;
        each = λ k past within. subst IsCheck (sym (check_at rs k past (omega (arith, within, many_checks rs))))
            (are_checks layout s.file.cluster rs is.replies k (slice_get rs k) refl);
      };
    };
  }

  pub copy_fields : AreFieldsOf layout s.file.cluster super
  copy_fields = record { slots = refl; message_size = refl; clients = refl; block_size = refl; blocks = refl; cluster_is = is.state.second.of.cluster_is }

  -- ---- its writes

  pub superblock_are_steps : AreSteps (format_of layout s.file.cluster) (superblock_events layout s rs bs) (superblock_steps layout s rs bs)
  superblock_are_steps = let cluster = s.file.cluster in
      (copy_put layout cluster 0 super (omega arith) copy_usable, (copy_put layout cluster 1 super (omega arith) copy_usable, (copy_put layout cluster 2 super (omega arith) copy_usable, (copy_put layout cluster 3 super (omega arith) copy_usable, tt))))

  pub copy_are_steps : AreSteps (format_of layout s.file.cluster) (copy_events layout s rs bs) (copy_steps layout s rs bs)
  copy_are_steps = steps_join_law (format_of layout s.file.cluster)
      (front_events layout s rs bs) (superblock_events layout s rs bs) (front_steps layout s rs bs) (superblock_steps layout s rs bs)
      (front_are_steps layout s rs bs is.writable) superblock_are_steps
