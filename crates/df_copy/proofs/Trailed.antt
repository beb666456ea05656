-- The trailer of a copy is one: its blocks are a chain that the superblock names, and their text says the source's root and sessions, and
-- the blocks at their new addresses.
use Rattle.std.{proofs.{Common.{◌≡◌, ◌≢◌, ◌⊎◌, inl, inr, ℕ, zero, suc, ◌+◌, ◌-◌, ◌*◌, ◌^◌, ◌<◌, ◌≤◌, Bool, true, false, List, [], ◌∷◌, length, map, take, Option, Some, None, refl, sym, ◌∙◌, ap, subst, arith}, lemmas.Bool.{cases_eq}, lemmas.List.{length-map, take_all}, lemmas.Option.{slice_get_within}}, specs.{Prelude.{slice_get}, List.{range_with_len}}}
use Rattle.{df_base.proofs.Laws.{field_at-lt}, df_layout.specs.declared.layout.Layout.{Layout}}
use Rattle.df_format.specs.{declared.superblock.SuperFields.{SuperFields}, Copies.{content_with}, Message.{Message}}
use Rattle.{df_sessions.specs.Requests.{session_of, sessions_of}, df_opening.{specs.Below.{State, memory, shape}, proofs.Laws.{codec_of}}}
use Rattle.df_theory.specs.{Shape.{Shape}, Trailer.{InChain, IsCount, IsReference, IsTrailer, Links, Says, no_parts, text_of}, Units.{Block, Content, Parts, Session, Units}, View.{IsSoundCheckpoint, PassesTests, View}}
use Rattle.df_trailer.{specs.{Spelling.{block_checksums, is_referenced, listed, text_size}, Text.{ones, parse_of}, Writing.{captured_parts}}, proofs.Laws.{text_sized}}
use Rattle.df_units.{specs.{Format.{shape_as}, Meaning.{block_of, content_of, layout_of, number_of}}, proofs.Laws.{sealed_check, usable_passes}}
use Rattle.df_model.specs.{Blocks.{entries, entry, sum_at}, Codec.{IsLawful}, Memory.{last_address, last_sum}}
use Rattle.df_copy.{specs.{Targets.{address_of_block, begun_grid, check_of, grid_behind, grid_with, last_message, numbered, sequence_of, superblock_of, text_with, trailer_of}, Tests.{references, trailer_blocks, trailer_size}, Units.{moved_from}, Views.{file_in}}, proofs.{Frees.{numbered_behind, numbered_known, numbered_there}, Listed.{moved_length}, Pieces.{IsPieced, chain_with}, Piecewise.{kept_layout}, Rows.{block_rows, row_at}, Sources.{IsSource}, Usables.{IsFitted, IsNamed, copy_fields, copy_super, count, fitted, long, named_none, no_trailer_there, trailer_there}, Written.{bytes, next_some, trailer_is}}}

-- ---- the chain

pub chain_length : (us : List Message) (chain : List (ℕ × Block)) → length (chain_with us chain) ≡ length us + length chain
chain_length [] chain = omega arith
chain_length (u ∷ us) chain = let rest = chain_length us ((u.header.op, block_of u) ∷ chain) in omega (arith, rest)

-- it ends with the last block
chain_last : (u : Message) (us : List Message) (chain : List (ℕ × Block)) → (last_address (chain_with (u ∷ us) chain)
    ≡ address_of_block (last_message (u ∷ us))) × (last_sum (chain_with (u ∷ us) chain) ≡ number_of (check_of (last_message (u ∷ us))))
chain_last u [] chain = (refl, refl)
chain_last u (v ∷ us) chain = chain_last v us ((u.header.op, block_of u) ∷ chain)

chain_named : (us : List Message) → 0 < length us → (last_address (chain_with us []) ≡ address_of_block (last_message us))
    × (last_sum (chain_with us []) ≡ number_of (check_of (last_message us)))
chain_named [] some = absurd (omega (arith, some))
chain_named (u ∷ us) some = chain_last u us []

-- a block of it is one of these
pub chain_in : (us : List Message) (chain : List (ℕ × Block)) (a : ℕ) (b : Block) → InChain a b (chain_with us chain)
    → ((i : ℕ) × (u : Message) × (slice_get us i ≡ Some u) × (a ≡ u.header.op) × (b ≡ block_of u)) ⊎ InChain a b chain
chain_in [] chain a b at = inr at
chain_in (u ∷ us) chain a b at = elim (chain_in us ((u.header.op, block_of u) ∷ chain) a b at) [
  | inl later ↦ inl (suc later.0, later.1, later.2, later.3, later.4)
  | inr before ↦ elim before [
    | inl here ↦ inl (0, u, refl, here.0, here.1)
    | inr there ↦ inr there
  ]
]

-- ---- how many blocks are referenced

listed_ones : (f : ℕ → Option ℕ) (m n : ℕ) → ((k : ℕ) → k < m → is_referenced (f k) ≡ true)
    → ((k : ℕ) → m ≤ k → is_referenced (f k) ≡ false) → m ≤ n → ones (map is_referenced (listed f n)) ≡ m
listed_ones f zero zero all none fits = refl
listed_ones f (suc m) zero all none fits = absurd (omega (arith, fits))
listed_ones f zero (suc n) all none fits =
    ap (λ (b : Bool). ones (b ∷ map is_referenced (listed (λ k. f (suc k)) n))) (none 0 (omega arith))
    ∙ listed_ones (λ k. f (suc k)) zero n (λ k below. absurd (omega (arith, below))) (λ k from. none (suc k) (omega arith)) (omega arith)
listed_ones f (suc m) (suc n) all none fits =
    ap (λ (b : Bool). ones (b ∷ map is_referenced (listed (λ k. f (suc k)) n))) (all 0 (omega arith)) ∙ ap suc (listed_ones (λ k.
    f (suc k)) m n (λ k below. all (suc k) (omega (arith, below))) (λ k from. none (suc k) (omega (arith, from))) (omega (arith, fits)))

some_at : (us : List Message) (k : ℕ) → k < length us → (u : Message) × (slice_get us k ≡ Some u)
some_at [] k inside = absurd (omega (arith, inside))
some_at (u ∷ us) zero inside = (u, refl)
some_at (u ∷ us) (suc k) inside = some_at us k (omega (arith, inside))

numbered_ones : (us : List Message) (n : ℕ)
    → length us ≤ n → ones (map is_referenced (listed (λ place. sum_at (suc place) (numbered 1 us)) n)) ≡ length us
numbered_ones us n fits = listed_ones (λ place. sum_at (suc place) (numbered 1 us)) (length us) n
    (λ k below. let there = some_at us k below in ap is_referenced (numbered_there 1 k (suc k) us there.0 there.1 (omega arith)))
    (λ k from. ap is_referenced (numbered_behind 1 (suc k) us (omega (arith, from)))) fits

-- ---- nothing

entries_none : (f : ℕ → Option ℕ) (xs : List ℕ) → ((a : ℕ) → f a ≡ None) → entries f xs ≡ []
entries_none f [] none = refl
entries_none f (a ∷ xs) none = ap (λ (o : Option ℕ). entry a o (entries f xs)) (none a) ∙ entries_none f xs none

no_units : (us : List Message) → length us ≡ 0 → us ≡ []
no_units [] none = refl
no_units (u ∷ us) none = absurd (omega arith)

-- ---- the copy's

module _ (layout : Layout)
    (s : State) (rs bs : List Message) (image : Units) (v : View) (is : IsNamed layout s rs bs) (source : IsSource s image v) where
  abbrev f : SuperFields
  f = superblock_of layout s rs bs

  abbrev n : ℕ
  n = trailer_blocks layout (memory s)

  abbrev us : List Message
  us = moved_from 1 bs

  abbrev ts : List Message
  ts = trailer_of layout s us

  abbrev pub copy_content : Content
  copy_content = content_of (content_with f)

  abbrev pub copy_parts : Parts
  copy_parts = captured_parts s.root s.table.sessions (λ a. sum_at a (numbered 1 us))

  abbrev pub copy_chain : List (ℕ × Block)
  copy_chain = chain_with ts []

  abbrev sh : Shape
  sh = shape (file_in layout s.file)

  abbrev fit : IsFitted layout s rs bs
  fit = fitted layout s rs bs is

  abbrev room : ℕ
  room = layout.block_size - 256

  few : length us ≤ layout.blocks
  few = omega (arith, moved_length 1 bs, is.all, is.room)

  -- ---- what it may say

  small : (u : Message) (i : ℕ) → slice_get us i ≡ Some u → number_of u.header.checksum < 2 ^ 128
  small u i at = let one : 1 + i ≡ 1 + i = refl in
      let unit = (row_at (block_rows layout s.file.cluster) 1 i (1 + i) us u is.blocks at one).1 in
      omega (arith, field_at-lt 16 0 u.header.checksum (sealed_check u.header unit.sealed).each)

  pub copy_lawful : IsLawful (layout_of layout) s.fields.op copy_parts
  copy_lawful = record {
    root = (is.state.root, is.root);
    sessions = record {
      few = omega (arith, length-map s.table.sessions session_of, is.fits);
      each = λ k x at. source.lawful.sessions.each k x (ap (λ (l : List Session). slice_get l k) source.sessions ∙ at);
      apart = λ j k x y at other same. source.lawful.sessions.apart j k x y (ap (λ (l : List Session). slice_get l j) source.sessions
          ∙ at) (ap (λ (l : List Session). slice_get l k) source.sessions ∙ other) same;
    };
    reached = λ k x at. source.lawful.reached k x (ap (λ (l : List Session). slice_get l k) source.sessions ∙ at);
    ops = λ j k x y at other same. source.lawful.ops j k x y (ap (λ (l : List Session). slice_get l j) source.sessions
        ∙ at) (ap (λ (l : List Session). slice_get l k) source.sessions ∙ other) same;
    references = λ a sum known. let one = numbered_known 1 a sum us known in let inside = slice_get_within us one.place one.unit one.at in
        ((omega (arith, one.address), omega (arith, one.address, inside, few)), omega (arith, one.sum, small one.unit one.place one.at));
  }

  -- ---- the superblock

  passes : PassesTests (shape_as s.fields.version layout s.file.cluster s.file.named (parse_of (layout_of layout))) copy_content
      × IsReference (layout_of layout) copy_content
  passes = usable_passes layout s.file.cluster
      s.file.named (parse_of (layout_of layout)) (content_with f) (copy_fields layout s rs bs is) (copy_super layout s rs bs fit)

  tests : PassesTests sh copy_content
  tests = subst (λ (version : ℕ). PassesTests
      (shape_as version layout s.file.cluster s.file.named (parse_of (layout_of layout))) copy_content) is.state.version passes.0

  reference : IsReference (layout_of layout) copy_content
  reference = passes.1

  -- ---- it has none

  module _ (none : s.fields.trailer_address ≡ 0) where
    no_chain : copy_chain ≡ []
    no_chain = ap (λ (l : List Message).
        chain_with l []) (no_units ts (omega (arith, long layout s rs bs fit, (no_trailer_there layout s rs bs fit none).0)))

    says_nothing : v.checkpoint.parts ≡ no_parts
    says_nothing = source.none none

    not_live : (a : ℕ) (o : Option ℕ) → sum_at a s.blocks.live ≡ o → o ≡ None
    not_live a None at = refl
    not_live a (Some c) at = absurd (let known = source.back a c at in let nothing = ap (λ (p : Parts).
        p.references a) says_nothing in let both : None ≡ Some c = sym nothing ∙ known in cc)

    no_blocks : bs ≡ []
    no_blocks = no_units bs (is.all ∙ ap length (entries_none (λ a.
        sum_at a s.blocks.live) (range_with_len 1 s.file.layout.blocks) (λ a. not_live a (sum_at a s.blocks.live) refl)))

    same_parts : copy_parts ≡ no_parts
    same_parts = let root : s.root ≡ [] = sym source.root ∙ ap (λ (p : Parts). p.root) says_nothing in
        let sessions : sessions_of s.table.sessions ≡ [] = sym source.sessions ∙ ap (λ (p : Parts). p.sessions) says_nothing in
        λ i. record { root = root i; sessions = sessions i; references = λ a. sum_at a (numbered 1 (moved_from 1 (no_blocks i))) }

    nothing_linked : (chain : List (ℕ × Block)) → chain ≡ [] → IsTrailer sh copy_content chain copy_parts
    nothing_linked [] empty = record {
      reference = reference;
      links = (named_none layout s rs bs fit none_needed).0;
      count = rw none_needed at (count layout s rs bs fit);
      inside = λ a b at. absurd at;
      size = sym (no_trailer_there layout s rs bs fit none).1;
      says = same_parts;
      spare = λ a b at. absurd at;
    }
      where
        none_needed : n ≡ 0
        none_needed = (no_trailer_there layout s rs bs fit none).0
    nothing_linked (x ∷ xs) empty = absurd (let longer = ap length empty in omega (arith, longer))

  -- ---- it has one

  module _ (named : s.fields.trailer_address ≢ 0) where
    needed_some : 0 < n
    needed_some = (trailer_there layout s rs bs fit named).0

    sequence_is : s.fields.sequence ≡ sequence_of s
    sequence_is = let two = source.second named in omega (arith, two)

    counted : ones (map is_referenced (block_checksums (layout_of layout) copy_parts)) ≡ length (references (memory s))
    counted = numbered_ones us layout.blocks few ∙ moved_length 1 bs ∙ is.all

    size_is : trailer_size layout (memory s) ≡ length (text_with layout s us)
    size_is = (trailer_there layout s rs bs fit named).1 ∙ sym (text_sized (layout_of layout) copy_parts
        ∙ ap (λ (k : ℕ). text_size (layout_of layout) (length s.root)
        k (ones (map is_referenced (block_checksums (layout_of layout) copy_parts)))) (length-map s.table.sessions session_of)
        ∙ ap (text_size (layout_of layout) (length s.root) (length s.table.sessions)) counted)

    pieces : IsPieced (sequence_of s) (text_with layout s us) (bytes layout s rs bs is.writable) copy_content
        sequence_is size_is (length us + 1) (next_some layout s rs bs is.writable copy_content sequence_is size_is) (length us + 1 + n)
        (grid_behind (begun_grid (grid_with layout s.file.cluster us) s.fields.boot n) (sequence_of s) (text_with layout s us) n) copy_chain
    pieces = (trailer_is layout s rs bs is.writable copy_content sequence_is size_is).pieced

    chain_is : length copy_chain ≡ n
    chain_is = let all = chain_length ts [] in omega (arith, all, long layout s rs bs fit)

    last_named : (last_address copy_chain ≡ f.trailer_address) × (last_sum copy_chain ≡ number_of f.trailer_checksum)
    last_named = chain_named ts (omega (arith, long layout s rs bs fit, needed_some))

    same_room : (grid_behind (begun_grid (grid_with layout s.file.cluster us) s.fields.boot n)
        (sequence_of s) (text_with layout s us) n).layout.block_size - 256 ≡ room
    same_room = ap (λ (l : Layout). l.block_size - 256)
        (kept_layout (sequence_of s) (text_with layout s us) (begun_grid (grid_with layout s.file.cluster us) s.fields.boot n) n)

    whole_text : text_of copy_chain ≡ text_with layout s us
    whole_text = pieces.text_is ∙ ap (λ (k : ℕ). take (k * length copy_chain) (text_with layout s us)) same_room
        ∙ take_all (room * length copy_chain) (text_with layout s us) (rw chain_is (rw (← size_is) (count layout s rs bs fit).holds))

    links : Links room copy_content copy_chain f.trailer_address (number_of f.trailer_checksum)
    links = subst (λ (a : ℕ). Links room copy_content copy_chain a (number_of f.trailer_checksum)) last_named.0
        (subst (Links room copy_content copy_chain (last_address copy_chain)) last_named.1 (rw same_room at pieces.links))

    says_of : (chain : List (ℕ × Block)) → 0 < length chain → text_of chain ≡ text_with layout s us → Says sh s.fields.op chain copy_parts
    says_of [] some text = absurd (omega (arith, some))
    says_of (x ∷ xs) some text = ap (sh.parse s.fields.op) text ∙ (codec_of (file_in layout s.file)).reads s.fields.op copy_parts copy_lawful

    linked : IsTrailer sh copy_content copy_chain copy_parts
    linked = record {
      reference = reference;
      links = links;
      count = subst (IsCount room (trailer_size layout (memory s))) (sym chain_is) (count layout s rs bs fit);
      inside = λ a b at. let there = pieces.each a b at in omega (arith, there.1, moved_length 1 bs, is.all, is.room);
      size = ap length whole_text ∙ sym size_is;
      says = says_of copy_chain (omega (arith, chain_is, needed_some)) whole_text;
      spare = λ a b at. let there = pieces.each a b at in numbered_behind 1 a us (omega (arith, there.0));
    }

  -- ---- either way

  pub copy_trailer : IsTrailer sh copy_content copy_chain copy_parts
  copy_trailer = elim (cases_eq s.fields.trailer_address 0) [
    | inl none ↦ nothing_linked none copy_chain (no_chain none)
    | inr some ↦ linked some
  ]

  pub copy_sound : IsSoundCheckpoint sh (record { content = copy_content; chain = copy_chain; parts = copy_parts })
  copy_sound = record {
    tests = tests;
    trailer = copy_trailer;
    tracks = record { below = copy_lawful.reached; apart = copy_lawful.ops; pending = λ op above to. absurd (omega (arith, above, to)) };
  }
