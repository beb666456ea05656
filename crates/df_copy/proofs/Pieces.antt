-- A trailer's blocks, as they are written one after the other: each is a unit at its address and names the one before it, and together they
-- hold the text.
use Rattle.std.{proofs.{Common.{◌≡◌, ◌↔◌, Some, inl, inr, ℕ, zero, suc, ◌+◌, ◌-◌, ◌*◌, ◌^◌, ◌<◌, ◌≤◌, ◌==◌, min, List, [], ◌∷◌, ◌++◌, length, map, take, drop, refl, sym, ◌∙◌, ap, subst, arith, length-drop}, lemmas.Bool.{cond-false, ne_eqb}, lemmas.List.{length-map, length-take}, Math.Nat.{mul-suc}, Math.Seq.{take-add}}, specs.List.{range_with_len}}
use Rattle.df_base.{specs.Fields.{AreBytes, spelled}, proofs.Laws.{AreBytes-drop, AreBytes-spelled, AreBytes-take, length-spelled}}
use Rattle.{df_layout.specs.declared.places.Zone.TheVariants.{Grid}, df_trailer.specs.Writing.{piece_of}}
use Rattle.df_format.{specs.{declared.header.Header.{Header}, declared.kind.Kind.TheVariants.{Trailer}, Making.{for_body}, Message.{Message}, Own.{own_place, place_in}, Rules.{ObeysRules, ObeysVersion}, Spelling.{no_checksum}, Valid.{IsUnit}}, proofs.Laws.{given_obeys, is_own, sealed_is, zeros_are}}
use Rattle.df_theory.specs.{Trailer.{InChain, Links, piece_size, text_of}, Units.{Block, Content}}
use Rattle.df_units.{specs.Meaning.{block_of, number_of}, proofs.Laws.{no_number, sealed_check, whole_check}}
use Rattle.df_model.specs.{Blocks.{Blocks, pair_of, trailer_written}, Making.{first_of}, Memory.{last_address, last_sum}}
use Rattle.df_grid.specs.{Grid.{GridState}, Table.{written_of}, Writes.{first_address, first_sum, next_header}}
use Rattle.df_copy.{specs.Targets.{grid_after_piece, grid_behind, next_piece, pieces_from}, proofs.Rows.{AreInRow}}

-- a chain, from the last block to the first, with these blocks written after it
abbrev pub chain_with : List Message → List (ℕ × Block) → List (ℕ × Block)
chain_with [] chain = chain
chain_with (u ∷ us) chain = chain_with us ((u.header.op, block_of u) ∷ chain)

-- ---- what the grid lists of a chain

listed_address : (chain : List (ℕ × Block)) → first_address (map pair_of chain) ≡ last_address chain
listed_address [] = refl
listed_address (x ∷ xs) = refl

listed_sum : (chain : List (ℕ × Block)) → first_sum (map pair_of chain) ≡ last_sum chain
listed_sum [] = refl
listed_sum (x ∷ xs) = refl

pub zeros_back : number_of (spelled 16 0) ≡ 0
zeros_back = ap number_of zeros_are ∙ no_number

-- the first block has none before it
no_parent : (written : List (ℕ × ℕ)) → length written ≡ 0 → spelled 16 (first_sum written) ≡ no_checksum
no_parent [] none = zeros_are
no_parent (x ∷ xs) none = absurd (omega arith)

-- the limits of what is written: of whose file, in which boot and of which checkpoint
pub record IsWriting (sequence : ℕ) (g : GridState) : Type 0 where
  pub named : (0 < g.cluster) × (g.cluster < 2 ^ 128)
  pub boot : (0 < g.boot) × (g.boot ≤ 2 ^ 62)
  pub running : (2 ≤ sequence) × (sequence ≤ 2 ^ 62)

module _ (sequence : ℕ) (text : List ℕ) (bytes : AreBytes text)
    (c : Content) (same : c.sequence ≡ sequence) (long : c.trailer_size ≡ length text) (from : ℕ) (some : 0 < from) where
  abbrev room : GridState → ℕ
  room g = g.layout.block_size - 256

  -- these blocks are written: the grid lists them, each names the one before it, and they hold the front of the text; they stand at the
  -- addresses from the first one on
  pub record IsPieced (next : ℕ) (g : GridState) (chain : List (ℕ × Block)) : Type 0 where
    pub pairs : g.blocks.written ≡ map pair_of chain
    pub links : Links (room g) c chain (last_address chain) (last_sum chain)
    pub text_is : text_of chain ≡ take (room g * length chain) text
    pub back : number_of (spelled 16 (first_sum g.blocks.written)) ≡ first_sum g.blocks.written
    pub each : (a : ℕ) (b : Block) → InChain a b chain → (from ≤ a) × (a < next)
    pub count : from + length chain ≡ next

  module _ (g : GridState) (writing : IsWriting sequence g) (next : ℕ) (chain : List (ℕ × Block))
      (is : IsPieced next g chain) (more : List ℕ) (left : g.blocks.left ≡ next ∷ more) (inside : next ≤ g.layout.blocks) where
    abbrev u : Message
    u = next_piece g sequence text

    abbrev given : Header
    given = next_header g.cluster g.boot sequence g.blocks

    abbrev piece : List ℕ
    piece = piece_of (room g) (length g.blocks.written) text

    address : u.header.op ≡ next
    address = ap first_of left

    how_many : length g.blocks.written ≡ length chain
    how_many = ap length is.pairs ∙ length-map chain pair_of

    before : first_address g.blocks.written ≡ last_address chain
    before = ap first_address is.pairs ∙ listed_address chain

    -- ---- its rules

    last_first : (xs : List (ℕ × Block)) → ((a : ℕ) (b : Block) → InChain a b xs → (from ≤ a) × (a < next))
        → ((last_address xs ≡ 0) ↔ (length xs ≡ 0)) × (last_address xs ≤ next)
    last_first [] each = ((λ none. refl, λ none. refl), omega arith)
    last_first (x ∷ xs) each = let here = each x.0 x.1 (inl (refl, refl)) in
        ((λ none. absurd (omega (arith, here.0, some, none)), λ none. absurd (omega arith)), omega (arith, here.1))

    request : ((given.request ≡ 0) ↔ (given.mark ≡ 0)) × (given.request < 2 ^ 64)
    request = let low = last_first chain is.each in (
      (λ none. how_many ∙ low.0.0 (sym before ∙ none), λ none. before ∙ low.0.1 (sym how_many ∙ none)),
      omega (arith, before, low.1, inside, g.layout.blocks_within),
    )

    size : length piece ≤ room g
    size = let cut = length-take (room g) (drop (room g * length g.blocks.written) text) in omega (arith, cut)

    version : ObeysVersion Trailer given
    version = inr (record {
      version = cond-false (g.boot == 0) 1 2 (ne_eqb g.boot 0 (λ none. omega (arith, none, writing.boot)));
      boot = writing.boot;
      group = record { none_first = refl; none_last = refl };
    })

    obeys : ObeysRules (for_body given piece)
    obeys = given_obeys g.cluster writing.named given piece Trailer version (
      record {
        parent = record { size = length-spelled 16 (first_sum g.blocks.written); each = AreBytes-spelled 16 (first_sum g.blocks.written) };
        first = no_parent g.blocks.written;
        op = (omega (arith, address, is.count, some), omega (arith, address, inside, g.layout.blocks_within));
        request = request;
        mark = omega (arith, how_many, is.count, inside, g.layout.blocks_within);
        checkpoint = writing.running;
      },
      omega (arith, size, g.layout.block_size_within),
    )

    pub piece_unit : IsUnit g.layout g.cluster (place_in Grid next) u
    piece_unit = record {
      sealed = sealed_is (for_body given piece) obeys;
      owner = refl;
      fits = omega (arith, size, g.layout.block_size_within);
      body = record { size = refl; checksum = refl; each = AreBytes-take (room g) (drop (room g * length g.blocks.written) text) (AreBytes-drop (room g * length g.blocks.written) text bytes) };
      own = rw (← address) (is_own g.layout Grid u.header (place_in Grid u.header.op)
          (record { op = refl; named = refl; has = (omega (arith, address, is.count, some), omega (arith, address, inside)) }));
    }

    -- ---- the chain with it

    abbrev sum : ℕ
    sum = number_of u.header.checksum

    abbrev behind : GridState
    behind = grid_after_piece g sequence text

    grown : behind.blocks ≡ trailer_written g.blocks next sum more
    grown = ap (written_of g.blocks sum) left

    body_size : length piece ≡ piece_size (room g) c.trailer_size (length chain)
    body_size = length-take (room g) (drop (room g * length g.blocks.written) text)
        ∙ ap (min (room g)) (length-drop (room g * length g.blocks.written) text)
        ∙ ap (λ (n : ℕ). min (room g) (length text - room g * n)) how_many ∙ ap (λ (n : ℕ). min (room g) (n - room g * length chain)) (sym long)

    body_text : text_of chain ++ piece ≡ take (room g * suc (length chain)) text
    body_text = ap (λ (l : List ℕ). l ++ piece) is.text_is
        ∙ ap (λ (n : ℕ). take (room g * length chain) text ++ take (room g) (drop (room g * n) text)) how_many
        ∙ sym (take-add (room g * length chain) (room g) text) ∙ ap (λ (k : ℕ). take k text) (sym (mul-suc (room g) (length chain)))

    pub piece_pieced : IsPieced (next + 1) behind ((u.header.op, block_of u) ∷ chain)
    piece_pieced = record {
      pairs = ap (λ (b : Blocks). b.written) grown ∙ (λ i. (sym address i, sum) ∷ is.pairs i);
      links = (
        omega (arith, address, is.count, some),
        refl,
        refl,
        sym same,
        how_many,
        body_size,
        refl,
        rw (sym before) at
            (subst (Links (room g) c chain (last_address chain)) (sym (is.back ∙ ap first_sum is.pairs ∙ listed_sum chain)) is.links),
      );
      text_is = body_text;
      back = ap (λ (b : Blocks). number_of (spelled 16 (first_sum b.written))) grown ∙ ap number_of
          (whole_check u.header.checksum (sealed_check u.header piece_unit.sealed)) ∙ sym (ap (λ (b : Blocks). first_sum b.written) grown);
      each = λ a b at. elim at [
        | inl here ↦ (omega (arith, here.0, address, is.count), omega (arith, here.0, address))
        | inr there ↦ let low = is.each a b there in (low.0, omega (arith, low.1))
      ];
      count = omega (arith, is.count);
    }

    behind_left : behind.blocks.left ≡ more
    behind_left = ap (λ (b : Blocks). b.left) grown

  -- ---- all of them

  -- this many blocks, one after the other
  pub record ArePieces (g : GridState) (n next : ℕ) (chain : List (ℕ × Block)) : Type 0 where
    pub row : AreInRow g.layout g.cluster next (pieces_from g sequence text n)
    pub pieced : IsPieced (next + n) (grid_behind g sequence text n) (chain_with (pieces_from g sequence text n) chain)

  pub pieces_are : (g : GridState) → IsWriting sequence g → (n next : ℕ) (chain : List (ℕ × Block))
      → IsPieced next g chain → g.blocks.left ≡ range_with_len next n → next + n ≤ g.layout.blocks + 1 → ArePieces g n next chain
  pieces_are g writing zero next chain is left inside = let plain : next ≡ next + 0 = omega arith in
      record { row = tt; pieced = rw plain at is }
  pieces_are g writing (suc n) next chain is left inside = let low : next ≤ g.layout.blocks = omega (arith, inside) in
      let u = next_piece g sequence text in let on : next + 1 + n ≡ next + suc n = omega arith in
      let rest = pieces_are (grid_after_piece g sequence text) (record { named = writing.named; boot = writing.boot; running = writing.running }) n (next + 1) ((u.header.op, block_of u) ∷ chain) (piece_pieced g writing next chain is (range_with_len (next + 1) n) left low)
      (behind_left g writing next chain is (range_with_len (next + 1) n) left low) (omega (arith, inside)) in record {
        row = (ap first_of left, piece_unit g writing next chain is (range_with_len (next + 1) n) left low, rest.row);
        pieced = rw on at rest.pieced;
      }
