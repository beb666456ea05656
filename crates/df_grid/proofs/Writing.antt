-- A sound block stands at the address that its header names, and its write is the machine's put there.
use Rattle.std.{proofs.{Common.{◌≡◌, ◌==◌, ◌↔◌, inl, inr, ℕ, ◌+◌, ◌<◌, ◌≤◌, ◌^◌, List, [], ◌∷◌, length, take, Option, Some, None, refl, sym, ap, subst, ◌∙◌, arith}, lemmas.Bool.{cases_lt, cond-true, cond-false, eq-eqb, ne_eqb, Decides.{nat_tests}}}, specs.Prelude.{IsSome, slice_get}}
use Rattle.{df_base.specs.Fields.{spelled}, df_buffers.specs.Sounds.{Holding, IsSound}, df_model.specs.{Blocks.{Blocks}, Making.{first_of}}}
use Rattle.df_layout.specs.declared.{layout.Layout.{Layout}, places.{Place.{Place}, Zone.TheVariants.{Grid}}}
use Rattle.df_format.{specs.{declared.{header.Header.{Header}, kind.Kind.{Kind, TheVariants.{Trailer}}, reference.Reference.{Reference}}, Making.{for_body}, Message.{Message, sectors_end, sectors_of}, Own.{own_place, place_in}, Rules.{ObeysRules, ObeysVersion}, Spelling.{IsCheck, no_checksum}, Valid.{IsAtAddress, IsUnit}}, proofs.Laws.{given_obeys, of_first, valid_belongs, zeros_are}}
use Rattle.{df_theory.specs.{Device.{AreSteps}, Units.{AnyUnit, BlockPlace, BlockUnit}}, df_places.specs.Units.{put_events, put_steps}}
use Rattle.df_theory.specs.Units
use Rattle.df_units.{specs.{Format.{format_of}, Meaning.{block_of, number_of, place_of, unit_of}}, proofs.Laws.{no_number, whole_check}}
use Rattle.df_grid.specs.{Grid.{GridState}, Table.{pair_in}, Writes.{IsBefore, address_in, block_events, block_steps, checksum_in, first_address, first_sum, header_with, made, made_events, next_block, next_header, next_unit, version_in}}

pub own_block : (layout : Layout) (kind : Kind) (held : Holding)
    → IsSound Grid kind held → held.layout ≡ layout → IsUnit layout held.unit.header.cluster (place_in Grid held.unit.header.op) held.unit
own_block layout kind held sound same = let u = held.unit in
    let there = valid_belongs held.layout u.header.cluster sound.place u sound.is in
    let of : IsAtAddress sound.place.index u.header = rw sound.in_zone at there.belongs in
    let here : sound.place ≡ place_in Grid u.header.op = λ i. record { zone = sound.in_zone i; index = sym of.op i } in
    subst (λ (l : Layout). IsUnit l u.header.cluster (place_in Grid u.header.op) u) same (rw here at sound.is)

-- the address is one of the grid
pub own_address : (layout : Layout) (kind : Kind) (held : Holding)
    → IsSound Grid kind held → held.layout ≡ layout → (1 ≤ held.unit.header.op) × (held.unit.header.op ≤ layout.blocks)
own_address layout kind held sound same = (valid_belongs layout held.unit.header.cluster (place_in Grid held.unit.header.op) held.unit (own_block layout kind held sound same)).has

abbrev pub StepsAt : Layout → Place → Holding → Type 0
StepsAt layout place held = (at : Units.Place) (x : AnyUnit) → place_of at ≡ place
    → unit_of at held.unit ≡ Some x → AreSteps (format_of layout held.unit.header.cluster) (put_events layout place held) (put_steps at x)

pub block_put : (layout : Layout) (place : Place) (held : Holding) → place ≡ place_in Grid held.unit.header.op → StepsAt layout place held
    → AreSteps (format_of layout held.unit.header.cluster) (put_events layout (place_in Grid held.unit.header.op) held) (block_steps held.unit)
block_put layout place held here steps =
    subst (λ (p : Place). AreSteps (format_of layout held.unit.header.cluster) (put_events layout p held) (block_steps held.unit))
    here (steps (BlockPlace held.unit.header.op) (BlockUnit (block_of held.unit)) (sym here) refl)

-- of a block that a grid of this state is given, at the place that its header names
pub own_steps : (w v : GridState) (here : Place) (header : Header) (held : Holding) (cluster : ℕ)
    → w ≡ v → here ≡ place_in Grid header.op → header ≡ held.unit.header → held.unit.header.cluster ≡ cluster → StepsAt w.layout here held
    → AreSteps (format_of v.layout cluster) (block_events v held) (block_steps held.unit)
own_steps w v here header held cluster same place is named steps =
    let at = block_put w.layout here held (place ∙ ap (λ (h : Header). place_in Grid h.op) is) steps in
    subst (λ (n : ℕ). AreSteps (format_of v.layout n) (block_events v held) (block_steps held.unit)) named (rw same at at)

pub made_put : (layout : Layout) (place : Place) (held : Holding) (header : Header) (piece : List ℕ) → held.unit ≡ made header piece
    → take (sectors_end (256 + length piece)) held.bytes ≡ sectors_of held.unit → place ≡ place_in Grid held.unit.header.op
    → StepsAt layout place held
    → AreSteps (format_of layout header.cluster) (made_events layout (made header piece)) (block_steps (made header piece))
made_put layout place held header piece is sectors here steps = let at = block_put layout place held here steps in
    let size : held.unit.header.size ≡ 256 + length piece = ap (λ (u : Message). u.header.size) is in
    let bytes : take (sectors_end held.unit.header.size) held.bytes ≡ sectors_of held.unit =
    ap (λ (n : ℕ). take (sectors_end n) held.bytes) size ∙ sectors in
    let wrote : AreSteps (format_of layout held.unit.header.cluster) (made_events layout held.unit) (block_steps held.unit) = (
    rw bytes at at) in subst (λ (u : Message). AreSteps (format_of layout u.header.cluster) (made_events layout u) (block_steps u)) is wrote

-- ---- the header of a trailer block

parent_is : (before : Option Reference) (written : List (ℕ × ℕ))
    → pair_in before ≡ slice_get written 0 → IsCheck (checksum_in before) → checksum_in before ≡ spelled 16 (first_sum written)
parent_is None [] same fits = sym zeros_are
parent_is None (x ∷ xs) same fits = absurd (cc)
parent_is (Some r) [] same fits = absurd (cc)
parent_is (Some r) (x ∷ xs) same fits = let pair : (r.address, number_of r.checksum) ≡ x = cc in
    sym (whole_check r.checksum fits) ∙ ap (λ (p : ℕ × ℕ). spelled 16 p.1) pair

address_is : (before : Option Reference) (written : List (ℕ × ℕ))
    → pair_in before ≡ slice_get written 0 → address_in before ≡ first_address written
address_is None [] same = refl
address_is None (x ∷ xs) same = absurd (cc)
address_is (Some r) [] same = absurd (cc)
address_is (Some r) (x ∷ xs) same = let pair : (r.address, number_of r.checksum) ≡ x = cc in ap (λ (p : ℕ × ℕ). p.0) pair

first_left : (left : List ℕ) (a : ℕ) → Some a ≡ slice_get left 0 → a ≡ first_of left
first_left [] a is = absurd (cc)
first_left (x ∷ xs) a is = let same : a ≡ x = cc in same

pub header_is : (cluster boot sequence a index : ℕ) (b : Blocks) (before : Option Reference)
    → Some a ≡ slice_get b.left 0 → index ≡ length b.written → pair_in before ≡ slice_get b.written 0 → IsCheck (checksum_in before)
    → header_with cluster boot a index sequence (address_in before) (checksum_in before) ≡ next_header cluster boot sequence b
header_is cluster boot sequence a index b before first count pair fits =
    ap (λ (n : ℕ). header_with cluster boot n index sequence (address_in before) (checksum_in before)) (first_left b.left a first)
    ∙ ap (λ (n : ℕ). header_with cluster boot (first_of b.left) n sequence (address_in before) (checksum_in before)) count ∙ ap (λ (n : ℕ).
    header_with cluster boot (first_of b.left) (length b.written) sequence n (checksum_in before)) (address_is before b.written pair)
    ∙ ap (λ (c : List ℕ). header_with cluster boot (first_of b.left) (length b.written) sequence (first_address b.written) c)
    (parent_is before b.written pair fits)

-- the header that was made is the one of the next block
pub header_next : (w v : GridState) (sequence a index : ℕ) (header : Header) (before : Option Reference) → w ≡ v → header ≡ header_with w.cluster w.boot a index sequence (address_in before) (checksum_in before) → Some a ≡ slice_get w.blocks.left 0 → index ≡ length v.blocks.written
    → pair_in before ≡ slice_get w.blocks.written 0 → IsCheck (checksum_in before) → header ≡ next_header w.cluster w.boot sequence w.blocks
header_next w v sequence a index header before same is next count pair fits = is ∙ header_is
    w.cluster w.boot sequence a index w.blocks before next (count ∙ ap (λ (g : GridState). length g.blocks.written) (sym same)) pair fits

-- and its write is the machine's
pub next_steps : (w v : GridState) (sequence : ℕ) (piece : List ℕ) (header : Header) → w ≡ v → header ≡ next_header w.cluster w.boot sequence w.blocks → AreSteps (format_of w.layout header.cluster) (made_events w.layout (made header piece)) (block_steps (made header piece))
    → AreSteps (format_of v.layout v.cluster) (made_events v.layout (next_unit v sequence piece)) (block_steps (next_unit v sequence piece))
next_steps w v sequence piece header same is steps = subst (λ (g : GridState). AreSteps
    (format_of g.layout g.cluster) (made_events g.layout (next_unit g sequence piece)) (block_steps (next_unit g sequence piece))) same
    (rw is at steps)

sum_back : (before : Option Reference) (written : List (ℕ × ℕ))
    → pair_in before ≡ slice_get written 0 → IsCheck (checksum_in before) → number_of (spelled 16 (first_sum written)) ≡ first_sum written
sum_back None [] same fits = ap number_of zeros_are ∙ no_number
sum_back None (x ∷ xs) same fits = absurd (cc)
sum_back (Some r) [] same fits = absurd (cc)
sum_back (Some r) (x ∷ xs) same fits = let pair : (r.address, number_of r.checksum) ≡ x = cc in
    ap (λ (p : ℕ × ℕ). number_of (spelled 16 p.1)) (sym pair) ∙ ap number_of (whole_check r.checksum fits) ∙ ap (λ (p : ℕ × ℕ). p.1) pair

pub next_is : (g : GridState) (sequence : ℕ) (piece : List ℕ) (before : Option Reference)
    → pair_in before ≡ slice_get g.blocks.written 0 → IsCheck (checksum_in before)
    → block_of (next_unit g sequence piece) ≡ next_block g sequence piece (number_of (next_unit g sequence piece).header.checksum)
next_is g sequence piece before pair fits = ap (λ (n : ℕ). (record { checksum = number_of (next_unit g sequence piece).header.checksum; kind = 0; sequence = sequence; index = length g.blocks.written; before = first_address g.blocks.written; before_checksum = n; boot = g.boot; body = piece })) (sum_back before g.blocks.written pair fits)

-- ---- its rules

parent_first : (index : ℕ) (before : Option Reference) → IsBefore index before → index ≡ 0 → checksum_in before ≡ no_checksum
parent_first index None is none = refl
parent_first index (Some r) is none = absurd (omega (arith, is.0, none))

before_first : (index : ℕ) (before : Option Reference) → IsBefore index before → (address_in before ≡ 0) ↔ (index ≡ 0)
before_first index None is = (λ _. is, λ _. refl)
before_first index (Some r) is = (λ none. absurd (omega (arith, is.1, none)), λ none. absurd (omega (arith, is.0, none)))

-- in a boot its version is 2, and else 1
of_boot : (boot : ℕ) (h : Header)
    → boot ≤ 2 ^ 62 → h.version ≡ version_in boot → h.boot ≡ boot → h.group ≡ 0 → h.group_last ≡ 0 → ObeysVersion Trailer h
of_boot boot h most version booted group group_last = elim (cases_lt 0 boot) [
  | inl some ↦
      let second : h.version ≡ 2 = version ∙ cond-false (boot == 0) 1 2 (ne_eqb boot 0 (λ none. absurd (omega (arith, some, none)))) in
      inr (record { version = second; boot = (omega (arith, some, booted), omega (arith, most, booted)); group = record { none_first = group; none_last = group_last } })
  | inr none ↦ let no_boot : boot ≡ 0 = omega (arith, none) in
      of_first Trailer h (version ∙ cond-true (boot == 0) 1 2 (eq-eqb boot 0 no_boot)) (booted ∙ no_boot) group group_last
]

pub header_obeys : (cluster boot a index sequence : ℕ) (before : Option Reference) (piece : List ℕ) → (0 < cluster) × (cluster < 2 ^ 128) → boot ≤ 2 ^ 62 → (0 < a) × (a < 2 ^ 64) → index < 2 ^ 64 → (2 ≤ sequence) × (sequence ≤ 2 ^ 62) → IsBefore index before → IsCheck (checksum_in before)
    → address_in before < 2 ^ 64 → 256 + length piece < 2 ^ 32
    → ObeysRules (for_body (header_with cluster boot a index sequence (address_in before) (checksum_in before)) piece)
header_obeys cluster boot a index sequence before piece named most at count running is fits low size =
    given_obeys cluster named (header_with cluster boot a index sequence (address_in before) (checksum_in before)) piece
    Trailer (of_boot boot (header_with cluster boot a index sequence (address_in before) (checksum_in before)) most refl refl refl refl) (
      record {
        parent = fits;
        first = parent_first index before is;
        op = at;
        request = (before_first index before is, low);
        mark = count;
        checkpoint = running;
      },
      size,
    )

pub header_owns : (layout : Layout) (cluster boot a index sequence before : ℕ) (parent : List ℕ)
    → (1 ≤ a) × (a ≤ layout.blocks) → IsSome (own_place layout Grid (header_with cluster boot a index sequence before parent))
unfolding own_place
header_owns layout cluster boot a index sequence before parent has = grind (arith, nat_tests)

abbrev pub state_of : Layout → (cluster boot : ℕ) → Blocks → GridState
state_of layout cluster boot blocks = record { layout = layout; cluster = cluster; boot = boot; blocks = blocks }
