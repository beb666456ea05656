-- The chain: what was read of it is shown, no block of it is written over, and each link takes the walk one block further.
use Rattle.std.{proofs.{Common.{◌≡◌, ℕ, ◌+◌, ◌-◌, ◌<◌, ◌==◌, ◌||◌, Bool, true, false, List, [], ◌∷◌, length, map, Option, Some, refl, sym, ◌∙◌, ap, arith, inl, inr, eq-eqb, eqb-true}, lemmas.Bool.{cases_order}}, specs.{Prelude.{Ok}, List.{list_any}}}
use Rattle.{df_layout.specs.declared.damage.Class.TheVariants.{Stale}, df_units.specs.Wanted.{IsOfKind, checksum_of}}
use Rattle.df_format.specs.{declared.kind.Kind.{Kind}, declared.kind.Kind.TheVariants.{Block as AsBlock, Prepare, Reply, Trailer}}
use Rattle.df_theory.specs.{Opens.{AreLinks, Arrives, IsLink, IsShown, ReadsTo}, Shape.{Shape}, Trailer.{InChain, IsCount}, Units.{AnyUnit, Block, BlockPlace, BlockUnit, Content, CopyUnit, HeaderUnit, Place, PreparePlace, PrepareUnit, ReplyPlace, ReplyUnit, Units}}
use Rattle.df_model.{proofs.Laws.{count_le}, specs.Supply.{Shown, block_given, class_at as class_in, given_if}}
use Rattle.{df_grid.specs.Reads.{trailer_alone}, df_checkpoint.{specs.Chain.{asked}, proofs.Laws.{whole_shown}}}
use Rattle.df_mirror.specs.Known.{AreShown, IsKnownAt, IsShownAs, IsSparePlace, ShowsTrailer}

-- ---- shown as a block of the trailer

pub block_shown : (image : Units) (a k : ℕ) → IsShownAs image Trailer (BlockPlace a) k → IsShown image a k
block_shown image a k is = by is.unit is.shown is.of_kind is.sum_is
  where
    by : (x : AnyUnit) → image (BlockPlace a) ≡ Some x → IsOfKind Trailer x → checksum_of x ≡ k → IsShown image a k
    by (BlockUnit b) shown kind sum = (b, shown, sum, kind)
    by (CopyUnit c) shown kind sum = absurd kind
    by (HeaderUnit h) shown kind sum = absurd kind
    by (PrepareUnit p) shown kind sum = absurd kind
    by (ReplyUnit r) shown kind sum = absurd kind

pub shown_block : (image : Units) (a k : ℕ) → IsShown image a k → IsShownAs image Trailer (BlockPlace a) k
shown_block image a k is = record { unit = BlockUnit is.0; shown = is.1; of_kind = is.3; sum_is = is.2 }

-- a trailer that is shown whole shows each block that is wanted of it
pub all_of_it : (sh : Shape) (image : Units) (c : Content) → ShowsTrailer sh image c → (a k : ℕ) → ReadsTo sh image c a k → IsShown image a k
all_of_it sh image c says = let shown : Shown = record { units = image; damage = λ place. Stale } in
    whole_shown sh shown c says.chain (record { links = says.trailer.links; count = says.trailer.count; inside = says.trailer.inside; size = says.trailer.size; shows = says.shown })

-- ---- walks down one chain

-- two blocks at one address are one
one_block : (image : Units) (a : ℕ) (x y : Block)
    → image (BlockPlace a) ≡ Some (BlockUnit x) → image (BlockPlace a) ≡ Some (BlockUnit y) → y ≡ x
one_block image a x y one two = let both : Some (BlockUnit y) ≡ Some (BlockUnit x) = sym two ∙ one in cc

-- a block that is wanted and shown is one that was read, where this one isn't shown
was_read : (image : Units) (xs ys : List (ℕ × Block)) (address sum a k e m : ℕ) → Arrives image xs address sum a k
    → Arrives image ys address sum e m → (IsShown image a k → ⊥) → IsShown image e m → (b : Block) × InChain e b xs
was_read image [] [] address sum a k e m one two lacks shown = absurd (lacks (rw (two.1 ∙ sym one.1) at (rw (two.0 ∙ sym one.0) at shown)))
was_read image [] (y ∷ ys) address sum a k e m one two lacks shown =
    absurd (lacks (y.1, ap (λ (n : ℕ). image (BlockPlace n)) one.0 ∙ two.3, two.2 ∙ sym one.1, two.4))
was_read image (x ∷ xs) [] address sum a k e m one two lacks shown = (x.1, inl (two.0 ∙ sym one.1, refl))
was_read image (x ∷ xs) (y ∷ ys) address sum a k e m one two lacks shown =
    let same : y.1 ≡ x.1 = one_block image address x.1 y.1 one.3 two.3 in
    let rest = was_read image xs ys x.1.before x.1.before_checksum a k e m one.5 (rw same at two.5) lacks shown in (rest.0, inr rest.1)

-- a walk that is longer has shown what a shorter one wants
shown_before : (image : Units) (xs ys : List (ℕ × Block)) (address sum a k e m : ℕ)
    → Arrives image xs address sum a k → Arrives image ys address sum e m → length ys < length xs → IsShown image e m
shown_before image [] ys address sum a k e m one two less = absurd (omega (arith, less))
shown_before image (x ∷ xs) [] address sum a k e m one two less =
    (x.1, ap (λ (n : ℕ). image (BlockPlace n)) two.0 ∙ one.3, one.2 ∙ sym two.1, one.4)
shown_before image (x ∷ xs) (y ∷ ys) address sum a k e m one two less =
    let same : y.1 ≡ x.1 = one_block image address x.1 y.1 one.3 two.3 in
    shown_before image xs ys x.1.before x.1.before_checksum a k e m one.5 (rw same at two.5) (omega (arith, less))

-- walks of one length come to one block
same_walk : (image : Units) (xs ys : List (ℕ × Block)) (address sum a k e m : ℕ)
    → Arrives image xs address sum a k → Arrives image ys address sum e m → length xs ≡ length ys → (a ≡ e) × (k ≡ m)
same_walk image [] [] address sum a k e m one two size = (one.0 ∙ sym two.0, one.1 ∙ sym two.1)
same_walk image [] (y ∷ ys) address sum a k e m one two size = absurd (omega (arith, size))
same_walk image (x ∷ xs) [] address sum a k e m one two size = absurd (omega (arith, size))
same_walk image (x ∷ xs) (y ∷ ys) address sum a k e m one two size = let same : y.1 ≡ x.1 = one_block image address x.1 y.1 one.3 two.3 in
    same_walk image xs ys x.1.before x.1.before_checksum a k e m one.5 (rw same at two.5) (omega (arith, size))

-- so one block that is wanted isn't shown
pub one_wanted : (sh : Shape) (image : Units) (c : Content) (a k e m : ℕ)
    → ReadsTo sh image c a k → ReadsTo sh image c e m → (IsShown image a k → ⊥) → (IsShown image e m → ⊥) → (a ≡ e) × (k ≡ m)
one_wanted sh image c a k e m one two lacks missing = elim (cases_order (length one.read) (length two.read)) [
  | inl same ↦ same_walk image one.read two.read c.trailer c.trailer_checksum a k e m one.arrives two.arrives same
  | inr (inl less) ↦ absurd (lacks (shown_before image two.read one.read c.trailer c.trailer_checksum e m a k two.arrives one.arrives less))
  | inr (inr more) ↦ absurd (missing (shown_before image one.read two.read c.trailer c.trailer_checksum a k e m one.arrives two.arrives more))
]

-- an address that isn't among those that were read is none of theirs
pub not_among : (chain : List (ℕ × Block)) (a e : ℕ) (b : Block)
    → list_any (λ other. other == a) (map (λ x. x.0) chain) ≡ false → InChain e b chain → e ≡ a → ⊥
not_among [] a e b none at same = absurd at
not_among (x ∷ xs) a e b none at same = by (x.0 == a) refl none (λ later none_later. not_among xs a e b none_later later same) at
  where
    by : (t : Bool) → (x.0 == a) ≡ t → (t || list_any (λ other. other == a) (map (λ y. y.0) xs)) ≡ false
        → (InChain e b xs → list_any (λ other. other == a) (map (λ y. y.0) xs) ≡ false → ⊥) → InChain e b (x ∷ xs) → ⊥
    by true test all rest at = cc
    by false test all rest (inl here) = let yes : (x.0 == a) ≡ true = eq-eqb x.0 a (sym here.0 ∙ same) in cc
    by false test all rest (inr later) = rest later all

-- and one that is among them is one of theirs
pub among : (chain : List (ℕ × Block)) (a : ℕ) → list_any (λ other. other == a) (map (λ x. x.0) chain) ≡ true → (b : Block) × InChain a b chain
among [] a some = absurd (cc)
among (x ∷ xs) a some = by (x.0 == a) refl some (λ later. among xs a later)
  where
    by : (t : Bool) → (x.0 == a) ≡ t → (t || list_any (λ other. other == a) (map (λ y. y.0) xs)) ≡ true
        → (list_any (λ other. other == a) (map (λ y. y.0) xs) ≡ true → (b : Block) × InChain a b xs) → (b : Block) × InChain a b (x ∷ xs)
    by true test all rest = (x.1, inl (sym (eqb-true x.0 a test), refl))
    by false test all rest = let there = rest all in (there.0, inr there.1)

-- where a block is wanted, a trailer is named
pub chain_named : (image : Units) (xs : List (ℕ × Block)) (address sum a k : ℕ) → Arrives image xs address sum a k → 0 < a → 0 < address
chain_named image [] address sum a k arrives above = omega (arith, above, arrives.0)
chain_named image (x ∷ xs) address sum a k arrives above = arrives.0

-- a block that was read is shown
pub read_shown : (image : Units) (xs : List (ℕ × Block)) (address sum a k e : ℕ) (b : Block)
    → Arrives image xs address sum a k → InChain e b xs → (image (BlockPlace e) ≡ Some (BlockUnit b)) × (b.kind ≡ 0)
read_shown image [] address sum a k e b arrives at = absurd at
read_shown image (x ∷ xs) address sum a k e b arrives (inl here) =
    (ap (λ (n : ℕ). image (BlockPlace n)) (here.0 ∙ arrives.1) ∙ arrives.3 ∙ ap (λ (d : Block). Some (BlockUnit d)) (sym here.1), ap (λ (d : Block). d.kind) here.1 ∙ arrives.4)
read_shown image (x ∷ xs) address sum a k e b arrives (inr later) = read_shown image xs x.1.before x.1.before_checksum a k e b arrives.5 later

-- and isn't the link that is wanted next
pub not_wanted : (sh : Shape) (c : Content) (n index : ℕ) (xs : List (ℕ × Block)) (e : ℕ) (b : Block)
    → AreLinks sh c n xs → InChain e b xs → n ≡ length xs + (index + 1) → IsLink sh c index b → ⊥
not_wanted sh c n index [] e b links at count is = at
not_wanted sh c n index (x ∷ xs) e b links (inl here) count is =
    omega (arith, ap (λ (d : Block). d.index) here.1, links.2.place, is.place, links.1, count)
not_wanted sh c n index (x ∷ xs) e b links (inr later) count is =
    not_wanted sh c links.0 index xs e b links.3 later (omega (arith, links.1, count)) is

-- it was wanted when those before it were read
pub read_known : (image : Units) (sh : Shape) (c : Content) (n : ℕ) (xs : List (ℕ × Block)) (address sum a k e : ℕ) (b : Block)
    → Arrives image xs address sum a k → AreLinks sh c n xs → InChain e b xs
    → (ys : List (ℕ × Block)) × Arrives image ys address sum e b.checksum × AreLinks sh c n ys × (length ys < length xs)
read_known image sh c n [] address sum a k e b arrives links at = absurd at
read_known image sh c n (x ∷ xs) address sum a k e b arrives links (inl here) =
    ([], (here.0 ∙ arrives.1, ap (λ (d : Block). d.checksum) here.1 ∙ arrives.2), tt, omega arith)
read_known image sh c n (x ∷ xs) address sum a k e b arrives links (inr later) =
    let rest = read_known image sh c links.0 xs x.1.before x.1.before_checksum a k e b arrives.5 links.3 later in
    (x ∷ rest.0, (arrives.0, arrives.1, arrives.2, arrives.3, arrives.4, rest.1), (links.0, links.1, links.2, rest.2), omega (arith, rest.3))

-- what was read is read of another image that shows these blocks
pub arrives_there : (image other : Units) (xs : List (ℕ × Block)) (address sum a k : ℕ) → Arrives image xs address sum a k
    → ((e : ℕ) (b : Block) → InChain e b xs → other (BlockPlace e) ≡ image (BlockPlace e)) → Arrives other xs address sum a k
arrives_there image other [] address sum a k arrives same = arrives
arrives_there image other (x ∷ xs) address sum a k arrives same = (
  arrives.0,
  arrives.1,
  arrives.2,
  ap (λ (n : ℕ). other (BlockPlace n)) (sym arrives.1)
      ∙ same x.0 x.1 (inl (refl, refl)) ∙ ap (λ (n : ℕ). image (BlockPlace n)) arrives.1 ∙ arrives.3,
  arrives.4,
  arrives_there image other xs x.1.before x.1.before_checksum a k arrives.5 (λ e b at. same e b (inr at)),
)

-- ---- the next block

module _ (sh : Shape) (image : Units) (c : Content) (n : ℕ) (chain : List (ℕ × Block)) (a k : ℕ) (counts : IsCount (sh.layout.block_size - 256) c.trailer_size n) (arrives : Arrives image chain c.trailer c.trailer_checksum a k) (links : AreLinks sh c n chain) where
  pub reads : length chain < n → ReadsTo sh image c a k
  reads less = record { count = n; read = chain; counts = counts; arrives = arrives; links = links; more = less }

  -- where it isn't shown, no known unit that is shown stands at its place
  pub chain_spare : length chain < n → ((e : ℕ) (b : Block) → InChain e b chain → e ≡ a → ⊥)
      → (IsShownAs image Trailer (BlockPlace a) k → ⊥) → IsSparePlace sh image c (BlockPlace a)
  unfolding reads
  chain_spare less new lacks = at_kind
    where
      missing : IsShown image a k → ⊥
      missing shown = lacks (shown_block image a k shown)

      at_kind : (kind : Kind) (at : Place) (sum : ℕ) → IsKnownAt sh image c kind at sum → IsShownAs image kind at sum → at ≡ BlockPlace a → ⊥
      at_kind Trailer (BlockPlace e) sum known shown same = let of : ReadsTo sh image c e sum = known in let there =
          was_read image chain of.read c.trailer c.trailer_checksum a k e sum arrives of.arrives missing (block_shown image e sum shown) in
          new e there.0 there.1 (cc)
      at_kind AsBlock (BlockPlace e) sum known shown same = missing (all_of_it sh image c known.says a k (reads less))
      at_kind Prepare (PreparePlace s) sum known shown same = cc
      at_kind Reply (ReplyPlace p) sum known shown same = cc
      at_kind kind at sum known shown same = absurd known

  -- all blocks were read: each one that is wanted is shown
  pub walk_ends : length chain ≡ n → AreShown sh image c Trailer
  walk_ends all place sum known = by place sum known
    where
      by : (place : Place) (sum : ℕ) → IsKnownAt sh image c Trailer place sum → IsShownAs image Trailer place sum
      by (BlockPlace e) sum known = let of : ReadsTo sh image c e sum = known in
          let most = count_le (sh.layout.block_size - 256) c.trailer_size of.count n of.counts counts in shown_block image e sum
          (shown_before image chain of.read c.trailer c.trailer_checksum a k e sum arrives of.arrives (omega (arith, of.more, most, all)))
      by place sum known = absurd known

-- ---- a block that is no link

pub asked_shown : (shown : Shown) (a k : ℕ) (b : Block)
    → shown.units (BlockPlace a) ≡ Some (BlockUnit b) → b.checksum ≡ k → b.kind ≡ 0 → asked shown a k ≡ Ok b
asked_shown shown a k b is sum kind = let class = class_in shown (BlockPlace a) in
    ap (λ (o : Option AnyUnit). trailer_alone (block_given (Some k) o class)) is
    ∙ ap (λ (t : Bool). trailer_alone (given_if t b class)) (eq-eqb b.checksum k sum)
    ∙ ap (λ (t : Bool). given_if t b Stale) (eq-eqb b.kind 0 kind)
