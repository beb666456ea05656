-- No block of a trailer is missed where a link breaks its chain, or where the chain is whole.
use Rattle.std.{proofs.Common.{◌≡◌, ℕ, ◌+◌, ◌-◌, ◌<◌, Some, List, [], ◌∷◌, length, refl, sym, ap, ◌∙◌, arith, inl, inr}, specs.Prelude.{Ok}}
use Rattle.df_theory.specs.{Units.{Block, BlockPlace, BlockUnit, Content, Units}, Shape.{Shape}, Trailer.{InChain, Links}, Opens.{AreLinks, Arrives, IsLink, IsShown}}
use Rattle.df_model.{specs.Supply.{Shown}, proofs.Laws.{count_le}}
use Rattle.df_checkpoint.{specs.{Chain.{asked}, Laws.{BrokenIsShown, WholeIsShown}}, proofs.OneLink.{asked_is}}

-- two blocks at one address are one
pub one_block : (image : Units) (a e : ℕ) (x y : Block)
    → a ≡ e → image (BlockPlace a) ≡ Some (BlockUnit x) → image (BlockPlace e) ≡ Some (BlockUnit y) → x ≡ y
one_block image a e x y same one two =
    let both : Some (BlockUnit x) ≡ Some (BlockUnit y) = sym one ∙ ap (λ (n : ℕ). image (BlockPlace n)) same ∙ two in cc

is_shown : (image : Units) (x : Block) (address sum a k : ℕ)
    → a ≡ address → k ≡ sum → image (BlockPlace address) ≡ Some (BlockUnit x) → x.checksum ≡ sum → x.kind ≡ 0 → IsShown image a k
is_shown image x address sum a k place check shows is kind = (x, ap (λ (n : ℕ). image (BlockPlace n)) place ∙ shows, is ∙ sym check, kind)

-- a walk that a block breaks off isn't passed by another one
pub not_passed : (sh : Shape) (shown : Shown) (c : Content) (n index : ℕ) (y : ℕ × Block) (ys : List (ℕ × Block))
    (address sum a k e d : ℕ) (block : Block) → a ≡ address → Arrives shown.units (y ∷ ys) address sum e d → n ≡ index + 1
    → AreLinks sh c n (y ∷ ys) → asked shown a k ≡ Ok block → (IsLink sh c index block → ⊥) → ⊥
not_passed sh shown c n index y ys address sum a k e d block place other count links is broken = let there = asked_is shown a k block is in
    let same : y.1 ≡ block = one_block shown.units address a y.1 block (sym place) other.3 there.shows in
    let here : links.0 ≡ index = omega (arith, links.1, count) in broken (rw same at (rw here at links.2))

-- a walk down the chain ends no later than another one that a block breaks off
ends_before : (sh : Shape) (shown : Shown) (c : Content) (n index : ℕ) (xs ys : List (ℕ × Block)) (address sum a k e d : ℕ) (block : Block)
    → Arrives shown.units xs address sum a k → Arrives shown.units ys address sum e d → n ≡ length xs + (index + 1)
    → AreLinks sh c n ys → asked shown a k ≡ Ok block → (IsLink sh c index block → ⊥) → IsShown shown.units e d
ends_before sh shown c n index [] [] address sum a k e d block arrives other count links is broken =
    let there = asked_is shown a k block is in
    is_shown shown.units block a k e d (other.0 ∙ sym arrives.0) (other.1 ∙ sym arrives.1) there.shows there.sum there.kind
ends_before sh shown c n index [] (y ∷ ys) address sum a k e d block arrives other count links is broken =
    absurd (not_passed sh shown c n index y ys address sum a k e d block arrives.0 other (omega (arith, count)) links is broken)
ends_before sh shown c n index (x ∷ xs) [] address sum a k e d block arrives other count links is broken =
    is_shown shown.units x.1 address sum e d other.0 other.1 arrives.3 arrives.2 arrives.4
ends_before sh shown c n index (x ∷ xs) (y ∷ ys) address sum a k e d block arrives other count links is broken =
    let same : y.1 ≡ x.1 = one_block shown.units address address y.1 x.1 refl other.3 arrives.3 in ends_before sh shown c links.0 index
    xs ys x.1.before x.1.before_checksum a k e d block arrives.5 (rw same at other.5) (omega (arith, count, links.1)) links.3 is broken

pub broken_shown : BrokenIsShown
broken_shown sh shown c at bad e d reads = let room : ℕ = sh.layout.block_size - 256 in
    let one = count_le room c.trailer_size bad.reads.count reads.count bad.reads.counts reads.counts in
    let two = count_le room c.trailer_size reads.count bad.reads.count reads.counts bad.reads.counts in
    let same : reads.count ≡ length bad.reads.read + (bad.index + 1) = omega (arith, one, two, bad.at) in
    ends_before sh shown c reads.count bad.index bad.reads.read
    reads.read c.trailer c.trailer_checksum at bad.sum e d bad.block bad.reads.arrives reads.arrives same reads.links bad.is bad.broken

-- a walk down a whole chain comes to blocks of it
within_chain : (room : ℕ) (image : Units) (c : Content) (chain ys : List (ℕ × Block)) (address sum a k : ℕ) → Links room c chain address sum
    → ((e : ℕ) (b : Block) → InChain e b chain → image (BlockPlace e) ≡ Some (BlockUnit b)) → Arrives image ys address sum a k
    → length ys < length chain → IsShown image a k
within_chain room image c [] ys address sum a k links shows arrives less = absurd (omega (arith, less))
within_chain room image c (x ∷ xs) [] address sum a k links shows arrives less = is_shown image x.1 address
    sum a k arrives.0 arrives.1 (ap (λ (n : ℕ). image (BlockPlace n)) (sym links.1) ∙ shows x.0 x.1 (inl (refl, refl))) links.2 links.6
within_chain room image c (x ∷ xs) (y ∷ ys) address sum a k links shows arrives less =
    let same : y.1 ≡ x.1 = one_block image address x.0 y.1 x.1 (sym links.1) arrives.3 (shows x.0 x.1 (inl (refl, refl))) in
    within_chain room image c xs ys x.1.before x.1.before_checksum a k links.7 (λ e b at.
    shows e b (inr at)) (rw same at arrives.5) (omega (arith, less))

pub whole_shown : WholeIsShown
whole_shown sh shown c chain whole e d reads = let room : ℕ = sh.layout.block_size - 256 in
    let most = count_le room c.trailer_size reads.count (length chain) reads.counts whole.count in within_chain room
    shown.units c chain reads.read c.trailer c.trailer_checksum e d whole.links whole.shows reads.arrives (omega (arith, reads.more, most))
