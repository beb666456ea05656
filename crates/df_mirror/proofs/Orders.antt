-- Which known units come before others, and the known blocks of an image whose grid is as it was.
use Rattle.{std.proofs.Common.{◌≡◌, ◌<◌, ℕ, List, Some, sym, ◌∙◌, ap, arith}, df_sessions.specs.declared.session.Session.{Session}}
use Rattle.df_format.specs.declared.kind.Kind.TheVariants.{Block as AsBlock, Prepare, Reply, Reserved, Trailer}
use Rattle.{df_grid.specs.Grid.{GridState}, df_opening.specs.Below.{shape}}
use Rattle.df_theory.specs.{Opens.{ReadsTo}, Shape.{Shape}, Units.{BlockPlace, Content, Parts, Place, Units}}
use Rattle.df_mirror.{specs.{declared.superblock.Superblock.{Superblock}, Known.{AreShownBefore, IsKnownAt, IsShownAs}, Walks.{ShowsBlocks, ShowsGrid, content_of_superblock}}, proofs.{Chains.{all_of_it, arrives_there, shown_block}, Ones.{one_trailer, passes_there, trailer_passes, trailer_there}, Referenced.{shown_there}}}

-- nothing comes before the trailer
pub before_trailer : (sh : Shape) (image : Units) (c : Content) (place : Place) → AreShownBefore sh image c Trailer place
before_trailer sh image c place Reserved at sum comes known = absurd known
before_trailer sh image c place Trailer at sum comes known = absurd (let less : 1 < 1 = comes in omega (arith, less))
before_trailer sh image c place AsBlock at sum comes known = absurd (let less : 2 < 1 = comes in omega (arith, less))
before_trailer sh image c place Prepare at sum comes known = absurd (let less : 3 < 1 = comes in omega (arith, less))
before_trailer sh image c place Reply at sum comes known = absurd (let less : 4 < 1 = comes in omega (arith, less))

-- and before the prepares the known blocks
pub before_prepare : (b : Superblock) (image : Units) (place : Place)
    → ShowsGrid b image → AreShownBefore (shape b.file) image (content_of_superblock b) Prepare place
before_prepare b image place grid Reserved at sum comes known = absurd known
before_prepare b image place grid Trailer at sum comes known = grid.trailer at sum known
before_prepare b image place grid AsBlock at sum comes known = grid.blocks at sum known
before_prepare b image place grid Prepare at sum comes known = absurd (let less : 3 < 3 = comes in omega (arith, less))
before_prepare b image place grid Reply at sum comes known = absurd (let less : 4 < 3 = comes in omega (arith, less))

-- ---- the known blocks

module _ (b : Superblock) (image other : Units) (same : (a : ℕ) → other (BlockPlace a) ≡ image (BlockPlace a)) (grid : ShowsGrid b image) where
  abbrev c : Content
  c = content_of_superblock b

  reads_back : (a sum : ℕ) → ReadsTo (shape b.file) other c a sum → ReadsTo (shape b.file) image c a sum
  reads_back a sum of = record {
    count = of.count;
    read = of.read;
    counts = of.counts;
    arrives = arrives_there other image of.read c.trailer c.trailer_checksum a sum of.arrives (λ e x inside. sym (same e));
    links = of.links;
    more = of.more;
  }

  trailer_on : (place : Place) (sum : ℕ) → IsKnownAt (shape b.file) other c Trailer place sum → IsShownAs other Trailer place sum
  trailer_on (BlockPlace a) sum known =
      shown_there image other Trailer (BlockPlace a) sum (same a) (grid.trailer (BlockPlace a) sum (reads_back a sum known))
  trailer_on place sum known = absurd known

  blocks_on : (place : Place) (sum : ℕ) → IsKnownAt (shape b.file) other c AsBlock place sum → IsShownAs other AsBlock place sum
  blocks_on (BlockPlace a) sum known = shown_there image other AsBlock (BlockPlace a) sum (same a) (grid.blocks (BlockPlace a)
      sum (record { says = trailer_there (shape b.file) other image c known.says (λ e x at. sym (same e)); reference = known.reference }))
  blocks_on place sum known = absurd known

  -- they are shown wherever the grid is as it was
  pub grid_there : ShowsGrid b other
  grid_there = record { trailer = trailer_on; passes = passes_there (shape b.file) image other c same grid.passes; blocks = blocks_on }

module _ (b : Superblock)
    (grid : GridState) (ss : List Session) (image : Units) (blocks : ShowsBlocks b image grid ss b.file.layout.blocks) where
  trailer_is : (place : Place) (sum : ℕ)
      → IsKnownAt (shape b.file) image (content_of_superblock b) Trailer place sum → IsShownAs image Trailer place sum
  trailer_is (BlockPlace a) sum known =
      shown_block image a sum (all_of_it (shape b.file) image (content_of_superblock b) blocks.has.says a sum known)
  trailer_is place sum known = absurd known

  blocks_are : (place : Place) (sum : ℕ)
      → IsKnownAt (shape b.file) image (content_of_superblock b) AsBlock place sum → IsShownAs image AsBlock place sum
  blocks_are (BlockPlace a) sum known = let parts : known.says.parts ≡ blocks.has.says.parts =
      one_trailer (shape b.file) image (content_of_superblock b) known.says blocks.has.says in
      let reference : blocks.has.says.parts.references a ≡ Some sum = ap (λ (p : Parts). p.references a) (sym parts) ∙ known.reference in
      blocks.shown a sum (blocks.has.inside a sum reference).1 (blocks.has.live a ∙ reference)
  blocks_are place sum known = absurd known

  -- so they are where the walk over the addresses has come to its end
  pub grid_shown : ShowsGrid b image
  grid_shown = record { trailer = trailer_is; passes = trailer_passes b image grid ss blocks.has blocks.waiting; blocks = blocks_are }
