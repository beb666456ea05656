-- One link: what is shown where a block is asked for, and what the tests of a link say of it.
use Rattle.std.{proofs.Common.{◌≡◌, ℕ, ◌==◌, Bool, true, false, Option, Some, None, refl, sym, ap, ◌∙◌, subst, eqb-true}, specs.Prelude.{Ok, Err}}
use Rattle.{df_disk.specs.Told.{Told}, df_model.specs.Supply.{Shown, block_given, class_at, given_if}}
use Rattle.df_layout.specs.{declared.damage.Class.{Class}, declared.damage.Class.TheVariants.{Stale}, declared.fields.Field.TheVariants.{TrailerChain}, declared.layout.Layout.{Layout}}
use Rattle.df_format.specs.{declared.kind.Kind.{Kind}, declared.kind.Kind.TheVariants.{Trailer}, declared.reference.Reference.{Reference}, declared.superblock.SuperFields.{SuperFields}, Message.{Message}, Rules.{ObeysKind, ObeysTrailer}}
use Rattle.df_checkpoint.specs.{declared.{links.Link.{Link}, fault.TrailerFault.TheVariants.{BadField}}, Chain.{IsLinkOf, IsNoLink, LinkAnswer, OfTold, asked, before_of, content_in}}
use Rattle.df_theory.specs.Units as model
use Rattle.df_theory.specs.{Units.{AnyUnit, Block, BlockPlace, BlockUnit, CopyUnit, HeaderUnit, PrepareUnit, ReplyUnit}, Shape.{Shape}}
use Rattle.df_units.specs.Meaning.{block_of, layout_of, number_of}
use Rattle.df_grid.specs.{Grid.{GridState, IsKnownBlock}, Reads.{ReadsTrailer, trailer_alone}}

-- ---- what is shown

-- the block that is asked for is shown at its address, has its checksum, and is a trailer block
pub record IsAsked (shown : Shown) (a k : ℕ) (b : Block) : Type 0 where
  pub shows : shown.units (BlockPlace a) ≡ Some (BlockUnit b)
  pub sum : b.checksum ≡ k
  pub kind : b.kind ≡ 0

pub asked_is : (shown : Shown) (a k : ℕ) (b : Block) → asked shown a k ≡ Ok b → IsAsked shown a k b
asked_is shown a k b is = go (shown.units (BlockPlace a)) (class_at shown (BlockPlace a)) refl is
  where
    kind_of : (x : Block) (t : Bool) → t ≡ (x.kind == 0)
        → given_if t x Stale ≡ Ok b → shown.units (BlockPlace a) ≡ Some (BlockUnit x) → (x.checksum ≡ k) → IsAsked shown a k b
    kind_of x true test e at sum = let same : x ≡ b = cc in record {
      shows = at ∙ ap (λ (y : Block). Some (BlockUnit y)) same;
      sum = ap (λ (y : Block). y.checksum) (sym same) ∙ sum;
      kind = ap (λ (y : Block). y.kind) (sym same) ∙ eqb-true x.kind 0 (sym test);
    }
    kind_of x false test e at sum = absurd (cc)

    sum_of : (x : Block) (class : Class) (t : Bool) → t ≡ (x.checksum == k)
        → trailer_alone (given_if t x class) ≡ Ok b → shown.units (BlockPlace a) ≡ Some (BlockUnit x) → IsAsked shown a k b
    sum_of x class true test e at = kind_of x (x.kind == 0) refl e at (eqb-true x.checksum k (sym test))
    sum_of x class false test e at = absurd (cc)

    go : (o : Option AnyUnit) (class : Class)
        → shown.units (BlockPlace a) ≡ o → trailer_alone (block_given (Some k) o class) ≡ Ok b → IsAsked shown a k b
    go None class at e = absurd (cc)
    go (Some (BlockUnit x)) class at e = sum_of x class (x.checksum == k) refl e at
    go (Some (CopyUnit x)) class at e = absurd (cc)
    go (Some (HeaderUnit x)) class at e = absurd (cc)
    go (Some (PrepareUnit x)) class at e = absurd (cc)
    go (Some (ReplyUnit x)) class at e = absurd (cc)

-- ---- the answer of a link

module _ (g : GridState) (told : Option Told) (f : SuperFields) (index : ℕ) (at : Link) (u : Message)
    (layout : Layout) (of_grid : layout ≡ g.layout) (r : Reference) (refers : r ≡ record { address = at.address; checksum = at.checksum })
    (reads_it : ReadsTrailer g.layout g.cluster told r.address (number_of r.checksum) (Ok (block_of u))) (sh : Shape)
    (same : sh.layout ≡ layout_of g.layout) where
  reads : ReadsTrailer g.layout g.cluster told at.address (number_of at.checksum) (Ok (block_of u))
  reads = subst (λ (x : Reference). ReadsTrailer g.layout g.cluster told x.address (number_of x.checksum) (Ok (block_of u))) refers reads_it

  own : sh.layout ≡ layout_of layout
  own = same ∙ ap (λ (l : Layout). layout_of l) (sym of_grid)

  -- the block that is shown is the link
  pub link_taken : (before : Link) → IsKnownBlock Trailer g.layout g.cluster r.address (Some (number_of r.checksum)) u
      → IsLinkOf layout f index u → before ≡ before_of u → OfTold g told (λ shown. LinkAnswer sh shown (content_in f) index at (Ok before))
  link_taken before known link is = by told reads
    where
      by : (told : Option Told) → ReadsTrailer g.layout g.cluster told at.address (number_of at.checksum) (Ok (block_of u))
          → OfTold g told (λ shown. LinkAnswer sh shown (content_in f) index at (Ok before))
      by None reads = tt
      by (Some t) reads = let here = link sh own in
          let obeys : ObeysTrailer u.header = subst (λ (k : Kind). ObeysKind k u.header) known.of_kind known.is.sealed.rules.kind in
          record {
            block = block_of u;
            is = sym reads;
            link = here;
            address = ap (λ (l : Link). l.address) is;
            checksum = ap (λ (l : Link). number_of l.checksum) is;
            first = λ zeros. ap (λ (l : Link). l.address) is ∙ obeys.request.1 (here.place ∙ zeros);
          }

  -- and this one isn't
  pub link_broken : IsNoLink layout f index u
      → OfTold g told (λ shown. LinkAnswer sh shown (content_in f) index at (Err (BadField TrailerChain at.address)))
  link_broken none = by told reads
    where
      by : (told : Option Told) → ReadsTrailer g.layout g.cluster told at.address (number_of at.checksum) (Ok (block_of u))
          → OfTold g told (λ shown. LinkAnswer sh shown (content_in f) index at (Err (BadField TrailerChain at.address)))
      by None reads = tt
      by (Some t) reads = (refl, refl, record { block = block_of u; is = sym reads; broken = none sh own })
