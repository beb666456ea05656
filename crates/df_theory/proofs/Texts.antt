-- The text of a trailer that an image shows is of bytes.
use Rattle.std.proofs.Common.{◌≡◌, inl, inr, ℕ, List, [], ◌∷◌, Some, refl, arith}
use Rattle.df_base.{specs.Fields.{AreBytes}, proofs.Laws.{AreBytes-append}}
use Rattle.df_theory.specs.{Units.{Block, BlockPlace, BlockUnit, Units}, Shape.{Shape}, Trailer.{InChain, text_of}, Found.{AreOfPlaces}}

pub text_bytes : (sh : Shape) (image : Units) (chain : List (ℕ × Block)) → AreOfPlaces sh image
    → ((a : ℕ) (b : Block) → InChain a b chain → image (BlockPlace a) ≡ Some (BlockUnit b)) → AreBytes (text_of chain)
text_bytes sh image [] places shown = λ i. omega arith
text_bytes sh image (b ∷ bs) places shown = let of = places (BlockPlace b.0) (BlockUnit b.1) (shown b.0 b.1 (inl (refl, refl))) in
    let own : AreBytes b.1.body = rw (let same : of.0 ≡ b.1 = (let e = of.1 in cc) in same) at of.3 in
    AreBytes-append (text_of bs) b.1.body (text_bytes sh image bs places (λ a x at. shown a x (inr at))) own
