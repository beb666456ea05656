-- A write puts what it shows at the places that it touches.
use Rattle.std.proofs.Common.{◌≡◌, ℕ, false, List, Option, Some, None, refl, sym, ◌∙◌, ap}
use Rattle.df_base.{specs.Image.{Image, IsImage, written}, proofs.Laws.{written_else}}
use Rattle.df_theory.specs.{Units.{AnyUnit, Place, is_some, or_else}, Device.{Format, IsFormat}, DeviceLaws.{PutShownLaw}}

untouched_stays : (f : Format) → IsFormat f → (at : ℕ) (bytes : List ℕ) (place : Place) (image : Image)
    → f.touches at bytes place ≡ false → f.unit_at (written at bytes image) place ≡ f.unit_at image place
untouched_stays f is at bytes place image apart = is.local (written at bytes image) image place (λ sector here.
    written_else at bytes image sector (is.apart at bytes place sector apart here))

pub put_shown_law : PutShownLaw
put_shown_law f at bytes put is piece within touched shown =
    record { piece = piece; within = within; touches = touched; shows = λ image place whole. shows_at image place (put place) whole refl }
  where
    shows_at : (image : Image) (place : Place) (o : Option AnyUnit)
        → IsImage image → put place ≡ o → f.unit_at (written at bytes image) place ≡ or_else (put place) (f.unit_at image place)
    shows_at image place None whole none = untouched_stays f is at bytes place image (touched place ∙ ap is_some none)
        ∙ ap (λ (o : Option AnyUnit). or_else o (f.unit_at image place)) (sym none)
    shows_at image place (Some x) whole some =
        shown image place x whole some ∙ ap (λ (o : Option AnyUnit). or_else o (f.unit_at image place)) (sym some)

-- what stands before others
pub else_join : (a b c : Option AnyUnit) → or_else a (or_else b c) ≡ or_else (or_else a b) c
else_join (Some x) b c = refl
else_join None b c = refl
