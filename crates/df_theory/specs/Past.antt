-- The views that a history went through.
use Rattle.std.specs.Prelude.{◌≡◌, ◌⊎◌, List, [], ◌∷◌}
use Rattle.std.proofs.Common.{inl, inr}
use Rattle.df_theory.specs.{Units.{Units}, Shape.{Shape}, View.{View}, Grown.{Grows}}

-- one of the settled images had this view
abbrev pub Was : (sh : Shape) (images : List Units) (v : View) → Grows sh images v → View → Type 0
Was sh [] v grows w = ⊥
Was sh (image ∷ images) v (holds, inl begins) w = w ≡ v
Was sh (image ∷ images) v (holds, inr (history, (u, next, grows))) w = (w ≡ v) ⊎ Was sh images u grows w

-- the history began with the empty image
abbrev pub FromEmpty : (sh : Shape) (images : List Units) (v : View) → Grows sh images v → Type 0
FromEmpty sh [] v grows = ⊥
FromEmpty sh (image ∷ []) v (holds, inl begins) = ⊥
FromEmpty sh (image ∷ before ∷ images) v (holds, inl begins) = Unit {0}
FromEmpty sh (image ∷ images) v (holds, inr (history, (u, next, grows))) = FromEmpty sh images u grows
