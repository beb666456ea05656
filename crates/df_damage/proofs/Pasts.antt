-- A view that a history had is held by one of its settled images, and a history whose start shows nothing began with the empty image.
use Rattle.{std.proofs.Common.{◌≡◌, ◌⊎◌, inl, inr, List, [], ◌∷◌, None, refl, sym}, df_base.specs.Image.{Image}}
use Rattle.df_theory.{specs.{Units.{Place, Units}, Shape.{Shape}, View.{View}, Holds.{Holds}, UnitLog.{Stopped, Synced, UnitEvent, Wrote, now_of, settled_of}, Grown.{Grows}, Past.{FromEmpty, Was}, Device.{Format, all_units}}, proofs.Laws.{unheld}}
use Rattle.df_damage.specs.Past.{IsOneOf}

-- ---- views

abbrev pub AreAmong : List Units → Units → Type 0
AreAmong [] units = ⊥
AreAmong (u ∷ us) units = (units ≡ u) ⊎ AreAmong us units

pub was_held : (sh : Shape) (images : List Units) (v : View) (grows : Grows sh images v) (w : View)
    → Was sh images v grows w → (units : Units) × AreAmong images units × Holds sh units w
was_held sh [] v grows w was = absurd was
was_held sh (u ∷ us) v (holds, inl begins) w was = (u, inl refl, rw (sym was) at holds)
was_held sh (u ∷ us) v (holds, inr (history, (before, next, grows))) w (inl same) = (u, inl refl, rw (sym same) at holds)
was_held sh (u ∷ us) v (holds, inr (history, (before, next, grows))) w (inr was) = let older = was_held sh us before grows w was in
    (older.0, inr older.1, older.2)

-- images that are read place by place
pub among_images : (f : Format) (images : List Image) (units : Units)
    → AreAmong (all_units f images) units → (image : Image) × IsOneOf images image × (units ≡ f.unit_at image)
among_images f [] units among = absurd among
among_images f (image ∷ images) units (inl same) = (image, inl refl, same)
among_images f (image ∷ images) units (inr among) = let older = among_images f images units among in (older.0, inr older.1, older.2)

-- ---- the beginning

-- the oldest of the images shows nothing
abbrev pub EndsBlank : List Units → Type 0
EndsBlank [] = ⊥
EndsBlank (u ∷ []) = (place : Place) → u place ≡ None
EndsBlank (u ∷ before ∷ us) = EndsBlank (before ∷ us)

blank_more : (u : Units) (us : List Units) → EndsBlank us → EndsBlank (u ∷ us)
blank_more u [] ends = absurd ends
blank_more u (before ∷ us) ends = ends

pub settled_blank : (start : Units) (es : List UnitEvent) → ((place : Place) → start place ≡ None) → EndsBlank (settled_of start es)
settled_blank start [] blank = blank
settled_blank start ((Wrote touches stands after) ∷ es) blank = settled_blank start es blank
settled_blank start (Synced ∷ es) blank = blank_more (now_of start es) (settled_of start es) (settled_blank start es blank)
settled_blank start ((Stopped after) ∷ es) blank = blank_more after (settled_of start es) (settled_blank start es blank)

pub from_blank : (sh : Shape) (images : List Units) (v : View) (grows : Grows sh images v) → EndsBlank images → FromEmpty sh images v grows
from_blank sh [] v grows ends = grows
from_blank sh (u ∷ []) v (holds, inl begins) ends = unheld sh u v ends holds
from_blank sh (u ∷ []) v (holds, inr (history, (before, next, grows))) ends = grows
from_blank sh (u ∷ older ∷ us) v (holds, inl begins) ends = tt
from_blank sh (u ∷ older ∷ us) v (holds, inr (history, (before, next, grows))) ends = from_blank sh (older ∷ us) before grows ends
