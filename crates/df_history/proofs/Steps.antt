-- What each step of a history keeps.
use Rattle.std.proofs.Common.{◌≡◌, ◌⊎◌, inl, inr, ℕ, ◌<◌, ◌≤◌, List, [], ◌∷◌, refl, sym, ◌∙◌, ap, subst, arith}
use Rattle.df_theory.{specs.{Units.{AnyUnit, Content, Message, Place, PreparePlace, PrepareUnit, Units}, Shape.{Shape}, Copies.{rank_of}, View.{Checkpoint, View, boot_of, head}, Shows.{Needs}, Holds.{Sound}, Chance.{InImages}, Grown.{GoesOn}}, proofs.Laws.{boot_higher, prepare_agrees, next_grew}}
use Rattle.df_history.specs.Lives.{Asleep, Awake, Lived, Lives, Steps, Turn, TurnFollows, first_view_of}

pub lives_sound : (sh : Shape) (images : List Units) (v : View) (t : Turn) → Lives sh images v t → Sound sh v
lives_sound sh [] v t lives = absurd lives
lives_sound sh (image ∷ images) v t lives = lives.0.bears.sound

-- ---- one step

follow_rank : (sh : Shape) (images : List Units) (u : View) (s : Turn) (v : View) (t : Turn) → Sound sh u → TurnFollows images u s v t
    → (u.checkpoint.content ≡ v.checkpoint.content) ⊎ (rank_of u.checkpoint.content < rank_of v.checkpoint.content)
follow_rank sh images u Awake v Awake sound next =
    elim (next_grew sh u v sound next.next).checkpoint [ inl same ↦ inl (ap (λ (b : Checkpoint). b.content) same) | inr less ↦ inr less ]
follow_rank sh images u Awake v Asleep sound none = absurd none
follow_rank sh images u Asleep v Asleep sound same = inl (ap (λ (x : View). x.checkpoint.content) (sym same))
follow_rank sh images u Asleep v Awake sound (d, is, same) =
    inr (omega (arith, boot_higher u d is, ap (λ (x : View). rank_of x.checkpoint.content) same))

follow_boot : (sh : Shape) (images : List Units) (u : View) (s : Turn) (v : View) (t : Turn)
    → Sound sh u → TurnFollows images u s v t → boot_of u ≤ boot_of v
follow_boot sh images u Awake v Awake sound next = (next_grew sh u v sound next.next).boot
follow_boot sh images u Awake v Asleep sound none = absurd none
follow_boot sh images u Asleep v Asleep sound same = omega (arith, ap boot_of same)
follow_boot sh images u Asleep v Awake sound (d, is, same) = omega (arith, is.boot, ap boot_of same)

-- a later view has the same superblock or a higher one
pub step_rank : (sh : Shape) (images : List Units) (image : Units) (u : View) (s : Turn) (v : View) (t : Turn) → Sound sh u → Steps
    images image u s v t → (u.checkpoint.content ≡ v.checkpoint.content) ⊎ (rank_of u.checkpoint.content < rank_of v.checkpoint.content)
step_rank sh images image u s v t sound (inl goes) = follow_rank sh images u s v t sound goes.1
step_rank sh images image u s v t sound (inr anew) = inl (sym anew.2)

pub step_boot : (sh : Shape) (images : List Units) (image : Units) (u : View) (s : Turn) (v : View) (t : Turn)
    → Sound sh u → Steps images image u s v t → boot_of u ≤ boot_of v
step_boot sh images image u s v t sound (inl goes) = follow_boot sh images u s v t sound goes.1
step_boot sh images image u s v t sound (inr anew) = omega (arith, ap (λ (c : Content). c.boot) anew.2)

-- an awake view of no higher boot than the one before it follows an awake one
pub step_same : (images : List Units) (image : Units) (u : View) (s : Turn) (v : View) (t : Turn)
    → Steps images image u s v t → t ≡ Awake → boot_of v ≤ boot_of u → (s ≡ Awake) × GoesOn images u v
step_same images image u Awake v Awake (inl goes) turn low = (refl, goes.1)
step_same images image u Awake v Asleep (inl goes) turn low = absurd goes.1
step_same images image u Asleep v Asleep (inl goes) turn low = absurd (let both : Asleep ≡ Awake = turn in cc)
step_same images image u Asleep v Awake (inl (history, (d, is, same))) turn low = absurd (omega (arith, is.boot, ap boot_of same))
step_same images image u s v t (inr anew) turn low = absurd (let both : Asleep ≡ Awake = sym anew.1 ∙ turn in cc)

-- ---- all steps

rank_le : (c d : Content) → (c ≡ d) ⊎ (rank_of c < rank_of d) → rank_of c ≤ rank_of d
rank_le c d (inl same) = omega (arith, ap rank_of same)
rank_le c d (inr less) = omega arith

pub lived_low : (sh : Shape) (images : List Units) (v : View) (t : Turn) (lives : Lives sh images v t) (w : View) (a : Turn)
    → Lived sh images v t lives w a → (rank_of w.checkpoint.content ≤ rank_of v.checkpoint.content) × (boot_of w ≤ boot_of v)
lived_low sh [] v t lives w a lived = absurd lived
lived_low sh (image ∷ images) v t (holds, inl starts) w a lived =
    (omega (arith, ap (λ (x : View). rank_of x.checkpoint.content) lived.0), omega (arith, ap boot_of lived.0))
lived_low sh (image ∷ images) v t (holds, inr (u, s, step, lives)) w a (inl is) =
    (omega (arith, ap (λ (x : View). rank_of x.checkpoint.content) is.0), omega (arith, ap boot_of is.0))
lived_low sh (image ∷ images) v t (holds, inr (u, s, step, lives)) w a (inr lived) = let low = lived_low sh images u s lives w a lived in
    let sound = lives_sound sh images u s lives in
    (omega (arith, low.0, rank_le u.checkpoint.content v.checkpoint.content (step_rank sh images image u s v t sound step)), omega (arith, low.1, step_boot sh images image u s v t sound step))

pub lived_self : (sh : Shape) (images : List Units) (v : View) (t : Turn) (lives : Lives sh images v t) → Lived sh images v t lives v t
lived_self sh [] v t lives = lives
lived_self sh (image ∷ images) v t (holds, inl starts) = (refl, refl)
lived_self sh (image ∷ images) v t (holds, inr (u, s, step, lives)) = inl (refl, refl)

pub first_low : (sh : Shape) (images : List Units) (v : View) (t : Turn) (lives : Lives sh images v t) (w : View) (a : Turn)
    → Lived sh images v t lives w a → (rank_of (first_view_of sh images v t lives).checkpoint.content ≤ rank_of w.checkpoint.content)
    × (boot_of (first_view_of sh images v t lives) ≤ boot_of w)
first_low sh [] v t lives w a lived = absurd lived
first_low sh (image ∷ images) v t (holds, inl starts) w a lived =
    (omega (arith, ap (λ (x : View). rank_of x.checkpoint.content) lived.0), omega (arith, ap boot_of lived.0))
first_low sh (image ∷ images) v t (holds, inr (u, s, step, lives)) w a (inl is) =
    let low = first_low sh images u s lives u s (lived_self sh images u s lives) in let sound = lives_sound sh images u s lives in
    (omega (arith, low.0, rank_le u.checkpoint.content v.checkpoint.content (step_rank sh images image u s v t sound step), ap (λ (x : View). rank_of x.checkpoint.content) is.0), omega (arith, low.1, step_boot sh images image u s v t sound step, ap boot_of is.0))
first_low sh (image ∷ images) v t (holds, inr (u, s, step, lives)) w a (inr lived) = first_low sh images u s lives w a lived

-- of an awake view: earlier views of its boot had counted no further
pub awake_low : (sh : Shape) (images : List Units) (v : View) (t : Turn) (lives : Lives sh images v t) → t ≡ Awake
    → (w : View) (a : Turn) → Lived sh images v t lives w a → boot_of w ≡ boot_of v → (head w ≤ head v) × (w.replies ≤ v.replies)
awake_low sh [] v t lives turn w a lived same = absurd lived
awake_low sh (image ∷ images) v t (holds, inl starts) turn w a lived same =
    (omega (arith, ap head lived.0), omega (arith, ap (λ (x : View). x.replies) lived.0))
awake_low sh (image ∷ images) v t (holds, inr (u, s, step, lives)) turn w a (inl is) same =
    (omega (arith, ap head is.0), omega (arith, ap (λ (x : View). x.replies) is.0))
awake_low sh (image ∷ images) v t (holds, inr (u, s, step, lives)) turn w a (inr lived) same =
    let older = lived_low sh images u s lives w a lived in let goes = step_same images image u s v t step turn (omega (arith, older.1)) in
    let grew = next_grew sh u v (lives_sound sh images u s lives) goes.1.next in
    let low = awake_low sh images u s lives goes.0 w a lived (omega (arith, older.1, grew.boot)) in
    (omega (arith, low.0, grew.head), omega (arith, low.1, grew.replies))

pub lived_sound : (sh : Shape) (images : List Units) (v : View) (t : Turn) (lives : Lives sh images v t) (w : View) (a : Turn)
    → Lived sh images v t lives w a → Sound sh w
lived_sound sh [] v t lives w a lived = absurd lived
lived_sound sh (image ∷ images) v t (holds, inl starts) w a is = subst (λ (x : View). Sound sh x) (sym is.0) holds.bears.sound
lived_sound sh (image ∷ images) v t (holds, inr (u, s, step, lives)) w a (inl is) = subst (λ (x : View). Sound sh x) (sym is.0) holds.bears.sound
lived_sound sh (image ∷ images) v t (holds, inr (u, s, step, lives)) w a (inr lived) = lived_sound sh images u s lives w a lived

-- what a view needed was settled
pub lived_needs : (sh : Shape) (images : List Units) (v : View) (t : Turn) (lives : Lives sh images v t) (w : View) (a : Turn)
    → Lived sh images v t lives w a → (place : Place) (x : AnyUnit) → Needs sh w place x → InImages images place x
lived_needs sh [] v t lives w a lived place x need = absurd lived
lived_needs sh (image ∷ images) v t (holds, inl starts) w a is place x need = inl (holds.bears.needs place x (rw is.0 at need))
lived_needs sh (image ∷ images) v t (holds, inr (u, s, step, lives)) w a (inl is) place x need =
    inl (holds.bears.needs place x (rw is.0 at need))
lived_needs sh (image ∷ images) v t (holds, inr (u, s, step, lives)) w a (inr lived) place x need =
    inr (lived_needs sh images u s lives w a lived place x need)

-- a settled prepare has no higher boot than the newest view
pub lives_boot : (sh : Shape) (images : List Units) (v : View) (t : Turn)
    → Lives sh images v t → (k : ℕ) (p : Message) → InImages images (PreparePlace k) (PrepareUnit p) → p.header.boot ≤ boot_of v
lives_boot sh [] v t lives k p at = absurd at
lives_boot sh (image ∷ images) v t (holds, inl starts) k p at = omega (arith, starts.1.prepares k p at)
lives_boot sh (image ∷ images) v t (holds, inr (u, s, step, lives)) k p (inl here) =
    (prepare_agrees sh image v holds.bears.sound holds.bears.agrees k p here).boot
lives_boot sh (image ∷ images) v t (holds, inr (u, s, step, lives)) k p (inr there) =
    omega (arith, lives_boot sh images u s lives k p there, step_boot sh images image u s v t (lives_sound sh images u s lives) step)

-- one content a rank
pub lived_base : (sh : Shape) (images : List Units) (v : View) (t : Turn) (lives : Lives sh images v t)
    (x : View) (a : Turn) (y : View) (b : Turn) → Lived sh images v t lives x a → Lived sh images v t lives y b
    → rank_of x.checkpoint.content ≡ rank_of y.checkpoint.content → x.checkpoint.content ≡ y.checkpoint.content
lived_base sh [] v t lives x a y b lived_x lived_y same = absurd lived_x
lived_base sh (image ∷ images) v t (holds, inl starts) x a y b is_x is_y same = ap (λ (z : View). z.checkpoint.content) (is_x.0 ∙ sym is_y.0)
lived_base sh (image ∷ images) v t (holds, inr (u, s, step, lives)) x a y b (inl is_x) (inl is_y) same =
    ap (λ (z : View). z.checkpoint.content) (is_x.0 ∙ sym is_y.0)
lived_base sh (image ∷ images) v t (holds, inr (u, s, step, lives)) x a y b (inl is_x) (inr lived_y) same =
    elim (step_rank sh images image u s v t (lives_sound sh images u s lives) step) [
      | inl base ↦ ap (λ (z : View). z.checkpoint.content) is_x.0 ∙ sym base ∙ lived_base sh images u s lives u
          s y b (lived_self sh images u s lives) lived_y (ap rank_of base ∙ ap (λ (z : View). rank_of z.checkpoint.content) (sym is_x.0) ∙ same)
      | inr less ↦ absurd (omega (arith, (lived_low sh images u s lives y b lived_y).0, ap (λ (z : View). rank_of z.checkpoint.content) is_x.0))
    ]
lived_base sh (image ∷ images) v t (holds, inr (u, s, step, lives)) x a y b (inr lived_x) (inl is_y) same =
    elim (step_rank sh images image u s v t (lives_sound sh images u s lives) step) [
      | inl base ↦ lived_base sh images u s lives x a u s lived_x (lived_self sh images u s lives) (same ∙ ap (λ (z : View).
          rank_of z.checkpoint.content) is_y.0 ∙ ap rank_of (sym base)) ∙ base ∙ ap (λ (z : View). z.checkpoint.content) (sym is_y.0)
      | inr less ↦ absurd (omega (arith, (lived_low sh images u s lives x a lived_x).0, ap (λ (z : View). rank_of z.checkpoint.content) is_y.0))
    ]
lived_base sh (image ∷ images) v t (holds, inr (u, s, step, lives)) x a y b (inr lived_x) (inr lived_y) same =
    lived_base sh images u s lives x a y b lived_x lived_y same
