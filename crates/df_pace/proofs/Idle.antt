-- Beside a script where nothing is due nothing is done.
use Rattle.std.proofs.Common.{◌≡◌, ℕ, ◌&&◌, Bool, true, false, not, List, [], ◌∷◌, replicate, ◌++◌, refl, ap, ◌∙◌}
use Rattle.{df_theory.specs.Shape.{Shape}, df_model.specs.{Commands.{Advance, Command}, Refusals.{is_running, steps_left}, Supply.{Codec}}}
use Rattle.df_script_model.specs.Script.{answer_text, printed}
use Rattle.df_pace.{specs.{declared.pace.Pace.{Pace}, Loop.{Stand, all_by_loop, answer_at, begin_due, begin_if, by_script, course_at, paced, passed, stand_after, steps_due}, Laws.{AnsweredLaw, IdleLaw}}, proofs.Beats.{none_min}}

abbrev idle : Pace
idle = record { scrub = 0; every = 0; steps = 0 }

never : (b : Bool) → (not b && false) ≡ false
never true = refl
never false = refl

nothing_due : (sh : Shape) (codec : Codec) (x : Stand) → stand_after sh codec idle x ≡ x
nothing_due sh codec x =
    ap (λ (begins : List Command). all_by_loop sh codec x (begins ++ (steps_due sh codec idle (all_by_loop sh codec x begins) ++ []))) no_begin
    ∙ ap (λ (n : ℕ). all_by_loop sh codec x (replicate n Advance ++ [])) (none_min (steps_left (course_at sh codec x)))
  where
    no_begin : begin_due sh codec idle x ≡ []
    no_begin = ap (λ (b : Bool). begin_if b x.work.view.checkpoint.parts.root) (never (is_running (course_at sh codec x)))

idle_at : (sh : Shape) (codec : Codec) (x : Stand) (lines : List Command) → paced sh codec idle x lines ≡ printed sh codec x.shown x.work lines
idle_at sh codec x [] = refl
idle_at sh codec x (c ∷ more) =
    ap (λ (y : Stand). answer_text c (answer_at sh codec x c) ∷ paced sh codec idle y more) (nothing_due sh codec (by_script sh codec x c))
    ∙ ap (λ (texts : List (List ℕ)). answer_text c (answer_at sh codec x c) ∷ texts) (idle_at sh codec (by_script sh codec x c) more)

pub idle_law : IdleLaw
idle_law sh codec shown w lines = idle_at sh codec (record { shown = shown; work = w; appended = 0 }) lines

pub answered_law : AnsweredLaw
answered_law sh codec pace x [] = refl
answered_law sh codec pace x (c ∷ cs) =
    ap (λ (more : List (List ℕ)). answer_text c (answer_at sh codec x c) ∷ more) (answered_law sh codec pace (passed sh codec pace x c) cs)
