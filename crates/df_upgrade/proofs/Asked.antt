-- What an open that asks for version 1 answers.
use Rattle.{std.proofs.Common.{◌≡◌, Option, Some, Result, subst, sym, arith}, df_base.specs.Image.{IsImage}, df_disk.specs.Told.{Told}}
use Rattle.{df_layout.specs.declared.layout.Layout.{Layout}, df_model.specs.{Work.{opened}, declared.errors.OpenError.{OpenError}}}
use Rattle.{df_theory.{specs.{Found.{IsFound}, View.{View}}, proofs.Laws.{one_found_law}}, df_units.specs.Bytes.{unit_at}}
use Rattle.df_damage.{specs.{Below.{Represents, State, shape}, Surveying.{TellsSurveyAs}, Surveys.{IsOpenedAs}}, proofs.Laws.{answer_is_of_hurt_as}}
use Rattle.{df_opening.specs.Mending.{first_state}, df_upgrade.specs.Old.{AnswersOld, TellsHurtOld}}

-- of a disk that may be hurt
hurt_old : (layout : Layout) (told : Option Told) (result : Result State OpenError)
    → TellsSurveyAs 1 layout told result → TellsHurtOld layout told result
hurt_old layout told result tells = λ file view t is same may.
    answer_is_of_hurt_as 1 file view t result may (λ second. absurd (omega (arith, second)))
    (subst (λ (l : Layout). TellsSurveyAs 1 l (Some t) result) same (rw is at tells) may.whole)

pub answers_old : (layout : Layout) (told : Option Told) (result : Result State OpenError)
    → TellsSurveyAs 1 layout told result → AnswersOld layout told result
answers_old layout told result tells = record { answer = tells; hurt = hurt_old layout told result tells }

-- the state that is found stands for what the machine begins with
pub stands_old : (layout : Layout) (t : Told) (s : State) (view : View)
    → s.file.layout ≡ layout → (IsImage t.shown → IsOpenedAs 1 layout t.shown s) → IsImage t.shown
    → IsFound (shape s.file) (unit_at s.file.layout s.file.cluster t.shown) view → Represents s (first_state s.file t view)
stands_old layout t s view of answer whole found = let is : IsOpenedAs 1 s.file.layout t.shown s = rw (sym of) at (answer whole) in
    rw (← (one_found_law (shape s.file) (unit_at s.file.layout s.file.cluster t.shown) is.view view is.found found)) is.stands
