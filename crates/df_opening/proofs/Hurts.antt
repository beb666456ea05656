-- What a survey answers of a disk that may be hurt, or was before any number of opens.
use Rattle.{std.proofs.Common.{Err, Ok, Option, Some, Result, subst}, df_disk.specs.Told.{Told}}
use Rattle.df_damage.{specs.{Answers.{TellsHurt}, Histories.{TellsLived}, Below.{State}}, proofs.Laws.{answer_is_of_hurt_as, found_was_since}}
use Rattle.{df_layout.specs.declared.layout.Layout.{Layout}, df_model.specs.declared.errors.OpenError.{OpenError}}
use Rattle.df_opening.specs.Surveying.{AnswersSurvey, TellsSurvey}

tells_hurt : (layout : Layout) (told : Option Told) (result : Result State OpenError)
    → TellsSurvey layout told result → TellsHurt layout told result
tells_hurt layout told result tells = λ file view t is same may unspent. answer_is_of_hurt_as 2 file view t result may unspent
    (subst (λ (l : Layout). TellsSurvey l (Some t) result) same (subst (λ (o : Option Told). TellsSurvey layout o result) is tells) may.whole)

tells_lived : (layout : Layout) (told : Option Told) (result : Result State OpenError)
    → TellsSurvey layout told result → TellsLived layout told result
tells_lived layout told (Ok s) tells = λ file t log logs is same may. found_was_since file log logs t.shown s may (subst (λ (l : Layout).
    TellsSurvey l (Some t) (Ok s)) same (subst (λ (o : Option Told). TellsSurvey layout o (Ok s)) is tells) may.whole)
tells_lived layout told (Err e) tells = λ file t log logs is same may. tt

pub answers : (layout : Layout) (told : Option Told) (result : Result State OpenError)
    → TellsSurvey layout told result → AnswersSurvey layout told result
answers layout told result tells =
    record { answer = tells; hurt = tells_hurt layout told result tells; lived = tells_lived layout told result tells }
