-- The log of a life begins where the making did, or where the file was taken or opened, whatever happened since: so a life that began with
-- the empty disk may be hurt.
use Rattle.{std.proofs.Common.{◌≡◌, inr, List, refl, ◌∙◌}, df_disk.specs.Told.{Told}, df_theory.specs.View.{View}}
use Rattle.df_session.specs.{Below.{DataFile}, Serving.{Whole}, Anew.{begun_after}, Begun.{begun_work}}
use Rattle.df_lifetime.{specs.{Hurt.{LifeMayBeHurt, began_with}, Life.{Chapter, Life, MayBeOpened}, Life.Life.{Begun, Ended, Made, Opened, Ran, Spared, Stopped, Taken}}, proofs.{Lives.{every_life_goes_on}, Openings.{answers_begun, keeps_begun, made_start}}}

pub start_stays : (file : DataFile) (first : View) (t : Told) (chapters : List Chapter) (life : Life file first t chapters)
    → t.log.start ≡ began_with file first t chapters life
start_stays _ _ _ _ (Made layout cluster t n makable made) = made.grew.2
start_stays _ _ _ _ (Begun layout cluster t n m result changes makable made moment there loose chance held) = moment.since.2
start_stays _ _ _ _ (Taken file first t may) = refl
start_stays _ _ _ _ (Opened file first t m layout found c extent shows calls made) =
    made_start file Whole (begun_work file t.shown first) (begun_after found.mending.events t) c
    (keeps_begun Whole file first t layout found c shows calls) (answers_begun Whole file first t layout found c shows calls) extent m made
start_stays _ _ _ _ (Ran file first b m t n chapters run life chance along) = along.start ∙ start_stays file first b chapters life
start_stays _ _ _ _ (Ended file first b m t p n chapters run answered life chance until along honest had) =
    along.start ∙ start_stays file first b chapters life
start_stays _ _ _ _ (Spared file first b m t p n chapters word life chance until along honest) =
    along.start ∙ start_stays file first b chapters life
start_stays _ _ _ _ (Stopped file first b chapters changes life loose chance) = start_stays file first b chapters life

pub life_may_be_hurt : LifeMayBeHurt
life_may_be_hurt file first t chapters shown life began chance whole none =
    let opens : MayBeOpened file first chapters t = every_life_goes_on file first t chapters life chance in (
      opens.view,
      opens.had,
      record { known = inr refl; version_is = opens.may.version; safe = opens.may.safe; empty = start_stays file first t chapters life ∙ began; found = opens.may.found; whole = whole; no_chance = none },
    )
