-- What is told after a mending and after calls, by the told log and by any base.
use Rattle.{std.proofs.Common.{◌≡◌, List, [], Option, Some, ◌∙◌, ap}, df_base.specs.Log.{Event, Sync}, df_theory.specs.View.{View}}
use Rattle.{df_disk.specs.{Adds.{after_all}, Told.{Told, did}}, df_units.specs.Bytes.{unit_at}}
use Rattle.df_session.{specs.{Below.{DataFile, told_after}, Following.{MayOpen}, Serving.{Grade, StandsFor}, Session.{Act, Exchange}, Begun.{begun_work}, Links.{CallsMade}, Acknowledging.{KeepsAnswered}, Keeping.{KeepsFile, over}}, proofs.Laws.{added_is_told}}

-- by each log that shows what the disk shows, and by which the file may be opened, all is kept
abbrev pub KeepsOver : DataFile → Told → List Exchange → Option Act → (mending added : List Event) → Type 0
KeepsOver f t xs failed mending added =
    (g : Grade) (v : View) (base : Told) → base.shown ≡ t.shown → MayOpen f v base → StandsFor g (unit_at f.layout f.cluster t.shown) v
    → KeepsFile f g (begun_work f t.shown v) base xs failed (over mending added base)

-- and what was answered by a moment is there
abbrev pub AnsweredOver : DataFile → Told → (mending : List Event) → CallsMade → Type 0
AnsweredOver f t mending c = (g : Grade) (v : View) (base : Told) → base.shown ≡ t.shown → MayOpen f v base
    → StandsFor g (unit_at f.layout f.cluster t.shown) v → KeepsAnswered f g (begun_work f t.shown v) (over mending [] base) c

-- what the disk tells is what the told log tells after both
pub told_over : (mending added : List Event) (t : Told) (mended new : Option Told)
    → mended ≡ after_all mending (Some (did Sync t)) → new ≡ after_all added mended → new ≡ over mending added t
told_over mending added t mended new one two =
    two ∙ ap (after_all added) (one ∙ added_is_told mending (did Sync t)) ∙ added_is_told added (told_after mending (did Sync t))
