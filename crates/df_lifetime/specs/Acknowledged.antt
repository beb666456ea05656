-- Whatever was acknowledged in a file's life is found.
use Rattle.std.specs.Prelude.{List, [], ◌∷◌}
use Rattle.df_base.specs.Log.{now}
use Rattle.df_disk.specs.Told.{Told}
use Rattle.df_theory.specs.{Device.{NoChanceOf}, Found.{IsFound}, View.{View}}
use Rattle.df_units.specs.Bytes.{unit_at}
use Rattle.df_session.specs.{Below.{shape, DataFile}, Serving.{format}, Session.{Exchange}}
use Rattle.df_lifetime.specs.{Life.{Chapter, Life}, There.{IsAnswerThere, Promised, promised_by}}

-- what each of these calls was answered is there, where these requests are staged before the first of them
abbrev pub AreThere : View → List Promised → List Exchange → Type 0
AreThere v rs [] = Unit {0}
AreThere v rs (x ∷ exchanges) = IsAnswerThere v rs x.act.given x.act.command x.answer × AreThere v (promised_by rs x.act.command x.answer) exchanges

-- and so is what was answered in each of these sessions, which begin with nothing staged
abbrev pub AllThere : View → List Chapter → Type 0
AllThere v [] = Unit {0}
AllThere v (c ∷ chapters) = AreThere v [] c.answered × AllThere v chapters

-- Whatever was acknowledged in any session of a file's life is in the view that the next open finds.
abbrev pub AcknowledgedIsFound : Type 0
AcknowledgedIsFound =
    (file : DataFile) (first : View) (t : Told) (chapters : List Chapter) (view : View) → Life file first t chapters → NoChanceOf (format file) t.log (now t.log)
    → IsFound (shape file) (unit_at file.layout file.cluster t.shown) view → AllThere view chapters
