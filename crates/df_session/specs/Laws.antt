-- What is promised of calls on a file that was opened, whatever they are.
use Rattle.std.specs.Prelude.{◌≡◌, true, List, [], ◌∷◌, Option, None, Some}
use Rattle.df_base.specs.{Image.{IsImage}, Log.{Log, Sync, add}, Moments.{EachMoment}}
use Rattle.df_disk.specs.{Adds.{after_all}, Told.{Told, did}}
use Rattle.df_theory.specs.{Found.{IsFound}, View.{View}}
use Rattle.df_units.specs.Bytes.{unit_at}
use Rattle.df_model.specs.Supply.{Shown}
use Rattle.df_replica.specs.{Below.{AreDistinctUnits, IsLivedDisk, MayReopen, State as Replica, restarted, shape, told_after}, Following.{MayOpen}, Opened.{AreRaising, Mends, MendsAll, raised_state}}
use Rattle.df_replica.specs.{Reading.{shown_of}, Serving.{Firm, Grade, IsKept, Keeps, StandsFor}, Session.{Act, Exchange, acts_in, answers_in, answers_of}}
use Rattle.df_session.specs.{Begun.{begun_work}, Agreeing.{AgreeShown}, Acknowledging.{KeepsAnswered}, Anew.{KeepsAnew}, Keeping.{KeepsFile, over}, Links.{CallsMade, EndsCalls, events_made}}
use Rattle.df_session.specs.{Resulting.{AnswersResult}, Sparing.{SparesBlocks}}

-- The calls were made on a file that was found in what the disk showed, mended and raised. On whatever image: the mending and the boot update are their own device calls alone, as each of the calls is; the answers
-- are the machine's, from the state after the boot update on, for which the replica stands, and a function of what was shown; what is told is what the calls added; no call writes a sector of a block that is held, but a step those of the running trailer's next. By each log that shows what was shown, and by which
-- the file may be opened, the told one or one that is restarted there: the file is kept at the open, at the end all that was answered is there, and so it is at each moment from its
-- answer on. And whatever the copies of the superblock showed, so it is by the log that is restarted at the end of the open. Whatever history of damage and opens the file has, it is lived with the log that is restarted at the open, at each moment.
pub record CallsKeep (t : Told) (s : Replica) (mended : Option Told) (mending : Mends s.file (Some (did Sync t)) mended) (c : CallsMade) : Type 0 where
  pub stands : (view : View) → IsFound (shape s.file) (unit_at s.file.layout s.file.cluster t.shown) view → Keeps Firm s (begun_work s.file t.shown view) None
  pub answered : (view : View) → IsFound (shape s.file) (unit_at s.file.layout s.file.cluster t.shown) view → answers_in c.exchanges ≡ answers_of s.file (begun_work s.file t.shown view) (acts_in c.exchanges)
  pub result : (view : View) (shown : Shown) → IsFound (shape s.file) (unit_at s.file.layout s.file.cluster t.shown) view → AgreeShown s.file.layout (shown_of s.file t.shown) shown
      → AnswersResult s.file shown (begun_work s.file t.shown view) c.exchanges
  pub mends : (found : Replica) × (s ≡ raised_state found) × AreRaising t found mending.events
  pub adds : c.new ≡ after_all (events_made c) mended
  pub kept : (g : Grade) (view : View) (base : Told) → base.shown ≡ t.shown → MayOpen s.file view base → StandsFor g (unit_at s.file.layout s.file.cluster t.shown) view
      → IsKept g s (begun_work s.file t.shown view) (told_after mending.events (did Sync base)).log
  pub keeps : (g : Grade) (view : View) (base : Told) → base.shown ≡ t.shown → MayOpen s.file view base → StandsFor g (unit_at s.file.layout s.file.cluster t.shown) view
      → KeepsFile s.file g (begun_work s.file t.shown view) base c.exchanges c.failed (over mending.events (events_made c) base)
  pub acknowledged : (g : Grade) (view : View) (base : Told) → base.shown ≡ t.shown → MayOpen s.file view base → StandsFor g (unit_at s.file.layout s.file.cluster t.shown) view
      → KeepsAnswered s.file g (begun_work s.file t.shown view) (over mending.events [] base) c
  pub anew : (g : Grade) (view : View) → IsFound (shape s.file) (unit_at s.file.layout s.file.cluster t.shown) view → AreDistinctUnits (unit_at s.file.layout s.file.cluster t.shown)
      → StandsFor g (unit_at s.file.layout s.file.cluster t.shown) view → KeepsAnew g t s view mending.events c
  pub lived : (log : Log) (logs : List Log) → MayReopen s.file log logs t.shown
      → EachMoment (did Sync (restarted t)).log (told_after (events_made c) (told_after mending.events (did Sync (restarted t)))).log (IsLivedDisk s.file (add Sync log ∷ logs))
  pub spares : (view : View) → IsFound (shape s.file) (unit_at s.file.layout s.file.cluster t.shown) view → SparesBlocks s.file (begun_work s.file t.shown view) c

-- these calls, made on what an open found and mended
abbrev pub made_on : (s : Replica) (mended : Option Told) (to : Replica) (new : Option Told) (exchanges : List Exchange) (failed : Option Act) → EndsCalls s to mended new exchanges failed → CallsMade
made_on s mended to new exchanges failed calls = record { from = s; to = to; old = mended; new = new; exchanges = exchanges; failed = failed; calls = calls }

abbrev pub CallsOnOpenFileKeepIt : Type 0
CallsOnOpenFileKeepIt =
    (t : Told) (s : Replica) (mended : Option Told) (found : MendsAll t s mended) (to : Replica) (new : Option Told) (exchanges : List Exchange) (failed : Option Act) (calls : EndsCalls s to mended new exchanges failed)
    → IsImage t.shown → s.live ≡ true → CallsKeep t s mended found.mending (made_on s mended to new exchanges failed calls)
