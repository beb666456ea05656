-- What is kept by the logs that an open restarts, whatever was done to the disk before: of all that is answered after the open, and of a stop within it.
use Rattle.std.specs.Prelude.{List, []}
use Rattle.df_base.specs.{Log.{Event, Sync}, Moments.{EachMoment}}
use Rattle.df_disk.specs.Told.{Told, did}
use Rattle.df_format.specs.Copies.{content_with}
use Rattle.df_theory.specs.{Next.{IsSameBare, booted}, View.{View}}
use Rattle.df_units.specs.Meaning.{content_of}
use Rattle.df_session.specs.{Begun.{begun_work}, Acknowledging.{KeepsAnswered}, Keeping.{KeepsFile, over}, Links.{CallsMade, events_made}}
use Rattle.df_replica.specs.{Below.{State as Replica, restarted, told_after}, Opened.{HistoryBegins, StaysFound}, Serving.{Grade, IsKept}}

-- the log that is restarted at the end of an open, by what the disk shows there: the last sync of the open is its barrier
abbrev pub begun_after : List Event → Told → Told
begun_after mending t = restarted (told_after mending (did Sync t))

-- An open answered, and these calls were made. By the log begun at its end the file is kept there, and all that is answered is there from its answer on, after a stop at any moment and at the
-- end; all units are of earlier boots there, so a history of damage may begin. By the log begun at its barrier, a stop at any moment within the open leaves the view that was found, with the boot of before or the next
-- one. So it is whatever the copies showed, as far as nothing more is hurt, and the next open starts over.
pub record KeepsAnew (g : Grade) (t : Told) (s : Replica) (view : View) (mending : List Event) (c : CallsMade) : Type 0 where
  pub opening : EachMoment (restarted t).log (told_after mending (restarted t)).log (StaysFound g s.file view s.fields)
  pub bare : IsSameBare view (booted view (content_of (content_with s.fields)))
  pub kept : IsKept g s (begun_work s.file t.shown view) (begun_after mending t).log
  pub begins : HistoryBegins s.file (begun_after mending t).shown
  pub keeps : KeepsFile s.file g (begun_work s.file t.shown view) (begun_after mending t) c.exchanges c.failed (over [] (events_made c) (begun_after mending t))
  pub acknowledged : KeepsAnswered s.file g (begun_work s.file t.shown view) (over [] [] (begun_after mending t)) c
