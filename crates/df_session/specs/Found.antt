-- A file that was found in what the disk shows, and what was mended of it.
use Rattle.std.specs.Prelude.{◌≡◌, ◌⊎◌, [], Option, Some, None}
use Rattle.df_base.specs.Log.{Sync}
use Rattle.df_disk.specs.Told.{Told, did}
use Rattle.df_layout.specs.declared.layout.Layout.{Layout}
use Rattle.df_replica.specs.{Below.{IsOpened, State as Replica}, Opened.{Mends, raised_state}}
use Rattle.df_session.specs.Links.{CallsMade, NoCalls}

-- The file that the disk shows was found, with rooms of this layout. Between the barrier of its open and whatever is done then are its mending and its boot update alone, which leave each place that a
-- call reads as it was, whatever is shown; a file that is only looked at isn't mended, and no boot is raised.
pub record FoundFile (layout : Layout) (t : Told) : Type 0 where
  -- as it was found
  pub found : Replica
  pub is_opened : IsOpened layout t.shown found
  -- as calls are made on it
  pub replica : Replica
  pub begun : (replica ≡ found) ⊎ (replica ≡ raised_state found)
  pub mended : Option Told
  pub mending : Mends replica.file (Some (did Sync t)) mended

-- no call was made on it
abbrev pub no_calls : {layout : Layout} {t : Told} → FoundFile layout t → CallsMade
no_calls file = record { from = file.replica; to = file.replica; old = file.mended; new = file.mended; exchanges = []; failed = None; calls = NoCalls }
