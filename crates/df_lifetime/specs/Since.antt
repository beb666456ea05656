-- The table that an opening finds after damage before any number of opens: it is that of a view which the file had since the last open that raised its boot; and a life with it begins there.
use Rattle.std.specs.Prelude.{◌≡◌, List, [], ◌∷◌, Some, Ok}
use Rattle.df_base.specs.Log.{Log, Sync, add}
use Rattle.df_disk.specs.Told.{Told}
use Rattle.df_history.specs.Histories.{Among, InHistoryPools, all_settled}
use Rattle.df_layout.specs.declared.layout.Layout.{Layout}
use Rattle.df_theory.specs.{Holds.{Stands}, Units.{Units}, View.{View}}
use Rattle.df_rows.specs.Tables.{Table}
use Rattle.df_session.specs.{Below.{DataFile, FindsSince, units_logs}, Found.{FoundFile}, Serving.{Firm}}
use Rattle.df_table.specs.{declared.status.Status.{Status}, Outside.{Outside}, Run.{ServesTable}, Table.{IsObjectTable, IsTableBy}}
use Rattle.df_lifetime.specs.{Again.{Again, IsSpared}, Life.{Life, ShowsFile, ToItsEnd, chapter_of}, Tables.{IsTableLife, TableChapter}}

-- The one table of a view, by the logs of a file: each of its blocks was written at its address in one of them, and each settled image of them that shows each block which the view references has it.
pub record IsTableOfLogs (file : DataFile) (logs : List Log) (view : View) (table : Table) : Type 0 where
  pub written : IsTableBy (InHistoryPools (units_logs file logs)) file view table
  pub only : (other : Table) → IsTableBy (InHistoryPools (units_logs file logs)) file view other → other ≡ table
  pub settled : (image : Units) → Among (all_settled (units_logs file logs)) image → Stands image view → IsObjectTable file image view table

-- Whatever sessions, stops, damages and mendings the file has had: where a run of the table serves one, it is the table of the view that the open found, which the file had since the last open that raised its boot.
abbrev pub ServedTableWasHad : Type 0
ServedTableWasHad =
    (file : DataFile) (older : List Log) (b t : Told) (layout : Layout) (old new : Outside) (status : Status) (found : FoundFile layout t) (serves : ServesTable layout t found old new status) (table : Table) → Again file older b t.shown
    → IsSpared file b.log older t.shown → serves.opened ≡ Ok table → (finds : FindsSince file b.log older t.shown found.found) × IsTableOfLogs file (add Sync b.log ∷ older) finds.found table

-- And whatever was done to the disk before: where a run of the table serves one, a life in which each session keeps the table begins with it at the end of its open, with the calls of the run; and its log shows
-- what the disk shows. Nothing is asked of what was shown but that a file of version 2 is found there, and that one checksum is one unit.
abbrev pub ServedTableBegins : Type 0
ServedTableBegins =
    (file : DataFile) (view : View) (t n : Told) (layout : Layout) (old new : Outside) (status : Status) (found : FoundFile layout t) (serves : ServesTable layout t found old new status) (table : Table) → ShowsFile Firm file view t.shown
    → serves.opened ≡ Ok table → new.told ≡ Some n
    → (m : Told) × (life : Life file view m (chapter_of ToItsEnd t.shown serves.made ∷ [])) × (tables : List TableChapter) × IsTableLife table file view m (chapter_of ToItsEnd t.shown serves.made ∷ []) life tables × (m.shown ≡ n.shown)
