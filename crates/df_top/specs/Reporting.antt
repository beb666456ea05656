-- What the words that print a report promise of a file.
use Rattle.std.specs.Prelude.{◌≡◌, ℕ, List, [], ◌∷◌, Some}
use Rattle.df_base.specs.{Image.{Image}, Log.{Sync}}
use Rattle.df_disk.specs.Told.{Told, did}
use Rattle.df_inspect.specs.Reports.{inspection_text, summary_text}
use Rattle.df_layout.specs.{declared.damage.Mend.{Mend}, declared.layout.Layout.{Layout}}
use Rattle.df_session.specs.{Below.{IsOpened}, Replica.{Survey, summary_of}, Surveying.{IsMendable}, Found.{FoundFile, no_calls}, Laws.{CallsKeep}}
use Rattle.df_top.specs.{Outside.{Outside, PrintsLine}, declared.status.Status.{Status}, declared.status.Status.TheVariants.{Done, Found}}

-- ---- inspect

-- whether something is to be mended
abbrev pub status_of : List Mend → Status
status_of [] = Done
status_of (m ∷ more) = Found

-- the state that was found, and what is to be mended
abbrev pub report_of : Survey → List ℕ
report_of s = inspection_text (summary_of s.state) s.state.root s.state.table.sessions s.mends

-- the report of what is found is printed: Found exactly where something is to be mended. After the barrier nothing is written: what is only looked at isn't mended, and its boot isn't raised.
pub record Inspects (layout : Layout) (t : Told) (found : FoundFile layout t) (old new : Outside) (status : Status) : Type 0 where
  pub survey : Survey
  pub of : survey.state ≡ found.found
  pub mendable : IsMendable layout t.shown survey
  pub prints : PrintsLine (report_of survey) (status_of survey.mends) old.written new.written status
  pub unread : new.left ≡ old.left
  pub unmended : found.mended ≡ Some (did Sync t)
  pub barrier : new.told ≡ Some (did Sync t)

-- An image has one report, in rooms of a layout: whatever surveys find in it, they print the same and end in the same status.
abbrev pub OneReport : Type 0
OneReport =
    (layout : Layout) (image : Image) (s u : Survey) → IsOpened layout image s.state → IsMendable layout image s → IsOpened layout image u.state → IsMendable layout image u
    → (report_of s ≡ report_of u) × (status_of s.mends ≡ status_of u.mends)

-- ---- recover

-- the summary of what is found is printed, and what is kept of the file is what calls keep that were none
pub record Recovers (layout : Layout) (t : Told) (found : FoundFile layout t) (old new : Outside) (status : Status) : Type 0 where
  pub prints : PrintsLine (summary_text (summary_of found.replica)) Done old.written new.written status
  pub unread : new.left ≡ old.left
  pub told : new.told ≡ found.mended
  pub calls : CallsKeep t found.replica found.mended found.mending (no_calls found)
