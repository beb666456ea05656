-- The making of a whole file: its device calls, what they are in the words of the theory, and on what disk a file may be made.
use Rattle.std.specs.{Prelude.{◌≡◌, ◌<◌, ◌+◌, ◌/◌, ℕ, zero, suc, List, [], ◌∷◌, ◌++◌, map, Option, Some, Result, OnOk}, List.{range_with_len}}
use Rattle.df_base.specs.{declared.TheConstants.{VERSION}, Log.{Event, IsLog, Sync}, Moments.{EachMoment}}
use Rattle.df_disk.specs.Told.{Told}
use Rattle.df_layout.specs.declared.layout.Layout.{Layout}
use Rattle.df_format.specs.{declared.header.Header.{Header}, declared.superblock.SuperFields.{SuperFields}, First.{first_content, first_super}, UnitLaws.{AreSixteen}}
use Rattle.df_superblock.specs.Events.{update_events}
use Rattle.df_theory.specs.{Runs.{Step}, Device.{AreSteps, IsSafeDisk, units_log}, MakingLaws.{IsMaking, format_steps}}
use Rattle.df_units.specs.{Format.{format_of}, Making.{IsMadeOnDisk, first_view, header_puts, header_writes}, Meaning.{content_of}, Puts.{put_copies}, Sample.{reserved_header}}
use Rattle.df_headers.specs.Ring.{in_sector}
use Rattle.df_model.specs.declared.errors.FormatError.{FormatError}
use Rattle.df_damage.specs.Below.{DataFile, shape}
use Rattle.df_opening.specs.Formatting.{AddsFormat, RefusesCluster, TellsBlank}

-- n sectors of a table, from this one on
abbrev pub sectors_of : ℕ → ℕ → List Header → List (List Header)
sectors_of sector zero table = []
sectors_of sector (suc n) table = in_sector sector table ∷ sectors_of (sector + 1) n table

-- all of them
abbrev pub sectors_in : Layout → List Header → List (List Header)
sectors_in layout table = sectors_of 0 (layout.slots / 16) table

-- each has sixteen headers, as a write of a sector asks
abbrev pub AreWritable : Layout → List Header → Type 0
AreWritable layout table = (sector : ℕ) → sector < layout.slots / 16 → AreSixteen (in_sector sector table)

-- the header ring of an empty file: a reserved header for each slot
abbrev pub reserved_table : Layout → ℕ → List Header
reserved_table layout cluster = map (reserved_header cluster) (range_with_len 0 layout.slots)

-- the device calls: each header sector in order, a sync, and the four copies with a sync after each
abbrev pub file_events : Layout → List Header → SuperFields → List Event
file_events layout table f = header_writes layout 0 (sectors_in layout table) ++ (Sync ∷ update_events f)

-- those of a new file
abbrev pub making_events : Layout → ℕ → List Event
making_events layout cluster = file_events layout (reserved_table layout cluster) (first_super layout cluster)

-- in the words of the theory
abbrev pub making_steps : Layout → ℕ → List Step
making_steps layout cluster = format_steps (header_puts 0 (sectors_in layout (reserved_table layout cluster))) (put_copies (first_super layout cluster))

abbrev pub file_of : (layout : Layout) (cluster : ℕ) → 0 < cluster → DataFile
file_of layout cluster named = record { layout = layout; cluster = cluster; version = VERSION; named = named }

-- a file of this layout and cluster may be made on the disk, as on one that was never written
pub record MayMakeOn (layout : Layout) (cluster : ℕ) (t : Told) : Type 0 where
  pub named : 0 < cluster
  pub is_log : IsLog t.log
  pub making : IsMaking (shape (file_of layout cluster named)) (units_log (format_of layout cluster) t.log) (content_of (first_content layout cluster))

-- what a making leaves: the disk is safe at each moment, also where it failed, and where it was made it has the first view, tidy and with all that it references
pub record MakingLeaves {T E : Type 0} (layout : Layout) (cluster : ℕ) (before : Told) (may : MayMakeOn layout cluster before) (after : Told) (result : Result T E) : Type 0 where
  pub moments : EachMoment before.log after.log (IsSafeDisk (format_of layout cluster) (shape (file_of layout cluster may.named)))
  pub made : OnOk result (IsMadeOnDisk (format_of layout cluster) (shape (file_of layout cluster may.named)) before.log after.log (first_view layout cluster))

-- what a making answers, on a disk that is blank where the copies stand and on one that isn't
pub record FormatsFile {T : Type 0} (layout : Layout) (cluster : ℕ) (old new : Option Told) (result : Result T FormatError) : Type 0 where
  -- the cluster is refused exactly where it is 0
  pub named : RefusesCluster cluster result
  -- the disk is refused where a sector of the copies shows another byte than zero
  pub blank : TellsBlank old result
  -- the device calls that are made
  pub events : AddsFormat (making_events layout cluster) old new result
  -- these are the theory's making
  pub steps : 0 < cluster → AreSteps (format_of layout cluster) (making_events layout cluster) (making_steps layout cluster)
  -- the disk is safe at each moment, and has the first view at the end
  pub makes : (before after : Told) → old ≡ Some before → new ≡ Some after → (may : MayMakeOn layout cluster before) → MakingLeaves layout cluster before may after result
