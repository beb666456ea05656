-- How a run ends where nothing fails, over a file that may be opened and has a table that the opening finds.
use Rattle.std.specs.Prelude.{◌≡◌, ◌⊎◌, ◌<◌, ℕ, List, [], Option, Some}
use Rattle.df_base.specs.declared.TheConstants.{GREATEST}
use Rattle.df_disk.specs.Told.{Told}
use Rattle.df_layout.specs.declared.layout.Layout.{Layout}
use Rattle.df_theory.specs.View.{View, boot_of}
use Rattle.df_lines.specs.{Room.{line_bound}, Lines.{Begins}}
use Rattle.df_rows.specs.{Grammar.{Said, SaysTableLine}, Tables.{Table}}
use Rattle.df_session.specs.{Below.{DataFile, State as Replica}, Following.{MayOpen}}
use Rattle.df_table.specs.{declared.ending.Ending.{Ending}, declared.ending.Ending.TheVariants.{OpsSpent, SequenceSpent}, declared.status.Status.{Status}}
use Rattle.df_table.specs.{declared.status.Status.TheVariants.{Done, Memory}, Laws.{FindsIn}, Outside.{Faults, HasTableCauses, NoneFailed, Outside}, Run.{RunsTable}}
use Rattle.df_table.specs.Session.{Halt, ServesLines, script_budget}

-- each line of the text is one of a table's script, within the bound of a layout and the budget
pub record IsWholeTableScript (layout : Layout) (text : List ℕ) : Type 0 where
  pub lines : List Said
  pub left : ℕ
  pub begins : Begins SaysTableLine (line_bound layout) script_budget text lines left []

-- no op, or no sequence, is left
abbrev pub IsSpentEnding : Ending → Type 0
IsSpentEnding OpsSpent = Unit {0}
IsSpentEnding SequenceSpent = Unit {0}
IsSpentEnding ending = ⊥

-- from this table on lines were executed, until one for which no op, or no sequence, is left
pub record EndsSpent (layout : Layout) (table : Table) (old new : Outside) (status : Status) : Type 0 where
  pub replica : Replica
  pub mid : Option Told
  pub lines : ServesLines layout table replica mid old new status
  pub halt : Halt
  pub is : lines.halt ≡ Some halt
  pub spent : IsSpentEnding halt.ending

-- Over a file that may be opened, while boots are left, with a table that the opening finds and a script that is whole: where nothing failed all of it was executed, or memory was wanting, or
-- ops or sequences are spent.
abbrev pub SafeTableIsRun : Type 0
SafeTableIsRun =
    (file : DataFile) (view : View) (table : Table) (t : Told) (text : List ℕ) (old new : Outside) (before now : Faults) (status : Status) → MayOpen file view t → boot_of view < GREATEST → FindsIn file t view table → old.told ≡ Some t → old.left ≡ Some text → IsWholeTableScript file.layout text
    → HasTableCauses before now status → NoneFailed before now → RunsTable old new status → (status ≡ Done) ⊎ (status ≡ Memory) ⊎ EndsSpent file.layout table old new status
