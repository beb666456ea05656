-- What is printed of a file that can't be opened or made, and of calls that end before the last one was answered.
use Rattle.std.specs.Prelude.{◌≡◌, ℕ, List, Option}
use Rattle.df_inspect.specs.Opening.{format_refusal}
use Rattle.df_model.specs.{declared.errors.FormatError.{FormatError}, declared.errors.OpenError.{OpenError}}
use Rattle.df_model.specs.declared.errors.FormatError.TheVariants as formats
use Rattle.df_script_model.specs.Texts.{damaged_text}
use Rattle.df_session.specs.{declared.hearing.Fault.{Fault}, declared.hearing.Fault.TheVariants.{Disk, Damaged}}
use Rattle.df_program.specs.Telling as telling
use Rattle.df_top.specs.{Outside.{PrintsLine}, declared.status.Status.{Status}, declared.status.Status.TheVariants.{DiskFault, Refused, WriteFault}}

-- the refusal's line is printed; a failing disk has none
abbrev pub PrintsOpenError : OpenError → (old new : Option (List ℕ)) → Status → Type 0
PrintsOpenError error old new status = telling.PrintsError Refused DiskFault WriteFault error old new status

pub record PrintsFormatError (error : FormatError) (old new : Option (List ℕ)) (status : Status) : Type 0 where
  pub fault : error ≡ formats.DiskFault → (status ≡ DiskFault) × (new ≡ old)
  pub other : (error ≡ formats.DiskFault → ⊥) → PrintsLine (format_refusal error) Refused old new status

-- a step that is damaged has its line; a failing disk has none
abbrev pub PrintsFault : Fault → (old new : Option (List ℕ)) → Status → Type 0
PrintsFault Disk old new status = (status ≡ DiskFault) × (new ≡ old)
PrintsFault (Damaged place class) old new status = PrintsLine (damaged_text place class) Refused old new status
