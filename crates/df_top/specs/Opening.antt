-- What becomes of a file on which no word is carried out: it is refused, or the disk fails before it is found.
use Rattle.std.specs.Prelude.{◌≡◌, ◌≢◌, ℕ, [], ◌∷◌, Option, Some, Err}
use Rattle.df_base.specs.{Image.{Image}, Log.{Sync}}
use Rattle.df_disk.specs.{Adds.{AddsPart}, Told.{Told, did}}
use Rattle.df_inspect.specs.Opening.{open_refusal}
use Rattle.df_layout.specs.declared.layout.Layout.{Layout}
use Rattle.df_model.specs.declared.errors.OpenError.{OpenError}
use Rattle.df_model.specs.declared.errors.OpenError.TheVariants as opens
use Rattle.df_session.specs.Opened.{StopsOpening}
use Rattle.df_upgrade.specs.Below.{SurveysAs}
use Rattle.df_top.specs.{Outside.{Outside, PrintsLine}, declared.mode.Mode.{Mode}, declared.mode.Mode.TheVariants.{Inspect}, declared.status.Status.{Status}}
use Rattle.df_top.specs.declared.status.Status.TheVariants.{DiskFault, Refused}

-- the first reason of the order of open why an image isn't opened with rooms of this layout, where the version is asked for
pub record IsRefusedForAs (version : ℕ) (layout : Layout) (image : Image) (error : OpenError) : Type 0 where
  pub why : SurveysAs version layout image (Err error)
  pub other : error ≢ opens.DiskFault

-- where version 2 is asked for, as an open does
abbrev pub IsRefusedFor : Layout → Image → OpenError → Type 0
IsRefusedFor layout image error = IsRefusedForAs 2 layout image error

-- the refusal's line is printed, and nothing is read of the source
pub record PrintsRefusal (error : OpenError) (old new : Outside) (status : Status) : Type 0 where
  pub prints : PrintsLine (open_refusal error) Refused old.written new.written status
  pub unread : new.left ≡ old.left

-- the file is refused after the barrier, where the version is asked for, and nothing is written to it
pub record RefusesFileAs (version : ℕ) (layout : Layout) (t : Told) (old new : Outside) (status : Status) : Type 0 where
  pub error : OpenError
  pub is : IsRefusedForAs version layout t.shown error
  pub refusal : PrintsRefusal error old new status
  pub barrier : new.told ≡ Some (did Sync t)

abbrev pub RefusesFile : Layout → Told → Outside → Outside → Status → Type 0
RefusesFile layout t old new status = RefusesFileAs 2 layout t old new status

-- nothing is printed, and nothing is read of the source
pub record IsSilent (old new : Outside) : Type 0 where
  pub written : new.written ≡ old.written
  pub unread : new.left ≡ old.left

-- what the disk tells where it failed before the file was found: in the barrier, in a read after it, or, but for a word that only looks, within the mending or the boot update
abbrev pub StopsBefore : Mode → Layout → Told → Option Told → Type 0
StopsBefore Inspect layout t later = AddsPart (Sync ∷ []) (Some t) later
StopsBefore mode layout t later = StopsOpening layout t later

-- the disk failed before the file was found
pub record FailsToFind (mode : Mode) (layout : Layout) (t : Told) (old new : Outside) (status : Status) : Type 0 where
  pub fault : status ≡ DiskFault
  pub silent : IsSilent old new
  pub disk : StopsBefore mode layout t new.told
