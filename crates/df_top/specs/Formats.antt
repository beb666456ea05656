-- What the word `format` promises.
use Rattle.std.specs.Prelude.{◌≡◌, ◌⊎◌, ◌<◌, ℕ, List, Option, Some}
use Rattle.df_base.specs.{Moments.{EachMoment}, Streams.{Appends, AppendsPart}}
use Rattle.df_disk.specs.{Adds.{AddsPart, after_all}, Told.{IsHonest, Told}}
use Rattle.df_inspect.specs.Opening.{format_refusal, formatted_text}
use Rattle.df_layout.specs.{Zones.{file_sectors}, declared.layout.Layout.{Layout}}
use Rattle.df_theory.specs.Device.{IsSafeDisk}
use Rattle.df_units.specs.{Format.{format_of}, Making.{IsMadeOnDisk, first_view}}
use Rattle.df_model.specs.{declared.errors.FormatError.{FormatError}, declared.errors.FormatError.TheVariants.{ClusterZero, NotBlank}}
use Rattle.df_model.specs.declared.errors.FormatError.TheVariants as formats
use Rattle.df_session.specs.{Below.{IsUnformatted, shape}, Formatting.{IsFirstWritten, OnlyOnBlank}, Making.{MayMakeOn, file_of, making_events}}
use Rattle.df_top.specs.{declared.status.Status.{Status}, declared.status.Status.TheVariants.{Done, Refused, DiskFault, WriteFault, Memory}}

-- why no file is made over what the disk shows
abbrev pub RefusesFormat : (cluster : ℕ) → Option Told → FormatError → Type 0
RefusesFormat cluster told ClusterZero = cluster ≡ 0
RefusesFormat cluster told (NotBlank copy) = (0 < cluster) × ((t : Told) → told ≡ Some t → IsFirstWritten t.shown copy)
RefusesFormat cluster told formats.DiskFault = ⊥

-- a file may be made: its cluster isn't 0, and the four sectors of the superblock are zeros
pub record MayFormat (cluster : ℕ) (told : Option Told) : Type 0 where
  pub named : 0 < cluster
  pub blank : (t : Told) → told ≡ Some t → IsUnformatted t.shown

-- the file is made, whole
pub record IsMadeBy (layout : Layout) (cluster : ℕ) (old new : Option Told) : Type 0 where
  pub may : MayFormat cluster old
  pub events : new ≡ after_all (making_events layout cluster) old

-- it is refused, and nothing is written
pub record IsRefusedBy (error : FormatError) (cluster : ℕ) (old new : Option Told) : Type 0 where
  pub why : RefusesFormat cluster old error
  pub same : new ≡ old

-- What the word does, by how it ends: the file is made, whole, or in part where the disk failed, and then the disk was blank, or nothing was done to it; or it
-- is refused, a cluster of 0 before the disk is asked. Its line is written, or a front of it where the sink failed.
abbrev pub Formats : Layout → (cluster : ℕ) → (told later : Option Told) → (old new : Option (List ℕ)) → Status → Type 0
Formats layout cluster told later old new Done = IsMadeBy layout cluster told later × Appends old new (formatted_text (file_sectors layout))
Formats layout cluster told later old new Refused = (error : FormatError) × IsRefusedBy error cluster told later × Appends old new (format_refusal error)
Formats layout cluster told later old new DiskFault = (0 < cluster) × AddsPart (making_events layout cluster) told later × OnlyOnBlank told later × (new ≡ old)
Formats layout cluster told later old new WriteFault =
    (IsMadeBy layout cluster told later × AppendsPart old new (formatted_text (file_sectors layout)))
    ⊎ ((error : FormatError) × IsRefusedBy error cluster told later × AppendsPart old new (format_refusal error))
Formats layout cluster told later old new Memory = (later ≡ told) × (new ≡ old)
Formats layout cluster told later old new status = ⊥

-- Over an honest disk on which a file may be made, as on one that was never written, the log is safe at every moment; and at Done it has the first view,
-- with nothing loose and nothing to mend. Where memory was wanting nothing is done.
pub record MakesOn (layout : Layout) (cluster : ℕ) (before : Told) (may : MayMakeOn layout cluster before) (told : Option Told) (status : Status) : Type 0 where
  pub after : Told
  pub is : told ≡ Some after
  pub honest : IsHonest after
  pub moments : EachMoment before.log after.log (IsSafeDisk (format_of layout cluster) (shape (file_of layout cluster may.named)))
  pub made : status ≡ Done → IsMadeOnDisk (format_of layout cluster) (shape (file_of layout cluster may.named)) before.log after.log (first_view layout cluster)

abbrev pub MakesFile : Layout → (cluster : ℕ) → (told later : Option Told) → Status → Type 0
MakesFile layout cluster told later status = (before : Told) (may : MayMakeOn layout cluster before) → (status ≡ Memory → ⊥) → told ≡ Some before → IsHonest before → MakesOn layout cluster before may later status
