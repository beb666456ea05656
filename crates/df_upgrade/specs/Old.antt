-- A file of version 1 that was surveyed: no call may be made on it, and what is known of it is what a survey says of either version.
use Rattle.std.specs.Prelude.{◌≡◌, length, Option, Some, Result, Ok, Err}
use Rattle.df_base.specs.declared.TheConstants.{FIRST_VERSION}
use Rattle.df_disk.specs.Told.{Told}
use Rattle.df_layout.specs.declared.layout.Layout.{Layout}
use Rattle.df_format.specs.SuperRules.{IsUsable}
use Rattle.df_model.specs.declared.errors.OpenError.{OpenError}
use Rattle.df_theory.specs.View.{View}
use Rattle.df_damage.specs.{Answers.{AnswersHurt}, Below.{DataFile, State}, Disks.{MayBeHurtAs}, Surveying.{IsPlannedFor, IsWellFound, TellsSurveyAs}}
use Rattle.df_rooms.specs.declared.rooms.Rooms.{Rooms}
use Rattle.df_damage.specs.Types as found
use Rattle.df_opening.specs.Survey.{Survey}

-- it makes sense by itself, its mending is planned, its superblock is that of the choice, and it is of version 1
pub record IsOldSurvey (s : found.Surveyed) : Type 0 where
  pub found : IsWellFound s
  pub planned : IsPlannedFor s
  pub chosen : s.scanned.copies.found.content ≡ s.scanned.copies.found.chosen.content
  pub version : s.scanned.file.version ≡ FIRST_VERSION

-- so a survey with rooms of this layout answers of a disk that may be hurt, where version 1 is asked for and the disk tells what it shows
abbrev pub TellsHurtOld : Layout → Option Told → Result State OpenError → Type 0
TellsHurtOld layout told result = (file : DataFile) (view : View) (t : Told) → told ≡ Some t → layout ≡ file.layout → MayBeHurtAs 1 file view t → AnswersHurt file view t result

-- what it answers: of what the disk shows, and of a disk that was hurt
pub record AnswersOld (layout : Layout) (told : Option Told) (result : Result State OpenError) : Type 0 where
  pub answer : TellsSurveyAs 1 layout told result
  pub hurt : TellsHurtOld layout told result

-- a survey has a choice of four copies, and a superblock that passes its tests
pub record IsSoundSurvey (s : Survey) : Type 0 where
  pub four : length s.chosen.members ≡ 4
  pub usable : IsUsable s.state.fields

-- the rooms, which come back either way
abbrev pub rooms_in : {E : Type 0} → Result Rooms (Rooms × E) → Rooms
rooms_in (Ok rooms) = rooms
rooms_in (Err refused) = refused.0
