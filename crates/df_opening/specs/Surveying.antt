-- What a survey answers, and what is to be mended.
use Rattle.std.specs.Prelude.{◌≡◌, length, Option, Some, None, Result, Ok, Err}
use Rattle.df_base.specs.Image.{Image, IsImage}
use Rattle.df_disk.specs.Told.{Told}
use Rattle.df_layout.specs.declared.layout.Layout.{Layout}
use Rattle.df_model.specs.declared.errors.OpenError.{OpenError}
use Rattle.df_damage.specs.{Answers.{TellsHurt}, Below.{State}, Found.{IsChoiceOf}, Histories.{TellsLived}, Surveying.{TellsSurveyAs, state_found}, Types.{Surveyed}}
pub use Rattle.df_damage.specs.Surveying.{copy_mend_at, headers_of, mends_of}
use Rattle.df_opening.specs.{Raising.{IsPlannedOf}, Survey.{Survey}}

-- the survey of a file that was read, whose state was found
abbrev pub survey_found : Surveyed → Survey
survey_found s = record { state = state_found s; chosen = s.scanned.copies.found.chosen; mends = s.scanned.rooms.log.mends.items }

-- The choice is the image's, of each of its four copies; the table in memory has the header that each slot is to have, by the decision on it: that of a prepare that is taken, the one that an empty slot
-- shows, as it is, or a reserved one; and the list is what is to be mended.
pub record IsMendable (layout : Layout) (image : Image) (s : Survey) : Type 0 where
  pub choice : IsChoiceOf image s.chosen
  pub four : length s.chosen.members ≡ 4
  pub table : s.state.headers ≡ headers_of layout image s.state.fields s.state.head
  pub mends : s.mends ≡ mends_of layout image s.state.fields s.state.head s.chosen.members

-- of what a disk shows, where it tells that and its sectors are whole
abbrev pub TellsMends : Layout → Option Told → Survey → Type 0
TellsMends layout None s = Unit {0}
TellsMends layout (Some t) s = IsImage t.shown → IsMendable layout t.shown s

-- the state that was found, or the refusal
abbrev pub state_of : {R : Type 0} → Result Survey (R × OpenError) → Result State OpenError
state_of (Ok survey) = Ok survey.state
state_of (Err refused) = Err refused.1

-- the answer is that of what the disk shows, where it tells that and its sectors are whole
abbrev pub TellsSurvey : Layout → Option Told → Result State OpenError → Type 0
TellsSurvey layout told result = TellsSurveyAs 2 layout told result

-- and on a disk that was hurt, before other opens or after them, it is because of what is hurt, or is of what the file had
pub record AnswersSurvey (layout : Layout) (told : Option Told) (result : Result State OpenError) : Type 0 where
  pub answer : TellsSurvey layout told result
  pub hurt : TellsHurt layout told result
  pub lived : TellsLived layout told result

-- what is known of what was surveyed over rooms of this layout: it is the file's, and what is to be mended is that of what was shown, and is planned of what is told after the barrier
pub record IsSurveyed (layout : Layout) (old new : Option Told) (survey : Survey) : Type 0 where
  pub kept : survey.state.file.layout ≡ layout
  pub mends : TellsMends layout old survey
  pub planned : (t : Told) → new ≡ Some t → IsPlannedOf survey t
