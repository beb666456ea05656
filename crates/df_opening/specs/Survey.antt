-- What a survey and an open hand out, as it is seen: the state, and before the mending what is to be mended.
use Rattle.std.specs.Prelude.{List, Result, Ok, Err}
use Rattle.df_layout.specs.declared.damage.Mend.{Mend}
use Rattle.df_quorum.specs.declared.choice.Chosen.{Chosen}
use Rattle.df_damage.specs.Below.{state_in, State, Parts}
use Rattle.df_opening.specs.declared.opened.SurveyedFile.{SurveyedFile}

-- what a survey found: the state, which copies of the superblock say so, and what is to be mended
pub record Survey : Type 0 where
  pub state : State
  pub chosen : Chosen
  pub mends : List Mend

-- what a surveyed file is seen as
abbrev pub survey_in : SurveyedFile → Survey
survey_in f = record { state = state_in f.parts; chosen = f.chosen; mends = f.parts.rooms.mends.items }

-- the answer of a survey
abbrev pub survey_of : {E : Type 0} → Result SurveyedFile E → Result Survey E
survey_of (Ok f) = Ok (survey_in f)
survey_of (Err refused) = Err refused

-- that of an open, or of a mending
abbrev pub opened_of : {E : Type 0} → Result Parts E → Result State E
opened_of (Ok p) = Ok (state_in p)
opened_of (Err refused) = Err refused
