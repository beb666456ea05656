-- What a session answers, as a function of what the disk shows at its start and of its calls.
use Rattle.std.specs.Prelude.{◌≡◌, List, map}
use Rattle.df_model.specs.{Supply.{Shown, result}, Work.{Work}}
use Rattle.df_replica.specs.{Below.{DataFile, shape}, Session.{Exchange, acts_in, answers_in, command_in}}
use Rattle.df_session.specs.Codec.{codec}

-- these calls answered what the machine answers over what is shown, from this state on: each in turn, over what those before it left shown
abbrev pub AnswersResult : DataFile → Shown → Work → List Exchange → Type 0
AnswersResult file shown w exchanges = answers_in exchanges ≡ result (shape file) (codec file) shown w (map command_in (acts_in exchanges))
