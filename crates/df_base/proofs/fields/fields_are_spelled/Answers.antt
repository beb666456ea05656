use Rattle.df_base.proofs.FieldBytes.{spelled-field_at}
use Rattle.df_base.proofs.fields.fields_are_spelled.Goals as goal

pub returns : goal.returns
returns c = spelled-field_at
