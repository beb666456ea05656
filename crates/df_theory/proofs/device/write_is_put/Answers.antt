use Rattle.df_theory.proofs.{Bridge.{put_law}, PutShown.{put_shown_law}}
use Rattle.df_theory.proofs.device.write_is_put.Goals as goal

pub returns-clause-put : goal.returns-clause-put
returns-clause-put c = put_law

pub returns-clause-shown : goal.returns-clause-shown
returns-clause-shown c = put_shown_law
