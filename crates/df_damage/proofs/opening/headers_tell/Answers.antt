use Rattle.df_damage.proofs.{Opened.{headers_tell}, Tails.{whole_tail_is_found}}
use Rattle.df_damage.proofs.opening.headers_tell.Goals as goal

pub returns-clause-each : goal.returns-clause-each
returns-clause-each c = headers_tell

pub returns-clause-whole : goal.returns-clause-whole
returns-clause-whole c = whole_tail_is_found
