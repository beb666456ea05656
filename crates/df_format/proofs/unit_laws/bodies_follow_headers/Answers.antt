use Rattle.df_format.proofs.Wholes.{body_follows, ring_has_no_body}
use Rattle.df_format.proofs.unit_laws.bodies_follow_headers.Goals as goal

pub returns-clause-body : goal.returns-clause-body
returns-clause-body c = body_follows

pub returns-clause-ring : goal.returns-clause-ring
returns-clause-ring c = ring_has_no_body
