-- The laws are proved.
use Rattle.df_damage.proofs.Begun.{added_is_told, barrier_begins, begun_is_honest, honest_stays, leaves_the_same, part_is_events, same_goes_on, stops_alike}
use Rattle.df_damage.proofs.anew.a_log_is_begun_anew.Goals as goal

pub returns-clause-honest : goal.returns-clause-honest
returns-clause-honest c = begun_is_honest

pub returns-clause-stays : goal.returns-clause-stays
returns-clause-stays c = honest_stays

pub returns-clause-barrier : goal.returns-clause-barrier
returns-clause-barrier c = barrier_begins

pub returns-clause-added : goal.returns-clause-added
returns-clause-added c = added_is_told

pub returns-clause-same : goal.returns-clause-same
returns-clause-same c = same_goes_on

pub returns-clause-part : goal.returns-clause-part
returns-clause-part c = part_is_events

pub returns-clause-left : goal.returns-clause-left
returns-clause-left c = leaves_the_same

pub returns-clause-stops : goal.returns-clause-stops
returns-clause-stops c = stops_alike
