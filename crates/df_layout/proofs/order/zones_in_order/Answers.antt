-- The law is one lemma.
use Rattle.df_layout.proofs.Zones.{zones_follow}
use Rattle.df_layout.proofs.order.zones_in_order.Goals as goal

pub returns : goal.returns
returns c = zones_follow
