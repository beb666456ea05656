-- The name of the zone is that of the place's.
use Rattle.{df_layout.specs.declared.places.Zone.TheVariants.{WalPrepares}, df_inspect.proofs.Rows.{zone_named}}
use Rattle.df_inspect.proofs.line.put_place.Goals as goal

pub returns-in-WalPrepares-clause-put : goal.returns-in-WalPrepares-clause-put
returns-in-WalPrepares-clause-put c =
    zone_named _ _ c.args.place WalPrepares _ c.in-WalPrepares.is c.from-index.ensures c.put_numbered-in-WalPrepares.ensures.put
