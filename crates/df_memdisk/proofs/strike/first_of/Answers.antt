-- The front of the past has the first events.
use Rattle.df_memdisk.proofs.Struck.{events_of-first}
use Rattle.df_memdisk.proofs.strike.first_of.Goals as goal

pub returns-then-events-past : goal.returns-then-events-past
returns-then-events-past c = events_of-first c.args.events c.args.past.now
