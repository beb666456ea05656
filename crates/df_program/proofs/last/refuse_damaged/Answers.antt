-- A refusal isn't a failing sink.
use Rattle.df_program.proofs.Apart.{refused_apart}
use Rattle.df_program.proofs.last.refuse_damaged.Goals as goal

pub ended-requires : goal.ended-requires
ended-requires g c = refused_apart g.S.Ends.statuses c.shared.result c.shared.ensures
