use Rattle.{std.proofs.Common.{arith}, df_trailer.proofs.Shown.{shown_more}}
use Rattle.df_trailer.proofs.window.put.Goals as goal

pub returns-clause-shown : goal.returns-clause-shown
returns-clause-shown c = λ text size were.
    shown_more text c.args.item.now c.args.room.now c.loop-i.room c.args.from c.args.at size c.loop-i.invariant.0 c.loop-i.invariant.1
    (λ k j within at inside. c.loop-i.invariant.2 k j (omega arith) at inside) were
