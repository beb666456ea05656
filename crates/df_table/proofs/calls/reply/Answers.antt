-- The reply was stored, or the call has no answer.
use Rattle.std.{proofs.Common.{◌≡◌, sym, subst, Result}, specs.Prelude.{IfErr}}
use Rattle.df_table.{specs.{declared.ending.Ending.{Ending}, declared.ending.Ending.TheVariants.{Disk}}, proofs.Called.{reply_comes, reply_fails}}
use Rattle.df_table.proofs.calls.reply.Goals as goal

pub returns : goal.returns
returns g c = let s = c.args.replica.now in let t = c.reply-answer.new.self in let old = g.D.Disk.told c.args.disk.now in
    let new = g.D.Disk.told c.reply-answer.new.disk in let r = c.reply-answer.result in let is = c.reply-answer.ensures in
    let takes = reply_comes s t old new (g.D.Disk.faults c.args.disk.now)
    (g.D.Disk.faults c.reply-answer.new.disk) c.args.op r c.done_or.result c.done_or.ensures is.exact is.call is.own is.cause in record {
      makes = takes.comes;
      state = takes.state;
      fails = λ may. subst (λ (y : Result (Unit {0}) Ending). IfErr y (λ e. e ≡ Disk)) (sym c.done_or.ensures)
          (reply_fails s t old new (g.D.Disk.faults c.args.disk.now) (g.D.Disk.faults c.reply-answer.new.disk) c.args.op r is.exact may);
      live = takes.live;
      ends = takes.ends;
      disk = takes.disk;
    }
