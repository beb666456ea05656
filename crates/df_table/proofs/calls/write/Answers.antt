-- The block was written, or the call has no answer.
use Rattle.df_table.proofs.Called.{write_comes}
use Rattle.df_table.proofs.calls.write.Goals as goal

pub returns : goal.returns
returns g c = let is = c.write_block-answer.ensures in let takes =
    write_comes c.args.replica.now c.write_block-answer.new.self (g.D.Disk.told c.args.disk.now) (g.D.Disk.told c.write_block-answer.new.disk)
    (g.D.Disk.faults c.args.disk.now) (g.D.Disk.faults c.write_block-answer.new.disk) c.args.body.now c.write_block-answer.result
    c.done_or.result c.done_or.ensures is.exact is.call is.own is.cause in
    record { makes = takes.comes; state = takes.state; live = takes.live; ends = takes.ends; disk = takes.disk }
