-- The rounds, and then the steps of the checkpoint that runs after them.
use Rattle.df_top.proofs.Runs.{comes_more}
use Rattle.df_top.proofs.working.work.Goals as goal

pub returns-clause-comes : goal.returns-clause-comes
returns-clause-comes g c =
    comes_more c.args.run.now.generator c.args.run.now.replica
    (g.D.Disk.told c.args.disk.now) c.go_through.new.run.generator c.go_through.new.run.replica (g.D.Disk.told c.go_through.new.disk)
    c.end_checkpoint.new.run.generator c.end_checkpoint.new.run.replica (g.D.Disk.told c.end_checkpoint.new.disk)
    c.in_ok-go_through.ensures.comes c.end_checkpoint.result c.end_checkpoint.ensures.comes
