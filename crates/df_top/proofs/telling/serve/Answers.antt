-- What was heard of the answer was told.
use Rattle.{df_inspect.specs.Answers.{command_of}, df_top.proofs.Answered.{comes_told}}
use Rattle.df_top.proofs.telling.serve.Goals as goal

pub returns : goal.returns
returns g c = let comes = comes_told (command_of c.args.command) c.args.replica.now c.make-heard.new.replica (g.D.Disk.told c.args.disk.now)
    (g.D.Disk.told c.make-heard.new.disk) (g.W.Sink.written c.args.sink.now) (g.W.Sink.written c.tell.new.sink)
    (g.D.Disk.faults c.args.disk.now) (g.D.Disk.faults c.make-heard.new.disk)
    c.tell.result c.make-heard.result c.make-heard.ensures.makes c.make-heard.ensures.disk c.tell.ensures.told in
    record { answers = comes.0; disk = comes.1; sink = c.tell.ensures.sink }
