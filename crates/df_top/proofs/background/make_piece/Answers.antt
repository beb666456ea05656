-- What was heard of the call says whether a checkpoint was begun.
use Rattle.{df_inspect.specs.Answers.{command_of}, df_top.proofs.Passed.{does_answered}}
use Rattle.df_top.proofs.background.make_piece.Goals as goal

pub returns-in-Ok-clause-does : goal.returns-in-Ok-clause-does
returns-in-Ok-clause-does g c =
    does_answered (command_of c.args.command) c.args.replica.now c.make.new.replica (g.D.Disk.told c.args.disk.now)
    (g.D.Disk.told c.make.new.disk) c.in-Ok.answer c.is_begun.result c.in-Ok.ensures.makes c.is_begun.ensures

pub returns-in-Err-clause-does : goal.returns-in-Err-clause-does
returns-in-Err-clause-does g c = c.in-Err.ensures.makes
