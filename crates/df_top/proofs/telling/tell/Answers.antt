-- What was heard is told by its line, or by why the session ends with it.
use Rattle.{std.proofs.Common.{subst, sym, Result}, df_inspect.specs.Answers.{command_of}, df_model.specs.declared.commands.Answer.{Answer}}
use Rattle.{df_session.specs.declared.hearing.Fault.{Fault}, df_top.specs.Turning.{TellsAnswer}}
use Rattle.df_program.specs.declared.turn.Turn.TheVariants.{Ends}
use Rattle.df_top.proofs.telling.tell.Goals as goal

pub returns-in-Ok-clause-told : goal.returns-in-Ok-clause-told
returns-in-Ok-clause-told g c = subst (λ (r : Result Answer Fault). TellsAnswer (command_of c.args.command.now)
    r (g.W.Sink.written c.args.sink.now) (g.W.Sink.written c.print_answer.new.sink) c.printed.result) (sym c.in-Ok.is)
    (c.printed.ensures.prints _ _ _ c.print_answer.ensures.prints)

pub returns-in-Err-clause-told : goal.returns-in-Err-clause-told
returns-in-Err-clause-told g c = rw c.in-Err.is c.tell_fault.ensures.prints
