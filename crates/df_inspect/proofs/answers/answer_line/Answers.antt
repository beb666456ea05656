-- The line of an answer is that of what was matched.
use Rattle.{std.proofs.Common.{◌∙◌, ap, sym}, df_inspect.specs.Answers.{command_of, line_of_answer}}
use Rattle.df_inspect.proofs.answers.answer_line.Goals as goal

pub returns-in-Append : goal.returns-in-Append
returns-in-Append c =
    c.append_line.ensures (command_of c.args.command.now) ∙ ap (line_of_answer (command_of c.args.command.now)) (sym c.in-Append.is)

pub returns-in-Stage : goal.returns-in-Stage
returns-in-Stage c =
    c.stage_line.ensures (command_of c.args.command.now) ∙ ap (line_of_answer (command_of c.args.command.now)) (sym c.in-Stage.is)

pub returns-in-Flush : goal.returns-in-Flush
returns-in-Flush c =
    c.flush_line.ensures (command_of c.args.command.now) ∙ ap (line_of_answer (command_of c.args.command.now)) (sym c.in-Flush.is)

pub returns-in-WriteBlock : goal.returns-in-WriteBlock
returns-in-WriteBlock c =
    c.wrote_line.ensures (command_of c.args.command.now) ∙ ap (line_of_answer (command_of c.args.command.now)) (sym c.in-WriteBlock.is)

pub returns-in-Begin : goal.returns-in-Begin
returns-in-Begin c =
    c.begin_line.ensures (command_of c.args.command.now) ∙ ap (line_of_answer (command_of c.args.command.now)) (sym c.in-Begin.is)

pub returns-in-Advance : goal.returns-in-Advance
returns-in-Advance c =
    c.step_line.ensures (command_of c.args.command.now) ∙ ap (line_of_answer (command_of c.args.command.now)) (sym c.in-Advance.is)
