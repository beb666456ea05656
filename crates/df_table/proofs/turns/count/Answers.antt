-- The number is that of the map's rows.
use Rattle.{std.{proofs.Common.{ℕ}, specs.Prelude.{codes}}, df_script_model.specs.Texts.{line_of, numbered}}
use Rattle.df_table.specs.Serving.{TellsLine}
use Rattle.df_table.proofs.turns.count.Goals as goal

pub returns-clause-tells : goal.returns-clause-tells
returns-clause-tells g c = λ n. let old = g.W.Sink.written c.args.sink.now in let new = g.W.Sink.written c.print_answer.new.sink in
    rw c.len-rows.ensures.value at (c.printed.ensures.prints _ _ _ c.print_answer.ensures.prints)
