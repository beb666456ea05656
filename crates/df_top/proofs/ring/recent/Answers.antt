-- The ring comes to a turn by what was printed of it.
use Rattle.{std.proofs.Common.{List, sym}, df_inspect.specs.Prints.{Prints}, df_layout.specs.declared.damage.Finding.{Finding}}
use Rattle.{df_model.specs.Commands.{Recent}, df_script_model.specs.Texts.{recent_text}}
use Rattle.df_top.{specs.{Step.{AnswersCommand}, Outside.{Turn}}, proofs.RingTurns.{ring_printed}}
use Rattle.df_top.proofs.ring.recent.Goals as goal

pub returns-clause-answers : goal.returns-clause-answers
returns-clause-answers g c = λ told. let s = c.args.replica.now in let written = g.W.Sink.written c.args.sink.now in
    let took = g.W.Sink.written c.print_recent.new.sink in rw (sym c.printed.ensures.is) at
    (ring_printed s told written took (c.fill-count.ensures.call told) c.print_recent.result
    (rw c.fill-count.ensures.ring at c.print_recent.ensures.prints))
