-- A failing disk has no line.
use Rattle.{std.proofs.Common.{List, ℕ, sym, subst, Ok}, df_base.specs.declared.Failed.{Failed}}
use Rattle.df_inspect.{proofs.Laws.{appends_none}, specs.Prints.{Prints}}
use Rattle.df_table.specs.{declared.ending.Ending.{Ending}, Statuses.{ending_text}}
use Rattle.df_table.proofs.ending.print_ending.Goals as goal

pub returns-in-Disk-clause-prints : goal.returns-in-Disk-clause-prints
returns-in-Disk-clause-prints g c = let written = g.W.Sink.written c.args.sink.now in subst (λ (e : Ending).
    Prints {E = Failed} (ending_text e) written written (Ok tt)) (sym c.in-Disk.is) (record { whole = appends_none written; part = tt })

pub returns-in-SequenceSpent-clause-prints : goal.returns-in-SequenceSpent-clause-prints
returns-in-SequenceSpent-clause-prints g c = let old = g.W.Sink.written c.args.sink.now in
    let new = g.W.Sink.written c.write_line-in-SequenceSpent.new.sink in rw c.in-SequenceSpent.is
    (rw c.text_line-in-SequenceSpent.ensures at c.write_line-in-SequenceSpent.ensures.prints)
