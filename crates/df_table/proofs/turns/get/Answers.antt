-- The value is that of the map.
use Rattle.std.proofs.Common.{◌≡◌, ℕ, List, Some, sym, subst}
use Rattle.std.specs.FinMap as map
use Rattle.df_table.{specs.Serving.{TellsLine}, proofs.Executed.{found_text, not_missing}}
use Rattle.df_table.proofs.turns.get.Goals as goal

pub returns-in-Some-clause-tells : goal.returns-in-Some-clause-tells
returns-in-Some-clause-tells g c = λ n.
    let there : map.get c.args.session.now.table.rows c.args.key ≡ Some c.in-Some.value.now = sym (rw c.in-Some.is at c.get.ensures) in
    let old = g.W.Sink.written c.args.sink.now in let new = g.W.Sink.written c.print_answer.new.sink in subst (λ (text : List ℕ).
    TellsLine text old new c.printed.result) (found_text c.args.session.now.table n c.args.key c.in-Some.value.now there)
    (c.printed.ensures.prints _ _ _ c.print_answer.ensures.prints)

pub returns-in-None-clause-tells : goal.returns-in-None-clause-tells
returns-in-None-clause-tells g c = absurd (not_missing c.args.session.now.table c.args.key c.requires (sym (rw c.in-None.is at c.get.ensures)))

pub returns-in-None-clause-sink : goal.returns-in-None-clause-sink
returns-in-None-clause-sink g c = absurd (not_missing c.args.session.now.table c.args.key c.requires (sym (rw c.in-None.is at c.get.ensures)))
