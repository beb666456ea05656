-- The command is the drop of the key.
use Rattle.{std.{proofs.Common.{◌∙◌, ℕ, ap, sym}, specs.Prelude.{codes}}, df_script_model.specs.Texts.{line_of, numbered}}
use Rattle.df_rows.specs.declared.command.Command.TheVariants as commands
use Rattle.df_table.proofs.{Behind.{done_executes, ended_executes}, Blamed.{told_disk}, Executed.{drop_asks, drop_text}}
use Rattle.df_rows.specs.Grammar.{Drop}
use Rattle.df_table.proofs.turns.drop_key.Goals as goal

pub change-requires : goal.change-requires
change-requires g c = let serving = c.requires.serving.1 in
    record { live = serving.live; buffer = serving.block; fits = c.ranges.key.fits; room = tt }

pub returns-in-Err-clause-executes : goal.returns-in-Err-clause-executes
returns-in-Err-clause-executes g c = let s = c.args.session.now in
    ended_executes s.layout (Drop c.args.key) (commands.Drop c.args.key) s c.change.new.session (g.D.Disk.told c.args.disk.now) (g.D.Disk.told c.change.new.disk) (g.W.Sink.written c.args.sink.now) (g.W.Sink.written c.tell_ending.new.sink) (drop_asks s.table c.args.key c.requires.fine)
    c.ranges.key.fits c.in-Err.ensures.leaves c.in-Err.ending c.tell_ending.result c.in-Err.ensures.changed c.tell_ending.ensures.writes

pub returns-in-Err-clause-disk : goal.returns-in-Err-clause-disk
returns-in-Err-clause-disk g c =
    told_disk (g.D.Disk.faults c.args.disk.now) (g.D.Disk.faults c.change.new.disk) (g.W.Sink.written c.args.sink.now) (g.W.Sink.written c.tell_ending.new.sink) c.tell_ending.result c.in-Err.ending c.tell_ending.ensures.disk c.tell_ending.ensures.writes c.in-Err.ensures.disk

pub returns-in-Ok-clause-executes : goal.returns-in-Ok-clause-executes
returns-in-Ok-clause-executes g c = let s = c.args.session.now in
    done_executes s.layout (Drop c.args.key) (commands.Drop c.args.key) s c.change.new.session (g.D.Disk.told c.args.disk.now) (g.D.Disk.told c.change.new.disk) (g.W.Sink.written c.args.sink.now) (g.W.Sink.written c.print_answer.new.sink) (drop_asks s.table c.args.key c.requires.fine)
    c.ranges.key.fits c.in-Ok.ensures.leaves c.in-Ok.op (line_of (numbered (codes "dropped") c.in-Ok.op))
    c.printed.result c.in-Ok.ensures.changed c.in-Ok.ensures.applied.table c.in-Ok.ensures.applied.live
    (λ op. drop_text s.table s.replica.head c.args.key c.requires.fine
    ∙ ap (λ (n : ℕ). line_of (numbered (codes "dropped") n)) (sym op)) (c.printed.ensures.prints _ _ _ c.print_answer.ensures.prints)

pub returns-in-Ok-clause-disk : goal.returns-in-Ok-clause-disk
returns-in-Ok-clause-disk g c = c.printed.ensures.others _ _ _ (λ no. cc) c.in-Ok.ensures.disk
