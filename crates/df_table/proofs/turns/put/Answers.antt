-- The command is the put of the value that stands in the buffer.
use Rattle.std.{proofs.{Common.{◌≡◌, ◌∙◌, ℕ, List, take, length, Ok, Err, ap, arith, sym}, lemmas.List.{length-take-le}}, specs.Prelude.{codes}}
use Rattle.df_rows.specs.{declared.command.Command.{Command}, Tables.{with_command, HasRoom}, Grammar.{Put}, Rows.{Entry, IsEntry}}
use Rattle.df_rows.specs.declared.command.Command.TheVariants as commands
use Rattle.df_script_model.specs.Texts.{line_of, numbered}
use Rattle.df_table.{specs.Calls.{IsChanged}, proofs.{Behind.{done_executes, ended_executes}, Blamed.{told_disk}, Executed.{put_asks, put_may, put_short, put_text}}}
use Rattle.df_table.proofs.turns.put.Goals as goal

pub new-row-requires : goal.new-row-requires
new-row-requires g c = let may = put_may c.args.session.now.table c.args.key c.args.size c.requires.fine in
    omega (arith, may.0, ap (λ (l : List ℕ). length l) c.body.ensures, length-take-le c.args.size c.args.session.now.lines.body c.requires.size)

pub change-requires : goal.change-requires
change-requires g c = let may = put_may c.args.session.now.table c.args.key c.args.size c.requires.fine in
    let serving = c.requires.serving.1 in let row : c.new-row.result ≡ (c.args.key, take c.args.size c.args.session.now.lines.body) =
    c.new-row.ensures ∙ ap (λ (v : List ℕ). (c.args.key, v)) c.body.ensures in record {
      live = serving.live;
      buffer = serving.block;
      fits = rw row (record { key = c.ranges.key.fits; value = omega (arith, may.0, length-take-le c.args.size c.args.session.now.lines.body c.requires.size) });
      room = rw row may.1;
    }

pub returns-in-Ok-clause-executes : goal.returns-in-Ok-clause-executes
returns-in-Ok-clause-executes g c = let s = c.args.session.now in let value = take c.args.size s.lines.body in
    let asked : commands.Put c.new-row.result ≡ commands.Put (c.args.key, value) =
    ap commands.Put (c.new-row.ensures ∙ ap (λ (v : List ℕ). (c.args.key, v)) c.body.ensures) in
    done_executes s.layout (Put c.args.key value) (commands.Put (c.args.key, value)) s c.change.new.session (g.D.Disk.told c.args.disk.now)
    (g.D.Disk.told c.change.new.disk) (g.W.Sink.written c.args.sink.now) (g.W.Sink.written c.print_answer.new.sink)
    (put_asks s.table c.args.key c.args.size s.lines.body c.requires.size c.requires.fine) (record { key = c.ranges.key.fits; value = put_short s.table c.args.key c.args.size s.lines.body c.requires.size c.requires.fine }) c.in-Ok.ensures.leaves c.in-Ok.op
    (line_of (numbered (codes "put") c.in-Ok.op)) c.printed.result (λ ready few. rw asked at (c.in-Ok.ensures.changed ready few))
    (c.in-Ok.ensures.applied.table ∙ ap (λ (k : Command). with_command k s.table) asked) c.in-Ok.ensures.applied.live (λ op. put_text s.table s.replica.head c.args.key c.args.size s.lines.body c.requires.size c.requires.fine ∙ ap (λ (n : ℕ). line_of (numbered (codes "put") n)) (sym op))
    (c.printed.ensures.prints _ _ _ c.print_answer.ensures.prints)

pub returns-in-Err-clause-executes : goal.returns-in-Err-clause-executes
returns-in-Err-clause-executes g c = let value = take c.args.size c.args.session.now.lines.body in let s = c.args.session.now in
    let asked : commands.Put c.new-row.result ≡ commands.Put (c.args.key, value) =
    ap commands.Put (c.new-row.ensures ∙ ap (λ (v : List ℕ). (c.args.key, v)) c.body.ensures) in
    ended_executes s.layout (Put c.args.key value) (commands.Put (c.args.key, value)) s c.change.new.session (g.D.Disk.told c.args.disk.now)
    (g.D.Disk.told c.change.new.disk) (g.W.Sink.written c.args.sink.now) (g.W.Sink.written c.tell_ending.new.sink)
    (put_asks s.table c.args.key c.args.size s.lines.body c.requires.size c.requires.fine) (record { key = c.ranges.key.fits; value = put_short s.table c.args.key c.args.size s.lines.body c.requires.size c.requires.fine }) c.in-Err.ensures.leaves c.in-Err.ending c.tell_ending.result
    (λ ready few. rw asked at (c.in-Err.ensures.changed ready few)) c.tell_ending.ensures.writes

pub returns-in-Err-clause-disk : goal.returns-in-Err-clause-disk
returns-in-Err-clause-disk g c =
    told_disk (g.D.Disk.faults c.args.disk.now) (g.D.Disk.faults c.change.new.disk) (g.W.Sink.written c.args.sink.now) (g.W.Sink.written c.tell_ending.new.sink) c.tell_ending.result c.in-Err.ending c.tell_ending.ensures.disk c.tell_ending.ensures.writes c.in-Err.ensures.disk

pub returns-in-Ok-clause-disk : goal.returns-in-Ok-clause-disk
returns-in-Ok-clause-disk g c = c.printed.ensures.others _ _ _ (λ no. cc) c.in-Ok.ensures.disk
