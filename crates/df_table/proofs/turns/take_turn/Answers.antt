-- Each arm is one way in which a line ends or goes on.
use Rattle.{std.proofs.Common.{◌+◌, ℕ, ap, arith, refl, subst}, df_lines.specs.Reads.{GivesNext, Spends}}
use Rattle.df_lines.specs.declared.next.Next.TheVariants as nexts
use Rattle.{df_rows.specs.Grammar.{table_lines}, df_program.proofs.Laws.{no_blame, text_ends}, df_inspect.specs.Opening.{script_text}}
use Rattle.df_table.{specs.Outside.{Outside, seen}, proofs.{Behind.{ready_next, taken_line}, Blamed.{line_turn, unread_source}, TurnEnds.{by_turn, ends_done, ends_read, ends_refused}}}
use Rattle.df_table.specs.declared.status.Status.TheVariants as status
use Rattle.df_table.proofs.turns.take_turn.Goals as goal

pub returns-in-Ok-Line-clause-turns : goal.returns-in-Ok-Line-clause-turns
returns-in-Ok-Line-clause-turns g c = λ steady. let layout = c.args.session.now.layout in
    let before : Outside = seen g.D.Disk.told g.S.Source.left g.W.Sink.written c.args.outside in
    let after : Outside = record { told = g.D.Disk.told c.execute-turn.new.disk; left = g.S.Source.left c.next.new.source; written = g.W.Sink.written c.execute-turn.new.sink } in
    by_turn layout before after c.args.session.now (record c.execute-turn.new.session { count = c.execute-turn.new.session.count + 1 })
    c.next.new.self c.in-Ok-Line.line c.requires.serving.bound c.requires.serving.at_end
    (λ text tells. subst (GivesNext table_lines c.args.session.now.lines c.next.new.self text (g.S.Source.left c.next.new.source))
    c.in-Ok-Line.field-0-is (c.in-Ok-Line.ensures.gives text tells))
    c.execute-turn.ensures.executes.leaves.lines (ap (λ (n : ℕ). n + 1) c.execute-turn.ensures.executes.leaves.count)
    c.execute-turn.result (c.execute-turn.ensures.executes.answers steady)

pub returns-in-Ok-Refused-clause-turns : goal.returns-in-Ok-Refused-clause-turns
returns-in-Ok-Refused-clause-turns g c = λ steady. let layout = c.args.session.now.layout in
    let before : Outside = seen g.D.Disk.told g.S.Source.left g.W.Sink.written c.args.outside in
    let after : Outside = record { told = g.D.Disk.told c.args.outside.disk.now; left = g.S.Source.left c.next.new.source; written = g.W.Sink.written c.refuse_line.new.sink } in
    ends_refused layout before after c.args.session.now (record c.args.session.now { lines = c.next.new.self })
    refl refl c.next.new.self c.requires.serving.bound c.next.ensures.bound c.requires.serving.at_end
    (λ text tells. subst (GivesNext table_lines c.args.session.now.lines c.next.new.self text (g.S.Source.left c.next.new.source))
    c.in-Ok-Refused.field-0-is (c.in-Ok-Refused.ensures.gives text tells)) c.refuse_line.result c.refuse_line.ensures.writes

pub returns-in-Ok-End-clause-turns : goal.returns-in-Ok-End-clause-turns
returns-in-Ok-End-clause-turns g c = λ steady. let layout = c.args.session.now.layout in
    let before : Outside = seen g.D.Disk.told g.S.Source.left g.W.Sink.written c.args.outside in
    let after : Outside = record { told = g.D.Disk.told c.args.outside.disk.now; left = g.S.Source.left c.next.new.source; written = g.W.Sink.written c.args.outside.sink.now } in
    ends_done layout before after c.args.session.now (record c.args.session.now { lines = c.next.new.self }) refl refl refl (λ rest is.
    let ends = subst (GivesNext table_lines c.args.session.now.lines c.next.new.self rest (g.S.Source.left c.next.new.source))
    c.in-Ok-End.field-0-is (c.in-Ok-End.ensures.gives rest (record { is = is; ended = c.requires.serving.at_end })) in
    (ends.none, ends.ended))

pub returns-in-Err-clause-turns : goal.returns-in-Err-clause-turns
returns-in-Err-clause-turns g c = λ steady. let layout = c.args.session.now.layout in
    let before : Outside = seen g.D.Disk.told g.S.Source.left g.W.Sink.written c.args.outside in
    let after : Outside = record { told = g.D.Disk.told c.args.outside.disk.now; left = g.S.Source.left c.next.new.source; written = g.W.Sink.written c.args.outside.sink.now } in
    ends_read layout before after c.args.session.now (record c.args.session.now { lines = c.next.new.self }) refl refl refl

-- ---- a line was executed

pub execute-turn-requires : goal.execute-turn-requires
execute-turn-requires g c = let spends : Spends table_lines c.args.session.now.lines c.next.new.self (nexts.Line c.in-Ok-Line.line) =
    subst (Spends table_lines c.args.session.now.lines c.next.new.self) c.in-Ok-Line.field-0-is c.in-Ok-Line.ensures.spends in record {
      serving = (g.S.Source.left c.next.new.source, taken_line c.args.session.now.layout c.args.session.now (g.S.Source.left c.args.outside.source.now) (g.S.Source.left c.next.new.source) c.requires.serving c.next.new.self c.next.ensures.bound c.next.ensures.at_end spends.0);
      size = spends.1;
    }

pub returns-in-Ok-Line-clause-steady : goal.returns-in-Ok-Line-clause-steady
returns-in-Ok-Line-clause-steady g c = c.execute-turn.ensures.executes.steady

pub returns-in-Ok-Line-clause-next : goal.returns-in-Ok-Line-clause-next
returns-in-Ok-Line-clause-next g c =
    let spends : Spends table_lines c.args.session.now.lines c.next.new.self (nexts.Line c.in-Ok-Line.line) =
    subst (Spends table_lines c.args.session.now.lines c.next.new.self) c.in-Ok-Line.field-0-is c.in-Ok-Line.ensures.spends in
    ready_next c.args.session.now.layout c.args.session.now (g.S.Source.left c.args.outside.source.now)
    (g.S.Source.left c.next.new.source) c.requires.serving c.next.new.self c.next.ensures.bound c.next.ensures.at_end spends.0
    c.execute-turn.new.session c.execute-turn.ensures.executes.leaves refl c.execute-turn.result c.execute-turn.ensures.executes.live

pub returns-in-Ok-Line-clause-source : goal.returns-in-Ok-Line-clause-source
returns-in-Ok-Line-clause-source g c = unread_source c.execute-turn.result (g.S.Source.faults c.args.outside.source.now)
    (g.S.Source.faults c.next.new.source) c.execute-turn.ensures.executes.ends c.in-Ok-Line.ensures.cause.same

-- ---- none was

pub refuse_line-requires : goal.refuse_line-requires
refuse_line-requires g c = record { room = omega (arith, c.requires.serving.count); given = λ no. cc }

pub returns-in-Ok-Refused-clause-disk : goal.returns-in-Ok-Refused-clause-disk
returns-in-Ok-Refused-clause-disk g c =
    no_blame status.DiskFault (g.D.Disk.faults c.args.outside.disk.now) (g.D.Disk.faults c.args.outside.disk.now) c.refuse_line.result refl
    (text_ends status.WriteFault (script_text (c.args.session.now.count + 1)) status.Script status.DiskFault (g.W.Sink.written c.args.outside.sink.now) (g.W.Sink.written c.refuse_line.new.sink) c.refuse_line.result c.refuse_line.ensures.writes (λ is. cc) (λ is. cc))

pub returns-in-Ok-Refused-clause-source : goal.returns-in-Ok-Refused-clause-source
returns-in-Ok-Refused-clause-source g c = no_blame status.ReadFault (g.S.Source.faults c.args.outside.source.now)
    (g.S.Source.faults c.next.new.source) c.refuse_line.result c.in-Ok-Refused.ensures.cause.same
    (text_ends status.WriteFault (script_text (c.args.session.now.count + 1)) status.Script status.ReadFault (g.W.Sink.written c.args.outside.sink.now) (g.W.Sink.written c.refuse_line.new.sink) c.refuse_line.result c.refuse_line.ensures.writes (λ is. cc) (λ is. cc))

pub returns-in-Ok-End-clause-disk : goal.returns-in-Ok-End-clause-disk
returns-in-Ok-End-clause-disk g c = no_blame
    status.DiskFault (g.D.Disk.faults c.args.outside.disk.now) (g.D.Disk.faults c.args.outside.disk.now) status.Done refl (λ is. cc)

pub returns-in-Ok-End-clause-source : goal.returns-in-Ok-End-clause-source
returns-in-Ok-End-clause-source g c = no_blame status.ReadFault (g.S.Source.faults c.args.outside.source.now)
    (g.S.Source.faults c.next.new.source) status.Done c.in-Ok-End.ensures.cause.same (λ is. cc)

pub returns-in-Ok-End-clause-sink : goal.returns-in-Ok-End-clause-sink
returns-in-Ok-End-clause-sink g c = no_blame
    status.WriteFault (g.W.Sink.faults c.args.outside.sink.now) (g.W.Sink.faults c.args.outside.sink.now) status.Done refl (λ is. cc)

pub returns-in-Err-clause-disk : goal.returns-in-Err-clause-disk
returns-in-Err-clause-disk g c = no_blame
    status.DiskFault (g.D.Disk.faults c.args.outside.disk.now) (g.D.Disk.faults c.args.outside.disk.now) status.ReadFault refl (λ is. cc)

pub returns-in-Err-clause-source : goal.returns-in-Err-clause-source
returns-in-Err-clause-source g c = record { rose = λ is. c.in-Err.ensures.cause.failed; same = λ no. absurd (no refl) }

pub returns-in-Err-clause-sink : goal.returns-in-Err-clause-sink
returns-in-Err-clause-sink g c = no_blame
    status.WriteFault (g.W.Sink.faults c.args.outside.sink.now) (g.W.Sink.faults c.args.outside.sink.now) status.ReadFault refl (λ is. cc)

-- ---- neither for want of memory nor for other words

pub returns-in-Ok-Line-clause-never : goal.returns-in-Ok-Line-clause-never
returns-in-Ok-Line-clause-never g c = line_turn c.execute-turn.result c.execute-turn.ensures.executes.ends

pub returns-in-Ok-Refused-clause-never : goal.returns-in-Ok-Refused-clause-never
returns-in-Ok-Refused-clause-never g c =
    let other = text_ends status.WriteFault (script_text (c.args.session.now.count + 1)) status.Script in (
      other status.Memory (g.W.Sink.written c.args.outside.sink.now)
          (g.W.Sink.written c.refuse_line.new.sink) c.refuse_line.result c.refuse_line.ensures.writes (λ is. cc) (λ is. cc),
      other status.Words (g.W.Sink.written c.args.outside.sink.now)
          (g.W.Sink.written c.refuse_line.new.sink) c.refuse_line.result c.refuse_line.ensures.writes (λ is. cc) (λ is. cc),
    )
