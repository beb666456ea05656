-- Each arm is one way in which a line ends or goes on.
use Rattle.{std.proofs.Common.{refl, subst}, df_lines.specs.{Grammar.{script_lines}, Reads.{GivesNext}}}
use Rattle.df_top.{specs.{Outside.{Outside, around, seen}, Session.{state}}, proofs.{LineEnds.{ends_refused, held_next, line_turns, refused_next}, Progress.{ends_done, ends_read}}}
use Rattle.df_top.proofs.turns.take_line.Goals as goal

pub returns-in-Ok-Line-clause-turns : goal.returns-in-Ok-Line-clause-turns
returns-in-Ok-Line-clause-turns g c = let before : Outside = seen g.D.Disk.told g.S.Source.left g.W.Sink.written c.args.outside in
    let after : Outside =
    around (g.D.Disk.told c.serve_line.new.disk) (g.S.Source.left c.next.new.source) (g.W.Sink.written c.serve_line.new.sink) in
    line_turns before after c.args.session.now c.next.new.self c.in-Ok-Line.line c.requires.ready.at_end
    (λ text tells. subst (GivesNext script_lines c.args.session.now.lines c.next.new.self text (g.S.Source.left c.next.new.source))
    c.in-Ok-Line.field-0-is (c.in-Ok-Line.ensures.gives text tells))
    c.serve_line.new.session c.serve_line.ensures.serves.lines c.args.session.now.pace
    c.requires.idle c.serve_line.result c.serve_line.ensures.answers c.serve_line.ensures.serves.count c.serve_line.ensures.serves.beat

pub returns-in-Ok-Refused-clause-turns : goal.returns-in-Ok-Refused-clause-turns
returns-in-Ok-Refused-clause-turns g c = let before : Outside = seen g.D.Disk.told g.S.Source.left g.W.Sink.written c.args.outside in
    ends_refused c.args.session.now.pace c.args.session.now.lines.reading.bound (state before c.args.session.now) _ refl refl c.requires.idle
    (refused_next before (g.S.Source.left c.next.new.source) c.args.session.now c.next.new.self c.requires.ready.at_end
    (λ text tells. subst (GivesNext script_lines c.args.session.now.lines c.next.new.self text (g.S.Source.left c.next.new.source))
    c.in-Ok-Refused.field-0-is (c.in-Ok-Refused.ensures.gives text tells)))
    (held_next before (g.S.Source.left c.next.new.source) c.args.session.now c.next.new.self c.requires.ready.at_end c.next.ensures.bound
    (λ text tells. subst (GivesNext script_lines c.args.session.now.lines c.next.new.self text (g.S.Source.left c.next.new.source))
    c.in-Ok-Refused.field-0-is (c.in-Ok-Refused.ensures.gives text tells))) c.refuse_line.result c.refuse_line.ensures.writes

pub returns-in-Ok-End-clause-turns : goal.returns-in-Ok-End-clause-turns
returns-in-Ok-End-clause-turns g c = let before : Outside = seen g.D.Disk.told g.S.Source.left g.W.Sink.written c.args.outside in
    ends_done c.args.session.now.pace c.args.session.now.lines.reading.bound (state before c.args.session.now) _ refl refl c.requires.idle refl
    (λ rest is.
    let ends = subst (GivesNext script_lines c.args.session.now.lines c.next.new.self rest (g.S.Source.left c.next.new.source))
    c.in-Ok-End.field-0-is (c.in-Ok-End.ensures.gives rest (record { is = is; ended = c.requires.ready.at_end })) in
    (ends.none, ends.ended))

pub returns-in-Err-clause-turns : goal.returns-in-Err-clause-turns
returns-in-Err-clause-turns g c = let before : Outside = seen g.D.Disk.told g.S.Source.left g.W.Sink.written c.args.outside in
    ends_read c.args.session.now.pace c.args.session.now.lines.reading.bound (state before c.args.session.now) _ refl refl c.requires.idle refl
