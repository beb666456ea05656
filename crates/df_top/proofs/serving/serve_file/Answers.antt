-- The file is opened and served, or it isn't.
use Rattle.{std.proofs.Common.{◌≡◌, true, false, refl, sym, ap, ◌∙◌, arith}, df_lines.specs.Text.{Reading}}
use Rattle.{df_model.specs.declared.answers.Summary.{Summary}, df_pace.specs.Beats.{started}}
use Rattle.df_top.{specs.{Outside.{Outside, seen}, declared.session.Session.{Session}, Session.{state}}, proofs.{Causes.{ended_never, refused_causes, refused_never}, Served.{executed, from_start, not_executed, serves}}}
use Rattle.df_top.proofs.serving.serve_file.Goals as goal

-- a reader that has read nothing hasn't ended, and has its whole budget
pub serve_script-requires-clause-ready : goal.serve_script-requires-clause-ready
serve_script-requires-clause-ready g c = record {
  live = c.in-Ok.ensures.live;
  count = omega (arith, ap (λ (r : Reading). r.budget) c.requires.lines.reading);
  at_end = λ ended. absurd (let both : false ≡ true = sym c.requires.lines.ended ∙ ended in cc);
}

pub returns-in-Ok-clause-serves : goal.returns-in-Ok-clause-serves
returns-in-Ok-clause-serves g c = λ mode executes t told whole.
    let old : Outside = seen g.D.Disk.told g.S.Source.left g.W.Sink.written c.args.outside in
    let new : Outside = record { told = g.D.Disk.told c.serve_script.new.outside.0; left = g.S.Source.left c.serve_script.new.outside.1.0; written = g.W.Sink.written c.serve_script.new.outside.1.1.0 } in
    let session : Session =
    record { replica = c.in-Ok.replica; lines = c.args.lines; count = 0; pace = c.args.pace; beat = c.start-beat.result } in
    executed mode c.args.pace executes c.args.rooms.layout t old new c.serve_script.result
    (serves c.args.pace c.args.rooms.layout t old new c.serve_script.result
    c.in-Ok.replica (g.D.Disk.told c.open.new.disk) whole told c.in-Ok.ensures.live c.in-Ok.ensures.kept (c.in-Ok.ensures.opened t told)
    (state new c.serve_script.new.session) refl
    (from_start
    c.args.pace (g.D.Disk.told c.open.new.disk) old session c.args.rooms.layout (state new c.serve_script.new.session) c.serve_script.result
    c.requires.lines refl (c.start-beat.ensures ∙ ap (λ (s : Summary). started s.head) c.summary.ensures) c.serve_script.ensures.session))

pub returns-in-Err-clause-serves : goal.returns-in-Err-clause-serves
returns-in-Err-clause-serves g c = λ mode executes t told whole.
    not_executed mode c.args.pace executes c.args.rooms.layout t (seen g.D.Disk.told g.S.Source.left g.W.Sink.written c.args.outside)
    (record { told = g.D.Disk.told c.open.new.disk; left = g.S.Source.left c.args.outside.source.now; written = g.W.Sink.written c.refuse_file.new.sink }) c.refuse_file.result c.in-Err.error whole told c.in-Err.ensures.answer refl c.in-Err.ensures.refused
    (c.in-Err.ensures.stopped t told) c.refuse_file.ensures.prints

pub returns-in-Err-clause-causes : goal.returns-in-Err-clause-causes
returns-in-Err-clause-causes g c = refused_causes c.refuse_file.ensures.prints (g.S.Source.faults c.args.outside.source.now)
    c.in-Err.ensures.cause c.refuse_file.ensures.sink

pub returns-in-Ok-clause-causes : goal.returns-in-Ok-clause-causes
returns-in-Ok-clause-causes g c = rw c.in-Ok.ensures.cause at c.serve_script.ensures.causes

pub returns-in-Ok-clause-ends : goal.returns-in-Ok-clause-ends
returns-in-Ok-clause-ends g c = ended_never _ _ _ _ c.serve_script.result c.serve_script.ensures.session

pub returns-in-Err-clause-ends : goal.returns-in-Err-clause-ends
returns-in-Err-clause-ends g c = refused_never c.refuse_file.ensures.prints
