-- The table is found, and its script served; or why it isn't is told.
use Rattle.{std.proofs.Common.{◌≡◌, ◌∙◌, ℕ, false, true, ap, arith, refl, sym, Ok, Err}, df_lines.specs.Text.{Reading}}
use Rattle.{df_session.specs.{Below.{memory}, Reading.{shown_of}}, df_program.proofs.Laws.{no_blame}}
use Rattle.df_table.{specs.{declared.session.Session.{Session}, Outside.{Blames, Outside, seen}, Session.{NotOpened, Served}}, proofs.{Blamed.{line_apart, line_never, told_disk, told_line}, ServedLines.{found_steady, lines_served}}}
use Rattle.df_table.specs.declared.status.Status.TheVariants as status
use Rattle.df_table.proofs.serving.serve_opened.Goals as goal

pub open_table-requires : goal.open_table-requires
open_table-requires g c = record { live = c.requires.live; empty = c.requires.table }

-- ---- it is found

pub serve_lines-requires : goal.serve_lines-requires
serve_lines-requires g c = record {
  live = c.in-Ok.ensures.live;
  block = c.requires.block;
  bound = ap (λ (r : Reading). r.bound) c.requires.lines.reading;
  count = omega (arith, ap (λ (r : Reading). r.budget) c.requires.lines.reading);
  at_end = λ yes. absurd (let no : false ≡ true = sym c.requires.lines.ended ∙ yes in cc);
}

pub returns-in-Ok-clause-serves : goal.returns-in-Ok-clause-serves
returns-in-Ok-clause-serves g c = λ w begun t is. let layout = c.args.opening.layout in let mid = g.D.Disk.told c.open_table.new.disk in
    let before : Outside = seen g.D.Disk.told g.S.Source.left g.W.Sink.written c.args.outside in
    let after : Outside = record { told = g.D.Disk.told c.serve_lines.new.outside.0; left = g.S.Source.left c.serve_lines.new.outside.1.0; written = g.W.Sink.written c.serve_lines.new.outside.1.1.0 } in
    let session : Session = record { layout = layout; replica = c.open_table.new.replica; table = c.in-Ok.table; lines = c.args.opening.lines; block = c.args.opening.block; count = 0 } in
    let finds = c.in-Ok.ensures.finds w begun t is in let steady = found_steady layout (shown_of c.args.replica.file t.shown)
    (memory c.args.replica) c.in-Ok.table c.open_table.new.replica finds (c.in-Ok.ensures.ready w begun t is) in record {
      opened = Ok c.in-Ok.table;
      finds = finds;
      serves = Served c.in-Ok.table c.open_table.new.replica mid (c.in-Ok.ensures.opens w begun) (lines_served layout mid
          before after session c.serve_lines.new.session c.serve_lines.result c.requires.lines refl (c.serve_lines.ensures.session steady));
    }

pub returns-in-Ok-clause-causes : goal.returns-in-Ok-clause-causes
returns-in-Ok-clause-causes g c = rw c.in-Ok.ensures.disk at c.serve_lines.ensures.causes

-- ---- it isn't

pub returns-in-Err-clause-serves : goal.returns-in-Err-clause-serves
returns-in-Err-clause-serves g c = λ w begun t is. record {
  opened = Err c.in-Err.ending;
  finds = c.in-Err.ensures.finds w begun t is;
  serves = NotOpened c.in-Err.ending c.open_table.new.replica (c.in-Err.ensures.opens w begun) refl c.tell_ending.ensures.writes;
}

pub returns-in-Err-clause-causes : goal.returns-in-Err-clause-causes
returns-in-Err-clause-causes g c = let written = g.W.Sink.written c.args.outside.sink.now in
    let took = g.W.Sink.written c.tell_ending.new.sink in
    let line = told_line c.in-Err.ending written took c.tell_ending.result c.tell_ending.ensures.writes in record {
      disk = told_disk (g.D.Disk.faults c.args.outside.disk.now) (g.D.Disk.faults c.open_table.new.disk)
          written took c.tell_ending.result c.in-Err.ending c.tell_ending.ensures.disk c.tell_ending.ensures.writes c.in-Err.ensures.disk;
      source = no_blame status.ReadFault (g.S.Source.faults c.args.outside.source.now) (g.S.Source.faults c.args.outside.source.now)
          c.tell_ending.result refl (line_apart c.tell_ending.result status.ReadFault line (λ no. cc) (λ no. cc) (λ no. cc));
      sink = c.tell_ending.ensures.sink;
    }

pub returns-in-Err-clause-ends : goal.returns-in-Err-clause-ends
returns-in-Err-clause-ends g c = line_never c.tell_ending.result (told_line c.in-Err.ending
    (g.W.Sink.written c.args.outside.sink.now) (g.W.Sink.written c.tell_ending.new.sink) c.tell_ending.result c.tell_ending.ensures.writes)
