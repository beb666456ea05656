-- The file is opened and its table served, or it isn't.
use Rattle.{std.proofs.Common.{◌≡◌, ◌∙◌, ℕ, ap, arith, refl, subst, sym}, df_layout.specs.declared.layout.Layout.{Layout}}
use Rattle.{df_lines.specs.Room.{IsFresh, line_bound}, df_model.specs.declared.answers.Summary.{Summary}}
use Rattle.df_rows.specs.Limits as limits
use Rattle.df_session.{specs.{Below.{State as Replica}, Reading.{shown_of}}, proofs.Laws.{opened_agrees, agree_self}}
use Rattle.df_table.specs.declared.status.Status.TheVariants as status
use Rattle.df_table.{specs.{Outside.{Blames, Outside, seen}, Run.{DoesTable}, Table.{empty_table}}, proofs.{Refused.{not_found, refused_causes, refused_never}, Served.{begun, does}}}
use Rattle.df_table.proofs.serving.serve_table.Goals as goal

-- ---- it is opened

pub serve_opened-requires : goal.serve_opened-requires
serve_opened-requires g c = let of = ap (λ (s : Summary). s.layout) c.summary.ensures in let is = of ∙ c.in-Ok.ensures.kept in record {
  live = c.in-Ok.ensures.live;
  layout = sym of;
  lines = rw (sym is) at c.requires.lines;
  table = rw (sym is) at c.requires.table;
  block = omega (arith, c.requires.block, ap (λ (l : Layout). limits.rows_in_block l) is);
}

pub returns-in-Ok-clause-serves : goal.returns-in-Ok-clause-serves
returns-in-Ok-clause-serves g c = λ t told whole. let old : Outside = seen g.D.Disk.told g.S.Source.left g.W.Sink.written c.args.outside in
    let before : Outside = record { told = g.D.Disk.told c.open.new.disk; left = g.S.Source.left c.args.outside.source.now; written = g.W.Sink.written c.args.outside.sink.now } in
    let new : Outside = record { told = g.D.Disk.told c.serve_opened.new.outside.0; left = g.S.Source.left c.serve_opened.new.outside.1.0; written = g.W.Sink.written c.serve_opened.new.outside.1.1.0 } in
    let mended = g.D.Disk.told c.open.new.disk in let s = c.in-Ok.replica in let layout = c.summary.result.layout in
    let of = ap (λ (s : Summary). s.layout) c.summary.ensures in let over = c.in-Ok.ensures.opened t told in
    let agrees = opened_agrees s t mended over (shown_of s.file t.shown) whole (agree_self s.file.layout (shown_of s.file t.shown)) in
    let opens = c.serve_opened.ensures.serves _ (begun layout t s mended whole c.in-Ok.ensures.live (sym of) over) agrees.first agrees.told in
    subst (λ (l : Layout). DoesTable l t old new c.serve_opened.result) (of ∙ c.in-Ok.ensures.kept) (does layout t
    s mended whole c.in-Ok.ensures.live (sym of) over agrees.first agrees.agrees before old new c.serve_opened.result refl refl refl opens)

pub returns-in-Ok-clause-causes : goal.returns-in-Ok-clause-causes
returns-in-Ok-clause-causes g c = rw c.in-Ok.ensures.cause at c.serve_opened.ensures.causes

-- ---- it isn't

pub returns-in-Err-clause-causes : goal.returns-in-Err-clause-causes
returns-in-Err-clause-causes g c =
    refused_causes (g.D.Disk.faults c.args.outside.disk.now) (g.D.Disk.faults c.open.new.disk) (g.S.Source.faults c.args.outside.source.now) (g.W.Sink.faults c.args.outside.sink.now) (g.W.Sink.faults c.refuse_file.new.sink) (g.W.Sink.written c.args.outside.sink.now) (g.W.Sink.written c.refuse_file.new.sink)
    c.refuse_file.result Replica c.in-Err.error c.in-Err.ensures.cause c.refuse_file.ensures.prints c.refuse_file.ensures.sink

pub returns-in-Err-clause-ends : goal.returns-in-Err-clause-ends
returns-in-Err-clause-ends g c = refused_never c.in-Err.error
    (g.W.Sink.written c.args.outside.sink.now) (g.W.Sink.written c.refuse_file.new.sink) c.refuse_file.result c.refuse_file.ensures.prints

pub returns-in-Err-clause-serves : goal.returns-in-Err-clause-serves
returns-in-Err-clause-serves g c = λ t told whole.
    not_found c.args.reserved.rooms.layout t (seen g.D.Disk.told g.S.Source.left g.W.Sink.written c.args.outside)
    (record { told = g.D.Disk.told c.open.new.disk; left = g.S.Source.left c.args.outside.source.now; written = g.W.Sink.written c.refuse_file.new.sink }) c.refuse_file.result c.in-Err.error whole told c.in-Err.ensures.answer refl c.in-Err.ensures.refused
    (c.in-Err.ensures.stopped t told) c.refuse_file.ensures.prints
