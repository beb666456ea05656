-- The open answers of the file that the disk shows, and the run is carried out on what it found.
use Rattle.std.proofs.Common.{◌≡◌, ℕ, true, false, inr, refl, sym, ◌∙◌, ap}
use Rattle.{df_layout.specs.declared.layout.Layout.{Layout}, df_model.specs.declared.answers.Summary.{Summary}}
use Rattle.df_workload.specs.{Rounds.{start}, declared.state.State.{State as Run}}
use Rattle.df_top.{specs.{Outside.{Outside}, declared.mode.Mode.TheVariants.{Workload}}, proofs.{Causes.{refused_causes, refused_never}, Runs.{ends_run}, Served.{not_opened}, WorksOn.{run_causes, run_never, works_through}}}
use Rattle.df_top.proofs.working.workload_file.Goals as goal

pub work-worked-requires : goal.work-worked-requires
work-worked-requires g c = record {
  ready = record { live = c.in-Ok.ensures.live; runs = λ set. absurd (let no : false ≡ true = sym (ap (λ (r : Run). r.running) c.new-generator.ensures) ∙ set in cc) };
}

pub returns-in-Ok-clause-works : goal.returns-in-Ok-clause-works
returns-in-Ok-clause-works g c = λ left t told whole. let layout = c.args.rooms.layout in let s = c.in-Ok.replica in
    let status = c.tell.result in
    let old : Outside = record { told = g.D.Disk.told c.args.disk.now; left = left; written = g.W.Sink.written c.args.sink.now } in
    let new : Outside = record { told = g.D.Disk.told c.work-worked.new.disk; left = left; written = g.W.Sink.written c.tell.new.sink } in
    let clients : c.summary.result.layout.clients ≡ layout.clients =
    ap (λ (x : Summary). x.layout.clients) c.summary.ensures ∙ ap (λ (l : Layout). l.clients) c.in-Ok.ensures.kept in
    let begins : c.new-generator.result ≡ start c.args.seed c.args.count layout.clients =
    c.new-generator.ensures ∙ ap (λ (n : ℕ). start c.args.seed c.args.count n) clients in
    let comes = rw begins at c.work-worked.ensures.comes in (
      tt,
      inr (inr (works_through c.args.seed c.args.count layout t old new status s (g.D.Disk.told c.open.new.disk) whole told refl c.in-Ok.ensures.live c.in-Ok.ensures.kept (c.in-Ok.ensures.opened t told) c.work-worked.new.run.generator c.work-worked.new.run.replica
          (ends_run (start c.args.seed c.args.count layout.clients) s (g.D.Disk.told c.open.new.disk)
          c.work-worked.new.run.generator c.work-worked.new.run.replica (g.D.Disk.told c.work-worked.new.disk)
          (g.W.Sink.written c.args.sink.now) (g.W.Sink.written c.tell.new.sink) status c.work-worked.result comes
          c.work-worked.ensures.over c.tell.ensures.prints))),
    )

pub returns-clause-works : goal.returns-clause-works
returns-clause-works g c = λ left t told whole.
    let old : Outside = record { told = g.D.Disk.told c.args.disk.now; left = left; written = g.W.Sink.written c.args.sink.now } in
    let new : Outside = record { told = g.D.Disk.told c.open.new.disk; left = left; written = g.W.Sink.written c.refuse_file.new.sink } in
    (tt, not_opened (Workload c.args.seed c.args.count) c.args.rooms.layout t old new c.refuse_file.result c.in-Err.error whole told c.in-Err.ensures.answer refl c.in-Err.ensures.refused (c.in-Err.ensures.stopped t told) c.refuse_file.ensures.prints)

pub returns-in-Ok-clause-causes : goal.returns-in-Ok-clause-causes
returns-in-Ok-clause-causes g c = λ source.
    run_causes c.work-worked.new.run.generator c.work-worked.new.run.replica
    c.work-worked.result (g.D.Disk.faults c.args.disk.now) (g.D.Disk.faults c.work-worked.new.disk) source (g.W.Sink.faults c.args.sink.now)
    (g.W.Sink.faults c.tell.new.sink) (g.W.Sink.written c.args.sink.now) (g.W.Sink.written c.tell.new.sink)
    c.tell.result c.tell.ensures.prints (rw c.in-Ok.ensures.cause at c.work-worked.ensures.disk) c.tell.ensures.sink

pub returns-clause-causes : goal.returns-clause-causes
returns-clause-causes g c = λ source. refused_causes c.refuse_file.ensures.prints source c.in-Err.ensures.cause c.refuse_file.ensures.sink

pub returns-in-Ok-clause-ends : goal.returns-in-Ok-clause-ends
returns-in-Ok-clause-ends g c = run_never c.work-worked.new.run.generator c.work-worked.new.run.replica
    c.work-worked.result (g.W.Sink.written c.args.sink.now) (g.W.Sink.written c.tell.new.sink) c.tell.result c.tell.ensures.prints

pub returns-clause-ends : goal.returns-clause-ends
returns-clause-ends g c = refused_never c.refuse_file.ensures.prints
