-- The file is opened and served, or it isn't.
use Rattle.{std.{proofs.Common.{Err, ap, inl, inr, refl, subst, sym}, specs.Prelude.{map, string_bytes}}, df_base.specs.Causes.{IsBlamed}}
use Rattle.df_model.specs.Faults.{is_open_fault}
use Rattle.df_notes.{specs.{Ending.{IsOfRun, is_disk_at_fault, is_sink}, Serving.{around}, declared.ended.Ended.{Ended}}, proofs.{Blame.{blames_disk, of_run, spares_sink}, Opened.{not_opened, served}, Served.{if_of_run, serving_of_run}}}
use Rattle.df_notes.proofs.running.open_notes.Goals as goal

pub returns-in-Ok-clause-opens : goal.returns-in-Ok-clause-opens
returns-in-Ok-clause-opens g c = λ t told whole. inr (inr (served c.args.rooms.layout t c.in-Ok.replica (g.D.Disk.told c.open.new.disk)
    whole c.in-Ok.ensures.live c.in-Ok.ensures.kept (c.in-Ok.ensures.opened t told) (map string_bytes c.args.notes.now)
    (around (g.D.Disk.told c.args.disk.now) (g.W.Sink.written c.args.sink.now)) (around
    (g.D.Disk.told c.serve_notes.new.disk) (g.W.Sink.written c.serve_notes.new.sink)) c.serve_notes.result c.serve_notes.ensures.serves))

pub returns-in-Ok-clause-ends : goal.returns-in-Ok-clause-ends
returns-in-Ok-clause-ends g c = if_of_run c.serve_notes.result (serving_of_run _ _ _ _ c.serve_notes.result c.serve_notes.ensures.serves)

pub returns-in-Ok-clause-disk : goal.returns-in-Ok-clause-disk
returns-in-Ok-clause-disk g c = subst (λ (n : _). IsBlamed is_disk_at_fault n (g.D.Disk.faults c.serve_notes.new.disk) c.serve_notes.result)
    c.in-Ok.ensures.cause c.serve_notes.ensures.disk

pub returns-clause-opens : goal.returns-clause-opens
returns-clause-opens g c = λ t told whole.
    elim (not_opened c.args.rooms.layout t (around (g.D.Disk.told c.args.disk.now) (g.W.Sink.written c.args.sink.now))
    (around (g.D.Disk.told c.open.new.disk) (g.W.Sink.written c.args.sink.now))
    (Err c.why_ended.result) c.in-Err.error whole told c.in-Err.ensures.answer c.in-Err.ensures.refused
    (c.in-Err.ensures.stopped t told) refl (ap (λ (e : Ended). Err e) c.why_ended.ensures)) [
      | inl refuses ↦ inl (c.in-Err.error, refuses)
      | inr fails ↦ inr (inl fails)
    ]

pub returns-clause-ends : goal.returns-clause-ends
returns-clause-ends g c = subst IsOfRun (sym c.why_ended.ensures) (of_run (is_open_fault c.in-Err.error))

pub returns-clause-disk : goal.returns-clause-disk
returns-clause-disk g c = subst (λ (e : Ended). IsBlamed {T = Unit {0}} is_disk_at_fault (g.D.Disk.faults c.args.disk.now) (g.D.Disk.faults
    c.open.new.disk) (Err e)) (sym c.why_ended.ensures) (blames_disk (is_open_fault c.in-Err.error) _ _ c.in-Err.ensures.cause)

pub returns-clause-sink : goal.returns-clause-sink
returns-clause-sink g c = let n = g.W.Sink.faults c.args.sink.now in
    subst (λ (e : Ended). IsBlamed {T = Unit {0}} is_sink n n (Err e)) (sym c.why_ended.ensures) (spares_sink (is_open_fault c.in-Err.error) n)
