-- The first of the three parts that fails ends the run.
use Rattle.{std.{proofs.Common.{Result, map, refl, sym, subst}, specs.Prelude.{string_bytes}}, df_base.specs.Causes.{IsBlamed}}
use Rattle.df_notes.{specs.{Ending.{is_sink}, Serving.{NotCaughtUp, NotKept, ServesNotes, around}, declared.ended.Ended.{Ended}}, proofs.{Blame.{ends_calm, handed_on}, Served.{were_kept}}}
use Rattle.df_notes.proofs.running.serve_notes.Goals as goal

pub returns-in_err-catch_up-clause-serves : goal.returns-in_err-catch_up-clause-serves
returns-in_err-catch_up-clause-serves g c =
    subst (λ (r : Result (Unit {0}) Ended). ServesNotes (map string_bytes c.args.notes.now) c.args.replica (around (g.D.Disk.told
    c.args.disk.now) (g.W.Sink.written c.args.sink.now)) (around (g.D.Disk.told c.catch_up.new.disk) (g.W.Sink.written c.args.sink.now)) r)
    (sym (handed_on _ _ c.from_residual.ensures))
    (NotCaughtUp c.catch_up.new.replica c.in_err-catch_up.field-0.0 c.in_err-catch_up.ensures.catches refl)

pub returns-in_err-catch_up-clause-sink : goal.returns-in_err-catch_up-clause-sink
returns-in_err-catch_up-clause-sink g c = let n = g.W.Sink.faults c.args.sink.now in
    subst (λ (r : Result (Unit {0}) Ended). IsBlamed is_sink n n r)
    (sym (handed_on _ _ c.from_residual.ensures)) (ends_calm _ _ _ _ _ c.in_err-catch_up.field-0.0 n c.in_err-catch_up.ensures.catches.1)

pub returns-in_err-keep-clause-serves : goal.returns-in_err-keep-clause-serves
returns-in_err-keep-clause-serves g c =
    subst (λ (r : Result (Unit {0}) Ended). ServesNotes (map string_bytes c.args.notes.now) c.args.replica (around (g.D.Disk.told
    c.args.disk.now) (g.W.Sink.written c.args.sink.now)) (around (g.D.Disk.told c.keep.new.disk) (g.W.Sink.written c.keep.new.sink)) r)
    (sym (handed_on _ _ c.from_residual-in_err-keep.ensures)) (NotKept c.catch_up.new.replica (g.D.Disk.told c.catch_up.new.disk)
    c.in_ok-catch_up.ensures.catches c.keep.new.replica c.in_err-keep.field-0.0 c.in_err-keep.ensures.keeps)

pub returns-clause-serves : goal.returns-clause-serves
returns-clause-serves g c =
    were_kept (map string_bytes c.args.notes.now) c.args.replica
    (around (g.D.Disk.told c.args.disk.now) (g.W.Sink.written c.args.sink.now)) c.catch_up.new.replica (g.D.Disk.told c.catch_up.new.disk)
    c.in_ok-catch_up.ensures.catches c.keep.new.replica (g.D.Disk.told c.keep.new.disk) (g.D.Disk.told c.print_notes.new.disk)
    (g.W.Sink.written c.keep.new.sink) (g.W.Sink.written c.print_notes.new.sink)
    c.print_notes.ensures.same c.in_ok-keep.ensures.keeps c.print_notes.new.replica c.print_notes.result c.print_notes.ensures.shows
