-- The source is opened and copied, or it isn't.
use Rattle.{std.proofs.Common.{ℕ, inr, Option, refl, subst, sym}, df_disk.specs.Told.{Told}, df_opening.specs.Below.{State}}
use Rattle.df_program.{specs.Two.{HasCausesOfTwo, around, counts}, proofs.Laws.{unopened_causes}}
use Rattle.df_copy.specs.declared.status.Status.TheVariants as ends
use Rattle.df_copy.{specs.Run.{CopiesFile}, proofs.Ended.{not_opened, refused_ends}}
use Rattle.df_copy.proofs.engine.copy_reserved.Goals as goal

-- ---- it is opened

pub returns-in-Ok-clause-does : goal.returns-in-Ok-clause-does
returns-in-Ok-clause-does g c = λ t told whole. inr (inr (rw (sym told) at
    (c.copy_opened.ensures.copies t whole ((c.in-Ok.ensures {u = tt}).opened t told))))

pub returns-in-Ok-clause-causes : goal.returns-in-Ok-clause-causes
returns-in-Ok-clause-causes g c =
    subst (λ (n : ℕ). HasCausesOfTwo ends.DiskFault ends.WriteFault (counts n (g.B.Disk.faults c.args.to.now) (g.W.Sink.faults c.args.sink.now))
    (counts (g.A.Disk.faults c.copy_opened.new.from) (g.B.Disk.faults c.copy_opened.new.to) (g.W.Sink.faults c.copy_opened.new.sink))
    c.copy_opened.result) (c.in-Ok.ensures {u = tt}).cause c.copy_opened.ensures.causes

-- ---- it isn't

pub returns-in-Err-clause-does : goal.returns-in-Err-clause-does
returns-in-Err-clause-does g c = λ t told whole. let refused = c.in-Err.ensures {u = tt} in
    not_opened c.args.reserved.target.layout c.args.reserved.source.layout
    t (around (g.A.Disk.told c.args.from.now) (g.B.Disk.told c.args.to.now) (g.W.Sink.written c.args.sink.now))
    (around (g.A.Disk.told c.open.new.disk) (g.B.Disk.told c.args.to.now) (g.W.Sink.written c.refuse_file.new.sink))
    c.refuse_file.result c.in-Err.error whole told refused.answer refl refused.refused (refused.stopped t told) c.refuse_file.ensures.prints

pub returns-in-Err-clause-causes : goal.returns-in-Err-clause-causes
returns-in-Err-clause-causes g c = let to = g.B.Disk.faults c.args.to.now in
    unopened_causes ends.DiskFault ends.WriteFault (counts (g.A.Disk.faults c.args.from.now) to (g.W.Sink.faults c.args.sink.now)) (counts (g.A.Disk.faults c.open.new.disk) to (g.W.Sink.faults c.refuse_file.new.sink)) c.refuse_file.result c.refuse_file.ensures.sink (λ no. cc)
    (g.W.Sink.written c.args.sink.now) (g.W.Sink.written c.refuse_file.new.sink) State c.in-Err.error ends.Refused (λ no.
    cc) (c.in-Err.ensures {u = tt}).cause refl c.refuse_file.ensures.prints

pub returns-in-Err-clause-ends : goal.returns-in-Err-clause-ends
returns-in-Err-clause-ends g c = refused_ends (g.W.Sink.written c.args.sink.now)
    (g.W.Sink.written c.refuse_file.new.sink) c.refuse_file.result c.in-Err.error c.refuse_file.ensures.prints
