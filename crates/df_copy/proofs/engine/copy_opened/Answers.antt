-- A copy after its open: what was written and judged is what is said of it.
use Rattle.{std.proofs.Common.{◌≡◌, Option, Ok, Err, sym}, df_disk.specs.Told.{Told}, df_opening.specs.Opened.{MendsAll}}
use Rattle.df_layout.specs.{declared.layout.Layout.{Layout}, Zones.{file_sectors}}
use Rattle.df_program.{specs.Two.{counts}, proofs.Laws.{printed_causes}}
use Rattle.df_copy.specs.declared.status.Status.TheVariants as ends
use Rattle.df_copy.{specs.{Copying.{CopiesInto}, Texts.{copied_text}}, proofs.{Ended.{copied_ends, ending_causes, ending_ends, ending_prints}, Opening.{file_copied, opened_apart}}}
use Rattle.df_copy.proofs.engine.copy_opened.Goals as goal

-- ---- it is made

pub returns-in-Ok-clause-copies : goal.returns-in-Ok-clause-copies
returns-in-Ok-clause-copies g c = λ t whole mends. let s = c.args.replica in let old = g.B.Disk.told c.args.to.now in
    let new = g.B.Disk.told c.copy_into.new.to in let later = g.A.Disk.told c.copy_into.new.from in
    let same : g.A.Disk.told c.args.from.now ≡ later = sym (c.in-Ok.ensures {u = tt}).leaves.same in
    file_copied c.args.rooms.layout t s (Ok tt) later old new (g.W.Sink.written c.args.sink.now) (g.W.Sink.written c.tell_copied.new.sink)
    c.tell_copied.result whole c.fields-fields.ensures.state c.fields-fields.ensures.usable c.requires.live
    (rw same at mends) (rw c.over-target.ensures.layout_is at
    (rw same at ((c.in-Ok.ensures {u = tt}).copies (opened_apart t s (g.A.Disk.told c.args.from.now) whole mends))))
    c.tell_copied.ensures.line

pub returns-in-Ok-clause-causes : goal.returns-in-Ok-clause-causes
returns-in-Ok-clause-causes g c = let ok = c.in-Ok.ensures {u = tt} in
    printed_causes ends.DiskFault ends.WriteFault (counts (g.A.Disk.faults c.args.from.now) (g.B.Disk.faults c.args.to.now) (g.W.Sink.faults c.args.sink.now)) (counts (g.A.Disk.faults c.copy_into.new.from) (g.B.Disk.faults c.copy_into.new.to) (g.W.Sink.faults c.tell_copied.new.sink))
    c.tell_copied.result c.tell_copied.ensures.sink (λ no. cc) (g.W.Sink.written c.args.sink.now) (g.W.Sink.written c.tell_copied.new.sink) (copied_text (file_sectors c.args.rooms.layout)) ends.Done (λ no. cc) ok.leaves.blames_source ok.leaves.blames_target c.tell_copied.ensures.line

pub returns-in-Ok-clause-ends : goal.returns-in-Ok-clause-ends
returns-in-Ok-clause-ends g c = copied_ends (g.W.Sink.written c.args.sink.now) (g.W.Sink.written c.tell_copied.new.sink)
    c.tell_copied.result (copied_text (file_sectors c.args.rooms.layout)) c.tell_copied.ensures.line

-- ---- it isn't

pub returns-clause-copies : goal.returns-clause-copies
returns-clause-copies g c = λ t whole mends. let s = c.args.replica in let e = c.in-Err.ending in let old = g.B.Disk.told c.args.to.now in
    let new = g.B.Disk.told c.copy_into.new.to in let later = g.A.Disk.told c.copy_into.new.from in
    let written = g.W.Sink.written c.args.sink.now in let wrote = g.W.Sink.written c.tell_ending.new.sink in
    let same : g.A.Disk.told c.args.from.now ≡ later = sym (c.in-Err.ensures {u = tt}).leaves.same in
    file_copied c.args.rooms.layout t s (Err e)
    later old new written wrote c.tell_ending.result whole c.fields-fields.ensures.state c.fields-fields.ensures.usable c.requires.live
    (rw same at mends) (rw c.over-target.ensures.layout_is at
    (rw same at ((c.in-Err.ensures {u = tt}).copies (opened_apart t s (g.A.Disk.told c.args.from.now) whole mends))))
    (ending_prints written wrote c.tell_ending.result (Unit {0}) c.args.rooms.layout e c.tell_ending.ensures.refused c.tell_ending.ensures.fault)

pub returns-clause-causes : goal.returns-clause-causes
returns-clause-causes g c = let err = c.in-Err.ensures {u = tt} in
    ending_causes (counts (g.A.Disk.faults c.args.from.now) (g.B.Disk.faults c.args.to.now) (g.W.Sink.faults c.args.sink.now))
    (counts (g.A.Disk.faults c.copy_into.new.from) (g.B.Disk.faults c.copy_into.new.to) (g.W.Sink.faults c.tell_ending.new.sink))
    (g.W.Sink.written c.args.sink.now) (g.W.Sink.written c.tell_ending.new.sink) c.tell_ending.result c.tell_ending.ensures.sink
    c.in-Err.ending err.leaves.blames_source err.leaves.blames_target c.tell_ending.ensures.refused c.tell_ending.ensures.fault

pub returns-clause-ends : goal.returns-clause-ends
returns-clause-ends g c = ending_ends (g.W.Sink.written c.args.sink.now)
    (g.W.Sink.written c.tell_ending.new.sink) c.tell_ending.result c.in-Err.ending c.tell_ending.ensures.refused c.tell_ending.ensures.fault
