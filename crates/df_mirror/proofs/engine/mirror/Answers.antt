-- The superblock is found after the barrier, or it isn't; and what is mended then is told.
use Rattle.{std.proofs.Common.{◌≡◌, ◌∙◌, ℕ, Option, Ok, ap, refl, subst}, df_format.specs.declared.superblock.SuperFields.{SuperFields}}
use Rattle.{df_base.specs.Log.{Sync}, df_disk.specs.Told.{Told, after, did}, df_damage.specs.Found.{TellsFoundAs}}
use Rattle.df_program.{specs.Two.{HasCausesOfTwo, around, counts}}
use Rattle.df_mirror.specs.declared.status.Status.TheVariants as ends
use Rattle.df_mirror.proofs.Ended.{mended_causes, mirrored_so, mirrored_then, second_spare, tells_otherwise}
use Rattle.df_mirror.proofs.engine.mirror.Goals as goal

pub invariant_of-base-clause-second : goal.invariant_of-base-clause-second
invariant_of-base-clause-second g c = subst (λ (f : SuperFields). f.version ≡ 2) c.fields-fields.ensures.value c.if-fields-ne-VERSION.false

pub invariant_of-base-clause-spare : goal.invariant_of-base-clause-spare
invariant_of-base-clause-spare g c =
    let two = subst (λ (f : SuperFields). f.version ≡ 2) c.fields-fields.ensures.value c.if-fields-ne-VERSION.false in
    second_spare c.in-Ok-survey_superblock.found.content c.fields-fields.ensures.usable.rules two

pub returns-clause-runs : goal.returns-clause-runs
returns-clause-runs g c = λ none t o tell.
    let old = around (g.A.Disk.told c.args.first.now) (g.B.Disk.told c.args.second.now) (g.W.Sink.written c.args.sink.now) in
    let mid = around (g.A.Disk.told c.survey_superblock.new.disk) (g.B.Disk.told c.args.second.now) (g.W.Sink.written c.args.sink.now) in
    let done = around (g.A.Disk.told c.mend_all-mended.new.first) (g.B.Disk.told c.mend_all-mended.new.second)
    (g.W.Sink.written c.mend_all-mended.new.sink) in let written = g.W.Sink.written c.tell.new.sink in
    let new = around (g.A.Disk.told c.mend_all-mended.new.first) (g.B.Disk.told c.mend_all-mended.new.second) written in
    let result = c.mend_all-mended.result in let barrier = c.in-Ok-survey_superblock.ensures.barrier ∙ ap (after Sync) tell.first in
    let found = rw tell.first at c.in-Ok-survey_superblock.ensures.answer in
    let otherwise = tells_otherwise result done.written written c.tell.result c.tell.ensures.tells in
    mirrored_then _ t o old mid new c.tell.result c.in-Ok-survey_superblock.found.content found.super refl barrier refl
    (λ is. absurd (otherwise.0 is)) (λ no. mirrored_so _ (did Sync t) o mid done written result c.tell.result
    (c.mend_all-mended.ensures.mends (did Sync t) o
    (record { first = barrier; second = tell.second; whole = tell.whole; other = tell.other })) c.tell.ensures.tells) tell.first

pub returns-clause-causes : goal.returns-clause-causes
returns-clause-causes g c =
    let before = counts (g.A.Disk.faults c.args.first.now) (g.B.Disk.faults c.args.second.now) (g.W.Sink.faults c.args.sink.now) in
    let now = counts (g.A.Disk.faults c.mend_all-mended.new.first) (g.B.Disk.faults c.mend_all-mended.new.second)
    (g.W.Sink.faults c.tell.new.sink) in
    let mid = counts (g.A.Disk.faults c.survey_superblock.new.disk) (g.B.Disk.faults c.args.second.now) (g.W.Sink.faults c.args.sink.now) in
    let causes = mended_causes mid now (g.W.Sink.written c.mend_all-mended.new.sink) (g.W.Sink.written c.tell.new.sink) c.tell.result
    (g.W.Sink.faults c.mend_all-mended.new.sink) c.mend_all-mended.result c.mend_all-mended.ensures.blamed c.tell.ensures.sink
    c.tell.ensures.failed c.tell.ensures.tells in subst (λ (n : ℕ). HasCausesOfTwo ends.DiskFault ends.WriteFault
    (counts n (g.B.Disk.faults c.args.second.now) (g.W.Sink.faults c.args.sink.now)) now c.tell.result)
    c.in-Ok-survey_superblock.ensures.cause causes
