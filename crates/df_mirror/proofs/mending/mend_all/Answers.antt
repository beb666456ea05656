-- The walks come one after the other, and after the last one all is shown.
use Rattle.std.proofs.Common.{◌≡◌, ◌+◌, ◌∙◌, ℕ, arith, sym, Ok, Err}
use Rattle.df_format.specs.declared.kind.Kind.TheVariants.{Block as AsBlock, Trailer}
use Rattle.df_mirror.{specs.{Mends.{AreInOrder}, Outside.{around}, Walks.{Mended, ShowsAll}}, proofs.{Logs.{all_mended, from_kind, refused_here, walk_then}, Turns.{ends_so}}}
use Rattle.df_mirror.proofs.mending.mend_all.Goals as goal

pub returns-in-Err-clause-mends : goal.returns-in-Err-clause-mends
returns-in-Err-clause-mends g c = λ t o tell. ends_so (λ ms are. from_kind 0 Trailer ms (omega arith) are) (c.in-Err.ensures.mends t o tell)

pub returns-in-Err-read_trailer-clause-mends : goal.returns-in-Err-read_trailer-clause-mends
returns-in-Err-read_trailer-clause-mends g c = λ t o tell. let read = c.in-Err-read_trailer.ensures in
    walk_then 0 1 Trailer (omega arith) (omega arith)
    tell (c.in-Ok.ensures.mends t o tell) c.in-Ok.ensures.same read.same (Err c.in-Err-read_trailer.ending) (λ refusal ms are. are)
    (λ m on shown.
    refused_here c.args.base.now 1 m o _ c.in-Err-read_trailer.ending _ on (read.reads m (sym read.same ∙ on.first) on.whole shown))

pub returns-in-Err-mend_blocks-clause-mends : goal.returns-in-Err-mend_blocks-clause-mends
returns-in-Err-mend_blocks-clause-mends g c = λ t o tell. let read = c.in-Ok-read_trailer in
    walk_then 0 1 Trailer (omega arith) (omega arith)
    tell (c.in-Ok.ensures.mends t o tell) c.in-Ok.ensures.same read.ensures.same (Err c.in-Err-mend_blocks.ending) (λ refusal ms are. are)
    (λ m on shown. ends_so (λ ms are. from_kind 1 AsBlock ms (omega arith) are) (c.in-Err-mend_blocks.ensures.mends
    read.found.sessions.sessions m o on (read.ensures.reads m (sym read.ensures.same ∙ on.first) on.whole shown)))

pub returns-clause-mends : goal.returns-clause-mends
returns-clause-mends g c = λ t o tell. let read = c.in-Ok-read_trailer in let blocks = c.in-Ok-mend_blocks.ensures in
    all_mended read.found.grid read.found.sessions.sessions tell (c.in-Ok.ensures.mends t o tell) c.in-Ok.ensures.same read.ensures.same read.ensures.reads (λ m. blocks.mends read.found.sessions.sessions m o) blocks.same (Err c.in-Err-mend_log.ending) c.in-Err-mend_log.ensures.unrefused
    (λ m. c.in-Err-mend_log.ensures.mends m o)

pub returns-in-Ok-mend_log-clause-mends : goal.returns-in-Ok-mend_log-clause-mends
returns-in-Ok-mend_log-clause-mends g c = λ t o tell. let b = c.args.base.now in let read = c.in-Ok-read_trailer in
    let blocks = c.in-Ok-mend_blocks.ensures in
    let old = around (g.A.Disk.told c.args.first.now) (g.B.Disk.told c.args.second.now) (g.W.Sink.written c.args.sink.now) in
    let new = around (g.A.Disk.told c.mend_log.new.first) (g.B.Disk.told c.mend_log.new.second) (g.W.Sink.written c.mend_log.new.sink) in
    let sum : c.in-Ok.mended + (c.in-Ok-mend_blocks.mended + c.in-Ok-mend_log.mended)
    ≡ c.in-Ok.mended + c.in-Ok-mend_blocks.mended + c.in-Ok-mend_log.mended = omega arith in rw sum at
    (all_mended read.found.grid read.found.sessions.sessions tell (c.in-Ok.ensures.mends t o tell) c.in-Ok.ensures.same read.ensures.same
    read.ensures.reads (λ m. blocks.mends read.found.sessions.sessions m o) blocks.same (Ok c.in-Ok-mend_log.mended) (λ refusal. refusal)
    (λ m. c.in-Ok-mend_log.ensures.mends m o))
