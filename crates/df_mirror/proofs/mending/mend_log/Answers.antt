-- The prepares are mended, the rings are read, and the replies are mended of the sessions at the head.
use Rattle.{std.proofs.Common.{◌∙◌, ap, arith, Ok, Err}, df_journal.specs.declared.table.Start.{Start}}
use Rattle.df_format.specs.{declared.superblock.SuperFields.{SuperFields}, declared.kind.Kind.TheVariants.{Prepare}}
use Rattle.df_mirror.proofs.{Logs.{from_kind, log_mended, log_unread}, Turns.{ends_so}}
use Rattle.df_mirror.proofs.mending.mend_log.Goals as goal

pub returns-in-Err-clause-mends : goal.returns-in-Err-clause-mends
returns-in-Err-clause-mends g c =
    λ t o tell grid says same. ends_so (λ ms are. from_kind 3 Prepare ms (omega arith) are) (c.in-Err.ensures.mends t o tell grid)

pub returns-clause-mends : goal.returns-clause-mends
returns-clause-mends g c = λ t o tell grid says same. log_unread
    c.args.base.now t o _ _ c.in-Ok.mended tell (c.in-Ok.ensures.mends t o tell grid) c.in-Ok.ensures.same _ c.scan-done.ensures.same _

pub returns-in-Ok-mend_replies-clause-mends : goal.returns-in-Ok-mend_replies-clause-mends
returns-in-Ok-mend_replies-clause-mends g c = λ t o tell grid says same.
    log_mended c.args.base.now t o _ _ c.in-Ok.mended tell (c.in-Ok.ensures.mends t o tell grid) c.in-Ok.ensures.same _ c.scan-done.ensures.same grid says _ same _ c.requires.rooms c.scan-done.new.found c.of-start.result c.scan-done.ensures.start (ap (λ (s : Start). s.cluster) c.of-start.ensures ∙ ap (λ (f : SuperFields). f.cluster) c.fields.ensures.value ∙ c.args.base.now.fields.cluster_is)
    (rw c.in-Ok-done.is at c.scan-done.ensures.scanned) c.sessions_at_head-sessions.result (c.sessions_at_head-sessions.ensures.places ∙ c.requires.places) c.sessions_at_head-sessions.ensures.sessions _ (Ok c.in-Ok-mend_replies.replies) (λ refusal. refusal) (λ m. c.in-Ok-mend_replies.ensures.mends m o)

pub returns-in-Ok-done-clause-mends : goal.returns-in-Ok-done-clause-mends
returns-in-Ok-done-clause-mends g c = λ t o tell grid says same.
    log_mended c.args.base.now t o _ _ c.in-Ok.mended tell (c.in-Ok.ensures.mends t o tell grid) c.in-Ok.ensures.same _ c.scan-done.ensures.same grid says _ same _ c.requires.rooms c.scan-done.new.found c.of-start.result c.scan-done.ensures.start (ap (λ (s : Start). s.cluster) c.of-start.ensures ∙ ap (λ (f : SuperFields). f.cluster) c.fields.ensures.value ∙ c.args.base.now.fields.cluster_is)
    (rw c.in-Ok-done.is at c.scan-done.ensures.scanned) c.sessions_at_head-sessions.result (c.sessions_at_head-sessions.ensures.places ∙ c.requires.places) c.sessions_at_head-sessions.ensures.sessions _ (Err c.in-Err-mend_replies.ending) c.in-Err-mend_replies.ensures.unrefused (λ m. c.in-Err-mend_replies.ensures.mends m o)
