-- The greatest of those that were passed.
use Rattle.{std.proofs.Common.{max}, df_replies.specs.Counts.{IsGreatest}}
use Rattle.df_replies.proofs.table.ReplyTable.replies.Given as goal

abbrev pub invariant-loop-reply : goal.invariant-loop-reply
invariant-loop-reply l = IsGreatest l.boot (max l.superblock l.mark) l.reply-items l.reply-index l.top
