-- The counters are those with the replies that were passed.
use Rattle.df_replies.specs.Counts.{CountsSome}
use Rattle.df_replies.proofs.table.ReplyTable.count.Given as goal

abbrev pub invariant-loop-reply : goal.invariant-loop-reply
invariant-loop-reply l = CountsSome l.boot l.fn.rings l.reply-items l.reply-index l.seen
