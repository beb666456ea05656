-- The sessions that were passed have their replies.
use Rattle.{std.proofs.Common.{◌-◌, length}, df_replies.specs.Answers.{AnsweredTo}}
use Rattle.df_replies.proofs.table.ReplyTable.first_lacking.Given as goal

abbrev pub invariant-loop-place : goal.invariant-loop-place
invariant-loop-place l = AnsweredTo l.fields l.sessions.sessions l.stored l.self l.place

abbrev pub decreases-loop-place : goal.decreases-loop-place
decreases-loop-place l = length l.sessions.sessions - l.place
