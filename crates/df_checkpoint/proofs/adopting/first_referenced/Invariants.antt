-- Of the links so far it is the least one that is referenced.
use Rattle.{std.proofs.Common.{take}, df_checkpoint.specs.Adopting.{FirstAnswer}}
use Rattle.df_checkpoint.proofs.adopting.first_referenced.Given as goal

abbrev pub invariant-loop-link : goal.invariant-loop-link
invariant-loop-link l = FirstAnswer l.reader (take l.link-index l.blocks) l.least
