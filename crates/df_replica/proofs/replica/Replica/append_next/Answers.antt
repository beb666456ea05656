-- The checksum of what was made is one.
use Rattle.{std.proofs.Common.{sym, subst}, df_format.specs.{declared.header.Header.{Header}, Spelling.{IsCheck}}}
use Rattle.df_base.proofs.Laws.{length-check_of, AreBytes-check_of}
use Rattle.df_replica.proofs.replica.Replica.append_next.Goals as goal

pub note-requires-clause-sum : goal.note-requires-clause-sum
note-requires-clause-sum g c = subst (λ (h : Header).
    IsCheck h.checksum) (sym c.in_ok-made.ensures.made.header) (record { size = length-check_of _; each = AreBytes-check_of _ })
