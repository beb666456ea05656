-- The greatest op of the slots that were passed.
use Rattle.df_journal.{specs.Counts.{binding_op, in_boot}, proofs.Counted.{IsTopOf}}
use Rattle.df_journal.proofs.counts.bound_top.Given as goal

abbrev pub invariant-loop-slot : goal.invariant-loop-slot
invariant-loop-slot l = IsTopOf (in_boot l.boot (λ h. h.op)) (binding_op l.boot l.top) l.slot-items l.slot-index l.greatest
