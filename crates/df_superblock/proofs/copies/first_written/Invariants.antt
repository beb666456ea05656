-- The places so far are blank.
use Rattle.df_superblock.specs.Blank.{AreBlank}
use Rattle.df_superblock.proofs.copies.first_written.Given as goal

abbrev pub invariant-loop-number : goal.invariant-loop-number
invariant-loop-number l = AreBlank l.copies l.number
