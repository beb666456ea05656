-- The last block of the trailer is there, so all are written.
use Rattle.{std.proofs.Common.{◌≡◌, ℕ, List, [], ◌∷◌, Some}, df_format.specs.declared.reference.Reference.{Reference}}
use Rattle.df_grid.specs.Table.{last_trailer_block, pair_in}
use Rattle.df_tests_grid.proofs.tests.block_examples.end.Goals as goal

some_written : (r : Reference) (left : List ℕ) (written : List (ℕ × ℕ))
    → pair_in (Some r) ≡ last_trailer_block left written → written ≡ [] → ⊥
some_written r [] [] is none = absurd (cc)
some_written r [] (x ∷ xs) is none = absurd (cc)
some_written r (y ∷ ys) written is none = absurd (cc)

pub finish-requires-clause-running : goal.finish-requires-clause-running
finish-requires-clause-running c = some_written c.in-Some._last c.args.grid.now.blocks.left c.args.grid.now.blocks.written c.in-Some.ensures.pair
