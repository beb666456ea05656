use Rattle.{std.proofs.Common.{rules, ◌-◌, ℕ, arith}, df_theory.specs.Trailer.{IsCount}, df_trailer.proofs.Sizes.{count_is}}
use Rattle.df_trailer.proofs.size.blocks_needed.Goals as goal

pub returns-clause-count : goal.returns-clause-count
returns-clause-count c = let room : ℕ = c.args.layout.now.block_size - 256 in
    rw c.trailer_size.ensures.value at (count_is c.trailer_size.result room c.div_ceil.result (omega arith) (search rules))
