-- This many pieces hold the text, and the last isn't empty.
use Rattle.{std.proofs.Common.{rules, ◌-◌, arith}, df_trailer.proofs.Laws.{count_is}}
use Rattle.df_checkpoint.proofs.reading.block_count.Goals as goal

pub returns : goal.returns
returns c = count_is c.args.content.now.trailer_size (c.args.layout.now.block_size - 256) c.div_ceil.result (omega arith) (search rules)
