-- What is counted is what is looked up.
use Rattle.{std.proofs.Common.{map, ap, ◌∙◌}, df_model.specs.Blocks.{sum_at}}
use Rattle.df_trailer.specs.{Spelling.{is_referenced}, Text.{ones}, Writing.{captured_blocks}}
use Rattle.df_grid.{specs.Table.{TableState, is_live}, proofs.Counted.{counted}}
use Rattle.df_grid.proofs.table.Table.live_blocks.Goals as goal

pub returns-clause-captured : goal.returns-clause-captured
returns-clause-captured c = c.count_held.ensures.count ∙ counted is_live c.self.inside.entries
    ∙ ap (λ (v : TableState). ones (map is_referenced (captured_blocks (λ a. sum_at a v.blocks.live) v.size))) c.self.view_is
