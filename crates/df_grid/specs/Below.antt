-- What the contracts here and above cite of the crates below this one.
pub use Rattle.df_format.specs.{Own.{place_in}, Spelling.{IsCheck}}
pub use Rattle.df_buffers.specs.Below.{Block, Grid, Trailer}
pub use Rattle.df_units.specs.Meaning.{block_of, layout_of, number_of}
pub use Rattle.df_model.specs.{Blocks.{block_released, block_written, blocks_captured, capture_finished, entries, is_held_in, reference_in, sum_at}, Work.{is_known}}
pub use Rattle.df_freeset.specs.Addresses.{count_free}
pub use Rattle.df_trailer.specs.{Rooms.{number_in}, Spelling.{is_referenced}, Text.{ones}, Writing.{captured_blocks, referenced_among}}
pub use Rattle.df_places.specs.Below.{Adds, AreSteps, HasCause, ObeysRules, for_body, format_of, greatest_size, own_place}
