-- What the contracts here and above cite of the crates below this one.
pub use Rattle.arrayvec.specs.ArrayVec.{array_vec_len}
pub use Rattle.df_base.specs.Causes.{IsBlamed}
pub use Rattle.df_layout.specs.declared.fields.Field.TheVariants.{TrailerChain}
pub use Rattle.df_format.specs.SuperRules.{IsSuper}
pub use Rattle.df_theory.specs.{Shape.{Shape}, Trailer.{IsCount, piece_size}}
pub use Rattle.df_units.specs.{Format.{shape_as, shape_of}, Meaning.{content_of}, Superblocks.{AreFieldsOf}}
pub use Rattle.df_trailer.specs.{Reading.{HasBit, HasRead, bytes_read, kept_at, referenced_below}, Spelling.{spell}, Text.{parse_of}, Writing.{captured_parts}}
pub use Rattle.df_grid.specs.{Below.{Adds, AreSteps, HasCause, block_of, format_of, is_held_in, layout_of, number_of}, Grid.{HasAddress, with_blocks}, Table.{IsIdle, next_written, no_blocks}}
pub use Rattle.df_grid.specs.Writes.{block_steps, made_events, next_block}
