-- What the crates above cite: which units each kind of write puts, what is read of a place, the choice among the copies, and what a call
-- has whose events are
-- steps.
pub use Rattle.df_units.proofs.{Local.{blank_empty, is_format}, Writes.{block_put, copy_put, headers_put, one_new, prepare_put, reply_put}}
pub use Rattle.df_units.proofs.Numbers.{checksums_numbers, first_lowest, no_number, one_number, sealed_check, whole_check}
pub use Rattle.df_units.proofs.{Rows.{reserved_unit}, AtPlaces.{copy_read, header_read, of_places, read_unit, unbooted_alone}}
pub use Rattle.df_units.proofs.Parts.{all_added, call_ends, call_good, call_good_units, call_safe, call_whole, part_moments}
pub use Rattle.df_units.proofs.{Classed.{classes_told, none_wanted, units_told}, Told.{reserved_put, sector_puts, table_put, trailers_tell}}
pub use Rattle.df_units.proofs.Chosen.{choice_chosen, chosen_choice, one_content, shown_checks, split_split, copy_parts}
pub use Rattle.df_units.proofs.Usable.{second_usable_passes, no_rest, nothing_else, passing_is_usable, usable_passes}
pub use Rattle.df_units.proofs.{Versions.{by_other, by_second, first_alone, none_are, reply_alone}, Appended.{append_on_disk}}
pub use Rattle.df_units.proofs.Formats.{format_on_disk, new_is_making, headers_are_steps, all_reserved, some_unit, reached}
pub use Rattle.df_units.proofs.Within.{none_within, part_within, steps_within, then_within}
