-- What the proofs above cite of this crate's: which unit and which copy bytes show, what a write brings to a place, what a maker
-- gives, how long a unit is, and when a superblock has no fault.
pub use Rattle.df_format.proofs.{Owned.{has-from, has-true, is_own, own_is}, Messages.{length-unit}, Front.{front_brings, made_brings}}
pub use Rattle.df_format.proofs.{Sectors.{written_begins, uncovered_below, slot_from}, Makes.{sealed_is}, SuperFaults.{faults}}
pub use Rattle.df_format.proofs.Wholes.{begun_is_shown, body_follows, one_unit, ring_has_no_body, stale_valid, valid_stale, fits_slot, shown_stale}
pub use Rattle.df_format.proofs.Units.{blank_none, count_is, header_shown, headers_fill, read_belongs, read_shown, same_shown, shown_belongs, shown_is_unit, valid_belongs, header_count, header_first}
pub use Rattle.df_format.proofs.Given.{Gives, GivesBlock, GivesPrepare, GivesReply, GivesTrailer, given_obeys, made_again, no_check, of_first, of_second, unbooted, zeros_are}
pub use Rattle.df_format.proofs.CopySpelled.{named_zeros, one_copy_spelling, read_as, was_written}
pub use Rattle.df_format.proofs.{Checks.{are_checks, length-checks_at, no_names}, CopyShown.{one_sector, same_copy, written_copy}}
pub use Rattle.df_format.proofs.CopyClasses.{blank_copy_none, copy_is_not_blank, is_here, own_has_checksum, stale_copy, valid_is_stale}
