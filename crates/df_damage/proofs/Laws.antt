-- What the crates above cite: the laws of damage, as lemmas.
-- ---- which disks may be hurt, and what an open answers of them, whatever version it asks for
pub use Rattle.df_damage.proofs.{Left.{stopped_may_be_hurt, tidy_may_be_hurt}, NotRefused.{found_is_not_refused_as}}
pub use Rattle.df_damage.proofs.Opened.{checkpoint_stays, found_was_had, headers_may_be_hurt_as, headers_tell, two_copies_are_enough_as}
pub use Rattle.df_damage.proofs.{Tails.{whole_tail_is_found}, Answered.{answer_is_of_hurt_as}}
pub use Rattle.df_damage.proofs.Refused.{probe_is_of_hurt_as, refusals_are_of_damage, refusals_blame_hurt, spent_is_the_files, superblock_is_hurt}
-- ---- where version 2 is asked for, as an open does
pub use Rattle.df_damage.proofs.Seconds.{answer_is_of_hurt, found_is_not_refused, found_is_usable, headers_may_be_hurt, probe_is_of_hurt, two_copies_are_enough}
-- ---- damage before any number of opens
pub use Rattle.df_damage.proofs.Histories.{begun_goes_on, first_goes_on, found_was_since, lived_layout, moment_on_disk, raised_goes_on, stopped_goes_on}
-- ---- what was written
pub use Rattle.df_damage.proofs.Written.{had_is_written, opened_is_written}
-- ---- logs restarted
pub use Rattle.df_damage.proofs.{Begun.{added_is_told, begun_is_honest, honest_stays, same_goes_on, stops_alike}, Started.{hurt_may_begin}}
-- ---- what an open finds
pub use Rattle.df_recovery.proofs.Laws.{asked_noted, boot_made, boot_may_record, course_on, filter_more, found_awaits, found_ends, found_staging, head_found, level_beyond, numbered_by, numbers_as, one_super, recorded_content, recorded_is_super, second_as, second_super, same_file, slot_mends_more, super_as, super_is_written_as, staging_none, staging_on, written_as}
