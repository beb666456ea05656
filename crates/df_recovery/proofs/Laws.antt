-- What the crates above cite: that an image has one answer, and what was found is the image's in the words of the theory.
pub use Rattle.df_recovery.proofs.{Asked.{as_none, super_as}, Seconds.{one_super}, Written.{super_is_written_as, written_as}}
pub use Rattle.df_recovery.proofs.{FilesRead.{file_is_read}, OpenAnswers.{head_found, kept_is_answer, refused_is_answer}}
pub use Rattle.df_recovery.proofs.OneAnswer.{one_super_as, super_or_refusal_as}
-- ---- what was found makes sense
pub use Rattle.df_recovery.proofs.FoundStates.{found_awaits, found_ends, found_staging}
-- ---- a file is its layout, its cluster and its version, and a state that goes on
pub use Rattle.df_rooms.proofs.Laws.{asked_noted, boot_made, boot_may_record, course_on, level_beyond, numbers_as, recorded_content, recorded_is_super, same_file, second_as, second_super, staging_none, staging_on}
-- ---- the mends of the slots, one slot more
pub use Rattle.df_recovery.proofs.Plans.{filter_more, slot_mends_more}
-- ---- the checksums that wait
pub use Rattle.df_recovery.proofs.Waits.{waiting_count}
-- ---- sessions with the same requests
pub use Rattle.df_recovery.proofs.Settled.{numbered_by}
-- ---- what was scanned is of its file
pub use Rattle.df_recovery.proofs.Scans.{scanned_as}
