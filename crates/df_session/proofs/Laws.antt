-- What the proofs above cite of this crate: that calls on an open file keep it, what follows from a call that is exact, so that a caller by
-- its own name has it as one of a list, and that a read is one.
pub use Rattle.df_session.proofs.{Acknowledged.{keeps_answered}, Anews.{kept_synced}, InWords.{heard_made}, Spared.{spares_blocks}}
pub use Rattle.df_session.proofs.Exact.{append_called, begin_called, flush_called, release_called, reply_called, stage_called, step_called, write_called}
pub use Rattle.df_session.proofs.{Joins.{calls_join, made, part_told}, Kept.{answers_alone, ends_add, ends_told, keeps_over}}
pub use Rattle.df_session.proofs.{Resulted.{opened_agrees, opened_answers, unit_spared, agree_self}, Files.{found_file}}
pub use Rattle.df_session.proofs.{Founds.{file_there, layout_there, view_there}, ReadCalls.{reads_block, reads_prepare, reads_reply}}
pub use Rattle.df_session.proofs.{Keepings.{begun_here, calls_keep}, BegunWorks.{begun_is_work}, OneMore.{one_more_is_result}}
pub use Rattle.df_replica.proofs.Laws.{added_is_told, adds_none, answer_is_of_hurt, begun_may_open, call_is_own, call_is_the_one, codec_of, filter_more, first_goes_on, first_is_super, found_is_usable, found_keeps, found_was_since, good_left, good_safe, headers_may_be_hurt, honest_stays, joined, keeps_on, keeps_self, layout_shown, lived_layout, nothing_is_served, on_running, one_super, opened_is_written_for, probe_is_of_hurt, safe_is_not_refused, same_file, same_goes_on, second_found, shown_after, stopped_goes_on, stopped_may_open, super_shown, two_copies_are_enough}
pub use Rattle.df_session.proofs.Lived.{told_append}
