-- What the crates above cite of these proofs: the laws, as lemmas, and a few facts.
-- ---- the state, and what may be done
pub use Rattle.df_model.proofs.Keeps.{next_law, opened_law, sense_law, newest_few, tour_keeps, some_of, some_known, parts_lawful}
pub use Rattle.df_model.proofs.{OneThing.{one_thing_law}, Replies.{reply_may_law}, Flushing.{flush_may_law}}
pub use Rattle.df_model.proofs.Appends.{IsAllowed, allowed, allowed_asks, append_may_law, both_pass, some_request}
pub use Rattle.df_model.proofs.Groups.{alike_asks, alike_sessions, ask_on, asks_more, length_in, sessions_more, noted_alike}
pub use Rattle.df_model.proofs.{Exact.{append_exact_law, pass_all, reply_exact_law, stage_exact_law}, Recording.{named_at, named_count}}
pub use Rattle.df_model.proofs.{Blocks.{block_aside_law, block_may_law}, Finishes.{finish_exact_law, finish_may_law}}
pub use Rattle.df_model.proofs.Begins.{begin_exact_law, count_le}
-- ---- the device
pub use Rattle.df_model.proofs.{Does.{command_law}, Runs.{first_kept_law, found_law, opened_kept_law, run_law}, Disks.{disk_command_law}}
pub use Rattle.df_model.proofs.{Boots.{boot_command_law, boot_may_law, raised_law}, OpenLeads.{disk_open_law, open_command_law}}
pub use Rattle.df_model.proofs.Raised.{raised_kept_law}
-- ---- what is in memory, and answers
pub use Rattle.df_model.proofs.Answering.{answer_from, answer_is, memory_law, order_law, reply_parent_law}
pub use Rattle.df_model.proofs.{Changing.{blocks_law, entries_same}, Recalls.{change_law, lists_law}}
pub use Rattle.df_model.proofs.{Entries.{entry_at, entry_in, without_none}, Sessions.{known_asks, new_asks, op_found, place_known}}
-- ---- reads, tours, sessions
pub use Rattle.df_model.proofs.Kept.{block_read_law, prepare_read_law, reply_read_law, scrub_law, same_sum, prepare_shown, known_is}
pub use Rattle.df_model.proofs.{Tours.{tour_law, newest_keeps, newest_short, put_first}, Fails.{failing_law}}
pub use Rattle.df_model.proofs.{Results.{result_law, writes_law}, Tests.{all_pass, behind_decides, first_refuses, pass_both}}
pub use Rattle.df_model.proofs.Grid.{known_none, rise_take, rise_lower, live_held}
pub use Rattle.df_model.proofs.Rising.{Rise, above, all_above, entries_rise, is_next, rising_few}
