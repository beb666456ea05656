-- What the crates above cite: what an open finds, and how calls one after the other go on, end, and are survived.
pub use Rattle.df_opening.proofs.Laws.{added_is_told, answer_is_of_hurt, begun_goes_on, begun_keeps, begun_may_open, codec_of, filter_more, first_goes_on, first_is_super, found_is_usable, found_keeps, found_was_since, good_safe, headers_may_be_hurt, honest_stays, layout_shown, lived_layout, keeps_back, keeps_on, keeps_self, one_super, probe_is_of_hurt, raised_goes_on, raised_is, safe_is_not_refused, same_file, same_goes_on, second_found, shown_after, stays_firm, stopped_goes_on, stopped_may_open, stops_alike, sum_of, super_shown, two_copies_are_enough}
pub use Rattle.df_replica.proofs.Sessions.{answered_is_there, fault_stops_them, good_left, good_now, holds_on, joined, keeps_alone, nothing_is_served, one_more_is_served}
pub use Rattle.df_replica.proofs.{Leaves.{durable_held}, LentCalls.{call_is_own, call_is_the_one, struck_reads_are_own}}
pub use Rattle.df_replica.proofs.{LentKept.{kept_is_written, opened_is_written_for}, Owns.{adds_none, on_running}}
