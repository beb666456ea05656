-- What the crates above cite of these proofs: the laws, as lemmas, and a few facts on logs, tails and sessions.
-- ---- writers, making, mending, commands
pub use Rattle.df_theory.proofs.Writes.{anew_law, append_law, block_law, boot_law, calm_law, copy_law, header_law, reply_law, rests_law, stop_law, sync_law, update_law, write_law}
pub use Rattle.df_theory.proofs.{PutOne.{put_one_law}, Births.{blank_law, format_law, making_sync_law, second_copy_law}, Slots.{mod_apart}}
pub use Rattle.df_theory.proofs.{Mends.{mend_law, mends_whole_law}, Runs.{commands_law}, Standing.{standing_after, standing_all}}
pub use Rattle.df_theory.proofs.Keeps.{stands_law, whole_append_law, whole_block_law, whole_reply_law, whole_update_law}
pub use Rattle.df_theory.proofs.{Headline.{barrier_law, clean_start_law, headline_law}, TidyMakes.{tidy_format_law}, FlushLaws.{flush_law}}
pub use Rattle.df_theory.proofs.Tidy.{spare_append, spare_table, spare_update, standing_update, tidy_append_law, tidy_block_law, tidy_finish_law, tidy_idle_law, tidy_mend_law, tidy_reply_law, tidy_sync_law}
pub use Rattle.df_theory.proofs.TidyGroups.{clear_law, flush_ring_law, tidy_boot_law, tidy_flush_law}
pub use Rattle.df_theory.proofs.TidyRuns.{standing_run_law, tidy_run_law}
-- ---- images, and what an open finds
pub use Rattle.df_theory.proofs.{OneFound.{found_law, one_chosen_law, one_found_law, one_view_law}, Decisions.{decision_law}}
pub use Rattle.df_theory.proofs.{OneAnswer.{found_answer_law, one_answer_law, spent_answer_law}, GroupRules.{group_rule_law}}
pub use Rattle.df_theory.proofs.{Founds.{chain_at, found_sound, slot_law, chain_near}, KnownLaws.{known_ends_law}}
pub use Rattle.df_theory.proofs.{GroupWalks.{alone_law, clear_slot_law, lost_law, walk_law}, Images.{short_clear, short_same, unheld}}
-- ---- histories and damage
pub use Rattle.df_theory.proofs.{Past.{one_prepare_law, stamp_law}, Had.{found_was_law, one_content_law, one_reply_law}}
pub use Rattle.df_theory.proofs.Hurts.{checkpoint_stays_law, found_was_of_log_law, headers_tell_law, hurt_law, lost_is_hurt_law, missing_is_hurt_law, never_behind_law, reply_is_hurt_law, tail_is_front_law}
pub use Rattle.df_theory.proofs.{Fields.{fields_hold_law}, BadFields.{no_bad_field_law, arrives_more, links_more, link_of}}
pub use Rattle.df_theory.proofs.Blames.{blame_law, read_law}
-- ---- sectors
pub use Rattle.df_theory.proofs.Bridge.{changed_kept, disk_law, firm_units, moments, moments_law, new_disk_law, now_units, put_law, run_moments_law, safe_disk_law, safe_moments_law, same_log, settled_law, shown_law, steps_join_law, unit_moments_law}
pub use Rattle.df_theory.proofs.{PutShown.{put_shown_law, else_join}, DiskStops.{disk_barrier_law, disk_stop_law}}
pub use Rattle.df_theory.proofs.TidyDisk.{standing_moments_law, tidy_moments_law}
-- ---- facts that other proofs need
pub use Rattle.df_theory.proofs.{Steps.{old_agrees, rests_safe, rests_holds, grows_sound}, Texts.{text_bytes}, Keeps.{four}}
pub use Rattle.df_theory.proofs.{Writes.{dry_quiet, good_rests, put_else, quiet_synced}, Mends.{copies_shown, synced_after}}
pub use Rattle.df_theory.proofs.{Choices.{chosen_above, same_copy}, Runs.{after_append, each_append, each_weaker}, BootSounds.{boot_sound}}
pub use Rattle.df_theory.proofs.Tails.{chain_ops, in_dropped, in_either, in_one, in_single, in_front, in_drop, in_back}
pub use Rattle.df_theory.proofs.Sessions.{chain_append, last_mark-append, noted_get, sessions-append, sessions-drop, tracks_chain, tracks_noted, last_checksum-append}
pub use Rattle.df_theory.proofs.Sounds.{append_sound, checkpoint_sound, reply_sound, tracks}
-- ---- what histories of several logs stand on
pub use Rattle.df_theory.proofs.{Agreeing.{prepare_agrees, take_boot, decided_above}, AllOf.{All, Shows, all_wrote, now_all, pools_all}}
pub use Rattle.df_theory.proofs.{Choices.{boot_higher, one_chosen, rank_low}, Clear.{low_steps, low_update}, Founds.{holds_found}}
pub use Rattle.df_theory.proofs.{Grew.{next_grew}, Grouped.{group_from, group_holds, groups_append, same_group, fits_closed, groups_closed}}
pub use Rattle.df_theory.proofs.{Hurts.{pool_pools}, Images.{IsOpen, bears_open, chosen_same}, OneFound.{one_view}, WholeGroups.{no_gap}}
pub use Rattle.df_theory.proofs.{Mends.{IsUnderWay, half_way, header_steps_miss, is_mend, missed, under_way_still}, Pinned.{same_named}}
pub use Rattle.df_theory.proofs.{Once.{last_of, no_mark, one_stored, stored_op}, SameView.{view_is_found}, Tails.{chain_last}}
pub use Rattle.df_theory.proofs.{Past.{HasGap, IsNew, gap_left, appended_clear, next_in, no_made, same_slot}, Writes.{no_choice}}
pub use Rattle.df_theory.proofs.SampleFiles.{all_reserved, bare, copies_of, first_of, is_first_bare, is_first_of, layout, made_of, making_of, puts_reserved, reserved, sector, shape_of, tidy_of}
pub use Rattle.df_theory.proofs.SampleSteps.{copies_are, grouped, header_put, may_append, may_append_pair, may_raise, prepare_put, quiet_updated}
pub use Rattle.df_theory.proofs.SampleUnits.{AreTold, copies_all, distinct_of, left_without, made_all, no_chance, put_all, wrote_pooled}
pub use Rattle.df_theory.proofs.{Without.{without, without_else, without_shows}, Replies.{stored_at, stored_else}, Knowns.{known_one}}
pub use Rattle.df_theory.proofs.{Settled.{append_here, base_here, made_content, made_reply, reply_here}, OneView.{same_says}}
pub use Rattle.df_theory.proofs.{Upgrades.{open_law, raise_anew_law, raise_ends_law, upgrade_law}, RaiseLogs.{dry_copies, dry_headers}}
pub use Rattle.df_theory.proofs.{UpgradeSample.{never_kept, low_bytes}, Appends.{kept_some}}
