-- What the crates above cite: the ring of a new file, what steps put and leave shown, what is planned of a file of either version, what is
-- kept of one, and what an open finds.
pub use Rattle.df_opening.proofs.{NewFile.{cleared, how_many, ring_reserved, writable}, StepShows.{now_adds}, RaiseAnew.{clean_beyond}}
pub use Rattle.df_opening.proofs.StepShows.{StartSynced, same_class, same_sector, shown_after, shown_by, stays_firm, stays_whole, synced_first, unit_after, unwritten, after_join}
pub use Rattle.df_opening.proofs.{Fronts.{FrontSteps, all_front, front_of, put_nothing}, KeptFiles.{firm_of, firmly, good_safe}}
pub use Rattle.df_opening.proofs.{Opens.{codec_of, found_keeps, layout_shown, second_found, super_shown}, BegunStates.{begun_keeps}}
pub use Rattle.df_opening.proofs.{Opens.{front_moments, mend_stops, own_raising, planned_same}, SurveyPlans.{survey_planned, told_mends}}
pub use Rattle.df_opening.proofs.{Mendable.{IsPlannedIn, content_is, planned_in}, Views.{keeps_back, keeps_on, keeps_self}}
pub use Rattle.df_opening.proofs.{MendShows.{front_spares, raising_aside, raising_copies, raising_spares}, RaiseSteps.{raised_is, sum_of}}
pub use Rattle.df_opening.proofs.Refused.{adds_error, blamed_open, fault_adds, no_refusal, raising_then, read_error, refused_tells, unharmed_error, unharmed_fault, unharmed_of, unharmed_ok, updating_error, updating_fault, updating_ok, updating_then}
pub use Rattle.df_opening.proofs.{NotRefused.{safe_is_not_refused}, Followed.{begun_may_open, stopped_may_open}}
pub use Rattle.df_opening.proofs.FirstSuper.{first_is_super}
pub use Rattle.df_damage.proofs.Laws.{added_is_told, answer_is_of_hurt, begun_goes_on, first_goes_on, found_is_usable, found_was_since, had_is_written, headers_may_be_hurt, honest_stays, lived_layout, probe_is_of_hurt, raised_goes_on, same_goes_on, stopped_goes_on, stops_alike, two_copies_are_enough}
pub use Rattle.df_damage.proofs.Laws.{asked_noted, boot_made, boot_may_record, course_on, filter_more, level_beyond, numbered_by, recorded_content, recorded_is_super, one_super, same_file, second_as, staging_none, staging_on}
