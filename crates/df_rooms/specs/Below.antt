-- What the contracts here and above cite of the crates below this one.
pub use Rattle.df_layout.specs.declared.places.Zone.TheVariants.{WalPrepares}
pub use Rattle.df_format.specs.{Making.{for_body}, Own.{own_place}, Rules.{ObeysRules}, Spelling.{sealed}, Whole.{greatest_size}, declared.kind.Kind.TheVariants.{Prepare}}
pub use Rattle.df_model.specs.Work.{Request}
pub use Rattle.df_grid.specs.Table.{no_blocks}
pub use Rattle.df_scrub.specs.{Machine.{IsMachineStep, IsMachines}, Scrubber.{IsStep, IsVerdict, ScrubState, after_scrub_step, left_in, new_scrub, verdict_in, with_check}}
pub use Rattle.df_scrub.specs.Tours.{ListsFailing, failing_among, failing_in}
