-- The sectors named so far are loose, and their bytes those of sectors.
use Rattle.{std.proofs.Common.{◌≡◌, drop, take}, df_base.specs.Log.{AreLoose}}
use Rattle.df_memdisk.specs.{History.{changes_of, events_of}, State.{first_firm}}
use Rattle.df_memdisk.proofs.stop.firm_sector.Given as goal

abbrev pub invariant-loop-change : goal.invariant-loop-change
invariant-loop-change l = record {
  same : first_firm (events_of l.past) (changes_of (drop l.change-index l.choice)) ≡ first_firm (events_of l.past) (changes_of l.choice);
  loose : AreLoose (events_of l.past) (changes_of (take l.change-index l.choice));
}
