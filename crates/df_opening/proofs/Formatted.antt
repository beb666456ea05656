-- What a making answers, put together: on a disk that is blank where the copies stand it makes the file or a part of it, and on another one
-- nothing.
use Rattle.{std.proofs.Common.{◌≡◌, ◌<◌, ℕ, List, Option, Some, None, sym, ◌∙◌, ap, subst, refl, arith, Ok, Err}, df_base.specs.Log.{Event}}
use Rattle.df_disk.{specs.{Told.{Told}, Adds.{AddsPart, after_all}}, proofs.Laws.{nothing_is_part}}
use Rattle.{df_layout.specs.declared.layout.Layout.{Layout}, df_format.specs.{First.{first_super}, SuperRules.{IsUsable}}}
use Rattle.df_model.specs.{declared.errors.FormatError.{FormatError}, declared.errors.FormatError.TheVariants.{ClusterZero, NotBlank, DiskFault}}
use Rattle.df_opening.{specs.{Formatting.{RefusesCluster, TellsBlank}, Making.{FormatsFile, MakingLeaves, MayMakeOn, making_events}}, proofs.{Blanks.{blank_alone}, NewFile.{all_reserved, makes_call, makes_part, named_of, steps_of_making, unchanged_adds}}}

-- a fault tells nothing of what the disk shows
fault_tells : (old : Option Told) → TellsBlank {T = Unit {0}} old (Err DiskFault)
fault_tells None = tt
fault_tells (Some t) = tt

-- a cluster that isn't 0 isn't refused
not_refused : (cluster : ℕ) (e : FormatError)
    → 0 < cluster → RefusesCluster {T = Unit {0}} 1 (Err e) → RefusesCluster {T = Unit {0}} cluster (Err e)
not_refused cluster ClusterZero named is = absurd (cc)
not_refused cluster (NotBlank copy) named is = named
not_refused cluster DiskFault named is = named

-- and a refused cluster nothing, either
zero_tells : (old : Option Told) → TellsBlank {T = Unit {0}} old (Err ClusterZero)
zero_tells None = tt
zero_tells (Some t) = tt

pub no_cluster : (layout : Layout) (cluster : ℕ) (old : Option Told)
    → cluster ≡ 0 → FormatsFile {T = Unit {0}} layout cluster old old (Err ClusterZero)
no_cluster layout cluster old none = record {
  named = none;
  blank = zero_tells old;
  events = refl;
  steps = λ named. absurd (omega (arith, none, named));
  makes = λ before after first last may. absurd (omega (arith, none, may.named));
}

module _ (layout : Layout) (cluster : ℕ) (is : IsUsable (first_super layout cluster)) (old : Option Told) where
  abbrev events : List Event
  events = making_events layout cluster

  part_makes : (new : Option Told) (e : FormatError) → AddsPart events old new → (before after : Told) → old ≡ Some before
      → new ≡ Some after → (may : MayMakeOn layout cluster before) → MakingLeaves {T = Unit {0}} layout cluster before may after (Err e)
  part_makes new e part before after first last may = makes_part layout cluster is (all_reserved layout cluster is)
      before may after e (subst (λ (o : Option Told). AddsPart events o (Some after)) first (subst (AddsPart events old) last part))

  pub refused_formats : (new : Option Told) (e : FormatError) → RefusesCluster {T = Unit {0}} 1 (Err e)
      → TellsBlank {T = Unit {0}} old (Err e) → new ≡ old → FormatsFile {T = Unit {0}} layout cluster old new (Err e)
  refused_formats new e refuses blank same = record {
    named = not_refused cluster e (named_of layout cluster is) refuses;
    blank = blank;
    events = unchanged_adds events old new e same;
    steps = λ named. steps_of_making layout cluster is;
    makes = part_makes new e (nothing_is_part events old new same);
  }

  module _ (tested new : Option Told) (blank : TellsBlank {T = Unit {0}} old (Ok tt)) (same : tested ≡ old) where
    pub made_formats : new ≡ after_all events tested → FormatsFile {T = Unit {0}} layout cluster old new (Ok tt)
    made_formats all = let adds : new ≡ after_all events old = all ∙ ap (after_all events) same in record {
      named = named_of layout cluster is;
      blank = blank;
      events = adds;
      steps = λ named. steps_of_making layout cluster is;
      makes = λ before after first last may. makes_call {T = Unit {0}} {E = FormatError}
          layout cluster is before may after (Ok tt) (sym last ∙ adds ∙ ap (after_all events) first);
    }

    pub failed_formats : AddsPart events tested new → FormatsFile {T = Unit {0}} layout cluster old new (Err DiskFault)
    failed_formats some = let part = subst (λ (o : Option Told). AddsPart events o new) same some in record {
      named = named_of layout cluster is;
      blank = fault_tells old;
      events = (part, blank_alone _ old new tt blank);
      steps = λ named. steps_of_making layout cluster is;
      makes = part_makes new DiskFault part;
    }
