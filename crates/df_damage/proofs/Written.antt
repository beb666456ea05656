-- What a view needs was written at its places, where the file had the view.
use Rattle.{std.proofs.Common.{◌≡◌, inl, inr, List, [], ◌∷◌, ◌++◌, Some, sym, ◌∙◌, ap, subst}, df_units.specs.Format.{format_of}}
use Rattle.{df_base.specs.{Image.{Image}, Log.{Event, Log, Stop, Sync, Write}}, df_recovery.specs.Below.{DataFile}}
use Rattle.df_base.specs.Log as logs
use Rattle.df_theory.{specs.{Chance.{InImages, InPools}, Device.{Format, all_units, units_log, units_of}, UnitLog.{settled}, Units.{AnyUnit, Place, Units}}, proofs.Laws.{settled_law, pool_pools}}
use Rattle.df_damage.{specs.{Past.{IsOneOf}, Written.{HadIsWritten, OpenedIsWritten, WasWritten}}, proofs.Opened.{found_was_had}}

-- what an image of the list shows is of the images
among : (f : Format) (images : List Image) (image : Image) (place : Place) (x : AnyUnit)
    → IsOneOf images image → f.unit_at image place ≡ Some x → InImages (all_units f images) place x
among f [] image place x is shown = absurd is
among f (first ∷ images) image place x (inl same) shown = inl (ap (λ (i : Image). f.unit_at i place) (sym same) ∙ shown)
among f (first ∷ images) image place x (inr older) shown = inr (among f images image place x older shown)

-- what was written stays written as the log goes on
goes_on : (f : Format) (start : Image) (new old : List Event) (place : Place) (x : AnyUnit)
    → InPools (f.unit_at start) (units_of f start old) place x → InPools (f.unit_at start) (units_of f start (new ++ old)) place x
goes_on f start [] old place x is = is
goes_on f start ((Write at bytes) ∷ new) old place x is = inr (goes_on f start new old place x is)
goes_on f start (Sync ∷ new) old place x is = inr (goes_on f start new old place x is)
goes_on f start ((Stop changes) ∷ new) old place x is = inr (goes_on f start new old place x is)

-- of a log that goes on from this one
later_pools : (f : Format) (log : Log) (start : Image) (events new : List Event) (place : Place) (x : AnyUnit) → start ≡ log.start → events ≡ new ++ log.events → InPools (f.unit_at log.start) (units_of f log.start log.events) place x → InPools (f.unit_at start) (units_of f start events) place x
later_pools f log start events new place x same grew is =
    subst (λ (i : Image). InPools (f.unit_at i) (units_of f i events) place x) (sym same)
    (rw (sym grew) at (goes_on f log.start new log.events place x is))

pub had_is_written : HadIsWritten
had_is_written file log later view had (new, grew, same) = record {
  sound = had.holds.bears.sound;
  needs = λ place x need. let old : InImages (settled (units_log (format_of file.layout file.cluster) log)) place x =
      rw (sym (settled_law (format_of file.layout file.cluster) log)) at
      (among (format_of file.layout file.cluster) (logs.settled log) had.image place x had.durable (had.holds.bears.needs place x need)) in
      later_pools (format_of file.layout file.cluster) log later.start later.events new place x same grew (pool_pools (units_log
      (format_of file.layout file.cluster) log).start (units_log (format_of file.layout file.cluster) log).events place x (inl old));
}

pub opened_is_written : OpenedIsWritten
opened_is_written version file view t s later may is grew = let had = found_was_had version file view t s may is in
    rw (sym had.0) at (had_is_written file (logs.add Sync t.log) later is.view had.1 grew)
