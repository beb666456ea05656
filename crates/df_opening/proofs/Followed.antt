-- A file that is tidy, or that a stop left, is one that may be opened.
use Rattle.{std.proofs.Common.{◌≡◌, inl, inr, refl, List, [], ◌∷◌, Some, subst}, df_damage.specs.{Anew.{restarted}, Below.{shape}}}
use Rattle.{df_base.{specs.{Image.{Image, changed}, Log.{IsLog, Stop}}, proofs.Laws.{now_is_image}}, df_trailer.specs.Text.{parse_of}}
use Rattle.df_base.specs.Log as logs
use Rattle.df_theory.{specs.{Chance.{InPool, InPools}, Device.{units_log}, Holds.{Holds}, UnitLog.{Stopped, UnitEvent, UnitLog}, Units.{AnyUnit, Place}, Rests.{RestsOn}}, proofs.Laws.{clean_start_law, disk_stop_law, found_law, now_units, rests_safe, safe_disk_law}}
use Rattle.df_theory.specs.Units
use Rattle.df_units.{specs.Meaning.{layout_of}, proofs.Laws.{is_format, of_places}}
use Rattle.df_opening.specs.{Following.{BegunMayOpen, FaultedMayOpen, StoppedMayOpen, TidyMayOpen}, Keeping.{format}}

-- a unit of the pool is one of the pools
pub in_pools : (start : Units.Units) (es : List UnitEvent) (place : Place) (x : AnyUnit)
    → InPool (record { start = start; events = es }) place x → InPools start es place x
in_pools start [] place x is = is
in_pools start (e ∷ es) place x is = inl is

pub tidy_may_open : TidyMayOpen
tidy_may_open file view t version is_log honest tidy chance = let fmt = format file in let sh = shape file in record {
  version = version;
  safe = safe_disk_law fmt sh t.log (is_format file.layout file.cluster) is_log (rests_safe sh (units_log fmt t.log) view tidy.rests);
  honest = honest;
  found = (found_law sh (fmt.unit_at (logs.now t.log)) view).0
      (subst (λ (u : Units.Units). Holds sh u view) (now_units fmt t.log.start t.log.events) tidy.rests.holds);
  no_chance = chance;
}

-- a stop adds no unit to the pools, where those that it left came from them
pools_stopped : (start : Units.Units) (es : List UnitEvent) (image : Units.Units) (place : Place) (x : AnyUnit)
    → ((p : Place) (z : AnyUnit) → image p ≡ Some z → InPool (record { start = start; events = es }) p z)
    → InPools start (Stopped image ∷ es) place x → InPools start es place x
pools_stopped start es image place x pooled (inl (inl (inl here))) = in_pools start es place x (pooled place x here)
pools_stopped start es image place x pooled (inl (inl (inr settled))) = in_pools start es place x (inl settled)
pools_stopped start es image place x pooled (inl (inr none)) = absurd none
pools_stopped start es image place x pooled (inr before) = before

pub stopped_may_open : StoppedMayOpen
stopped_may_open file view t changes version safe honest loose chance held = let fmt = format file in let sh = shape file in
    let log : UnitLog = units_log fmt t.log in let left : Image = changed changes (logs.now t.log) in
    let is_log : IsLog (logs.add (Stop changes) t.log) = record { start = safe.is_log.start; events = (loose, safe.is_log.events) } in
    record {
      version = version;
      safe = safe_disk_law fmt sh (logs.add (Stop changes) t.log) (is_format file.layout file.cluster) is_log (rests_safe
          sh (units_log fmt (logs.add (Stop changes) t.log)) view (disk_stop_law fmt sh view t.log changes safe loose chance held));
      honest = record { shows = λ sector i. changed changes (λ s. honest.shows s i) sector };
      found = (found_law sh (fmt.unit_at left) view).0 held;
      no_chance = record {
        pooled = λ p z is. inl (inl is);
        distinct = λ p q x y one two. chance.distinct p q x y (pools_stopped log.start log.events (fmt.unit_at left) p x chance.pooled one)
            (pools_stopped log.start log.events (fmt.unit_at left) q y chance.pooled two);
      };
    }

pub faulted_may_open : FaultedMayOpen
faulted_may_open file view t version safe honest chance held = record {
  version = version;
  safe = safe;
  honest = honest;
  found = (found_law (shape file) ((format file).unit_at (logs.now t.log)) view).0
      (held (record { whole = now_is_image t.log.start t.log.events safe.is_log.start safe.is_log.events; kept = λ sector fast. refl }));
  no_chance = chance;
}

-- ---- a log that begins

-- a unit of the pools of a log that has just begun is shown at its start
shown_first : (image : Units.Units) (place : Place) (x : AnyUnit) → InPools image [] place x → image place ≡ Some x
shown_first image place x (inl (inl is)) = is
shown_first image place x (inl (inr none)) = absurd none
shown_first image place x (inr none) = absurd none

pub begun_may_open : BegunMayOpen
begun_may_open file view t version may = let f = format file in let sh = shape file in let image = f.unit_at t.shown in
    let rests : RestsOn sh (units_log f (restarted t).log) view = clean_start_law sh
    image view (of_places file.layout file.cluster file.named (parse_of (layout_of file.layout)) t.shown may.whole) may.found may.clean in
    record {
      version = version;
      safe = safe_disk_law f sh (restarted t).log (is_format file.layout file.cluster)
          (record { start = may.whole; events = tt }) (rests_safe sh (units_log f (restarted t).log) view rests);
      honest = record { shows = λ sector. refl };
      found = may.found;
      no_chance = record {
        pooled = λ place x is. inl (inl is);
        distinct = λ place other x y one two. may.distinct place other x y (shown_first image place x one) (shown_first image other y two);
      };
    }
