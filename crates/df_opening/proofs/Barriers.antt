-- After the barrier of an open the log rests on the view that is found.
use Rattle.{std.proofs.Common.{◌≡◌, inl, inr, List, ◌∷◌, Some, refl, sym, ◌∙◌, ap, subst}, df_units.specs.Bytes.{unit_at}}
use Rattle.df_theory.specs.Units
use Rattle.df_theory.{specs.{Units.{AnyUnit, Place}, Chance.{InPool, InPools}, Device.{units_log}, Holds.{Stands}, UnitLog.{Synced, UnitEvent, UnitLog, add, now, now_of}, View.{View}}, proofs.Laws.{disk_barrier_law, now_units}}
use Rattle.df_opening.{specs.{Mending.{BarrierRests}, Keeping.{Firm, Grade, StandingFor, StandsFor, Whole, format}}, proofs.Followed.{in_pools}}
use Rattle.df_damage.specs.Below.{shape}

-- a sync adds no unit to the pools
pools_before : (start : Units.Units) (es : List UnitEvent) (place : Place) (x : AnyUnit)
    → ((p : Place) (z : AnyUnit) → now_of start es p ≡ Some z → InPool (record { start = start; events = es }) p z)
    → InPools start (Synced ∷ es) place x → InPools start es place x
pools_before start es place x pooled (inl (inl (inl here))) = in_pools start es place x (pooled place x here)
pools_before start es place x pooled (inl (inl (inr settled))) = in_pools start es place x (inl settled)
pools_before start es place x pooled (inl (inr none)) = absurd none
pools_before start es place x pooled (inr before) = before

-- and after it no block is being written
stands_on : (g : Grade) (log : UnitLog) (image : Units.Units) (v : View)
    → image ≡ now log → StandsFor g image v → StandingFor g (add Synced log) v
stands_on Firm log image v same stands = tt
stands_on Whole log image v same stands = record { shown = subst (λ (u : Units.Units). Stands u v) same stands; firm = λ a c is. refl }

pub barrier_rests : BarrierRests
barrier_rests g file view t may stands = let fmt = format file in let log : UnitLog = units_log fmt t.log in
    let shown = now_units fmt t.log.start t.log.events in let pooled : (p : Place) (z : AnyUnit) → now_of log.start log.events p ≡ Some z
    → InPool log p z = λ p z is. may.no_chance.pooled p z (ap (λ (u : Units.Units). u p) (sym shown) ∙ is) in record {
      version = may.version;
      is_log = record { start = may.safe.is_log.start; events = may.safe.is_log.events };
      honest = record { shows = may.honest.shows };
      rests = disk_barrier_law fmt (shape file) view t.log may.safe may.found;
      dry = λ place. refl;
      standing = stands_on g log (unit_at file.layout file.cluster t.shown)
          view (ap (unit_at file.layout file.cluster) (λ i sector. may.honest.shows sector i) ∙ sym shown) stands;
      no_chance = record {
        pooled = λ p z is. inl (inl (ap (λ (u : Units.Units). u p) shown ∙ is));
        distinct = λ p q x y one two. may.no_chance.distinct
            p q x y (pools_before log.start log.events p x pooled one) (pools_before log.start log.events q y pooled two);
      };
    }
