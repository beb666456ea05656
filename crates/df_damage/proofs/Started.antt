-- An image on a hurt disk in which an open finds the file's own checkpoint begins a log.
use Rattle.{std.proofs.Common.{◌≡◌, inl, inr, ℕ, sym, subst}, df_base.specs.Log.{Sync}, df_units.specs.Format.{format_of}}
use Rattle.df_base.specs.Log as logs
use Rattle.df_theory.{specs.{Units.{AnyUnit, Content, CopyPlace, CopyUnit, Place}, Chance.{InPool}, Device.{units_log}, Found.{IsClean}, Rests.{RestsOn}, Shape.{Shape}, Shows.{Agrees, AgreesCopy}, UnitLog.{UnitLog}, View.{Checkpoint, View}}, proofs.Laws.{disk_barrier_law, pool_pools}}
use Rattle.{df_recovery.specs.Below.{shape}, df_damage.specs.Anew.{HurtMayBegin}}

-- whatever is of the pool agrees with the view that the log rests on
pool_agrees : (sh : Shape) (log : UnitLog) (v : View)
    → RestsOn sh log v → (place : Place) (x : AnyUnit) → InPool log place x → Agrees sh v place x
pool_agrees sh log v rests place x (inl old) = rests.old place x old
pool_agrees sh log v rests place x (inr new) = (rests.pending place x new).1.agrees

same_content : (c d : Content) → CopyUnit c ≡ CopyUnit d → c ≡ d
same_content c d is = cc

copy_agrees : (sh : Shape) (v : View) (n : ℕ) (c : Content) → Agrees sh v (CopyPlace n) (CopyUnit c) → AgreesCopy v n c
copy_agrees sh v n c agrees = subst (AgreesCopy v n) (sym (same_content c agrees.0 agrees.1)) agrees.2

pub hurt_may_begin : HurtMayBegin
hurt_may_begin version file view found t may finds same = let f = format_of file.layout file.cluster in let sh = shape file in
    let log : UnitLog = units_log f (logs.add Sync t.log) in
    let rests : RestsOn sh log view = disk_barrier_law f sh view t.log may.safe may.found in let shown = f.unit_at t.shown in
    let clean : IsClean shown view = λ n c there. copy_agrees
    sh view n c (pool_agrees sh log view rests (CopyPlace n) (CopyUnit c) (may.no_chance.pooled (CopyPlace n) (CopyUnit c) there)) in
    record {
      whole = may.whole;
      found = finds;
      clean = λ n c there. rw (sym same) at (clean n c there);
      distinct = λ place other x y one two.
          may.no_chance.distinct place other x y (pool_pools log.start log.events place x (may.no_chance.pooled place x one))
          (pool_pools log.start log.events other y (may.no_chance.pooled other y two));
    }
