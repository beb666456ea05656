-- Logs of certain units alone.
use Rattle.std.proofs.Common.{◌≡◌, inl, inr, List, [], ◌∷◌, Option, Some, None, refl, sym, ◌∙◌, ap}
use Rattle.df_theory.specs.{Units.{AnyUnit, Place, Units, or_else, overlay}, UnitLog.{Stopped, Synced, UnitEvent, UnitLog, Wrote, now, now_of, settled_of, wrote}, Chance.{InImages, InPool, InPools, InWrites}}

module _ (P : AnyUnit → Type 0) where
  abbrev pub Shows : Units → Type 0
  Shows image = (place : Place) (x : AnyUnit) → image place ≡ Some x → P x

  abbrev pub All : Units → List UnitEvent → Type 0
  All start [] = Shows start
  All start ((Wrote touches stands after) ∷ es) = Shows stands × (Shows after × All start es)
  All start (Synced ∷ es) = All start es
  All start ((Stopped after) ∷ es) = Shows after × All start es

  pub now_all : (start : Units) (es : List UnitEvent) → All start es → Shows (now_of start es)
  now_all start [] all = all
  now_all start ((Wrote touches stands after) ∷ es) all = all.1.0
  now_all start (Synced ∷ es) all = now_all start es all
  now_all start ((Stopped after) ∷ es) all = all.0

  images_all : (start : Units) (es : List UnitEvent)
      → All start es → (place : Place) (x : AnyUnit) → InImages (settled_of start es) place x → P x
  images_all start [] all place x (inl here) = all place x here
  images_all start [] all place x (inr none) = absurd none
  images_all start ((Wrote touches stands after) ∷ es) all place x at = images_all start es all.1.1 place x at
  images_all start (Synced ∷ es) all place x (inl here) = now_all start es all place x here
  images_all start (Synced ∷ es) all place x (inr there) = images_all start es all place x there
  images_all start ((Stopped after) ∷ es) all place x (inl here) = all.0 place x here
  images_all start ((Stopped after) ∷ es) all place x (inr there) = images_all start es all.1 place x there

  writes_all : (start : Units) (es : List UnitEvent) → All start es → (place : Place) (x : AnyUnit) → InWrites es place x → P x
  writes_all start [] all place x at = absurd at
  writes_all start ((Wrote touches stands after) ∷ es) all place x (inl here) = all.0 place x here
  writes_all start ((Wrote touches stands after) ∷ es) all place x (inr there) = writes_all start es all.1.1 place x there
  writes_all start (Synced ∷ es) all place x at = absurd at
  writes_all start ((Stopped after) ∷ es) all place x at = absurd at

  pool_all : (start : Units) (es : List UnitEvent)
      → All start es → (place : Place) (x : AnyUnit) → InPool (record { start = start; events = es }) place x → P x
  pool_all start es all place x (inl old) = images_all start es all place x old
  pool_all start es all place x (inr new) = writes_all start es all place x new

  pub pools_all : (start : Units) (es : List UnitEvent) → All start es → (place : Place) (x : AnyUnit) → InPools start es place x → P x
  pools_all start [] all place x at = pool_all start [] all place x at
  pools_all start (e ∷ es) all place x (inl here) = pool_all start (e ∷ es) all place x here
  pools_all start ((Wrote touches stands after) ∷ es) all place x (inr there) = pools_all start es all.1.1 place x there
  pools_all start (Synced ∷ es) all place x (inr there) = pools_all start es all place x there
  pools_all start ((Stopped after) ∷ es) all place x (inr there) = pools_all start es all.1 place x there

  pub all_wrote : (put : Units) (log : UnitLog) → Shows put → All log.start log.events → All log.start (wrote put log).events
  all_wrote put log puts all = (puts, (λ place x is. go place x (put place) refl is, all))
    where
      go : (place : Place) (x : AnyUnit) (o : Option AnyUnit) → put place ≡ o → overlay put (now log) place ≡ Some x → P x
      go place x None none is =
          now_all log.start log.events all place x (ap (λ (o : Option AnyUnit). or_else o (now log place)) (sym none) ∙ is)
      go place x (Some y) some is = puts place x (some ∙ ap (λ (o : Option AnyUnit). or_else o (now log place)) (sym some) ∙ is)
