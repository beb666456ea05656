-- Logs of which nothing that is loose matters to the view, and what a write makes of them.
use Rattle.std.specs.Prelude.{◌≡◌, ◌⊎◌, ℕ, true, false, List, Some}
use Rattle.df_theory.specs.{Units.{Place, CopyPlace, PreparePlace, BlockPlace, Content, AnyUnit, Units}, Shape.{Shape}, View.{View}, Shows.{Needs, Agrees}, Copies.{Agree}, Holds.{Holds, Held}}
use Rattle.df_theory.specs.{UnitLog.{UnitLog, Synced, add, now, loose, settled, wrote}, Chance.{InImages, InWrites, InPool, AreFair, EachLeft}, Grown.{InHistory, Grows, IsSafe}}

abbrev pub IsCopy : Place → Type 0
IsCopy (CopyPlace n) = Unit {0}
IsCopy place = ⊥

abbrev pub IsPrepare : Place → Type 0
IsPrepare (PreparePlace s) = Unit {0}
IsPrepare place = ⊥

abbrev pub IsBlock : Place → Type 0
IsBlock (BlockPlace a) = Unit {0}
IsBlock place = ⊥

-- a place that the view doesn't depend on: it needs nothing there, and it is no superblock copy and no slot of the prepare ring
pub record IsCalm (sh : Shape) (v : View) (place : Place) : Type 0 where
  pub no_copy : IsCopy place → ⊥
  pub no_prepare : IsPrepare place → ⊥
  pub needless : (x : AnyUnit) → Needs sh v place x → ⊥

-- a unit that may be settled there with this view
pub record MaySettle (sh : Shape) (images : List Units) (v : View) (place : Place) (x : AnyUnit) : Type 0 where
  pub agrees : Agrees sh v place x
  pub history : InHistory images v place x

-- the log rests on a view: whatever is loose, the view doesn't depend on it
pub record RestsOn (sh : Shape) (log : UnitLog) (v : View) : Type 0 where
  pub fair : AreFair log.start log.events
  pub grows : Grows sh (settled log) v
  pub old : (place : Place) (x : AnyUnit) → InImages (settled log) place x → Agrees sh v place x
  pub holds : Holds sh (now log) v
  pub calm : (place : Place) → loose log place ≡ true → IsCalm sh v place
  pub pending : (place : Place) (x : AnyUnit) → InWrites log.events place x → (loose log place ≡ true) × MaySettle sh (settled log) v place x
  pub pooled : (place : Place) (x : AnyUnit) → now log place ≡ Some x → InPool log place x

-- nothing but blocks of the grid is loose
abbrev pub IsQuiet : UnitLog → Type 0
IsQuiet log = (place : Place) → loose log place ≡ true → IsBlock place

-- nothing at all is loose
abbrev pub IsDry : UnitLog → Type 0
IsDry log = (place : Place) → loose log place ≡ false

-- a write that the view doesn't see: its units stand where nothing is needed, and may be settled
abbrev pub IsCalmPut : Shape → List Units → View → Units → Type 0
IsCalmPut sh images v put = (place : Place) (y : AnyUnit) → put place ≡ Some y → IsCalm sh v place × MaySettle sh images v place y

-- a moment at which the file may stop: the log is safe, and each image left has one of two views
pub record IsGoodLog (sh : Shape) (v u : View) (log : UnitLog) : Type 0 where
  pub safe : IsSafe sh log
  pub left : EachLeft log (λ image. Held sh image v ⊎ Held sh image u)

-- what a write leads to: while it is loose each image left has the view before or after, and a sync makes it the one after
pub record Stepped (sh : Shape) (log : UnitLog) (put : Units) (v u : View) : Type 0 where
  pub good : IsGoodLog sh v u (wrote put log)
  pub rests : RestsOn sh (add Synced (wrote put log)) u

-- two copies beside number k show this content
pub record AgreeBeside (image : Units) (c : Content) (k : ℕ) : Type 0 where
  pub agreed : Agree image c
  pub no_first : agreed.first ≡ k → ⊥
  pub no_second : agreed.second ≡ k → ⊥
