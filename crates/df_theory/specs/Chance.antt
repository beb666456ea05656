-- What a torn sector may show: no valid unit but those that stood there or were being written.
use Rattle.std.specs.Prelude.{◌≡◌, ◌⊎◌, List, [], ◌∷◌, Some}
use Rattle.df_theory.specs.{Units.{Place, AnyUnit, HeaderUnit, PrepareUnit, ReplyUnit, BlockUnit, Units, CopyUnit}, UnitLog.{UnitLog, UnitEvent, Wrote, Synced, Stopped, settled, IsLeftBy}}

-- one of the images shows this unit there
abbrev pub InImages : List Units → Place → AnyUnit → Type 0
InImages [] place x = ⊥
InImages (image ∷ images) place x = (image place ≡ Some x) ⊎ InImages images place x

-- it stands whole in a write since the last sync or stop
abbrev pub InWrites : List UnitEvent → Place → AnyUnit → Type 0
InWrites [] place x = ⊥
InWrites ((Wrote touches stands after) ∷ es) place x = (stands place ≡ Some x) ⊎ InWrites es place x
InWrites (Synced ∷ es) place x = ⊥
InWrites ((Stopped after) ∷ es) place x = ⊥

-- the pool at a place: the units that were settled there, and those that are being written there
abbrev pub InPool : UnitLog → Place → AnyUnit → Type 0
InPool log place x = InImages (settled log) place x ⊎ InWrites log.events place x

-- it is in the pool of the log, or of one that this one goes on from
abbrev pub InPools : Units → List UnitEvent → Place → AnyUnit → Type 0
InPools start [] place x = InPool (record { start = start; events = [] }) place x
InPools start (e ∷ es) place x = InPool (record { start = start; events = e ∷ es }) place x ⊎ InPools start es place x

-- one checksum, one unit
abbrev pub Distinct : AnyUnit → AnyUnit → Type 0
Distinct (CopyUnit c) (CopyUnit d) = c.checksum ≡ d.checksum → c ≡ d
Distinct (HeaderUnit h) (HeaderUnit g) = h.checksum ≡ g.checksum → h ≡ g
Distinct (HeaderUnit h) (PrepareUnit q) = h.checksum ≡ q.header.checksum → h ≡ q.header
Distinct (PrepareUnit p) (PrepareUnit q) = p.header.checksum ≡ q.header.checksum → p ≡ q
Distinct (ReplyUnit p) (ReplyUnit q) = p.header.checksum ≡ q.header.checksum → p ≡ q
Distinct (BlockUnit b) (BlockUnit c) = b.checksum ≡ c.checksum → b ≡ c
Distinct x y = Unit {0}

-- no unit of this image came about by chance, and no two units of the pools have one checksum
pub record NoChance (log : UnitLog) (image : Units) : Type 0 where
  pub pooled : (place : Place) (x : AnyUnit) → image place ≡ Some x → InPool log place x
  pub distinct : (place other : Place) (x y : AnyUnit) → InPools log.start log.events place x → InPools log.start log.events other y → Distinct x y

-- each stop left an image that it may leave, and none of its units came about by chance
abbrev pub AreFair : Units → List UnitEvent → Type 0
AreFair start [] = Unit {0}
AreFair start ((Wrote touches stands after) ∷ es) = AreFair start es
AreFair start (Synced ∷ es) = AreFair start es
AreFair start ((Stopped after) ∷ es) = IsLeftBy (record { start = start; events = es }) after × NoChance (record { start = start; events = es }) after × AreFair start es

-- a fact of each image that a stop may leave
abbrev pub EachLeft : UnitLog → (Units → Type 0) → Type 0
EachLeft log P = (image : Units) → IsLeftBy log image → NoChance log image → P image
