-- The unit that is wanted at a place: what the code answers of it, as a unit or as a class, is what the theory sees there.
use Rattle.std.specs.Prelude.{◌≡◌, ◌≢◌, ◌↔◌, ◌<◌, ℕ, ⊤, Some, None}
use Rattle.df_base.specs.Image.{Image, IsImage}
use Rattle.df_layout.specs.{declared.damage.Class.{Class}, declared.damage.Class.TheVariants.{Stale}, declared.layout.Layout.{Layout}}
use Rattle.df_format.specs.{declared.kind.Kind.{Kind}, declared.kind.Kind.TheVariants.{Reserved, Prepare, Reply, Block, Trailer}, Copies.{class_of_copy}, Message.{Message}, Spelling.{IsCheck}}
use Rattle.df_format.specs.{Valid.{IsUnit}, Wanted.{Any, Op, Checksum, Answer}}
use Rattle.df_format.specs.Shown
use Rattle.df_format.specs.Wanted
use Rattle.df_theory.specs.Units
use Rattle.df_theory.specs.Units.{AnyUnit, BlockUnit, CopyPlace, CopyUnit, HeaderUnit, PrepareUnit, ReplyUnit}
use Rattle.df_units.specs.{Meaning.{number_of, place_of, unit_of}, Bytes.{unit_at}}

-- the class of what an image shows at a place that doesn't show the unit wanted
abbrev pub class_at : Layout → ℕ → Image → Units.Place → Class
class_at layout cluster image (CopyPlace n) = class_of_copy n (image n)
class_at layout cluster image place = Shown.class_at layout cluster image (place_of place)

-- a place shows no unit exactly where its class isn't Stale
abbrev pub ClassesTell : Type 0
ClassesTell = (layout : Layout) (cluster : ℕ) (image : Image) (place : Units.Place) → (class_at layout cluster image place ≢ Stale) ↔ (unit_at layout cluster image place ≡ None)

-- the unit is of this kind
abbrev pub IsOfKind : Kind → AnyUnit → Type 0
IsOfKind Reserved (HeaderUnit h) = h.op ≡ 0
IsOfKind Prepare (HeaderUnit h) = 0 < h.op
IsOfKind Prepare (PrepareUnit p) = ⊤
IsOfKind Reply (ReplyUnit r) = ⊤
IsOfKind Block (BlockUnit b) = 0 < b.kind
IsOfKind Trailer (BlockUnit b) = b.kind ≡ 0
IsOfKind kind x = ⊥

-- the checksum of a unit
abbrev pub checksum_of : AnyUnit → ℕ
checksum_of (CopyUnit c) = c.checksum
checksum_of (HeaderUnit h) = h.checksum
checksum_of (PrepareUnit p) = p.header.checksum
checksum_of (ReplyUnit r) = r.header.checksum
checksum_of (BlockUnit b) = b.checksum

-- it is a prepare, or the header of one, with this op
abbrev pub HasOp : ℕ → AnyUnit → Type 0
HasOp op (HeaderUnit h) = (0 < h.op) × (h.op ≡ op)
HasOp op (PrepareUnit p) = p.header.op ≡ op
HasOp op x = ⊥

-- it is a reply with these numbers
abbrev pub HasAnswer : ℕ → ℕ → ℕ → AnyUnit → Type 0
HasAnswer client request op (ReplyUnit r) = (r.header.client ≡ client) × (r.header.request ≡ request) × (r.header.op ≡ op)
HasAnswer client request op x = ⊥

-- the unit is the one that is wanted
abbrev pub IsWantedUnit : Wanted.Wanted → AnyUnit → Type 0
IsWantedUnit Any x = ⊤
IsWantedUnit (Op op) x = HasOp op x
IsWantedUnit (Checksum checksum) x = checksum_of x ≡ number_of checksum
IsWantedUnit (Answer client request op) x = HasAnswer client request op x

-- a checksum that is wanted has sixteen bytes
abbrev pub HasWantedCheck : Wanted.Wanted → Type 0
HasWantedCheck (Checksum checksum) = IsCheck checksum
HasWantedCheck wanted = ⊤

-- a unit that is valid at a place is of a kind, and is wanted, exactly where the theory says so of it
pub record IsTold (kind : Kind) (wanted : Wanted.Wanted) (u : Message) (x : AnyUnit) : Type 0 where
  pub of_kind : (u.header.kind ≡ kind) ↔ IsOfKind kind x
  pub is_wanted : Wanted.IsWanted wanted u ↔ IsWantedUnit wanted x

-- and so it is at each place
abbrev pub UnitsAreTold : Type 0
UnitsAreTold =
    (layout : Layout) (cluster : ℕ) (place : Units.Place) (kind : Kind) (wanted : Wanted.Wanted) (u : Message) (x : AnyUnit) → HasWantedCheck wanted → IsUnit layout cluster (place_of place) u
    → unit_of place u ≡ Some x → IsTold kind wanted u x

-- so where no unit that is valid at a place is the one wanted, the theory sees none there
abbrev pub NoneIsWanted : Type 0
NoneIsWanted =
    (layout : Layout) (cluster : ℕ) (image : Image) (place : Units.Place) (kind : Kind) (wanted : Wanted.Wanted) → IsImage image → HasWantedCheck wanted
    → ((u : Message) → Shown.unit_at layout cluster image (place_of place) ≡ Some u → u.header.kind ≡ kind → ¬ Wanted.IsWanted wanted u)
    → (x : AnyUnit) → unit_at layout cluster image place ≡ Some x → IsOfKind kind x → ¬ IsWantedUnit wanted x
