-- The events of the write of a sound room's unit are steps of the theory: the unit is put into its place, and synced.
use Rattle.std.proofs.{Common.{◌≡◌, ℕ, List, Some, refl, sym, ◌∙◌, ap, subst, take}, lemmas.Option.{same_Some}}
use Rattle.df_layout.specs.{declared.layout.Layout.{Layout}, declared.places.Place.{Place}, declared.places.Zone.{Zone}, declared.places.Zone.TheVariants.{WalHeaders}, Spans.{span_of}}
use Rattle.df_format.specs.{declared.kind.Kind.{Kind}, Message.{Message, sectors_end}, Own.{own_place}, Valid.{IsUnit}, Brings.{Brings}}
use Rattle.df_buffers.{specs.{Rooms.{StandsIn}, Sounds.{BringsOwn, Holding}}, proofs.Laws.{is_no_ring}}
use Rattle.df_theory.specs.{Device.{AreSteps, IsPut}, Units.{AnyUnit, BlockPlace, CopyPlace, HeaderPlace, PreparePlace, ReplyPlace}, UnitLog.{put_one}}
use Rattle.df_theory.specs.Units
use Rattle.df_units.{specs.{Format.{format_of}, Meaning.{place_of, unit_of}}, proofs.Laws.{block_put, prepare_put, reply_put}}
use Rattle.df_places.specs.Units.{put_events, put_steps, unit_events, unit_steps}

-- a unit has one own place in a zone
one_place : (layout : Layout) (cluster : ℕ) (a b : Place) (u : Message)
    → a.zone ≡ b.zone → IsUnit layout cluster a u → IsUnit layout cluster b u → a ≡ b
one_place layout cluster a b u zones at_a at_b = same_Some _ _ (sym at_a.own ∙ ap (λ (z : Zone). own_place layout z u.header) zones ∙ at_b.own)

-- bytes that bring a unit to a place of the theory put it there
puts_at : (layout : Layout) (cluster : ℕ) (at : Units.Place) (u : Message) (x : AnyUnit) (bytes : List ℕ)
    → ((place_of at).zone ≡ WalHeaders → ⊥) → unit_of at u ≡ Some x → Brings layout cluster (place_of at) u bytes
    → IsPut (format_of layout cluster) (span_of layout (place_of at)).first bytes (put_one at x)
puts_at layout cluster (CopyPlace n) u x bytes alone is brings = absurd (cc)
puts_at layout cluster (HeaderPlace s) u x bytes alone is brings = absurd (alone refl)
puts_at layout cluster (PreparePlace s) u x bytes alone is brings = subst (λ (y : AnyUnit). IsPut (format_of layout cluster) (span_of layout
    (place_of (PreparePlace s))).first bytes (put_one (PreparePlace s) y)) (same_Some _ _ is) (prepare_put layout cluster s u bytes brings)
puts_at layout cluster (ReplyPlace k) u x bytes alone is brings = subst (λ (y : AnyUnit). IsPut (format_of layout cluster) (span_of
    layout (place_of (ReplyPlace k))).first bytes (put_one (ReplyPlace k) y)) (same_Some _ _ is) (reply_put layout cluster k u bytes brings)
puts_at layout cluster (BlockPlace a) u x bytes alone is brings = subst (λ (y : AnyUnit). IsPut (format_of layout cluster) (span_of
    layout (place_of (BlockPlace a))).first bytes (put_one (BlockPlace a) y)) (same_Some _ _ is) (block_put layout cluster a u bytes brings)

-- the lent sectors bring the unit to the place that is its own
own_brings : (zone : Zone) (layout : Layout) (place : Place) (held : Holding) (lent : List ℕ)
    → held.layout ≡ layout → place.zone ≡ zone → IsUnit layout held.unit.header.cluster place held.unit → BringsOwn zone held lent
    → Brings layout held.unit.header.cluster place held.unit lent
own_brings zone layout place held lent same in_zone own brings =
    let there : IsUnit layout held.unit.header.cluster brings.place held.unit = rw same at brings.is in
    let here = one_place layout held.unit.header.cluster brings.place place held.unit (brings.in_zone ∙ sym in_zone) there own in
    subst (λ (p : Place). Brings layout held.unit.header.cluster p held.unit lent) here (rw same at brings.brings)

pub write_brings : (zone : Zone) (layout : Layout) (place : Place) (held : Holding) (lent : List ℕ)
    → held.layout ≡ layout → place.zone ≡ zone → IsUnit layout held.unit.header.cluster place held.unit
    → lent ≡ take (sectors_end held.unit.header.size) held.bytes → BringsOwn zone held lent
    → Brings layout held.unit.header.cluster place held.unit (take (sectors_end held.unit.header.size) held.bytes)
write_brings zone layout place held lent same in_zone own value brings = subst (λ (l : List ℕ).
    Brings layout held.unit.header.cluster place held.unit l) value (own_brings zone layout place held lent same in_zone own brings)

pub put_is_steps : (kind : Kind) (zone : Zone) (layout : Layout) (place : Place) (held : Holding) (lent : List ℕ)
    → StandsIn kind zone → held.layout ≡ layout → place.zone ≡ zone → IsUnit layout held.unit.header.cluster place held.unit
    → lent ≡ take (sectors_end held.unit.header.size) held.bytes
    → BringsOwn zone held lent → (at : Units.Place) (x : AnyUnit) → place_of at ≡ place → unit_of at held.unit ≡ Some x
    → AreSteps (format_of layout held.unit.header.cluster) (put_events layout place held) (put_steps at x)
put_is_steps kind zone layout place held lent stands same in_zone own value brings at x here is = let cluster = held.unit.header.cluster in
    let sectors = take (sectors_end held.unit.header.size) held.bytes in
    let to_place : Brings layout cluster place held.unit sectors = write_brings zone layout place held lent same in_zone own value brings in
    let alone : (place_of at).zone ≡ WalHeaders
    → ⊥ = λ ring. is_no_ring kind zone stands (sym in_zone ∙ ap (λ (p : Place). p.zone) (sym here) ∙ ring) in
    let put = puts_at layout cluster at held.unit x sectors alone is (rw (sym here) at to_place) in (
      rw here at put,
      tt,
    )

-- and with a sync after it too
pub with_sync : (layout : Layout) (place : Place) (held : Holding) (at : Units.Place) (x : AnyUnit)
    → AreSteps (format_of layout held.unit.header.cluster) (put_events layout place held) (put_steps at x)
    → AreSteps (format_of layout held.unit.header.cluster) (unit_events layout place held) (unit_steps at x)
with_sync layout place held at x steps = (steps.0, tt)
