-- A sound prepare stands in the slot that its header names.
use Rattle.{std.proofs.Common.{◌≡◌, sym, subst}, df_buffers.specs.Sounds.{Holding, IsSound}}
use Rattle.df_layout.specs.{declared.layout.Layout.{Layout}, declared.places.Place.{Place}, declared.places.Zone.{Zone}, declared.places.Zone.TheVariants.{WalPrepares}}
use Rattle.df_format.{specs.{declared.kind.Kind.TheVariants.{Prepare as AsPrepare}, Valid.{IsInSlot, IsUnit, Belongs}}, proofs.Laws.{valid_belongs}}
use Rattle.df_prepares.specs.Slots.{slot_place, IsInOwnSlot}

-- a prepare's room holds it in its own slot
pub in_place : (layout : Layout) (holding : Holding)
    → IsSound WalPrepares AsPrepare holding → holding.layout ≡ layout → IsInOwnSlot layout holding.unit
in_place layout holding sound same = let u = holding.unit in
    let there = valid_belongs holding.layout u.header.cluster sound.place u sound.is in
    let in_slot : IsInSlot holding.layout sound.place.index u.header =
    subst (λ (z : Zone). Belongs holding.layout z sound.place.index u.header) sound.in_zone there.belongs in
    let here : sound.place ≡ slot_place u.header.slot = λ i. record { zone = sound.in_zone i; index = sym in_slot.slot i } in
    subst (λ (l : Layout). IsUnit l u.header.cluster (slot_place u.header.slot) u)
    same (subst (λ (p : Place). IsUnit holding.layout u.header.cluster p u) here sound.is)
