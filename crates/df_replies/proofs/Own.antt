-- A sound reply stands in the slot that its header names.
use Rattle.{std.proofs.Common.{◌≡◌, sym}, df_buffers.specs.Sounds.{Holding, IsSound}, df_replies.specs.Slots.{IsInReplySlot, reply_place}}
use Rattle.df_layout.specs.{declared.layout.Layout.{Layout}, declared.places.Place.{Place}, declared.places.Zone.{Zone}, declared.places.Zone.TheVariants.{ClientReplies}}
use Rattle.df_format.{specs.{declared.kind.Kind.TheVariants.{Reply as AsReply}, Valid.{Belongs, IsOfSession, IsUnit}}, proofs.Laws.{valid_belongs}}

pub in_own_slot : (layout : Layout) (held : Holding) → IsSound ClientReplies AsReply held → held.layout ≡ layout → IsInReplySlot layout held.unit
in_own_slot layout held sound same = let u = held.unit in let there = valid_belongs held.layout u.header.cluster sound.place u sound.is in
    let of : IsOfSession sound.place.index u.header = rw sound.in_zone at there.belongs in
    let here : sound.place ≡ reply_place u.header.slot = λ i. record { zone = sound.in_zone i; index = sym of.slot i } in
    rw same at (rw here at sound.is)
