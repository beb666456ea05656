-- The room with zeros after its unit is sound still.
use Rattle.{std.proofs.Common.{◌-◌, ◌++◌, List, ℕ, length, take, drop, replicate, ◌∙◌, ap, subst, arith}, df_base.specs.Fields.{AreBytes}}
use Rattle.df_buffers.{specs.Sounds.{Holding, holding_of}, proofs.{Finds.{ends}, Making.{put_back}, Tidied.{IsStill, blanked}, sound.Sound.blank_rest.Given.{Over}}}
use Rattle.df_buffers.proofs.sound.Sound.blank_rest.Goals as goal

pub blank_from-requires : goal.blank_from-requires
blank_from-requires g c =
    omega (arith, (ends _ _ _ g.met.K.UnitKind.stands c.self.invariant).size, ap (λ (l : List ℕ). length l) c.deref_mut.ensures.value)

still : (g : Over) (c : goal.After-bytes-2-1 g)
    → IsStill g.K.RoomKind.ZONE g.K.UnitKind.KIND (holding_of c.self.inside.layout c.self.inside.header c.self.inside.bytes.items)
    (take c.self.inside.bytes.len (c.blank_from.new.bytes ++ drop (length c.blank_from.new.bytes) c.self.inside.bytes.items))
still g c = let size = c.self.inside.header.size in let items = c.self.inside.bytes.items in let were = c.deref_mut.ensures.value in
    let back = put_back _ c.blank_from.new.bytes items (c.blank_from.auto.bytes ∙ c.deref_mut.ensures.len) in
    blanked g.K.RoomKind.ZONE g.K.UnitKind.KIND _ g.met.K.UnitKind.stands c.self.invariant (subst AreBytes were c.blank_from.ensures.each) _
    (back ∙ c.blank_from.ensures.blank ∙ ap (λ (l : List ℕ). take size l ++ replicate (length l - size) 0) were)

pub invariant_of-result : goal.invariant_of-result
invariant_of-result g c = (still g c).sound

pub returns-clause-unit : goal.returns-clause-unit
returns-clause-unit g c = (still g c).same ∙ ap (λ (h : Holding). h.unit) c.self.view_is

pub returns-clause-tidy : goal.returns-clause-tidy
returns-clause-tidy g c = (still g c).tidy
