-- The room is sound, with the unit of the header and the body.
use Rattle.std.{proofs.Common.{◌≡◌, ◌≤◌, ◌+◌, ◌++◌, ℕ, List, length, take, drop, sym, ◌∙◌, ap, subst, arith}, specs.Prelude.{IsSome}}
use Rattle.{df_base.specs.Fields.{check_of}, df_layout.specs.declared.layout.Layout.{Layout}}
use Rattle.df_format.specs.{declared.header.Header.{Header}, Making.{for_body}, Message.{Message, sectors_end, sectors_of}, Own.{own_place}, Spelling.{sealed}, UnitLaws.{MadeIsUnit}, Whole.{greatest_size}}
use Rattle.df_buffers.{specs.{Fillings.{Filling}, Rooms.{FillsRoom}}, proofs.{Bodies.{filled_has}, Finds.{is_no_ring}, Making.{IsMade, made_in, put_back}, filled.Filled.seal.Given.{Over}}}
use Rattle.df_buffers.proofs.filled.Filled.seal.Goals as goal

pub seal_summed-made-requires-clause-room : goal.seal_summed-made-requires-clause-room
seal_summed-made-requires-clause-room g c =
    let has = filled_has g.K.RoomKind.ZONE _ _ _ _ (is_no_ring _ _ g.met.K.UnitKind.stands) c.self.invariant in
    omega (arith, has.sectors, ap (λ (l : List ℕ). length l) c.deref_mut.ensures.value)

pub seal_summed-made-requires-clause-sum : goal.seal_summed-made-requires-clause-sum
seal_summed-made-requires-clause-sum g c =
    c.self.invariant.summed ∙ ap (λ (l : List ℕ). check_of (take c.self.inside.count (drop 256 l))) (sym c.deref_mut.ensures.value)

-- the body that is sealed is the one that is seen
body_is : (g : Over) (c : goal.After-result-1 g) → take c.self.inside.count (drop 256 c.deref_mut.result.now) ≡ c.args.self.body
body_is g c = ap (λ (l : List ℕ). take c.self.inside.count (drop 256 l)) c.deref_mut.ensures.value ∙ ap (λ (f : Filling). f.body) c.self.view_is

size_is : (g : Over) (c : goal.After-result-1 g) → length c.args.self.body ≡ c.self.inside.count
size_is g c = sym (ap (λ (f : Filling). length f.body) c.self.view_is)
    ∙ (filled_has g.K.RoomKind.ZONE _ _ _ _ (is_no_ring _ _ g.met.K.UnitKind.stands) c.self.invariant).size

-- the bytes of the room are those that were made
bytes_are : (g : Over) (c : goal.After-result-1 g) → take c.self.inside.bytes.len
    (c.seal_summed-made.new.into ++ drop (length c.seal_summed-made.new.into) c.self.inside.bytes.items) ≡ c.seal_summed-made.new.into
bytes_are g c = put_back _ _ _ (c.seal_summed-made.auto.into ∙ c.deref_mut.ensures.len)

fills : (g : Over) (c : goal.After-result-1 g) → FillsRoom c.self.inside.layout g.K.RoomKind.ZONE
    (take c.self.inside.bytes.len (c.seal_summed-made.new.into ++ drop (length c.seal_summed-made.new.into) c.self.inside.bytes.items))
fills g c = ap (λ (l : List ℕ). length l) (bytes_are g c)
    ∙ c.seal_summed-made.auto.into ∙ ap (λ (l : List ℕ). length l) c.deref_mut.ensures.value ∙ c.self.invariant.fills

sectors_are : (g : Over) (c : goal.After-result-1 g) → take (sectors_end (256 + length c.args.self.body))
    (take c.self.inside.bytes.len (c.seal_summed-made.new.into ++ drop (length c.seal_summed-made.new.into) c.self.inside.bytes.items))
    ≡ sectors_of (record { header = c.seal_summed-made.result.header; body = c.args.self.body })
sectors_are g c = (λ i. take (sectors_end (256 + size_is g c i)) (bytes_are g c i))
    ∙ (λ i. take (sym c.seal_summed-made.ensures.length i) c.seal_summed-made.new.into) ∙ c.seal_summed-made.ensures.sectors
    ∙ ap (λ (l : List ℕ). sectors_of (record { header = c.seal_summed-made.result.header; body = l })) (body_is g c)

header_is : (g : Over) (c : goal.After-result-1 g) → c.seal_summed-made.result.header ≡ sealed (for_body c.args.header c.args.self.body)
header_is g c = c.seal_summed-made.ensures.header ∙ ap (λ (l : List ℕ). sealed (for_body c.args.header l)) (body_is g c)

unit_is : (g : Over) (c : goal.After-result-1 g) → MadeIsUnit (record { header = c.seal_summed-made.result.header; body = c.args.self.body })
unit_is g c = subst (λ (l : List ℕ).
    MadeIsUnit (record { header = c.seal_summed-made.result.header; body = l })) (body_is g c) c.seal_summed-made.ensures.unit

made : (g : Over) (c : goal.After-result-1 g) → IsMade g.K.RoomKind.ZONE g.K.UnitKind.KIND c.self.inside.layout
    (take c.self.inside.bytes.len (c.seal_summed-made.new.into ++ drop (length c.seal_summed-made.new.into) c.self.inside.bytes.items))
    (record { header = c.seal_summed-made.result.header; body = c.args.self.body })
made g c = let own = subst (λ (l : Layout).
    IsSome (own_place l g.K.RoomKind.ZONE c.args.header)) (sym (ap (λ (f : Filling). f.layout) c.self.view_is)) c.requires.own in
    let fits = subst (λ (n : ℕ). 256 + n ≤ greatest_size c.self.inside.layout g.K.RoomKind.ZONE) (sym (size_is g c)) c.self.invariant.fits in
    made_in _ _ _ c.args.header c.seal_summed-made.result.header
    c.args.self.body _ (fills g c) g.met.K.UnitKind.stands c.requires.kind own fits (header_is g c) (unit_is g c) (sectors_are g c)

pub invariant_of-result : goal.invariant_of-result
invariant_of-result g c = (made g c).sound

pub returns-clause-unit : goal.returns-clause-unit
returns-clause-unit g c = (made g c).unit ∙ ap (λ (h : Header). record { header = h; body = c.args.self.body }) (header_is g c)

pub returns-clause-valid : goal.returns-clause-valid
returns-clause-valid g c = subst (λ (u : Message). MadeIsUnit u) (sym (made g c).unit) (unit_is g c)

pub returns-clause-sectors : goal.returns-clause-sectors
returns-clause-sectors g c = sectors_are g c ∙ ap (λ (u : Message). sectors_of u) (sym (made g c).unit)
