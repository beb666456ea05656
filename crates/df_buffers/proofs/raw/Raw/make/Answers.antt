use Rattle.std.{proofs.Common.{◌≡◌, ◌≤◌, ◌+◌, ◌++◌, ℕ, List, length, take, drop, sym, ◌∙◌, ap, subst, arith}, specs.Prelude.{IsSome}}
use Rattle.df_layout.specs.declared.layout.Layout.{Layout}
use Rattle.df_format.specs.{declared.header.Header.{Header}, Message.{Message, sectors_end, sectors_of}, Whole.{greatest_size}, Own.{own_place}, UnitLaws.{MadeIsUnit}}
use Rattle.df_buffers.{specs.Rooms.{Room, FillsRoom}, proofs.{Finds.{is_no_ring}, Making.{IsMade, made_in, made_fits, put_back}, raw.Raw.make.Given.{Over}}}
use Rattle.df_buffers.proofs.raw.Raw.make.Goals as goal

pub make_unit-made-requires-clause-room : goal.make_unit-made-requires-clause-room
make_unit-made-requires-clause-room g c = let same = ap (λ (r : Room). r.layout) c.self.view_is in
    let fits = subst (λ (l : Layout). 256 + length c.args.body.now ≤ greatest_size l g.K.RoomKind.ZONE) (sym same) c.requires.fits in
    let room = made_fits g.K.RoomKind.ZONE c.self.inside.layout _ (is_no_ring _ _ g.met.K.UnitKind.stands) fits in
    omega (arith, room.1, ap (λ (l : List ℕ). length l) c.deref_mut.ensures.value, c.self.invariant)

-- the bytes of the room are those that were made
bytes_are : (g : Over) (c : goal.After-result-1 g) → take c.self.inside.bytes.len
    (c.make_unit-made.new.into ++ drop (length c.make_unit-made.new.into) c.self.inside.bytes.items) ≡ c.make_unit-made.new.into
bytes_are g c = put_back _ _ _ (c.make_unit-made.auto.into ∙ c.deref_mut.ensures.len)

sectors_are : (g : Over) (c : goal.After-result-1 g) → take (sectors_end (256 + length c.args.body.now))
    (take c.self.inside.bytes.len (c.make_unit-made.new.into ++ drop (length c.make_unit-made.new.into) c.self.inside.bytes.items))
    ≡ sectors_of (record { header = c.make_unit-made.result.header; body = c.args.body.now })
sectors_are g c = (λ i. take (sym c.make_unit-made.ensures.length i) (bytes_are g c i)) ∙ c.make_unit-made.ensures.sectors

fills : (g : Over) (c : goal.After-result-1 g) → FillsRoom c.self.inside.layout g.K.RoomKind.ZONE
    (take c.self.inside.bytes.len (c.make_unit-made.new.into ++ drop (length c.make_unit-made.new.into) c.self.inside.bytes.items))
fills g c = ap (λ (l : List ℕ). length l) (bytes_are g c)
    ∙ c.make_unit-made.auto.into ∙ ap (λ (l : List ℕ). length l) c.deref_mut.ensures.value ∙ c.self.invariant

made : (g : Over) (c : goal.After-result-1 g) → IsMade g.K.RoomKind.ZONE g.K.UnitKind.KIND c.self.inside.layout
    (take c.self.inside.bytes.len (c.make_unit-made.new.into ++ drop (length c.make_unit-made.new.into) c.self.inside.bytes.items))
    (record { header = c.make_unit-made.result.header; body = c.args.body.now })
made g c = let same = ap (λ (r : Room). r.layout) c.self.view_is in
    let fits = subst (λ (l : Layout). 256 + length c.args.body.now ≤ greatest_size l g.K.RoomKind.ZONE) (sym same) c.requires.fits in
    let own = subst (λ (l : Layout). IsSome (own_place l g.K.RoomKind.ZONE c.args.header)) (sym same) c.requires.own in
    made_in _ _ _ c.args.header _ _ _ (fills g c)
    g.met.K.UnitKind.stands c.requires.kind own fits c.make_unit-made.ensures.header c.make_unit-made.ensures.unit (sectors_are g c)

pub invariant_of-result : goal.invariant_of-result
invariant_of-result g c = (made g c).sound

pub returns-clause-unit : goal.returns-clause-unit
returns-clause-unit g c = (made g c).unit ∙ ap (λ (h : Header). record { header = h; body = c.args.body.now }) c.make_unit-made.ensures.header

pub returns-clause-valid : goal.returns-clause-valid
returns-clause-valid g c = subst (λ (u : Message). MadeIsUnit u) (sym (made g c).unit) c.make_unit-made.ensures.unit

pub returns-clause-sectors : goal.returns-clause-sectors
returns-clause-sectors g c = sectors_are g c ∙ ap (λ (u : Message). sectors_of u) (sym (made g c).unit)
