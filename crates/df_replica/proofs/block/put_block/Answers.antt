-- The block that is made is valid at its address.
use Rattle.std.proofs.{Common.{◌≡◌, ◌∙◌, ℕ, List, Option, Some, sym, ap, subst}, lemmas.Option.{same_Some}}
use Rattle.df_layout.specs.{declared.layout.Layout.{Layout}, declared.places.Place.{Place}, declared.places.Zone.{Zone}, declared.places.Zone.TheVariants.{Grid}}
use Rattle.df_format.{specs.{declared.header.Header.{Header}, declared.kind.Kind.{Kind}, declared.kind.Kind.TheVariants.{Block}, Message.{Message}, Own.{named_elsewhere, named_place, place_in}, Valid.{IsUnit}}, proofs.Laws.{own_is}}
use Rattle.{df_buffers.specs.Sounds.{Holding, IsSound}, df_places.specs.Shelves.{HoldsMade}, df_replica.specs.Appending.{unit_made}}
use Rattle.df_replica.proofs.block.put_block.Goals as goal

its_place : (layout : Layout) (cluster : ℕ) (place : Place) (u : Message)
    → place.zone ≡ Grid → u.header.kind ≡ Block → IsUnit layout cluster place u → IsUnit layout cluster (place_in Grid u.header.op) u
its_place layout cluster place u here of_kind is = let named : Some (place_in Grid u.header.op) ≡ Some place =
    ap (λ (k : Kind). named_elsewhere k u.header) (sym of_kind)
    ∙ ap (λ (z : Zone). named_place z u.header) (sym here) ∙ (own_is layout place.zone u.header place is.own).named in
    subst (λ (p : Place). IsUnit layout cluster p u) (sym (same_Some _ _ named)) is

its_own : (layout : Layout) (h : Header) (body : List ℕ) (held : Option Holding) (unit : Holding)
    → held ≡ Some unit → HoldsMade layout h body held → IsSound Grid Block unit
    → IsUnit layout h.cluster (place_in Grid h.op) (unit_made h body)
its_own layout h body held unit same holds sound = let made = subst (HoldsMade layout h body) same holds in
    subst (λ (l : Layout). IsUnit l h.cluster (place_in Grid h.op) (unit_made h body)) made.layout_is
    (subst (λ (u : Message). IsUnit unit.layout u.header.cluster (place_in Grid u.header.op) u)
    made.unit (its_place unit.layout _ sound.place unit.unit sound.in_zone sound.of_kind sound.is))

header_made : (layout : Layout) (h : Header) (body : List ℕ) (held : Option Holding) (unit : Holding)
    → held ≡ Some unit → HoldsMade layout h body held → unit.unit.header ≡ (unit_made h body).header
header_made layout h body held unit same holds = ap (λ (u : Message). u.header) (subst (HoldsMade layout h body) same holds).unit

pub returns-in-Ok-clause-made : goal.returns-in-Ok-clause-made
returns-in-Ok-clause-made g c = let own = its_own c.args.room.now.layout
    c.args.header c.args.body.now _ c.unit-unit.result.now c.unit-unit.ensures c.make.ensures.made c.header-made.ensures.sound in record {
      header = c.header-made.ensures.header
          ∙ header_made _ c.args.header c.args.body.now _ c.unit-unit.result.now c.unit-unit.ensures c.make.ensures.made;
      own = subst (λ (l : Layout). IsUnit
          l c.args.header.cluster (place_in Grid c.args.header.op) (unit_made c.args.header c.args.body.now)) c.requires.may.room_is own;
    }

pub returns-in-Err-clause-made : goal.returns-in-Err-clause-made
returns-in-Err-clause-made g c = record {
  header = tt;
  own = subst (λ (l : Layout).
      IsUnit l c.args.header.cluster (place_in Grid c.args.header.op) (unit_made c.args.header c.args.body.now)) c.requires.may.room_is
      (its_own c.args.room.now.layout
      c.args.header c.args.body.now _ c.unit-unit.result.now c.unit-unit.ensures c.make.ensures.made c.header-made.ensures.sound);
}
