-- A sound prepare stands in its own slot, and its sectors bring it there.
use Rattle.{std.proofs.Common.{refl}, df_layout.specs.declared.places.Zone.TheVariants.{WalPrepares}, df_places.proofs.Laws.{write_brings}}
use Rattle.df_prepares.{specs.Slots.{slot_place}, proofs.Own.{in_place}}
use Rattle.df_prepares.proofs.slot.stands_in_slot.Goals as goal

pub returns-clause-own : goal.returns-clause-own
returns-clause-own c = in_place c.args.layout.now c.args.unit.now c.header-header.ensures.sound c.requires.layout

pub returns-clause-brings : goal.returns-clause-brings
returns-clause-brings c =
    write_brings WalPrepares c.args.layout.now (slot_place c.args.unit.now.unit.header.slot)
    c.args.unit.now _ c.requires.layout refl (in_place c.args.layout.now c.args.unit.now c.header-header.ensures.sound c.requires.layout)
    c.sectors-sectors.ensures.value c.sectors-sectors.ensures.brings
