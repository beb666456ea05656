-- What is written is the prepare that was made in the room.
use Rattle.{std.proofs.Common.{◌∙◌, ap, subst, sym}, df_format.specs.Message.{Message}, df_headers.specs.Ring.{IsHeaderTable}}
use Rattle.{df_journal.specs.Below.{IsInOwnSlot}, df_replica.proofs.MadeUnits.{is_made}}
use Rattle.df_replica.proofs.append.append_in.Goals as goal

pub append-requires-clause-layout : goal.append-requires-clause-layout
append-requires-clause-layout g c = let rooms = c.args.rooms.now in
    (is_made rooms.prepare.layout c.args.header c.args.body.now _ c.unit-unit.result.now c.unit-unit.ensures c.make.ensures.made).layout_is
    ∙ rooms.prepare_fits ∙ c.requires.rooms.layout_is

pub append-requires-clause-table : goal.append-requires-clause-table
append-requires-clause-table g c = let rooms = c.args.rooms.now in
    let is = is_made rooms.prepare.layout c.args.header c.args.body.now _ c.unit-unit.result.now c.unit-unit.ensures c.make.ensures.made in
    subst (λ (u : Message). IsHeaderTable c.args.file.now.layout u.header.cluster rooms.headers) (sym is.unit) c.requires.rooms.table

pub returns-in-Ok-clause-made : goal.returns-in-Ok-clause-made
returns-in-Ok-clause-made g c = let rooms = c.args.rooms.now in
    let is = is_made rooms.prepare.layout c.args.header c.args.body.now _ c.unit-unit.result.now c.unit-unit.ensures c.make.ensures.made in
    record { header = c.header-made.ensures.header ∙ ap (λ (u : Message). u.header) is.unit; own = subst (IsInOwnSlot c.args.file.now.layout) is.unit c.append.ensures.own }

pub returns-in-Err-clause-made : goal.returns-in-Err-clause-made
returns-in-Err-clause-made g c = let rooms = c.args.rooms.now in
    let is = is_made rooms.prepare.layout c.args.header c.args.body.now _ c.unit-unit.result.now c.unit-unit.ensures c.make.ensures.made in
    record { header = tt; own = subst (IsInOwnSlot c.args.file.now.layout) is.unit c.append.ensures.own }
