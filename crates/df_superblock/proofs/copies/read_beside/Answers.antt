use Rattle.{std.proofs.Common.{◌∙◌, ap, length}, df_superblock.proofs.Verdicts.{room_is_sector, shows_slot, whole_room}}
use Rattle.df_superblock.proofs.copies.read_beside.Goals as goal

pub returns-clause-shown : goal.returns-clause-shown
returns-clause-shown g c =
    shows_slot _ c.args.number c.read_sector.new.into _ c.slot_beside.result c.in_ok-read_sector.ensures.bytes (whole_room
    c.read_sector.new.into c.args.room.now.bytes (c.read_sector.auto.into ∙ ap length c.bytes_mut.ensures.value)) c.slot_beside.ensures

pub read_sector-requires : goal.read_sector-requires
read_sector-requires g c = record { size = room_is_sector _ _ c.bytes_mut.ensures.size }
