use Rattle.df_superblock.proofs.Verdicts.{sound_slot}
use Rattle.df_superblock.proofs.copies.slot_beside.Goals as goal

pub copy_beside-requires-clause-sound : goal.copy_beside-requires-clause-sound
copy_beside-requires-clause-sound c =
    sound_slot 0 c.args.first_room.now.bytes c.args.first.now c.in-Sound.field-0 c.in-Sound.is c.requires.first
