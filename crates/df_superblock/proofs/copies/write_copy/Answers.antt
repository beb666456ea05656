use Rattle.df_superblock.proofs.Stepped.{write_is_steps}
use Rattle.df_superblock.proofs.copies.write_copy.Goals as goal

pub returns-clause-steps : goal.returns-clause-steps
returns-clause-steps g c = write_is_steps c.args.number c.args.content.now c.requires c.encode_copy.ensures.usable
