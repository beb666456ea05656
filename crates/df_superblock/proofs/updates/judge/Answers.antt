use Rattle.df_superblock.proofs.Verdicts.{enough_from}
use Rattle.df_superblock.proofs.updates.judge.Goals as goal

pub returns-in-None-first_missing : goal.returns-in-None-first_missing
returns-in-None-first_missing c =
    enough_from c.args.slots.now c.args.content.now c.in-Some.first c.in-Some.ensures.some c.in-None-first_missing.ensures.none
