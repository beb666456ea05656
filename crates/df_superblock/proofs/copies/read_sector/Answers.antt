use Rattle.{std.proofs.Common.{◌∙◌}, df_superblock.proofs.Verdicts.{read_shows}}
use Rattle.df_superblock.proofs.copies.read_sector.Goals as goal

pub returns-clause-bytes : goal.returns-clause-bytes
returns-clause-bytes g c = read_shows
    _ c.from.result c.args.number c.read.new.into c.read.result c.from.ensures (c.read.auto.into ∙ c.requires.size) c.read.ensures.bytes
