use Rattle.std.proofs.{Common.{◌∙◌}, lemmas.List.{take_at, drop_at, length-take-le}}
use Rattle.df_format.proofs.make.put_header.Goals as goal

pub returns-clause-front : goal.returns-clause-front
returns-clause-front c = let size = c.encode_header.auto.into ∙ length-take-le 256 c.args.into.now c.requires.room in
    take_at c.encode_header.new.into _ 256 size ∙ c.encode_header.ensures

pub returns-clause-rest : goal.returns-clause-rest
returns-clause-rest c = let size = c.encode_header.auto.into ∙ length-take-le 256 c.args.into.now c.requires.room in
    drop_at c.encode_header.new.into _ 256 size
