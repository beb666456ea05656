use Rattle.std.proofs.{Common.{arith, ◌-◌, drop, ◌∙◌}, lemmas.List.{length-take-le, length-drop}, lemmas.Slice.{drop-put_mid}}
use Rattle.df_format.proofs.codec.put_zeros.Goals as goal

pub returns-clause-rest : goal.returns-clause-rest
returns-clause-rest c = let size = c.fill.auto.self
    ∙ length-take-le (c.args.end - c.args.at) (drop c.args.at c.args.into.now) (omega (arith, length-drop c.args.at c.args.into.now)) in
    drop-put_mid c.args.at (c.args.end - c.args.at) c.args.into.now c.fill.new.self c.args.end (omega arith) (omega arith) size
