use Rattle.{std.proofs.Common.{rules}, df_format.proofs.Checks.{checks_are}}
use Rattle.df_format.proofs.super_codec.checks_of.Goals as goal

pub returns : goal.returns
returns c = checks_are c.loop-place.checks 64 192 c.args.bytes.now c.loop-place.invariant.0 (search rules)
