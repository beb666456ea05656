-- An interrupted read consumes nothing.
use Rattle.std.{proofs.Common.{◌≡◌, length}, specs.Io.KnownBytes.{Keeps}}
use Rattle.df_base.proofs.adapters.read_some.Given as goal

abbrev pub invariant-loop : goal.invariant-loop
invariant-loop g l = (length l.into ≡ length l.initial.into) × Keeps (g.R.Read.remaining l.initial.reader) (g.R.Read.remaining l.reader)
