use Rattle.std.{proofs.Common.{◌≡◌, ◌<◌, ◌++◌, take}, specs.Prelude.{decimal}}
use Rattle.df_lines.proofs.number.number_from.Given as goal

abbrev pub invariant-loop-byte : goal.invariant-loop-byte
invariant-loop-byte l = (0 < l.value) × (decimal l.front ++ take l.byte-index l.digits ≡ decimal l.value)
