-- The headers so far stand one after the other.
use Rattle.{std.proofs.Common.{◌≡◌, ◌≤◌, ◌*◌, ◌-◌, length, take}, df_format.specs.UnitLaws.{headers_bytes}}
use Rattle.df_headers.proofs.sectors.put_all.Given as goal

abbrev pub invariant-loop-i : goal.invariant-loop-i
invariant-loop-i l = record {
  size : length l.bytes ≡ 4096;
  within : l.i ≤ 16;
  front : take (256 * l.i) l.bytes ≡ headers_bytes (take l.i l.headers);
}

abbrev pub decreases-loop-i : goal.decreases-loop-i
decreases-loop-i l = 16 - l.i
