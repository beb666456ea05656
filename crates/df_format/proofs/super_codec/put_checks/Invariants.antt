-- The checksums before this place stand one after the other.
use Rattle.{std.proofs.Common.{◌≡◌, ◌≤◌, ◌+◌, ◌-◌, ◌*◌, ◌++◌, length, take}, df_format.specs.Super.{checks_bytes}}
use Rattle.df_format.proofs.super_codec.put_checks.Given as goal

abbrev pub invariant-loop-place : goal.invariant-loop-place
invariant-loop-place l = record {
  within : l.place ≤ 64;
  size : length l.into ≡ 4096;
  front : take (192 + 16 * l.place) l.into ≡ take 192 l.initial.into ++ checks_bytes (take l.place l.checks);
}

abbrev pub decreases-loop-place : goal.decreases-loop-place
decreases-loop-place l = 64 - l.place
