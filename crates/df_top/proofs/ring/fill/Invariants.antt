-- The places before this one were read.
use Rattle.{std.proofs.Common.{◌≡◌, ◌≤◌, ◌<◌, ◌-◌, Option, Some, length, take}, df_disk.specs.Told.{Told}}
use Rattle.{df_model.specs.Commands.{Recent, ToRecent}, df_session.specs.Answering.{Serves}}
use Rattle.df_top.proofs.ring.fill.Given as goal

abbrev pub invariant-loop-place : goal.invariant-loop-place
invariant-loop-place l = record {
  within : l.place ≤ 64;
  few : l.count ≤ l.place;
  room : length l.row ≡ 64;
  so_far : take l.count l.row ≡ take l.place l.replica.findings;
  ring : 0 < l.place → length l.replica.findings ≤ 64;
  call : 0 < l.place → (told : Option Told) → Serves Recent l.replica l.replica told told (Some (ToRecent l.replica.findings));
}

abbrev pub decreases-loop-place : goal.decreases-loop-place
decreases-loop-place l = 64 - l.place
