-- Under no chance a mended unit is the one that was written there.
use Rattle.{df_history.proofs.Laws.{history_pools}, df_damage.specs.Histories.{units_logs}, df_mirror.specs.Laws.{MendedWasWritten}}

pub mended_was_written : MendedWasWritten
mended_was_written file c shown second image logs m is shows chance = let there = chance.pooled m.place m.unit shows in
    (there, λ other y at. chance.distinct other m.place y m.unit at (history_pools (units_logs file logs) m.place m.unit there))
