-- Those that were passed are copied.
use Rattle.{std.proofs.Common.{◌≡◌, take}, arrayvec.specs.ArrayVec.{array_vec_len}}
use Rattle.df_sessions.proofs.table.SessionTable.copied.Given as goal

abbrev pub invariant-loop-session : goal.invariant-loop-session
invariant-loop-session l = record {
  items : l.sessions.items ≡ take l.session-index l.session-items;
  len : array_vec_len l.sessions ≡ l.session-index;
}
