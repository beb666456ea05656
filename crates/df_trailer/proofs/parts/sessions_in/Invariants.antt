use Rattle.{std.proofs.Common.{◌≡◌, map}, arrayvec.specs.ArrayVec.{array_vec_len}}
use Rattle.df_trailer.specs.{Rooms.{without_reply}, Text.{read_sessions}}
use Rattle.df_trailer.proofs.parts.sessions_in.Given as goal

abbrev pub invariant-loop-place : goal.invariant-loop-place
invariant-loop-place l = (array_vec_len l.sessions ≡ l.place) × (l.sessions.items ≡ map without_reply (read_sessions l.place l.from l.head))
