use Rattle.{std.proofs.Common.{◌≡◌, take, drop}, arrayvec.specs.ArrayVec.{array_vec_len}}
use Rattle.df_trailer.proofs.parts.root_in.Given as goal

abbrev pub invariant-loop-place : goal.invariant-loop-place
invariant-loop-place l = (array_vec_len l.root ≡ l.place) × (l.root.items ≡ take l.place (drop 4 l.head))
