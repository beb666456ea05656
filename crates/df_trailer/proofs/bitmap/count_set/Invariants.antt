use Rattle.{std.proofs.Common.{◌≡◌, ◌≤◌, ◌+◌, ◌/◌}, df_trailer.specs.{Rooms.{bits_in_words}, Text.{bits_of, ones}}}
use Rattle.df_trailer.proofs.bitmap.count_set.Given as goal

abbrev pub invariant-loop-place : goal.invariant-loop-place
invariant-loop-place l = (l.count ≡ ones (bits_of l.place (bits_in_words ((l.blocks + 7) / 8) l.words))) × (l.count ≤ l.place)
