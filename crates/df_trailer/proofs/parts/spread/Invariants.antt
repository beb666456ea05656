use Rattle.{std.proofs.Common.{◌+◌, ◌/◌}, df_trailer.{specs.Rooms.{bits_in_words}, proofs.Spread.{IsSpread}}}
use Rattle.df_trailer.proofs.parts.spread.Given as goal

abbrev pub invariant-loop-place : goal.invariant-loop-place
invariant-loop-place l = IsSpread (bits_in_words ((l.blocks + 7) / 8) l.bits) l.blocks l.fn.checks l.checks l.rank l.place
