use Rattle.{std.proofs.Common.{◌≡◌, ◌/◌, ◌%◌, ◌^◌}, df_trailer.specs.Writing.{captured_bits}}
use Rattle.df_trailer.proofs.writer.bits_byte.Given as goal

abbrev pub invariant-loop-bit : goal.invariant-loop-bit
invariant-loop-bit g l = l.byte ≡ captured_bits (g.G.CapturedBlocks.captured l.grid) l.blocks / 256 ^ l.number % 2 ^ l.bit
