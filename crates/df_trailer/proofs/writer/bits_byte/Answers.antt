use Rattle.std.proofs.{Common.{◌+◌, ◌*◌, ◌<◌, ℕ, ap, sym, arith}, lemmas.Nat.Bits.{bit_at-lt}}
use Rattle.df_trailer.{specs.Writing.{captured_bits}, proofs.BitBytes.{byte_more, shifted}}
use Rattle.df_trailer.proofs.writer.bits_byte.Goals as goal

pub loop-bit-preserved : goal.loop-bit-preserved
loop-bit-preserved g c = let x : ℕ = captured_bits (g.G.CapturedBlocks.captured c.args.grid.now) c.args.blocks in
    let small : c.bit_of-one.result < 2 = rw (sym c.bit_of-one.ensures) at (bit_at-lt x (8 * c.args.number + c.loop-bit.bit)) in
    byte_more x c.args.number c.loop-bit.bit c.loop-bit.byte _ c.bit_of-one.result c.loop-bit.invariant c.bit_of-one.ensures
    (ap (λ (s : ℕ). c.loop-bit.byte + s) (shifted c.loop-bit.bit c.bit_of-one.result small (omega arith)))
