use Rattle.{std.proofs.Common.{◌∙◌, arith, rules}, df_trailer.proofs.Taken.{rest_more}}
use Rattle.df_trailer.proofs.reader.Reader.take_rest.Goals as goal

pub loop-byte-preserved : goal.loop-byte-preserved
loop-byte-preserved c = (
  omega (arith, c.take_byte.ensures.size, c.loop-byte.invariant.0),
  rest_more c.args.self.now
      c.loop-byte.self c.take_byte.new.self c.args.piece.now c.loop-byte.byte-index (omega arith) c.loop-byte.invariant.0 (search rules)
      (record { bits = c.take_byte.ensures.bits; bit = c.take_byte.ensures.bit; checks = c.take_byte.ensures.checks; check = c.take_byte.ensures.check }) c.loop-byte.invariant.1,
  c.take_byte.ensures.front ∙ c.loop-byte.invariant.2,
  c.take_byte.ensures.layout ∙ c.loop-byte.invariant.3,
  c.take_byte.ensures.op ∙ c.loop-byte.invariant.4,
)
