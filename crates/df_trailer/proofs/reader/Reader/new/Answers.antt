use Rattle.std.proofs.Common.{◌+◌, ◌/◌, refl, arith}
use Rattle.df_trailer.{specs.Rooms.{byte_in_words}, proofs.{Kept.{nothing_kept}, Blocks.{length_listed}}}
use Rattle.df_trailer.proofs.reader.Reader.new.Goals as goal

pub returns-clause-fresh : goal.returns-clause-fresh
returns-clause-fresh c = record {
  of_layout = refl;
  of_op = refl;
  kept = nothing_kept
      _ c.new.result.head.items _ c.new.ensures (length_listed (byte_in_words c.args.parts.bits.items) ((c.args.layout.blocks + 7) / 8));
  checks = λ i inside within. absurd (omega arith);
}
