-- The address of each link is one of the chain, so it has a bit.
use Rattle.{std.proofs.Common.{arith, [], get_or}, df_checkpoint.proofs.Referenced.{link_among}}
use Rattle.df_checkpoint.proofs.adopting.first_referenced.Goals as goal

pub refers-requires : goal.refers-requires
refers-requires c =
    record { inside = c.requires.bits (get_or c.args.blocks.now c.loop-link.link-index record { address = 0; checksum = [] }).address (link_among c.args.blocks.now c.loop-link.link-index (record { address = 0; checksum = [] }) (omega (arith, c.loop-link-test.true))) }
