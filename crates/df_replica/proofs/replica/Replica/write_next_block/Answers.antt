-- The state after a block that is written makes sense.
use Rattle.{df_model.specs.Blocks.{block_written, with_entry}, df_units.specs.Meaning.{number_of}, df_grid.specs.Grid.{GridState}}
use Rattle.df_opening.specs.Below.{FitsGrid, IsState, state_in}
use Rattle.df_replica.{specs.Appending.{unit_made}, proofs.BlockStates.{either_grid, live_state}}
use Rattle.df_replica.proofs.replica.Replica.write_next_block.Goals as goal

pub invariant_of-self : goal.invariant_of-self
invariant_of-self g c = let s = c.self.inside.parts in let old = c.self.invariant in
    let h = (unit_made c.block_given-header.result c.args.body.now).header in
    let either : IsState (record (state_in s) { blocks = c.put_block.new.grid.blocks; boot = c.put_block.new.grid.boot })
    × FitsGrid s.file c.put_block.new.grid.layout c.put_block.new.grid.cluster =
    either_grid c.put_block.result s.grid c.put_block.new.grid
    (block_written s.grid.blocks c.block_given-header.result.op (number_of h.checksum)) c.put_block.ensures.live c.put_block.ensures.failed
    (λ (x : GridState). IsState (record (state_in s) { blocks = x.blocks; boot = x.boot }) × FitsGrid s.file x.layout x.cluster)
    (live_state (state_in s) (with_entry c.block_given-header.result.op (number_of h.checksum) s.grid.blocks.live) old.state, old.grid)
    (old.state, old.grid) in record {
      state = either.0;
      rooms = old.rooms;
      grid = either.1;
    }
