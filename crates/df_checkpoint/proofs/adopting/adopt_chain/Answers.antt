-- Each block of the chain is adopted at a free address.
use Rattle.{std.proofs.Common.{◌-◌, length, arith}, df_format.specs.declared.reference.Reference.{Reference}, df_grid.specs.Grid.{IsUnheld}}
use Rattle.df_checkpoint.proofs.{Adopted.{chain_next}, Fed.{apart_inside}}
use Rattle.df_checkpoint.proofs.adopting.adopt_chain.Goals as goal

pub adopt-requires-clause-free : goal.adopt-requires-clause-free
adopt-requires-clause-free c = rw c.reference.ensures (chain_next c.args.grid.now c.loop-done.grid c.args.blocks.now c.loop-done.done
    c.link_after.result c.requires.apart c.loop-done-test.true c.link_after.ensures c.loop-done.invariant c.requires.none c.requires.free
    (apart_inside c.args.grid.now c.args.blocks.now (length c.args.blocks.now - 1 - c.loop-done.done)
    c.link_after.result c.requires.apart (omega (arith, c.loop-done-test)) c.link_after.ensures))
