-- Its entry was unmarked.
use Rattle.{std.proofs.{Common.{◌-◌, true, set, refl, ap, ◌∙◌, arith}, lemmas.List.{length-set}}, df_units.specs.Meaning.{number_of}}
use Rattle.df_model.specs.Blocks.{block_written, is_held_in}
use Rattle.df_grid.{specs.Table.{TableState, blocks_in}, proofs.{Groups.{counts_kept}, Keeping.{unheld_entry}, Moves.{live_blocks, live_kept}, Views.{viewed}}}
use Rattle.df_grid.proofs.table.Table.put_live.Goals as goal

pub invariant_of-self : goal.invariant_of-self
invariant_of-self c = let s = c.self.inside in
    let un = unheld_entry s.entries s.free s.written.items s.left.items s.chain.items c.self.invariant.0 c.args.address (c.args.address - 1) c.get.result (omega (arith, c.requires.inside.0)) c.get.ensures (ap (λ (v : TableState). is_held_in v.blocks c.args.address) c.self.view_is ∙ c.requires.free) in
    rw (c.replace.ensures.entries, c.replace.ensures.free) (live_kept s.entries s.free s.written.items s.left.items s.chain.items c.self.invariant.0 c.args.address (c.args.address - 1) c.get.result (omega (arith, c.requires.inside.0)) c.get.ensures un.0 c.args.checksum un.1, counts_kept s.entries s.left.items s.counts.items c.self.invariant.1 (c.args.address - 1) _ c.get.result c.get.ensures refl s.left.items (λ some. some))

pub returns : goal.returns
returns c = let s = c.self.inside in
    let un = unheld_entry s.entries s.free s.written.items s.left.items s.chain.items c.self.invariant.0 c.args.address (c.args.address - 1) c.get.result (omega (arith, c.requires.inside.0)) c.get.ensures (ap (λ (v : TableState). is_held_in v.blocks c.args.address) c.self.view_is ∙ c.requires.free) in
    rw (← c.self.view_is, c.replace.ensures.entries)
    (viewed s.entries (set s.entries (c.args.address - 1) (record c.get.result { checksum = c.args.checksum; live = true })) s.written.items s.left.items s.chain.items (block_written (blocks_in s.entries s.written.items s.left.items s.chain.items) c.args.address (number_of c.args.checksum))
    (length-set s.entries (c.args.address - 1) (record c.get.result { checksum = c.args.checksum; live = true })) (live_blocks s.entries s.free s.written.items s.left.items s.chain.items c.self.invariant.0 c.args.address (c.args.address - 1) c.get.result (omega (arith, c.requires.inside.0)) c.get.ensures un.0 c.args.checksum))
