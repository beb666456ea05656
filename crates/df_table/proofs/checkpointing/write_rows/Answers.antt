-- The rows of the block are the body that is written.
use Rattle.{std.proofs.{Common.{ℕ, List, [], ◌∷◌, take, subst, arith}, lemmas.List.{length-take-le}}, df_model.specs.Commands.{WriteBlock}}
use Rattle.df_session.specs.Blocks.{next_block}
use Rattle.df_table.{specs.Calls.{Comes}, proofs.{Changed.{goes_or_ends}, Wrote.{may_put, wrote_one}}}
use Rattle.df_table.proofs.checkpointing.write_rows.Goals as goal

pub returns-clause-makes : goal.returns-clause-makes
returns-clause-makes g c = λ is free. let size = length-take-le
    c.put_block-size.result c.put_block-size.new.into (omega (arith, c.put_block-size.ensures.size, c.put_block-size.ensures.len)) in
    let may = may_put c.args.layout.now c.args.replica.now
    (take c.put_block-size.result c.put_block-size.new.into) is free (omega (arith, size, c.put_block-size.ensures.few)) in
    subst (λ (body : List ℕ). Comes (WriteBlock 1 body ∷ []) c.args.replica.now c.write.new.replica (g.D.Disk.told c.args.disk.now)
    (g.D.Disk.told c.write.new.disk) c.write.result) c.put_block-size.ensures.bytes (c.write.ensures.makes may)

pub returns-clause-wrote : goal.returns-clause-wrote
returns-clause-wrote g c = wrote_one c.args.replica.now c.write.new.replica
    (next_block c.args.replica.now 1 (take c.put_block-size.result c.put_block-size.new.into)).header c.write.result c.write.ensures.state

pub returns-clause-goes : goal.returns-clause-goes
returns-clause-goes g c =
    goes_or_ends c.write.result c.write.new.replica (g.D.Disk.told c.write.new.disk) c.write.ensures.live c.write.ensures.ends
