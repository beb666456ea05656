-- The step is the machine's.
use Rattle.{std.proofs.Common.{ap}, df_opening.specs.Below.{State}, df_replica.proofs.BlockSteps.{block_fault_serves, block_serves}}
use Rattle.df_replica.proofs.replica.Replica.trailer_step.Goals as goal

pub returns-in-Ok-clause-call : goal.returns-in-Ok-clause-call
returns-in-Ok-clause-call g c = block_serves c.args.self.now
    c.requires.state c.requires.live c.requires.may.some c.write_trailer_block.ensures.unit c.write_trailer_block.ensures.steps
    c.write_trailer_block.new.self c.args.left (g.D.Disk.told c.args.disk.now)
    (g.D.Disk.told c.write_trailer_block.new.disk) c.requires.left c.in-Ok.ensures.written c.in-Ok.ensures.events

pub returns-in-Err-clause-call : goal.returns-in-Err-clause-call
returns-in-Err-clause-call g c = block_fault_serves c.args.self.now
    c.requires.state c.requires.live c.requires.may.some c.write_trailer_block.ensures.unit c.write_trailer_block.ensures.steps
    c.stop.new.self (g.D.Disk.told c.args.disk.now)
    (g.D.Disk.told c.write_trailer_block.new.disk) (ap (λ (s : State). s.live) c.stop.ensures) c.in-Err.ensures.events
