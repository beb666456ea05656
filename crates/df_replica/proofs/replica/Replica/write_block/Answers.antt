-- What isn't refused may be written next, and each call is the machine's.
use Rattle.{std.proofs.Common.{Err, refl, sym, ap, ◌∙◌}, df_format.specs.declared.reference.Reference.{Reference}}
use Rattle.df_model.specs.{Commands.{WriteBlock}, Faults.{is_block_fault}, Refusals.{block_refusals, first_refusal}}
use Rattle.df_opening.specs.Below.{State, memory}
use Rattle.df_replica.{specs.{Answering.{answer_of, as_write_block}, Blocks.{block_events, next_block}}, proofs.{BlockAnswers.{fault_serves, refusal_serves, written_serves}, BlockStates.{address_given, refusal_given}, Owns.{all_own, part_own, refused_own}}}
use Rattle.df_replica.proofs.replica.Replica.write_block.Goals as goal

pub returns-in-Err-clause-call : goal.returns-in-Err-clause-call
returns-in-Err-clause-call g c =
    refusal_serves c.args.self.now c.args.kind c.args.body.now c.address_for.ensures.state c.requires.live c.in-Err.error
    (refusal_given _ _ c.in-Err.error (sym c.in-Err.is ∙ c.address_for.ensures.why c.args.body.now refl)) (g.D.Disk.told c.args.disk.now)

pub returns-in-Ok-write_next_block-clause-call : goal.returns-in-Ok-write_next_block-clause-call
returns-in-Ok-write_next_block-clause-call g c =
    let here = address_given _ _ c.in-Ok.address (sym c.in-Ok.is ∙ c.address_for.ensures.why c.args.body.now refl) in
    let done = c.in-Ok-write_next_block.ensures in
    let r : Reference = record { address = c.in-Ok.address; checksum = c.in-Ok-write_next_block.made.checksum } in
    written_serves c.args.self.now c.args.kind c.args.body.now c.address_for.ensures.state c.requires.live here.0 c.write_next_block.ensures.made.own c.write_next_block.new.self r (g.D.Disk.told c.args.disk.now) (g.D.Disk.told c.write_next_block.new.disk)
    (λ i. record { address = here.1 i; checksum = (done.made.header i).checksum }) done.live done.events

pub returns-in-Err-write_next_block-clause-call : goal.returns-in-Err-write_next_block-clause-call
returns-in-Err-write_next_block-clause-call g c =
    let here = address_given _ _ c.in-Ok.address (sym c.in-Ok.is ∙ c.address_for.ensures.why c.args.body.now refl) in
    fault_serves c.args.self.now c.args.kind c.args.body.now
    c.address_for.ensures.state c.requires.live here.0 c.write_next_block.ensures.made.own c.stop.new.self (g.D.Disk.told c.args.disk.now)
    (g.D.Disk.told c.write_next_block.new.disk) (ap (λ (s : State). s.live) c.stop.ensures) c.in-Err-write_next_block.ensures.events

pub returns-in-Err-clause-own : goal.returns-in-Err-clause-own
returns-in-Err-clause-own g c = let s = c.args.self.now in
    refused_own (WriteBlock c.args.kind c.args.body.now)
    s (g.D.Disk.told c.args.disk.now) (answer_of is_block_fault as_write_block (Err c.in-Err.error))
    (block_events s (next_block s c.args.kind c.args.body.now)) (first_refusal (block_refusals (memory s) c.args.kind c.args.body.now))
    c.in-Err.error refl (refusal_given _ _ c.in-Err.error (sym c.in-Err.is ∙ c.address_for.ensures.why c.args.body.now refl))

pub returns-in-Ok-write_next_block-clause-own : goal.returns-in-Ok-write_next_block-clause-own
returns-in-Ok-write_next_block-clause-own g c = let s = c.args.self.now in
    all_own (block_events s (next_block s c.args.kind c.args.body.now)) (g.D.Disk.told c.args.disk.now)
    (g.D.Disk.told c.write_next_block.new.disk) (first_refusal (block_refusals (memory s) c.args.kind c.args.body.now))
    (address_given _ _ c.in-Ok.address (sym c.in-Ok.is ∙ c.address_for.ensures.why c.args.body.now refl)).0
    c.in-Ok-write_next_block.ensures.events

pub returns-in-Err-write_next_block-clause-own : goal.returns-in-Err-write_next_block-clause-own
returns-in-Err-write_next_block-clause-own g c = let s = c.args.self.now in
    part_own (block_events s (next_block s c.args.kind c.args.body.now)) (g.D.Disk.told c.args.disk.now)
    (g.D.Disk.told c.write_next_block.new.disk) (first_refusal (block_refusals (memory s) c.args.kind c.args.body.now))
    (address_given _ _ c.in-Ok.address (sym c.in-Ok.is ∙ c.address_for.ensures.why c.args.body.now refl)).0
    c.in-Err-write_next_block.ensures.events
