-- The call is the one that the run asks for.
use Rattle.{std.proofs.Common.{ap, refl}, df_model.specs.Commands.{Advance, Append, Begin, Command, Release, Reply, WriteBlock}}
use Rattle.df_workload.specs.{Asking.{number_body}, Draw.{drawn_body}}
use Rattle.df_workload.specs.declared.asked.Asked.TheVariants as asked
use Rattle.df_top.{specs.Works.{HearsOf, StillRuns}, proofs.Runs.{as_asked, asks_so}}
use Rattle.df_top.proofs.works.make_next.Goals as goal

pub returns-in-Some-Append : goal.returns-in-Some-Append
returns-in-Some-Append g c = record {
  makes = as_asked (λ (d : Command). HearsOf d c.args.replica.now c.make_call.new.replica (g.D.Disk.told c.args.disk.now) (g.D.Disk.told c.make_call.new.disk) c.make_call.result) c.args.generator.now (Append c.in-Some-Append.client c.in-Some-Append.request c.body-body.result.now) (Append c.in-Some-Append.client c.in-Some-Append.request (drawn_body c.args.generator.now.number)) (asks_so c.args.generator.now c.in-Some-Append.field-0 (asked.Append c.in-Some-Append.client c.in-Some-Append.request) c.in-Some-Append.ensures.some c.in-Some-Append.field-0-is) (ap (Append c.in-Some-Append.client c.in-Some-Append.request) c.body-body.ensures) c.make_call.ensures.makes;
  runs = as_asked (λ (d : Command). StillRuns d c.args.replica.now c.make_call.new.replica c.make_call.result) c.args.generator.now (Append c.in-Some-Append.client c.in-Some-Append.request c.body-body.result.now) (Append c.in-Some-Append.client c.in-Some-Append.request (drawn_body c.args.generator.now.number)) (asks_so c.args.generator.now c.in-Some-Append.field-0 (asked.Append c.in-Some-Append.client c.in-Some-Append.request) c.in-Some-Append.ensures.some c.in-Some-Append.field-0-is) (ap (Append c.in-Some-Append.client c.in-Some-Append.request) c.body-body.ensures) c.make_call.ensures.runs;
  disk = c.make_call.ensures.disk;
}

pub returns-in-Some-Reply : goal.returns-in-Some-Reply
returns-in-Some-Reply g c = record {
  makes = as_asked (λ (d : Command). HearsOf d c.args.replica.now c.make_call-in-Some-Reply.new.replica (g.D.Disk.told c.args.disk.now) (g.D.Disk.told c.make_call-in-Some-Reply.new.disk) c.make_call-in-Some-Reply.result) c.args.generator.now (Reply c.in-Some-Reply.op c.number_body.result) (Reply c.in-Some-Reply.op (number_body c.in-Some-Reply.op)) (asks_so c.args.generator.now c.in-Some-Reply.field-0 (asked.Reply c.in-Some-Reply.op) c.in-Some-Reply.ensures.some c.in-Some-Reply.field-0-is) (ap (Reply c.in-Some-Reply.op) c.number_body.ensures) c.make_call-in-Some-Reply.ensures.makes;
  runs = as_asked (λ (d : Command). StillRuns d c.args.replica.now c.make_call-in-Some-Reply.new.replica c.make_call-in-Some-Reply.result) c.args.generator.now (Reply c.in-Some-Reply.op c.number_body.result) (Reply c.in-Some-Reply.op (number_body c.in-Some-Reply.op)) (asks_so c.args.generator.now c.in-Some-Reply.field-0 (asked.Reply c.in-Some-Reply.op) c.in-Some-Reply.ensures.some c.in-Some-Reply.field-0-is) (ap (Reply c.in-Some-Reply.op) c.number_body.ensures) c.make_call-in-Some-Reply.ensures.runs;
  disk = c.make_call-in-Some-Reply.ensures.disk;
}

pub returns-in-Some-Step : goal.returns-in-Some-Step
returns-in-Some-Step g c = record {
  makes = as_asked (λ (d : Command). HearsOf d c.args.replica.now c.make_call-in-Some-Step.new.replica (g.D.Disk.told c.args.disk.now) (g.D.Disk.told c.make_call-in-Some-Step.new.disk) c.make_call-in-Some-Step.result) c.args.generator.now Advance Advance (asks_so c.args.generator.now c.in-Some-Step.field-0 asked.Step c.in-Some-Step.ensures.some c.in-Some-Step.field-0-is) refl c.make_call-in-Some-Step.ensures.makes;
  runs = as_asked (λ (d : Command). StillRuns d c.args.replica.now c.make_call-in-Some-Step.new.replica c.make_call-in-Some-Step.result)
      c.args.generator.now Advance Advance (asks_so c.args.generator.now
      c.in-Some-Step.field-0 asked.Step c.in-Some-Step.ensures.some c.in-Some-Step.field-0-is) refl c.make_call-in-Some-Step.ensures.runs;
  disk = c.make_call-in-Some-Step.ensures.disk;
}

pub returns-in-Some-Block : goal.returns-in-Some-Block
returns-in-Some-Block g c = record {
  makes = as_asked (λ (d : Command). HearsOf d c.args.replica.now c.make_call-in-Some-Block.new.replica (g.D.Disk.told c.args.disk.now) (g.D.Disk.told c.make_call-in-Some-Block.new.disk) c.make_call-in-Some-Block.result) c.args.generator.now (WriteBlock 1 c.body-body-in-Some-Block.result.now) (WriteBlock 1 (drawn_body c.args.generator.now.number)) (asks_so c.args.generator.now c.in-Some-Block.field-0 asked.Block c.in-Some-Block.ensures.some c.in-Some-Block.field-0-is) (ap (WriteBlock 1) c.body-body-in-Some-Block.ensures) c.make_call-in-Some-Block.ensures.makes;
  runs = as_asked (λ (d : Command). StillRuns d c.args.replica.now c.make_call-in-Some-Block.new.replica c.make_call-in-Some-Block.result) c.args.generator.now (WriteBlock 1 c.body-body-in-Some-Block.result.now) (WriteBlock 1 (drawn_body c.args.generator.now.number)) (asks_so c.args.generator.now c.in-Some-Block.field-0 asked.Block c.in-Some-Block.ensures.some c.in-Some-Block.field-0-is) (ap (WriteBlock 1) c.body-body-in-Some-Block.ensures) c.make_call-in-Some-Block.ensures.runs;
  disk = c.make_call-in-Some-Block.ensures.disk;
}

pub returns-in-Some-Release : goal.returns-in-Some-Release
returns-in-Some-Release g c = record {
  makes = as_asked (λ (d : Command). HearsOf d c.args.replica.now c.make_call-in-Some-Release.new.replica (g.D.Disk.told c.args.disk.now) (g.D.Disk.told c.make_call-in-Some-Release.new.disk) c.make_call-in-Some-Release.result) c.args.generator.now (Release c.in-Some-Release.address) (Release c.in-Some-Release.address) (asks_so c.args.generator.now c.in-Some-Release.field-0 (asked.Release c.in-Some-Release.address) c.in-Some-Release.ensures.some c.in-Some-Release.field-0-is) refl c.make_call-in-Some-Release.ensures.makes;
  runs = as_asked (λ (d : Command). StillRuns d c.args.replica.now c.make_call-in-Some-Release.new.replica c.make_call-in-Some-Release.result) c.args.generator.now (Release c.in-Some-Release.address) (Release c.in-Some-Release.address) (asks_so c.args.generator.now c.in-Some-Release.field-0 (asked.Release c.in-Some-Release.address) c.in-Some-Release.ensures.some c.in-Some-Release.field-0-is) refl c.make_call-in-Some-Release.ensures.runs;
  disk = c.make_call-in-Some-Release.ensures.disk;
}

pub returns-in-Some-Begin : goal.returns-in-Some-Begin
returns-in-Some-Begin g c = record {
  makes = as_asked (λ (d : Command). HearsOf d c.args.replica.now c.make_call-in-Some-Begin.new.replica (g.D.Disk.told c.args.disk.now) (g.D.Disk.told c.make_call-in-Some-Begin.new.disk) c.make_call-in-Some-Begin.result) c.args.generator.now (Begin c.number_body-in-Some-Begin.result) (Begin (number_body c.in-Some-Begin.root)) (asks_so c.args.generator.now c.in-Some-Begin.field-0 (asked.Begin c.in-Some-Begin.root) c.in-Some-Begin.ensures.some c.in-Some-Begin.field-0-is) (ap Begin c.number_body-in-Some-Begin.ensures) c.make_call-in-Some-Begin.ensures.makes;
  runs = as_asked (λ (d : Command). StillRuns d c.args.replica.now c.make_call-in-Some-Begin.new.replica c.make_call-in-Some-Begin.result) c.args.generator.now (Begin c.number_body-in-Some-Begin.result) (Begin (number_body c.in-Some-Begin.root)) (asks_so c.args.generator.now c.in-Some-Begin.field-0 (asked.Begin c.in-Some-Begin.root) c.in-Some-Begin.ensures.some c.in-Some-Begin.field-0-is) (ap Begin c.number_body-in-Some-Begin.ensures) c.make_call-in-Some-Begin.ensures.runs;
  disk = c.make_call-in-Some-Begin.ensures.disk;
}
