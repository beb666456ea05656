-- What a run hears of an answer is what the call came to.
use Rattle.{std.proofs.Common.{sym}, df_inspect.specs.Answers.{command_of}, df_workload.specs.declared.outcome.Outcome.{Outcome}}
use Rattle.df_top.proofs.RunCalls.{Call, heard_call}
use Rattle.df_top.proofs.works.make_call.Goals as goal

pub returns-in-Ok : goal.returns-in-Ok
returns-in-Ok g c = let s = c.args.replica.now in let t = c.make.new.replica in let old = g.D.Disk.told c.args.disk.now in
    let new = g.D.Disk.told c.make.new.disk in let call =
    rw (sym c.outcome_in.ensures) at (heard_call (command_of c.args.command) s t old new c.in-Ok.answer c.in-Ok.ensures.makes) in
    record { makes = call.makes; runs = call.runs; steps = call.steps; disk = c.in-Ok.ensures.disk }

pub returns-in-Err : goal.returns-in-Err
returns-in-Err g c = record { makes = c.in-Err.ensures.makes; runs = tt; steps = λ is. tt; disk = c.in-Err.ensures.disk }
