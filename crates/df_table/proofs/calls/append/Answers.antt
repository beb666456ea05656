-- The prepare was appended, no op is left, or the call has no answer.
use Rattle.{std.proofs.Common.{◌∙◌, ap, refl, Err, Ok}, df_model.specs.declared.answers.Receipt.{Receipt}}
use Rattle.df_table.{specs.declared.ending.Ending.{Ending}, proofs.Called.{append_comes}}
use Rattle.df_table.proofs.calls.append.Goals as goal

pub returns-in-Ok : goal.returns-in-Ok
returns-in-Ok g c = let takes =
    append_comes c.args.replica.now c.append.new.self (g.D.Disk.told c.args.disk.now) (g.D.Disk.told c.append.new.disk)
    (g.D.Disk.faults c.args.disk.now)
    (g.D.Disk.faults c.append.new.disk) c.args.request c.args.body.now (Ok c.in-Ok.receipt) (Ok c.in-Ok.receipt.op) refl
    c.in-Ok.ensures.exact c.in-Ok.ensures.call c.in-Ok.ensures.own c.in-Ok.ensures.cause in
    record { makes = takes.comes; state = takes.state; op = ap (λ (x : Receipt). x.op) c.in-Ok.ensures.exact.1; live = takes.live; ends = takes.ends; disk = takes.disk }

pub returns-in-Err : goal.returns-in-Err
returns-in-Err g c = let takes =
    append_comes c.args.replica.now c.append.new.self (g.D.Disk.told c.args.disk.now) (g.D.Disk.told c.append.new.disk)
    (g.D.Disk.faults c.args.disk.now)
    (g.D.Disk.faults c.append.new.disk) c.args.request c.args.body.now (Err c.in-Err.error) (Err c.ended_or.result)
    (ap (λ (e : Ending). Err e) c.ended_or.ensures) c.in-Err.ensures.exact c.in-Err.ensures.call c.in-Err.ensures.own c.in-Err.ensures.cause in
    record { makes = takes.comes; state = tt; op = tt; live = tt; ends = takes.ends; disk = takes.disk }
