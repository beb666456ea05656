-- The reply was stored, or its call ends the program.
use Rattle.{std.proofs.Common.{Result, [], Err, subst, sym}, df_base.specs.Causes.{IsBlamed}, df_model.specs.Commands.{Reply}}
use Rattle.df_notes.{specs.{Ending.{is_disk_at_fault}, Keeping.{StoresReply}, declared.ended.Ended.{Ended}}, proofs.{Blame.{blamed_at, on_ok}, Called.{ended_here, stored, stored_blames}}}
use Rattle.df_notes.proofs.keeping.reply_to.Goals as goal

pub returns-in-Ok : goal.returns-in-Ok
returns-in-Ok g c = let is = sym c.stored_in.ensures in record {
  stores = subst (λ (r : Result (Unit {0}) Ended). StoresReply c.args.op c.args.replica.now c.make.new.replica
      (g.D.Disk.told c.args.disk.now) (g.D.Disk.told c.make.new.disk) r) is (stored _ _ _ _ c.args.op c.in-Ok.answer c.in-Ok.ensures.makes);
  live = on_ok c.stored_in.result c.in-Ok.ensures.live;
  disk = subst (λ (r : Result (Unit {0}) Ended). IsBlamed is_disk_at_fault
      (g.D.Disk.faults c.args.disk.now) (g.D.Disk.faults c.make.new.disk) r) is (stored_blames c.in-Ok.answer _ _ c.in-Ok.ensures.disk);
}

pub returns-in-Err : goal.returns-in-Err
returns-in-Err g c = let is = sym c.ended_at.ensures in record {
  stores = subst (λ (e : Ended). StoresReply
      c.args.op c.args.replica.now c.make.new.replica (g.D.Disk.told c.args.disk.now) (g.D.Disk.told c.make.new.disk) (Err e)) is
      (ended_here (Reply c.args.op []) _ _ _ _ c.in-Err.fault (λ no. cc) c.in-Err.ensures.makes.0 c.in-Err.ensures.makes.1);
  live = tt;
  disk = subst (λ (e : Ended). IsBlamed {T = Unit {0}} is_disk_at_fault
      (g.D.Disk.faults c.args.disk.now) (g.D.Disk.faults c.make.new.disk) (Err e)) is (blamed_at c.in-Err.fault _ _ c.in-Err.ensures.disk);
}
