-- The note was appended, or its append ends the program.
use Rattle.{std.proofs.Common.{Result, Err, subst, sym}, df_base.specs.Causes.{IsBlamed}}
use Rattle.df_model.specs.{Commands.{Append}, declared.answers.Receipt.{Receipt}}
use Rattle.df_notes.{specs.{Ending.{is_disk_at_fault}, Keeping.{AppendsNote}, declared.ended.Ended.{Ended}}, proofs.{Blame.{blamed_at, on_ok}, Called.{appended, ended_here, receipt_blames}}}
use Rattle.df_notes.proofs.keeping.append_note.Goals as goal

pub returns-in-Ok : goal.returns-in-Ok
returns-in-Ok g c = let is = sym c.receipt_in.ensures in record {
  appends =
      subst (λ (r : Result Receipt Ended). AppendsNote c.args.note.now c.args.replica.now c.make.new.replica (g.D.Disk.told c.args.disk.now)
      (g.D.Disk.told c.make.new.disk) r) is (appended _ _ _ _ c.next_request.result c.args.note.now c.in-Ok.answer c.in-Ok.ensures.makes);
  live = on_ok c.receipt_in.result c.in-Ok.ensures.live;
  disk = subst (λ (r : Result Receipt Ended). IsBlamed is_disk_at_fault
      (g.D.Disk.faults c.args.disk.now) (g.D.Disk.faults c.make.new.disk) r) is (receipt_blames c.in-Ok.answer _ _ c.in-Ok.ensures.disk);
}

pub returns-in-Err : goal.returns-in-Err
returns-in-Err g c = let is = sym c.ended_at.ensures in record {
  appends = subst (λ (e : Ended). AppendsNote
      c.args.note.now c.args.replica.now c.make.new.replica (g.D.Disk.told c.args.disk.now) (g.D.Disk.told c.make.new.disk) (Err e)) is
      (c.next_request.result, ended_here (Append 1 c.next_request.result c.args.note.now) _ _ _ _ c.in-Err.fault (λ no. cc) c.in-Err.ensures.makes.0 c.in-Err.ensures.makes.1);
  live = tt;
  disk = subst (λ (e : Ended). IsBlamed {T = Receipt} is_disk_at_fault
      (g.D.Disk.faults c.args.disk.now) (g.D.Disk.faults c.make.new.disk) (Err e)) is (blamed_at c.in-Err.fault _ _ c.in-Err.ensures.disk);
}
