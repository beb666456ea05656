-- Room is made, and then the command is stored, and the table changed.
use Rattle.{std.proofs.Common.{◌+◌, ◌∙◌, ℕ, Ok, Err, ap, subst, sym}, df_rows.specs.Tables.{CanApply, Table, with_command}}
use Rattle.df_table.proofs.Changed.{change_comes, room_ends}
use Rattle.df_table.proofs.appending.change.Goals as goal

pub store-requires : goal.store-requires
store-requires g c = record { live = c.in-Ok.ensures.goes; fits = c.requires.fits }

pub returns-in-Ok-store-clause-changed : goal.returns-in-Ok-store-clause-changed
returns-in-Ok-store-clause-changed g c = λ ready few. let room = c.in-Ok.ensures.room ready few in record {
  op = c.in-Ok-store.ensures.op ∙ ap (λ (h : ℕ). h + 1) room.head;
  head = c.in-Ok-store.ensures.head ∙ ap (λ (h : ℕ). h + 1) room.head;
  ready = c.in-Ok-store.ensures.ready c.args.session.now.layout room.ready room.room;
  ends = tt;
  makes = change_comes c.args.session.now.layout c.args.session.now.table.rows c.args.command c.args.session.now.replica c.make_room.new.session.replica c.store.new.replica (g.D.Disk.told c.args.disk.now) (g.D.Disk.told c.make_room.new.disk) (g.D.Disk.told c.store.new.disk) (Ok c.in-Ok-store.op) (c.in-Ok.ensures.makes ready few) room (c.in-Ok-store.ensures.makes c.args.session.now.layout room.ready room.room);
}

pub returns-in-Err-store-clause-changed : goal.returns-in-Err-store-clause-changed
returns-in-Err-store-clause-changed g c = λ ready few. let room = c.in-Ok.ensures.room ready few in record {
  makes = change_comes c.args.session.now.layout c.args.session.now.table.rows c.args.command c.args.session.now.replica {T = ℕ} c.make_room.new.session.replica c.store.new.replica (g.D.Disk.told c.args.disk.now) (g.D.Disk.told c.make_room.new.disk) (g.D.Disk.told c.store.new.disk) (Err c.in-Err-store.ending) (c.in-Ok.ensures.makes ready few) room (c.in-Err-store.ensures.makes c.args.session.now.layout room.ready room.room);
  ends = c.in-Err-store.ensures.goes;
  op = tt;
  head = tt;
  ready = tt;
}

pub returns-in-Err-clause-changed : goal.returns-in-Err-clause-changed
returns-in-Err-clause-changed g c = λ ready few. record {
  makes = room_ends c.args.session.now.layout c.args.session.now.table.rows c.args.command c.args.session.now.replica ℕ c.make_room.new.session.replica (g.D.Disk.told c.args.disk.now) (g.D.Disk.told c.make_room.new.disk) c.in-Err.ending (c.in-Err.ensures.makes ready few);
  op = tt;
  head = tt;
  ready = tt;
  ends = c.in-Err.ensures.goes;
}

pub apply-requires : goal.apply-requires
apply-requires g c = subst (λ (t : Table). CanApply t c.args.command) (sym c.in-Ok.ensures.table) c.requires.room

pub returns-in-Ok-store-clause-applied : goal.returns-in-Ok-store-clause-applied
returns-in-Ok-store-clause-applied g c =
    record { live = c.in-Ok-store.ensures.goes; table = c.apply.ensures ∙ ap (with_command c.args.command) c.in-Ok.ensures.table }
