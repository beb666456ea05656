-- A checkpoint comes first where the ring is full, and else nothing.
use Rattle.{std.proofs.Common.{◌∙◌, refl, sym}, df_table.proofs.Changed.{room_left, room_made}}
use Rattle.df_table.proofs.appending.make_room.Goals as goal

pub returns-then-is_full-clause-makes : goal.returns-then-is_full-clause-makes
returns-then-is_full-clause-makes g c = λ ready few.
    room_made c.args.session.now.layout c.args.session.now.table.rows c.args.session.now.replica
    c.checkpoint.new.replica (g.D.Disk.told c.args.disk.now) (g.D.Disk.told c.checkpoint.new.disk) c.checkpoint.result
    (sym (c.is_full.ensures c.args.session.now.layout ready) ∙ c.if-is_full.true) (c.checkpoint.ensures.makes ready few)

pub returns-else-is_full-clause-makes : goal.returns-else-is_full-clause-makes
returns-else-is_full-clause-makes g c = λ ready few.
    room_left c.args.session.now.layout c.args.session.now.table.rows c.args.session.now.replica
    (g.D.Disk.told c.args.disk.now) (sym (c.is_full.ensures c.args.session.now.layout ready) ∙ c.if-is_full.false)

pub returns-else-is_full-clause-room : goal.returns-else-is_full-clause-room
returns-else-is_full-clause-room g c = λ ready few. record { ready = ready; room = sym (c.is_full.ensures c.args.session.now.layout ready) ∙ c.if-is_full.false; head = refl; sessions = refl }
