-- The prepares are applied, and then what waits is replied to.
use Rattle.{std.proofs.Common.{◌∙◌, inl, inr, Ok, Err, Result, ap, subst}, df_rows.specs.Tables.{Table}}
use Rattle.df_session.specs.Below.{State as Replica, memory}
use Rattle.df_table.{specs.{declared.ending.Ending.{Ending}, Calls.{Comes}, Opening.{Found}, Policy.{prepare_reads, replies}, Ready.{HasCaughtUp}}, proofs.Joined.{comes_more, end_front}}
use Rattle.df_table.proofs.opening.follow.Goals as goal

pub take_tail-requires : goal.take_tail-requires
take_tail-requires g c = record { live = c.requires.live }

pub catch_up-requires : goal.catch_up-requires
catch_up-requires g c = record { live = ap (λ (r : Replica). r.live) c.in-Ok.ensures.kept ∙ c.requires.live }

pub returns-in-Ok-catch_up-clause-makes : goal.returns-in-Ok-catch_up-clause-makes
returns-in-Ok-catch_up-clause-makes g c = let s = c.args.replica.now in let ok : Result Table Ending = Ok c.take_tail.new.table in
    comes_more (prepare_reads (memory s)) (replies (memory s)) s c.take_tail.new.replica c.catch_up.new.replica
    (g.D.Disk.told c.args.disk.now) (g.D.Disk.told c.take_tail.new.disk) (g.D.Disk.told c.catch_up.new.disk) c.in-Ok.ensures.makes ok
    (rw (← c.in-Ok.ensures.kept) c.in-Ok-catch_up.ensures.makes)

pub returns-in-Ok-catch_up-clause-finds : goal.returns-in-Ok-catch_up-clause-finds
returns-in-Ok-catch_up-clause-finds g c = λ w begun t is taken. inr (Found c.take_tail.new.table (c.in-Ok.ensures.takes w begun t is taken))

pub returns-in-Ok-catch_up-clause-caught : goal.returns-in-Ok-catch_up-clause-caught
returns-in-Ok-catch_up-clause-caught g c =
    subst (λ (r : Replica). HasCaughtUp r c.catch_up.new.replica) c.in-Ok.ensures.kept c.in-Ok-catch_up.ensures.caught

pub returns-in-Err-catch_up-clause-makes : goal.returns-in-Err-catch_up-clause-makes
returns-in-Err-catch_up-clause-makes g c = let s = c.args.replica.now in let err : Result Table Ending = Err c.in-Err-catch_up.ending in
    comes_more (prepare_reads (memory s)) (replies (memory s)) s c.take_tail.new.replica c.catch_up.new.replica
    (g.D.Disk.told c.args.disk.now) (g.D.Disk.told c.take_tail.new.disk) (g.D.Disk.told c.catch_up.new.disk) c.in-Ok.ensures.makes err
    (rw (← c.in-Ok.ensures.kept) c.in-Err-catch_up.ensures.makes)

pub returns-in-Err-catch_up-clause-finds : goal.returns-in-Err-catch_up-clause-finds
returns-in-Err-catch_up-clause-finds g c = λ w begun t is taken. inl (ap (λ (e : Ending). Err e) c.in-Err-catch_up.ensures.fails)

pub returns-in-Err-clause-makes : goal.returns-in-Err-clause-makes
returns-in-Err-clause-makes g c = let s = c.args.replica.now in end_front (prepare_reads (memory s)) (replies (memory s))
    s c.take_tail.new.replica (g.D.Disk.told c.args.disk.now) (g.D.Disk.told c.take_tail.new.disk) c.in-Err.ending c.in-Err.ensures.makes

pub returns-in-Err-clause-finds : goal.returns-in-Err-clause-finds
returns-in-Err-clause-finds g c = λ w begun t is taken. c.in-Err.ensures.takes w begun t is taken
