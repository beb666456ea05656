-- A block is read where one is live.
use Rattle.{std.proofs.Common.{◌+◌, ℕ, Option, Ok, Err, Result, ap, refl, subst, sym}, df_model.specs.Work.{is_known}}
use Rattle.df_session.specs.{Below.{memory}, Reading.{shown_of}}
use Rattle.df_table.{specs.{declared.ending.Ending.{Ending}, declared.opening.Taken.{Taken}, Opening.{ReadsNext}}, proofs.Taking.{reads_none, reads_some}}
use Rattle.df_table.proofs.opening.take_next.Goals as goal

pub take_block-requires : goal.take_block-requires
take_block-requires g c = record { live = c.requires.live; known = ap is_known (sym (rw c.in-Some.is at c.reference.ensures)) }

pub returns-in-Ok-clause-makes : goal.returns-in-Ok-clause-makes
returns-in-Ok-clause-makes g c = let ok : Result Taken Ending = Ok (record { table = c.in-Ok.table; count = c.args.taken.count + 1 }) in
    reads_some c.args.address _ c.args.replica.now c.take_block.new.replica (g.D.Disk.told c.args.disk.now)
    (g.D.Disk.told c.take_block.new.disk) ok (sym (rw c.in-Some.is at c.reference.ensures)) c.in-Ok.ensures.makes

pub returns-in-Err-clause-makes : goal.returns-in-Err-clause-makes
returns-in-Err-clause-makes g c = let err : Result Taken Ending = Err c.in-Err.ending in
    reads_some c.args.address _ c.args.replica.now c.take_block.new.replica (g.D.Disk.told c.args.disk.now)
    (g.D.Disk.told c.take_block.new.disk) err (sym (rw c.in-Some.is at c.reference.ensures)) c.in-Err.ensures.makes

pub returns-in-None-clause-makes : goal.returns-in-None-clause-makes
returns-in-None-clause-makes g c =
    reads_none c.args.address c.args.replica.now (g.D.Disk.told c.args.disk.now) (sym (rw c.in-None.is at c.reference.ensures))

pub returns-in-Ok-clause-reads : goal.returns-in-Ok-clause-reads
returns-in-Ok-clause-reads g c = λ told is.
    let ok : Result Taken Ending = Ok (record { table = c.in-Ok.table; count = c.args.taken.count + 1 }) in
    subst (λ (o : Option ℕ). ReadsNext (shown_of c.args.replica.now.file told.shown) (memory c.args.replica.now)
    c.args.address c.args.most c.args.taken o ok) (rw c.in-Some.is at c.reference.ensures) (c.in-Ok.ensures.reads told is, refl)

pub returns-in-Err-clause-reads : goal.returns-in-Err-clause-reads
returns-in-Err-clause-reads g c = λ told is. let err : Result Taken Ending = Err c.in-Err.ending in
    subst (λ (o : Option ℕ). ReadsNext (shown_of c.args.replica.now.file told.shown) (memory c.args.replica.now)
    c.args.address c.args.most c.args.taken o err) (rw c.in-Some.is at c.reference.ensures) (c.in-Err.ensures.reads told is)

pub returns-in-None-clause-reads : goal.returns-in-None-clause-reads
returns-in-None-clause-reads g c = λ told is. let ok : Result Taken Ending = Ok c.args.taken in
    rw (← (rw c.in-None.is at c.reference.ensures)) refl
