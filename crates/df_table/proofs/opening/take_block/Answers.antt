-- The block is lent, or it isn't.
use Rattle.{std.proofs.Common.{◌≡◌, ◌∙◌, [], ◌∷◌, Err, ap, subst, sym}, df_base.specs.Causes.{Blamed}, df_rows.specs.Tables.{Table}}
use Rattle.df_model.specs.{Commands.{ReadBlock}, Faults.{is_read_fault}}
use Rattle.df_session.specs.{Below.{State as Replica, memory}, Reading.{shown_of}, Stopping.{left_by}}
use Rattle.df_table.{specs.{declared.ending.Ending.{Ending}, Calls.{Comes}, Opening.{GivesRows, LacksRows, ReadsTableBlock, block_ending}, Statuses.{is_disk}}, proofs.{BlockTaken.{block_comes, block_found_here, block_refused, block_unfound, live_there, read_blamed}, BodyTaken.{body_blamed}, Called.{on_ok}}}
use Rattle.df_table.proofs.opening.take_block.Goals as goal

-- ---- it is

pub returns-in-Ok-clause-makes : goal.returns-in-Ok-clause-makes
returns-in-Ok-clause-makes g c = let s : Replica = c.args.replica.now in let t : Replica = c.read_block.follows.lender-at-none in
    let same : t ≡ s = c.read_block.follows.holds-at-none ∙ ap (left_by is_read_fault s) c.in-Ok.is in subst (λ (r : Replica). Comes
    (ReadBlock c.args.address ∷ []) s r (g.D.Disk.told c.args.disk.now) (g.D.Disk.told c.read_block.new.disk) c.take_rows.result) (sym same)
    (block_comes c.args.address s s (g.D.Disk.told c.args.disk.now) (g.D.Disk.told c.read_block.new.disk) c.in-Ok.ensures.same
    c.args.before c.args.most c.args.table c.body.result.now _ c.take_rows.result c.in-Ok.ensures.call c.take_rows.ensures)

pub returns-in-Ok-clause-reads : goal.returns-in-Ok-clause-reads
returns-in-Ok-clause-reads g c = λ told is.
    block_found_here c.args.address c.args.replica.now (g.D.Disk.told c.args.disk.now) told is c.args.before
    c.args.most c.args.table _ c.body.result.now c.take_rows.result (sym c.body.ensures) c.in-Ok.ensures.exact c.take_rows.ensures

pub returns-in-Ok-clause-kept : goal.returns-in-Ok-clause-kept
returns-in-Ok-clause-kept g c =
    on_ok c.take_rows.result (c.read_block.follows.holds-at-none ∙ ap (left_by is_read_fault c.args.replica.now) c.in-Ok.is)

pub returns-in-Ok-clause-disk : goal.returns-in-Ok-clause-disk
returns-in-Ok-clause-disk g c =
    body_blamed Table (GivesRows c.args.before c.args.most c.args.table c.body.result.now) (LacksRows c.args.address c.args.before c.args.most c.args.table c.body.result.now) c.take_rows.result (g.D.Disk.faults c.args.disk.now) (g.D.Disk.faults c.read_block.new.disk) c.take_rows.ensures c.in-Ok.ensures.cause

-- ---- it isn't

pub unread_block-requires : goal.unread_block-requires
unread_block-requires g c =
    live_there c.args.address c.args.replica.now (g.D.Disk.told c.args.disk.now) c.in-Err.error c.requires.known c.in-Err.ensures.exact

pub returns-in-Err-clause-makes : goal.returns-in-Err-clause-makes
returns-in-Err-clause-makes g c = let s : Replica = c.args.replica.now in let t : Replica = c.read_block.follows.lender-at-none in
    let same : t ≡ left_by {T = Table} is_read_fault s (Err c.in-Err.error) =
    c.read_block.follows.holds-at-none ∙ ap (left_by is_read_fault s) c.in-Err.is in
    let known = live_there c.args.address s (g.D.Disk.told c.args.disk.now) c.in-Err.error c.requires.known c.in-Err.ensures.exact in
    subst (λ (e : Ending). Comes {T = Table} (ReadBlock c.args.address
    ∷ []) s t (g.D.Disk.told c.args.disk.now) (g.D.Disk.told c.read_block.new.disk) (Err e)) (sym c.unread_block.ensures) (rw (sym same) at
    (block_refused c.args.address s (left_by {T = Table} is_read_fault s (Err c.in-Err.error))
    (g.D.Disk.told c.args.disk.now) (g.D.Disk.told c.read_block.new.disk) c.in-Err.ensures.same c.in-Err.error known c.in-Err.ensures.call))

pub returns-in-Err-clause-reads : goal.returns-in-Err-clause-reads
returns-in-Err-clause-reads g c = λ told is. let known =
    live_there c.args.address c.args.replica.now (g.D.Disk.told c.args.disk.now) c.in-Err.error c.requires.known c.in-Err.ensures.exact in
    subst (λ (e : Ending). ReadsTableBlock (shown_of c.args.replica.now.file told.shown)
    (memory c.args.replica.now) c.args.address c.args.before c.args.most c.args.table (Err e)) (sym c.unread_block.ensures)
    (block_unfound c.args.address c.args.replica.now
    (g.D.Disk.told c.args.disk.now) told is c.args.before c.args.most c.args.table c.in-Err.error known c.in-Err.ensures.exact)

pub returns-in-Err-clause-disk : goal.returns-in-Err-clause-disk
returns-in-Err-clause-disk g c = let known =
    live_there c.args.address c.args.replica.now (g.D.Disk.told c.args.disk.now) c.in-Err.error c.requires.known c.in-Err.ensures.exact in
    rw (sym c.unread_block.ensures) at
    (read_blamed c.in-Err.error (g.D.Disk.faults c.args.disk.now) (g.D.Disk.faults c.read_block.new.disk) known c.in-Err.ensures.cause)
