-- The prepare is lent, or it isn't.
use Rattle.{std.proofs.Common.{◌≡◌, ◌∙◌, ◌%◌, ℕ, [], ◌∷◌, Err, ap, arith, subst, sym}, df_base.specs.Causes.{Blamed}}
use Rattle.df_layout.specs.declared.places.Zone.TheVariants.{WalPrepares}
use Rattle.df_model.specs.{Commands.{ReadPrepare}, Faults.{is_prepare_fault}}
use Rattle.df_session.specs.{Below.{State as Replica, memory}, Reading.{shown_of}, Stopping.{left_by}}
use Rattle.df_table.{specs.{declared.ending.Ending.{Ending}, Calls.{Comes}, Opening.{GivesCommand, LacksCommand, ReadsPrepare, TakesCommand, place_at, prepare_ending}, Statuses.{is_disk}}, proofs.{BodyTaken.{body_blamed}, Called.{on_ok}, PrepareTaken.{kept_there, prepare_comes, prepare_found_here, prepare_refused, prepare_unfound, unread_blamed}}}
use Rattle.df_table.proofs.opening.take_prepare.Goals as goal

-- ---- it is

pub returns-in-Ok-clause-makes : goal.returns-in-Ok-clause-makes
returns-in-Ok-clause-makes g c = let s : Replica = c.args.replica.now in
    let same : c.read_prepare.follows.lender-at-none ≡ s = c.read_prepare.follows.holds-at-none ∙ ap (left_by is_prepare_fault s) c.in-Ok.is in
    subst (λ (r : Replica). Comes (ReadPrepare c.args.op
    ∷ []) s r (g.D.Disk.told c.args.disk.now) (g.D.Disk.told c.read_prepare.new.disk) c.take_command.result) (sym same)
    (prepare_comes c.args.op s s (g.D.Disk.told c.args.disk.now) (g.D.Disk.told c.read_prepare.new.disk) c.in-Ok.ensures.same (Unit {0})
    _ c.args.table.now c.take_command.new.table c.body.result.now _ c.take_command.result c.in-Ok.ensures.call c.take_command.ensures)

pub returns-in-Ok-clause-reads : goal.returns-in-Ok-clause-reads
returns-in-Ok-clause-reads g c = λ of told is. let slots : c.from.result ≡ c.args.layout.now.slots = omega arith in
    prepare_found_here c.args.layout.now c.args.op c.args.replica.now (g.D.Disk.told c.args.disk.now) told is of c.args.table.now
    c.take_command.new.table (Unit {0}) _ c.body.result.now c.take_command.result (sym c.body.ensures) c.in-Ok.ensures.exact
    (rw slots at c.take_command.ensures)

pub returns-in-Ok-clause-kept : goal.returns-in-Ok-clause-kept
returns-in-Ok-clause-kept g c =
    on_ok c.take_command.result (c.read_prepare.follows.holds-at-none ∙ ap (left_by is_prepare_fault c.args.replica.now) c.in-Ok.is)

pub returns-in-Ok-clause-disk : goal.returns-in-Ok-clause-disk
returns-in-Ok-clause-disk g c =
    body_blamed (Unit {0}) (GivesCommand c.args.table.now c.take_command.new.table c.body.result.now) (LacksCommand _ c.args.table.now c.body.result.now) c.take_command.result (g.D.Disk.faults c.args.disk.now) (g.D.Disk.faults c.read_prepare.new.disk) c.take_command.ensures c.in-Ok.ensures.cause

-- ---- it isn't

pub unread_prepare-requires : goal.unread_prepare-requires
unread_prepare-requires g c = kept_there
    c.args.op c.args.replica.now (g.D.Disk.told c.args.disk.now) c.in-Err.error c.requires.behind c.requires.within c.in-Err.ensures.exact

pub returns-in-Err-clause-makes : goal.returns-in-Err-clause-makes
returns-in-Err-clause-makes g c = let s : Replica = c.args.replica.now in let t : Replica = c.read_prepare.follows.lender-at-none in
    let same : t ≡ left_by {T = Unit {0}} is_prepare_fault s (Err c.in-Err.error) =
    c.read_prepare.follows.holds-at-none ∙ ap (left_by is_prepare_fault s) c.in-Err.is in let kept =
    kept_there c.args.op s (g.D.Disk.told c.args.disk.now) c.in-Err.error c.requires.behind c.requires.within c.in-Err.ensures.exact in
    subst (λ (e : Ending). Comes {T = Unit {0}} (ReadPrepare c.args.op
    ∷ []) s t (g.D.Disk.told c.args.disk.now) (g.D.Disk.told c.read_prepare.new.disk) (Err e)) (sym c.unread_prepare.ensures)
    (rw (sym same) at
    (prepare_refused c.args.op s (left_by {T = Unit {0}} is_prepare_fault s (Err c.in-Err.error)) (g.D.Disk.told c.args.disk.now)
    (g.D.Disk.told c.read_prepare.new.disk) c.in-Err.ensures.same (Unit {0}) c.in-Err.error kept c.in-Err.ensures.call))

pub returns-in-Err-clause-reads : goal.returns-in-Err-clause-reads
returns-in-Err-clause-reads g c = λ of told is. let kept = kept_there c.args.op
    c.args.replica.now (g.D.Disk.told c.args.disk.now) c.in-Err.error c.requires.behind c.requires.within c.in-Err.ensures.exact in
    subst (λ (e : Ending). ReadsPrepare {A = Unit {0}} c.args.layout.now (shown_of c.args.replica.now.file told.shown)
    (memory c.args.replica.now) c.args.op c.args.table.now c.args.table.now (Err e)) (sym c.unread_prepare.ensures)
    (prepare_unfound c.args.layout.now c.args.op c.args.replica.now
    (g.D.Disk.told c.args.disk.now) told is of c.args.table.now c.args.table.now (Unit {0}) c.in-Err.error kept c.in-Err.ensures.exact)

pub returns-in-Err-clause-disk : goal.returns-in-Err-clause-disk
returns-in-Err-clause-disk g c = let kept = kept_there c.args.op
    c.args.replica.now (g.D.Disk.told c.args.disk.now) c.in-Err.error c.requires.behind c.requires.within c.in-Err.ensures.exact in
    rw (sym c.unread_prepare.ensures) at
    (unread_blamed c.in-Err.error (g.D.Disk.faults c.args.disk.now) (g.D.Disk.faults c.read_prepare.new.disk) kept c.in-Err.ensures.cause)
