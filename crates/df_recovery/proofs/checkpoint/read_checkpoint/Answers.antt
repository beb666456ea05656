-- A superblock that names no trailer has an empty checkpoint. Else the text's sessions are the checkpoint's, and each op that waits has its
-- session, or the trailer is refused.
use Rattle.{std.{specs.Prelude.{Err}, proofs.Common.{◌≡◌, ℕ, None, Some, sym, subst}}, df_checkpoint.proofs.Laws.{pending_of}}
use Rattle.{df_format.specs.declared.superblock.SuperFields.{SuperFields}, df_layout.specs.declared.fields.Field.TheVariants.{Pending}}
use Rattle.df_model.specs.declared.errors.OpenError.TheVariants.{BadField}
use Rattle.df_recovery.{specs.{Checkpoints.{TellsCheckpoint}, Scanning.{base_in}}, proofs.{Bases.{empty_fits, no_op, told_base, told_none, told_untracked}, Tracked.{none_of_checkpoint, of_checkpoint}}}
use Rattle.df_recovery.proofs.checkpoint.read_checkpoint.Goals as goal

pub returns-then-fields-eq0-clause-reads : goal.returns-then-fields-eq0-clause-reads
returns-then-fields-eq0-clause-reads g c = let f = c.args.content.now in let usable = c.fields-fields.ensures.usable.rules in
    let none : f.trailer_address ≡ 0 = subst (λ (x : SuperFields). x.trailer_address ≡ 0) c.fields-fields.ensures.value
    c.if-fields-eq0.true in let grid = c.requires.rooms.grid_is in record {
      tells = told_none c.args.file.now (g.D.Disk.told c.args.disk.now) f _ c.requires.file usable none
          (λ i. record { root = c.new.ensures i; sessions = c.new-then-fields-eq0.ensures.empty i; blocks = (grid i).blocks });
      sessions = none_of_checkpoint f c.new-then-fields-eq0.result.sessions (no_op f usable none) c.new-then-fields-eq0.ensures.empty;
      places = c.new-then-fields-eq0.ensures.places;
    }

pub returns-then-fields-eq0-clause-fits : goal.returns-then-fields-eq0-clause-fits
returns-then-fields-eq0-clause-fits g c = empty_fits c.args.file.now c.args.grid.now c.args.trailer.now.layout c.requires.rooms

pub returns-in-None-clause-reads : goal.returns-in-None-clause-reads
returns-in-None-clause-reads g c = let file = c.args.file.now in let f = c.args.content.now in let base = c.in_ok-base.base in
    let is = c.in_ok-base.ensures.reads in
    let pending = pending_of c.as_slice.result.now base.sessions.sessions c.fields-fields.result.now f None c.as_slice.ensures
    c.fields-fields.ensures.value c.in-None.ensures in record {
      tells = told_base file (g.D.Disk.told c.args.disk.now) f (base_in c.read_text.new.grid base) is.tells is.sessions pending;
      sessions = of_checkpoint file.layout.clients f base.sessions.sessions is.sessions pending;
      places = is.places;
    }

pub returns-in-Some-clause-reads : goal.returns-in-Some-clause-reads
returns-in-Some-clause-reads g c = let file = c.args.file.now in let f = c.args.content.now in let told = g.D.Disk.told c.args.disk.now in
    let base = c.in_ok-base.base in subst (λ (n : ℕ). TellsCheckpoint file told f (Err (BadField Pending n))) (sym c.from.ensures)
    (told_untracked file told f (base_in c.read_text.new.grid base) c.in-Some.op
    (λ zero. c.if-fields-eq0.false (subst (λ (x : SuperFields). x.trailer_address ≡ 0) (sym c.fields-fields.ensures.value) zero))
    c.in_ok-base.ensures.reads.tells
    (pending_of c.as_slice.result.now base.sessions.sessions c.fields-fields.result.now f (Some c.in-Some.op) c.as_slice.ensures
    c.fields-fields.ensures.value c.in-Some.ensures))
