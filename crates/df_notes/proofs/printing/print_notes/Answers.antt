-- A turn prints one note more.
use Rattle.{std.proofs.Common.{◌+◌, Option, refl, ap, ◌∙◌, subst, arith}, df_disk.specs.Told.{Told}, df_session.specs.Below.{State}}
use Rattle.df_model.specs.declared.answers.Summary.{Summary}
use Rattle.df_notes.{specs.Showing.{IsNoteShown, NoteHides}, proofs.{Shows.{shows_more, shows_none, shows_some}, Blame.{handed_on}}}
use Rattle.df_notes.proofs.printing.print_notes.Goals as goal

pub loop-before-init : goal.loop-before-init
loop-before-init g c =
    record { shown = shows_none c.args.replica.now _ _ _ (ap (λ (s : Summary). s.checkpoint_op) c.summary-summary.ensures); kept = refl; same = refl; disk_faults = refl; sink_faults = refl }

pub loop-before-preserved : goal.loop-before-preserved
loop-before-preserved g c = let now = c.loop-before in let was = now.invariant in let done = c.in_ok-print_note.ensures in record {
  shown =
      shows_more c.args.replica.now _ _ now.before _ _ (omega (arith, ap (λ (s : Summary). s.checkpoint_op) c.summary-summary.ensures)) was.shown
      (subst (λ (s : State). IsNoteShown
      (now.before + 1) s (g.D.Disk.told c.args.disk.now) (g.W.Sink.written now.sink) (g.W.Sink.written c.print_note.new.sink)) was.kept
      (subst (λ (t : Option Told). IsNoteShown
      (now.before + 1) now.replica t (g.W.Sink.written now.sink) (g.W.Sink.written c.print_note.new.sink)) was.same done.shows.0));
  kept = done.shows.1 ∙ was.kept;
  same = done.same ∙ was.same;
  disk_faults = done.disk ∙ was.disk_faults;
  sink_faults = done.sink ∙ was.sink_faults;
}

pub returns-in_err-print_note-clause-shows : goal.returns-in_err-print_note-clause-shows
returns-in_err-print_note-clause-shows g c = let now = c.loop-before in let was = now.invariant in
    let ended = c.in_err-print_note.field-0.0 in let written = g.W.Sink.written now.sink in
    let later = g.W.Sink.written c.print_note.new.sink in
    shows_some c.args.replica.now (g.D.Disk.told c.args.disk.now)
    (g.W.Sink.written c.args.sink.now) now.before c.print_note.new.replica written later ended _ (handed_on _ _ c.from_residual.ensures)
    (omega (arith, now.auto, ap (λ (s : Summary). s.checkpoint_op) c.summary-summary.ensures)) was.shown
    (subst (λ (s : State). NoteHides (now.before + 1) s c.print_note.new.replica (g.D.Disk.told c.args.disk.now) written later ended) was.kept
    (subst (λ (t : Option Told).
    NoteHides (now.before + 1) now.replica c.print_note.new.replica t written later ended) was.same c.in_err-print_note.ensures.shows))
