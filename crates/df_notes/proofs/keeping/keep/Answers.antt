-- A turn keeps one note more, or ends the program.
use Rattle.std.{proofs.Common.{refl, ◌∙◌, ap, arith}, specs.Prelude.{string_bytes}}
use Rattle.df_notes.{specs.Keeping.{Begun}, proofs.{Steps.{ends, goes_on, stops}, Blame.{handed_on}}}
use Rattle.df_notes.proofs.keeping.keep.Goals as goal

pub loop-note-init : goal.loop-note-init
loop-note-init g c = record { kept = Begun; live = c.requires.live; disk_faults = refl; sink_faults = refl }

pub returns-in_err-keep_note-clause-keeps : goal.returns-in_err-keep_note-clause-keeps
returns-in_err-keep_note-clause-keeps g c = stops string_bytes c.args.notes.now
    c.loop-note.note-index _ c.note-item.result _ _ _ c.in_err-keep_note.field-0.0 _ (handed_on _ _ c.from_residual.ensures)
    (c.as_bytes.ensures.value ∙ ap string_bytes c.note-item.is) (omega arith) c.loop-note.invariant.kept c.in_err-keep_note.ensures.keeps

pub loop-note-preserved : goal.loop-note-preserved
loop-note-preserved g c = record {
  kept = goes_on string_bytes c.args.notes.now c.loop-note.note-index _ c.note-item.result _ _ _
      (c.as_bytes.ensures.value ∙ ap string_bytes c.note-item.is) (omega arith) c.loop-note.invariant.kept c.in_ok-keep_note.ensures.keeps;
  live = c.in_ok-keep_note.ensures.live;
  disk_faults = c.in_ok-keep_note.ensures.disk ∙ c.loop-note.invariant.disk_faults;
  sink_faults = c.in_ok-keep_note.ensures.sink ∙ c.loop-note.invariant.sink_faults;
}

pub returns-clause-keeps : goal.returns-clause-keeps
returns-clause-keeps g c = ends string_bytes c.args.notes.now c.loop-note.note-index _ _ (omega arith) c.loop-note.invariant.kept
