-- The file is made and opened, or the disk failed in its making.
use Rattle.std.{proofs.Common.{◌∙◌, Err, Ok, Option, Some, ap, inl, inr, refl, subst, sym}, specs.Prelude.{map, string_bytes}}
use Rattle.{df_base.specs.Causes.{IsBlamed}, df_disk.specs.Told.{Told}, df_layout.specs.declared.layout.Layout.{Layout}}
use Rattle.df_model.specs.{Faults.{is_format_fault}, declared.errors.FormatError.{FormatError}}
use Rattle.df_session.specs.{Formatting.{TellsBlank}, Making.{FormatsFile}}
use Rattle.df_notes.{specs.{Ending.{IsOfRun, ended_by, is_disk_at_fault, is_sink}, Run.{OpensNotes, notes_cluster}, Serving.{around}, declared.ended.Ended.{Ended}}, proofs.{Blame.{blames_disk, of_run, spares_sink}, Opened.{made_there, only_fault}}}
use Rattle.df_notes.proofs.running.make_notes.Goals as goal

pub returns-in-Ok-clause-makes : goal.returns-in-Ok-clause-makes
returns-in-Ok-clause-makes g c = λ t told whole blank. let layout = c.args.rooms.layout in let of = c.in-Ok.ensures in
    let mid = g.D.Disk.told c.format.new.disk in
    let new = around (g.D.Disk.told c.open_notes.new.disk) (g.W.Sink.written c.open_notes.new.sink) in
    let written = g.W.Sink.written c.args.sink.now in let notes = map string_bytes c.args.notes.now in
    let formats : FormatsFile {T = Unit {0}} layout notes_cluster (Some t) mid (Ok tt) =
    subst (λ (o : Option Told). FormatsFile {T = Unit {0}} layout notes_cluster o mid (Ok tt)) told of.formats in
    let left = made_there layout t mid whole formats in inr (record {
      made = left.made;
      formats = subst (λ (o : Option Told). FormatsFile {T = Unit {0}} layout notes_cluster (Some t) o (Ok tt)) left.is formats;
      whole = left.whole;
      then_opens = subst (λ (o : Option Told). OpensNotes layout left.made notes (around o written) new c.open_notes.result) left.is
          (subst (λ (l : Layout). OpensNotes l left.made notes (around mid written) new c.open_notes.result)
          of.layout (c.open_notes.ensures.opens left.made left.is left.whole));
    })

pub returns-in-Ok-clause-disk : goal.returns-in-Ok-clause-disk
returns-in-Ok-clause-disk g c = subst (λ (n : _).
    IsBlamed is_disk_at_fault n (g.D.Disk.faults c.open_notes.new.disk) c.open_notes.result) c.in-Ok.ensures.cause c.open_notes.ensures.disk

pub returns-in-Err-clause-makes : goal.returns-in-Err-clause-makes
returns-in-Err-clause-makes g c = λ t told whole blank. let layout = c.args.rooms.layout in let e = c.in-Err.error in
    let of = c.in-Err.ensures in let mid = g.D.Disk.told c.format.new.disk in
    let is = only_fault t e blank of.formats.named (subst (λ (o : Option Told). TellsBlank {T = Unit {0}} o (Err e)) told of.formats.blank) in
    let formats : FormatsFile {T = Unit {0}} layout notes_cluster (Some t) mid (Err e) =
    subst (λ (o : Option Told). FormatsFile {T = Unit {0}} layout notes_cluster o mid (Err e)) told of.formats in inl (record {
      formats = subst (λ (x : FormatError). FormatsFile {T = Unit {0}} layout notes_cluster (Some t) mid (Err x)) is formats;
      silent = refl;
      ended = ap (λ (x : Ended). Err x) (c.why_ended.ensures ∙ ap (λ (x : FormatError). ended_by (is_format_fault x)) is);
    })

pub returns-in-Err-clause-ends : goal.returns-in-Err-clause-ends
returns-in-Err-clause-ends g c = subst IsOfRun (sym c.why_ended.ensures) (of_run (is_format_fault c.in-Err.error))

pub returns-in-Err-clause-disk : goal.returns-in-Err-clause-disk
returns-in-Err-clause-disk g c =
    subst (λ (e : Ended). IsBlamed {T = Unit {0}} is_disk_at_fault (g.D.Disk.faults c.args.disk.now) (g.D.Disk.faults c.format.new.disk)
    (Err e)) (sym c.why_ended.ensures) (blames_disk (is_format_fault c.in-Err.error) _ _ c.in-Err.ensures.cause)

pub returns-in-Err-clause-sink : goal.returns-in-Err-clause-sink
returns-in-Err-clause-sink g c = let n = g.W.Sink.faults c.args.sink.now in subst (λ (e : Ended).
    IsBlamed {T = Unit {0}} is_sink n n (Err e)) (sym c.why_ended.ensures) (spares_sink (is_format_fault c.in-Err.error) n)
