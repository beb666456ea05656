-- The note is lent and printed, or it isn't.
use Rattle.{std.proofs.Common.{◌≡◌, ◌∙◌, ℕ, List, Err, ap, refl, subst, sym}, df_base.specs.Streams.{Appends, AppendsPart}}
use Rattle.{df_model.specs.{Commands.{ReadPrepare, ToReadPrepare}, Faults.{is_prepare_fault}}, df_script_model.specs.Texts.{line_of}}
use Rattle.df_session.{specs.{Below.{State as Replica}, Stopping.{left_by}}, proofs.Laws.{reads_prepare}}
use Rattle.df_notes.{specs.{Calling.{EndsIn}, Ending.{ended_by}, Showing.{InPrint, InRead}, declared.ended.Ended.{Ended}}, proofs.Called.{ended_so, note_read}}
use Rattle.df_notes.proofs.printing.print_note.Goals as goal

pub returns-in-Ok-print_line-clause-shows : goal.returns-in-Ok-print_line-clause-shows
returns-in-Ok-print_line-clause-shows g c = let s : Replica = c.args.replica.now in let told = g.D.Disk.told c.args.disk.now in (
  record {
    is = note_read c.args.op s told _ c.in-Ok.ensures.exact c.in-Ok.ensures.call;
    printed = subst (λ (b : List ℕ). Appends (g.W.Sink.written c.args.sink.now) (g.W.Sink.written c.print_line.new.sink) (line_of b))
        c.body.ensures c.in-Ok-print_line.ensures.prints.whole;
  },
  c.read_prepare.follows.holds-at-none ∙ ap (left_by is_prepare_fault s) c.in-Ok.is,
)

pub returns-in-Err-print_line-clause-shows : goal.returns-in-Err-print_line-clause-shows
returns-in-Err-print_line-clause-shows g c = let s : Replica = c.args.replica.now in let told = g.D.Disk.told c.args.disk.now in
    InPrint (note_read c.args.op s told _ c.in-Ok.ensures.exact c.in-Ok.ensures.call) (subst (λ (b : List ℕ). AppendsPart (g.W.Sink.written
    c.args.sink.now) (g.W.Sink.written c.print_line.new.sink) (line_of b)) c.body.ensures c.in-Err-print_line.ensures.prints.part)
    (c.read_prepare.follows.holds-at-none ∙ ap (left_by is_prepare_fault s) c.in-Ok.is) refl

pub returns-in-Err-clause-shows : goal.returns-in-Err-clause-shows
returns-in-Err-clause-shows g c = let s : Replica = c.args.replica.now in let told = g.D.Disk.told c.args.disk.now in
    let e = c.in-Err.error in let t : Replica = c.read_prepare.follows.lender-at-none in
    let u : Replica = left_by {T = Unit {0}} is_prepare_fault s (Err e) in
    let same : t ≡ u = c.read_prepare.follows.holds-at-none ∙ ap (left_by is_prepare_fault s) c.in-Err.is in
    InRead (subst (λ (x : Ended). EndsIn (ReadPrepare c.args.op) s t told told x) (sym c.why_ended.ensures)
    (subst (λ (r : Replica).
    EndsIn (ReadPrepare c.args.op) s r told told (ended_by (is_prepare_fault e))) (sym same) (ended_so (ReadPrepare c.args.op) s u
    told told (is_prepare_fault e) (ToReadPrepare (Err e)) tt (reads_prepare s u told told refl c.args.op _ _ c.in-Err.ensures.call)))) refl
