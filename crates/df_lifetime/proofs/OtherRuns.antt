-- Each run of the table's program is a run over its file, and each copy is one over its source.
use Rattle.{std.proofs.Common.{◌≡◌, inl, inr, [], Option, Some, None, refl, sym, ◌∙◌, ap}, df_base.specs.Image.{IsImage}}
use Rattle.{df_disk.specs.Told.{Told}, df_layout.specs.declared.layout.Layout.{Layout}, df_copy.specs.Run.{CopyOutcome, DoesCopy}}
use Rattle.df_session.{specs.{Below.{IsOpened, State as Replica}, Found.{FoundFile, no_calls}, Links.{NoCalls}, Opened.{MendsAll}, Programs.{FileRun}}, proofs.Laws.{calls_keep}}
use Rattle.df_program.specs.Two as two
use Rattle.df_table.specs.Outside as table
use Rattle.df_table.{specs.Run.{DoesTable, TableOutcome}, proofs.Laws.{made_on_found}}
use Rattle.df_table.specs.declared.status.Status as table_status
use Rattle.df_copy.specs.declared.status.Status as copy_status
use Rattle.df_lifetime.{specs.Programs.{CopyDoesAs, CopyGoesAs, SourceIsRun, TableDoesAs, TableGoesAs, TableIsRun}, proofs.WordRuns.{barred, session, stopped, untouched}}

-- ---- a table

module _ (t n : Told) (old new : table.Outside) (status : table_status.Status) (to : new.told ≡ Some n) where
  table_does : (layout : Layout) (does : DoesTable layout t old new status) → (run : FileRun t n) × TableDoesAs run layout old new status does
  table_does layout (inl refuses) = barred t n new.told to refuses.barrier
  table_does layout (inr (inl fails)) = stopped t n new.told to layout fails.disk
  table_does layout (inr (inr serves)) = let found = serves.0 in let by = made_on_found layout t found old new status serves.1 in
      session t n layout found serves.1.made by.0 by.1 (by.2 ∙ to) serves.1.calls

  table_goes : old.told ≡ Some t → (outcome : TableOutcome t old new status) → (run : FileRun t n) × TableGoesAs run old new status outcome
  table_goes from (inl nothing) = untouched t n new.told to (nothing.same ∙ from)
  table_goes from (inr (inl refuses)) = untouched t n new.told to (refuses.same ∙ from)
  table_goes from (inr (inr own)) = table_does own.layout own.does

pub table_is_run : TableIsRun
table_is_run t n ran = table_goes t n ran.old ran.new ran.status ran.to ran.from (ran.runs t ran.from ran.whole)

-- ---- a copy

-- the source as it was found and mended
abbrev source_found : (t : Told) (s : Replica) (later : Option Told) → IsImage t.shown → MendsAll t s later → FoundFile s.file.layout t
source_found t s later whole opened = record {
  found = opened.found;
  is_opened = rw (← (ap (λ (r : Replica). r.file.layout) (sym opened.raised))) (opened.opened whole);
  replica = s;
  begun = inr opened.raised;
  mended = later;
  mending = opened.mending;
}

module _ (layout : Layout)
    (t n : Told) (old new : two.Outside) (status : copy_status.Status) (to : new.first ≡ Some n) (whole : IsImage t.shown) where
  copy_does : (own : Layout) (does : DoesCopy layout own t old new status) → (run : FileRun t n) × CopyDoesAs run layout own old new status does
  copy_does own (inl refuses) = barred t n new.first to refuses.first
  copy_does own (inr (inl fails)) = stopped t n new.first to own fails.disk
  copy_does own (inr (inr copies)) = let s = copies.state in let found = source_found t s new.first whole copies.opened in
      let run = session t n s.file.layout found (no_calls found) refl refl
      to (calls_keep t s new.first copies.opened s new.first [] None NoCalls whole (ap (λ (r : Replica). r.live) copies.opened.raised)) in
      (run.0, (found, refl, run.1))

  copy_goes : old.first ≡ Some t
      → (outcome : CopyOutcome layout t old new status) → (run : FileRun t n) × CopyGoesAs run layout old new status outcome
  copy_goes from (inl nothing) = untouched t n new.first to (ap (λ (o : two.Outside). o.first) nothing.0 ∙ from)
  copy_goes from (inr (inl refuses)) = untouched t n new.first to (refuses.first ∙ from)
  copy_goes from (inr (inr own)) = copy_does own.own own.does

pub source_is_run : SourceIsRun
source_is_run layout t n old new status runs from to whole = copy_goes layout t n old new status to whole from (runs t from whole)
