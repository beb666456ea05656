-- What an open finds of a disk that may be opened is the file, and what the opening finds is the one table.
use Rattle.{std.proofs.Common.{◌≡◌, ◌⊎◌, inl, inr, ◌∙◌, Ok, Err, sym}, df_base.specs.Image.{Image}, df_disk.specs.Told.{Told}}
use Rattle.{df_layout.specs.declared.layout.Layout.{Layout}, df_theory.specs.{Found.{IsFound}, View.{View}}, df_units.specs.Bytes.{unit_at}}
use Rattle.{df_model.specs.Memory.{Memory, memory_of}, df_rows.specs.Tables.{Table}}
use Rattle.df_session.{specs.{Begun.{begun_work}, Below.{DataFile, IsOpened, State as Replica, memory, shape, spelling}, Found.{FoundFile}, Reading.{shown_of}}, proofs.Laws.{file_there, found_file, layout_there}}
use Rattle.df_table.{specs.{declared.ending.Ending.TheVariants.{Disk}, declared.status.Status.{Status}, Laws.{FindsIn}, Opening.{FindsTable}, Outside.{Outside}, Run.{ServesTable}}, proofs.OneFound.{finds_one}}

-- ---- the file

pub one_file : (file : DataFile) (layout : Layout) (image : Image) (view : View) (s : Replica)
    → IsFound (shape file) (unit_at file.layout file.cluster image) view → IsOpened layout image s → s.file ≡ file
one_file file layout image view s found is = found_file file s.file layout image view is.view found is.found

module _ (file : DataFile) (view : View) (t : Told) (found_here : IsFound (shape file) (unit_at file.layout file.cluster t.shown) view) where
  found_one : (layout : Layout) (found : FoundFile layout t) → found.replica.file ≡ file
  found_one layout found = file_there layout t found ∙ one_file file layout t.shown view found.found found_here found.is_opened

  -- ---- its table

  -- what its opening finds is that of what is shown, by the view that is found in it
  pub serves_finds : (layout : Layout)
      (old new : Outside) (status : Status) (found : FoundFile layout t) (serves : ServesTable layout t found old new status)
      → (serves.opened ≡ Err Disk)
      ⊎ FindsTable file.layout (shown_of file t.shown) (memory_of (shape file) (spelling file) (begun_work file t.shown view)) serves.opened
  serves_finds layout old new status found serves = elim serves.finds [
    | inl disk ↦ inl disk
    | inr finds ↦ let s = found.replica in let there : IsFound (shape s.file) (unit_at s.file.layout s.file.cluster t.shown) view =
        rw (sym (found_one layout found)) at found_here in let own : FindsTable s.file.layout
        (shown_of s.file t.shown) (memory_of (shape s.file) (spelling s.file) (begun_work s.file t.shown view)) serves.opened =
        rw (serves.calls.stands view there).1 at (rw (sym (layout_there layout t found)) at finds) in
        inr (rw (found_one layout found) at own)
  ]

  -- so it is the one table that is found there
  pub found_of : (table : Table) → FindsIn file t view table → (layout : Layout) (old new : Outside) (status : Status) (found : FoundFile
      layout t) (serves : ServesTable layout t found old new status) → (serves.opened ≡ Err Disk) ⊎ (serves.opened ≡ Ok table)
  found_of table is layout old new status found serves = elim (serves_finds layout old new status found serves) [
    | inl disk ↦ inl disk
    | inr mine ↦ inr (finds_one file.layout
        (shown_of file t.shown) (memory_of (shape file) (spelling file) (begun_work file t.shown view)) serves.opened (Ok table) mine is)
  ]
