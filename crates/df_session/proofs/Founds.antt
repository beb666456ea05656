-- A file as calls are made on it is the one that was found.
use Rattle.{std.proofs.Common.{◌≡◌, ◌∙◌, inl, inr, ap, subst, sym}, df_disk.specs.Told.{Told}, df_theory.specs.Found.{IsFound}}
use Rattle.{df_layout.specs.declared.layout.Layout.{Layout}, df_units.specs.Bytes.{unit_at}, df_session.specs.Found.{FoundFile}}
use Rattle.df_replica.specs.Below.{DataFile, IsOpened, State as Replica, shape}

-- a view that is found in an image, with the layout of its file
found_here : (layout : Layout) (t : Told) (s : Replica) (is : IsOpened layout t.shown s)
    → IsFound (shape s.file) (unit_at s.file.layout s.file.cluster t.shown) is.view
found_here layout t s is =
    subst (λ (l : Layout). IsFound (shape s.file) (unit_at l s.file.cluster t.shown) is.view) (sym is.of.layout_is) is.found

module _ (layout : Layout) (t : Told) (file : FoundFile layout t) where
  pub file_there : file.replica.file ≡ file.found.file
  file_there = elim file.begun [
    | inl looked ↦ ap (λ (s : Replica). s.file) looked
    | inr raised ↦ ap (λ (s : Replica). s.file) raised
  ]

  pub layout_there : file.replica.file.layout ≡ layout
  layout_there = ap (λ (f : DataFile). f.layout) file_there ∙ file.is_opened.of.layout_is

  -- the view that was found is found with it
  pub view_there : IsFound (shape file.replica.file) (unit_at file.replica.file.layout file.replica.file.cluster t.shown) file.is_opened.view
  view_there = rw (sym file_there) at (found_here layout t file.found file.is_opened)
