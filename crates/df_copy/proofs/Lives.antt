-- A history begins at an image that shows a copy.
use Rattle.{std.proofs.Common.{◌≡◌, inl, inr, [], Some, None, sym, ◌∙◌}, df_base.specs.Image.{Image}, df_history.specs.Lives.{Starts}}
use Rattle.{df_layout.specs.declared.layout.Layout.{Layout}, df_trailer.specs.Text.{parse_of}}
use Rattle.df_theory.{specs.{Holds.{Holds}, Shape.{Shape}, Units.{PrepareUnit, Units}, View.{View}}, proofs.Laws.{clean_start_law}}
use Rattle.df_units.{specs.{Bytes.{unit_at}, Meaning.{layout_of}}, proofs.Laws.{of_places}}
use Rattle.df_opening.specs.Below.{AreDistinctUnits, DataFile, shape}
use Rattle.df_copy.specs.{Lives.{MayGoOn, ShownCopyBegins}, Views.{ShowsCopy, file_in}}

module _ (layout : Layout) (file : DataFile) (source : Image) (v : View) (target : Image) (copy : ShowsCopy layout file source v target) where
  abbrev sh : Shape
  sh = shape (file_in layout file)

  abbrev image : Units
  image = unit_at layout file.cluster target

  abbrev u : View
  u = copy.view

  pub holds : Holds sh image u
  holds = (clean_start_law
      sh image u (of_places layout file.cluster file.named (parse_of (layout_of layout)) target copy.image) copy.found copy.clean).holds

  pub starts : Starts image [] u
  starts = record {
    prepares = λ s p at. elim at [
      | inl is ↦ absurd (let both : None ≡ Some (PrepareUnit p) = sym (copy.older.prepares s) ∙ is in cc)
      | inr none ↦ absurd none
    ];
    replies = λ k r at. elim at [ inl is ↦ copy.older.replies k r is | inr none ↦ absurd none ];
    copies = λ n c away at. elim at [ inl is ↦ copy.clean n c is away | inr none ↦ absurd none ];
    counted = copy.older.counted;
  }

  pub goes_on : AreDistinctUnits image → MayGoOn (file_in layout file) u target
  goes_on distinct = record {
    version = copy.version;
    begins = record { whole = copy.image; found = copy.found; clean = copy.clean; distinct = distinct };
    stands = copy.stands;
    history = inr (u, holds, starts);
  }

pub copied_begins : ShownCopyBegins
copied_begins layout file source v target copy distinct = goes_on layout file source v target copy distinct
