-- What opens find in two images that show the same is the same: the file, its superblock, the view, and all that is in memory. And what a
-- boot update keeps of it.
use Rattle.{std.proofs.Common.{◌≡◌, inl, inr, ℕ, Option, sym, ◌∙◌, ap, subst}, df_base.specs.Image.{Image}, df_disk.specs.Told.{Told}}
use Rattle.{df_format.specs.{Copies.{Content, content_at}, declared.superblock.SuperFields.{SuperFields}}, df_units.specs.Bytes.{unit_at}}
use Rattle.{df_layout.specs.declared.layout.Layout.{Layout}, df_quorum.specs.Quorum.{IsChosenContent}, df_top.specs.OneText.{ShowSame}}
use Rattle.df_theory.{specs.{Found.{IsFound}, Units.{AnyUnit, BlockPlace, Place, PreparePlace, ReplyPlace}, View.{View}}, proofs.Laws.{one_found_law}}
use Rattle.df_model.specs.{Memory.{Memory, memory_of}, Work.{opened}}
use Rattle.df_session.{specs.{Below.{DataFile, IsOpened, State as Replica, memory, shape, spelling}, Reading.{shown_of}, Replica.{summary_of}, Agreeing.{AgreeShown}, Found.{FoundFile}}, proofs.Laws.{one_super, same_file, super_shown}}

module _ (layout : Layout) (a b : Image) (same : ShowSame layout a b) where
  pub units_alike : (cluster : ℕ) → unit_at layout cluster a ≡ unit_at layout cluster b
  units_alike cluster i place = same.units cluster place i

  module _ (s u : Replica) (one : IsOpened layout a s) (other : IsOpened layout b u) where
    pub fields_alike : s.fields ≡ u.fields
    fields_alike = let own = super_shown layout a s one in let chosen : IsChosenContent (content_at b) own.content =
        subst (λ (shown : ℕ → Option Content). IsChosenContent shown own.content) (λ i n. same.copies n i) own.chosen in
        one_super b s.fields u.fields
        (record { content = own.content; chosen = chosen; fields = own.fields; usable = own.usable }) (super_shown layout b u other)

    pub file_alike : s.file ≡ u.file
    file_alike = same_file s.file u.file (one.of.layout_is ∙ sym other.of.layout_is) (sym one.has.cluster
        ∙ ap (λ (f : SuperFields). f.cluster) fields_alike ∙ other.has.cluster) (one.of.version_is ∙ sym other.of.version_is)

    pub view_alike : one.view ≡ other.view
    view_alike = one_found_law (shape u.file) (unit_at layout u.file.cluster b) one.view other.view
        (rw file_alike at (rw (units_alike s.file.cluster) at one.found)) other.found

    first : DataFile → (Place → Option AnyUnit) → View → Memory
    first f image v = memory_of (shape f) (spelling f) (opened (shape f) image v)

    pub memory_alike : memory s ≡ memory u
    unfolding first
    memory_alike = one.stands ∙ ap (λ (image : Place → Option AnyUnit). first s.file image one.view) (units_alike s.file.cluster)
        ∙ ap (λ (v : View). first s.file (unit_at layout s.file.cluster b) v) view_alike
        ∙ ap (λ (f : DataFile). first f (unit_at layout f.cluster b) other.view) file_alike ∙ sym other.stands

-- ---- as calls are made on it

module _ (layout : Layout) (t : Told) (file : FoundFile layout t) where
  pub summary_there : summary_of file.replica ≡ summary_of file.found
  summary_there = elim file.begun [
    | inl looked ↦ ap summary_of looked
    | inr raised ↦ ap summary_of raised
  ]

  pub blocks_there : file.replica.blocks ≡ file.found.blocks
  blocks_there = elim file.begun [
    | inl looked ↦ ap (λ (s : Replica). s.blocks) looked
    | inr raised ↦ ap (λ (s : Replica). s.blocks) raised
  ]

-- over the file what they show agrees
pub agree_there : (layout : Layout) (a b : Image)
    → ShowSame layout a b → (file : DataFile) → file.layout ≡ layout → AgreeShown file.layout (shown_of file a) (shown_of file b)
agree_there layout a b same file of = let here : ShowSame file.layout a b = rw (sym of) at same in record {
  units = record { prepare = λ k. here.units file.cluster (PreparePlace k); reply = λ k. here.units file.cluster (ReplyPlace k); block = λ k. here.units file.cluster (BlockPlace k) };
  classes = λ place read none. here.classes file.cluster place read none;
}
