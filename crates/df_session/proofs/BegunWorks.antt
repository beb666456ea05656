-- The superblock that an open writes has the codec's checksum, so that the state after it is a function of what was shown.
use Rattle.{std.proofs.Common.{◌≡◌, ◌∙◌, inr, Some, ap, arith, refl, subst, sym}, df_base.specs.Image.{Image, IsImage}}
use Rattle.{df_disk.specs.Told.{Told}, df_format.specs.Copies.{content_with}, df_units.specs.{Bytes.{unit_at}, Meaning.{content_of}}}
use Rattle.df_theory.specs.{Found.{IsFound}, Units.{Content, CopyPlace, CopyUnit}, View.{PassesTests, View}}
use Rattle.df_model.specs.{Making.{boot_content}, Memory.{Memory, memory_of}, Supply.{boot_sum}, Work.{Work, opened, raised}}
use Rattle.df_replica.{specs.{Below.{DataFile, IsOpened, State, boot_fields, memory, shape, spelling}, Leaving.{image_after}, Opened.{begun_state}}, proofs.Laws.{found_keeps, raised_is, sum_of}}
use Rattle.df_session.{specs.{Begun.{BegunIsWork, begun_work}, Codec.{IsContentOfFile, codec}}, proofs.Sums.{units_have_sums}}

module _ (t : Told) (f : State) (view : View) (whole : IsImage t.shown) (is : IsOpened f.file.layout t.shown f)
    (found : IsFound (shape f.file) (unit_at f.file.layout f.file.cluster t.shown) view) (later : Image) (later_whole : IsImage later)
    (shown : unit_at f.file.layout f.file.cluster later (CopyPlace 0) ≡ Some (CopyUnit (content_of (content_with (boot_fields f))))) where
  abbrev w : Work
  w = opened (shape f.file) (unit_at f.file.layout f.file.cluster t.shown) view

  abbrev m : Memory
  m = memory_of (shape f.file) (spelling f.file) w

  -- what was written
  abbrev wrote : Content
  wrote = content_of (content_with (boot_fields f))

  tests : PassesTests (shape f.file) view.checkpoint.content
  tests = found.checkpoint.tests

  known : memory f ≡ m
  known = (found_keeps f t.shown view whole is found).1

  second : f.fields.version ≡ 2
  second = ap (λ (x : Memory). x.content.version) known ∙ tests.version ∙ is.of.version_is

  wrote_is : wrote ≡ boot_content m (sum_of f)
  wrote_is = raised_is f second ∙ ap (λ (x : Memory). boot_content x (sum_of f)) known

  of : IsContentOfFile f.file wrote
  of = let there : IsContentOfFile f.file (boot_content m (sum_of f)) =
      record { version = inr (tests.version ∙ is.of.version_is); layout = tests.layout; cluster = tests.cluster; rest = tests.rest } in
      subst (IsContentOfFile f.file) (sym wrote_is) there

  sum : sum_of f ≡ boot_sum (codec f.file) m
  sum = let own : wrote.checksum ≡ (codec f.file).content wrote =
      units_have_sums f.file later (CopyPlace 0) (CopyUnit wrote) later_whole shown of in
      let same : (codec f.file).content (boot_content m (sum_of f)) ≡ boot_sum (codec f.file) m = refl in
      own ∙ ap (λ (c : Content). (codec f.file).content c) wrote_is ∙ same

  begun_is : begun_state f.file t view (boot_fields f) ≡ begun_work f.file t.shown view
  begun_is = ap (raised w) (wrote_is ∙ ap (boot_content m) sum)

pub begun_is_work : BegunIsWork
begun_is_work t s mended over view whole found = let f : State = over.found in
    let found_there : IsFound (shape f.file) (unit_at f.file.layout f.file.cluster t.shown) view =
    rw (ap (λ (r : State). r.file) over.raised) at found in
    let shown : unit_at f.file.layout f.file.cluster (image_after over.mending.events t.shown) (CopyPlace 0)
    ≡ Some (CopyUnit (content_of (content_with (boot_fields f)))) =
    rw over.raised at (over.copies whole 0 (omega arith)) in
    let is : begun_state f.file t view (boot_fields f) ≡ begun_work f.file t.shown view = begun_is t f
    view whole (over.opened whole) found_there (image_after over.mending.events t.shown) (over.mending.spares t.shown whole).whole shown in
    rw over.raised is
