-- A trailer that is refused is the answer to an open.
use Rattle.std.{specs.Prelude.{◌≢◌, Err}, proofs.Common.{◌≡◌, inl, inr, ℕ, ◌<◌, ◌==◌, Bool, true, false, Option, Some, None, refl, sym, ◌∙◌, ap}}
use Rattle.{df_base.specs.Image.{Image, IsImage}, df_quorum.specs.Quorum.{IsChosenContent}, df_grid.specs.Reads.{shown_of, trailer_alone}}
use Rattle.df_layout.specs.{declared.damage.Class.{Class}, declared.damage.Class.TheVariants.{Blank, Elsewhere, Garbled, Stale}, declared.fields.Field.{Field}, declared.layout.Layout.{Layout}}
use Rattle.df_format.specs.{Copies.{content_at, content_with}, SuperRules.{IsSuper}, declared.superblock.SuperFields.{SuperFields}}
use Rattle.df_recovery.{proofs.{Asked.{passes_as, super_as}, Written.{super_is_written_as}}, specs.{Checkpoints.{RefusesTrailer}, Surveys.{HasFile, SurveysAs}}}
use Rattle.df_theory.specs.Units
use Rattle.df_theory.specs.{Units.{AnyUnit, BlockPlace, BlockUnit, CopyUnit, HeaderUnit, PrepareUnit, ReplyUnit}, Opens.{BadTrailer, IsReadable, IsUsableSuperblock, LacksBlock}, View.{Checkpoint}}
use Rattle.df_model.specs.{Supply.{block_given, class_or, given_if}, declared.errors.OpenError.{OpenError}, declared.errors.OpenError.TheVariants.{NotFormatted, NoQuorum, Version, BadField, LayoutDiffers, Damaged, DiskFault, BootSpent}}
use Rattle.df_units.{specs.{Bytes.{unit_at}, Superblocks.{AreFieldsOf}, Wanted.{class_at}}, proofs.Laws.{choice_chosen, classes_told}}
use Rattle.df_checkpoint.{specs.{Chain.{asked, content_in}, Laws.{AllChainShown}, Tests.{FailsTest}}, proofs.Laws.{broken_shown, broken_unreadable, damage_missed, referenced_unreadable, text_unreadable, untracked_unreadable, whole_shown}}
use Rattle.df_rooms.specs.{State.{shape}, declared.file.DataFile.{DataFile}}

-- ---- the class of what a block's address shows

if_not : (c : Class) → (c ≢ Stale → ⊥) → c ≡ Stale
if_not Blank never = absurd (never (λ is. cc))
if_not Garbled never = absurd (never (λ is. cc))
if_not (Elsewhere place) never = absurd (never (λ is. cc))
if_not Stale never = refl

alone_stale : (s t : Bool) (b : Units.Block) (class : Class) → s ≡ (b.kind == 0) → trailer_alone (given_if t b Stale) ≡ Err class → class ≡ Stale
alone_stale s false b class kind is = cc
alone_stale true true b class kind is = absurd
    (let shown : trailer_alone (given_if true b Stale) ≡ given_if true b Stale = ap (λ (k : Bool). given_if k b Stale) (sym kind) in cc)
alone_stale false true b class kind is =
    let other : trailer_alone (given_if true b Stale) ≡ given_if false b Stale = ap (λ (k : Bool). given_if k b Stale) (sym kind) in cc

all_stale : (k : ℕ) (x : AnyUnit) (class : Class) → trailer_alone (block_given (Some k) (Some x) Stale) ≡ Err class → class ≡ Stale
all_stale k (CopyUnit c) class is = cc
all_stale k (HeaderUnit h) class is = cc
all_stale k (PrepareUnit p) class is = cc
all_stale k (ReplyUnit r) class is = cc
all_stale k (BlockUnit b) class is = alone_stale (b.kind == 0) (b.checksum == k) b class refl is

class_asked : (layout : Layout) (cluster : ℕ) (image : Image) (a k : ℕ) (class : Class)
    → asked (shown_of layout cluster image) a k ≡ Err class → class ≡ class_at layout cluster image (BlockPlace a)
class_asked layout cluster image a k class is = by_unit (unit_at layout cluster image (BlockPlace a)) refl
  where
    there : (o : Option AnyUnit) → unit_at layout cluster image (BlockPlace a) ≡ o
        → trailer_alone (block_given (Some k) o (class_or o (class_at layout cluster image (BlockPlace a)))) ≡ Err class
    there o at = ap (λ (x : Option AnyUnit).
        trailer_alone (block_given (Some k) x (class_or x (class_at layout cluster image (BlockPlace a))))) (sym at) ∙ is

    by_unit : (o : Option AnyUnit) → unit_at layout cluster image (BlockPlace a) ≡ o → class ≡ class_at layout cluster image (BlockPlace a)
    by_unit None at = let none : trailer_alone (block_given (Some k) None (class_or None (class_at layout cluster image (BlockPlace a))))
        ≡ Err class = there None at in cc
    by_unit (Some x) at = let stale : class_at layout cluster image (BlockPlace a) ≡ Stale =
        if_not (class_at layout cluster image (BlockPlace a)) (λ other. let none = (classes_told layout cluster image (BlockPlace a)).0 other in let both : Some x ≡ None = sym at ∙ none in cc) in
        all_stale k x class (there (Some x) at) ∙ sym stale

-- ---- the answer

module _ (file : DataFile) (image : Image) (f : SuperFields) (has : HasFile image file f) (whole : IsImage image) where
  usable : IsSuper f
  usable = (super_as file.version f has.super.usable).1

  fields_are : AreFieldsOf file.layout file.cluster f
  fields_are = record {
    slots = sym has.layout.slots;
    message_size = sym has.layout.message_size;
    clients = sym has.layout.clients;
    block_size = sym has.layout.block_size;
    blocks = sym has.layout.blocks;
    cluster_is = has.cluster;
  }

  chosen : IsChosenContent (content_at image) (content_with f)
  chosen = super_is_written_as file.version image f whole has.super

  is_usable : IsUsableSuperblock (shape file) (unit_at file.layout file.cluster image) (content_in f)
  is_usable = let passes = passes_as file f fields_are (super_as file.version f has.super.usable).0 usable in
      record { chosen = choice_chosen file.layout file.cluster image (content_with f) whole chosen; tests = passes.0; reference = passes.1 }

  abbrev Unread : Type 0
  Unread = (b : Checkpoint) → b.content ≡ content_in f → IsReadable (shape file) (unit_at file.layout file.cluster image) b → ⊥

  all_shown : (field : Field) (value : ℕ) → FailsTest (shape file) (shown_of file.layout file.cluster image) (content_in f) field value
      → AllChainShown (shape file) (shown_of file.layout file.cluster image) (content_in f)
  all_shown field value (inl broken) = broken_shown (shape file) (shown_of file.layout file.cluster image) (content_in f) value broken.1
  all_shown field value (inr (inl text)) =
      whole_shown (shape file) (shown_of file.layout file.cluster image) (content_in f) text.chain text.whole
  all_shown field value (inr (inr (inl referenced))) =
      whole_shown (shape file) (shown_of file.layout file.cluster image) (content_in f) referenced.1.chain referenced.1.whole
  all_shown field value (inr (inr (inr pending))) =
      whole_shown (shape file) (shown_of file.layout file.cluster image) (content_in f) pending.1.chain pending.1.whole

  unread : (field : Field) (value : ℕ)
      → 0 < f.trailer_address → FailsTest (shape file) (shown_of file.layout file.cluster image) (content_in f) field value → Unread
  unread field value named (inl broken) = broken_unreadable (shape file) (shown_of file.layout file.cluster image) (content_in f) value broken.1
  unread field value named (inr (inl text)) =
      text_unreadable (shape file) (shown_of file.layout file.cluster image) (content_in f) field value refl named usable.op text
  unread field value named (inr (inr (inl referenced))) =
      referenced_unreadable (shape file) (shown_of file.layout file.cluster image) (content_in f) value named referenced.1
  unread field value named (inr (inr (inr pending))) =
      untracked_unreadable (shape file) (shown_of file.layout file.cluster image) (content_in f) value named pending.1

  pub trailer_refused : (e : OpenError) → RefusesTrailer file image f e → SurveysAs file.version file.layout image (Err e)
  trailer_refused NotFormatted refuses = absurd refuses
  trailer_refused (NoQuorum classes) refuses = absurd refuses
  trailer_refused (Version found) refuses = absurd refuses
  trailer_refused (BadField field value) (named, fails) = inr (record {
    file = file;
    fields = f;
    has = has;
    of = record { version_is = refl; layout_is = refl };
    named = named;
    fails = fails;
    opens = BadTrailer (content_in f) is_usable (all_shown field value fails) (unread field value named fails);
  })
  trailer_refused (LayoutDiffers reserved found) refuses = absurd refuses
  trailer_refused (Damaged place class) (named, a, place_is, lacking) =
      let missed = damage_missed (shape file) (shown_of file.layout file.cluster image) (content_in f) a class lacking in record {
        file = file;
        fields = f;
        has = has;
        of = record { version_is = refl; layout_is = refl };
        at = BlockPlace a;
        at_is = sym place_is;
        class_is = class_asked file.layout file.cluster image a lacking.sum class lacking.is;
        opens = LacksBlock (content_in f) a missed.sum is_usable missed.reads missed.missed;
      }
  trailer_refused DiskFault refuses = tt
  trailer_refused BootSpent refuses = absurd refuses
