-- A mending and a boot update put headers and copies of the superblock, and so leave each place that a call reads as it was; and after them
-- the four copies show the superblock that was written.
use Rattle.std.proofs.Common.{◌≡◌, ℕ, zero, suc, ◌+◌, ◌<◌, List, [], ◌∷◌, ◌++◌, Bool, true, false, Option, None, Some, refl, ◌∙◌, ap, arith}
use Rattle.{df_base.specs.{Image.{Image, IsImage}, Log.{Event}}, df_layout.specs.declared.{damage.Mend.{Mend}, layout.Layout.{Layout}}}
use Rattle.df_format.specs.{Copies.{content_with}, declared.header.Header.{Header}, declared.superblock.SuperFields.{SuperFields}}
use Rattle.{df_superblock.specs.Steps.{repaired}, df_units.specs.{Bytes.{unit_at}, Meaning.{content_of}, Puts.{put_copies, put_copy}}}
use Rattle.df_theory.specs.{CopyPuts.{update_steps}, Device.{AreSteps}, MakingLaws.{all_puts}, MendLaws.{copy_steps, header_steps}, Runs.{Puts, Step, Syncs}, Units.{AnyUnit, BlockPlace, CopyPlace, CopyUnit, Place, PreparePlace, ReplyPlace, or_else}}
use Rattle.df_damage.specs.Below.{DataFile}
use Rattle.df_opening.{specs.{Sparing.{SparesReads, image_after}, Mending.{mending_steps, raising_events, raising_steps, sector_put, sector_puts, sectors_of}, Keeping.{format}}, proofs.{Fronts.{FrontSteps, all_front}, StepShows.{shown_by, spared_by, unit_after}}}

module _ (place : Place) where
  after_both : (ss ts : List Step) (o : Option AnyUnit) → unit_after (ss ++ ts) place o ≡ unit_after ts place (unit_after ss place o)
  after_both [] ts o = refl
  after_both ((Puts put) ∷ ss) ts o = after_both ss ts (or_else (put place) o)
  after_both (Syncs ∷ ss) ts o = after_both ss ts o

  module _ (table : List Header) (other : (k : ℕ) → sector_put table k place ≡ None) where
    sectors_aside : (ks : List ℕ) (o : Option AnyUnit) → unit_after (all_puts (sector_puts table ks)) place o ≡ o
    sectors_aside [] o = refl
    sectors_aside (k ∷ ks) o =
        ap (λ (p : Option AnyUnit). unit_after (all_puts (sector_puts table ks)) place (or_else p o)) (other k) ∙ sectors_aside ks o

    headers_aside : (ks : List ℕ) (o : Option AnyUnit) → unit_after (header_steps (sector_puts table ks)) place o ≡ o
    headers_aside [] o = refl
    headers_aside (k ∷ ks) o = after_both (all_puts (sector_puts table (k ∷ ks))) (Syncs ∷ []) o ∙ sectors_aside (k ∷ ks) o

  copies_aside : (f : SuperFields) → ((n : ℕ) → put_copy n f place ≡ None)
      → (members : List Bool) (number : ℕ) (o : Option AnyUnit) → unit_after (copy_steps (repaired f number members)) place o ≡ o
  copies_aside f other [] number o = refl
  copies_aside f other (true ∷ members) number o = copies_aside f other members (number + 1) o
  copies_aside f other (false ∷ members) number o = ap (λ (p : Option AnyUnit). unit_after
      (copy_steps (repaired f (number + 1) members)) place (or_else p o)) (other number) ∙ copies_aside f other members (number + 1) o

  mending_aside : (layout : Layout) (table : List Header) (mends : List Mend) (f : SuperFields) (members : List Bool)
      → ((k : ℕ) → sector_put table k place ≡ None) → ((n : ℕ) → put_copy n f place ≡ None) → (o : Option AnyUnit)
      → unit_after (mending_steps layout table mends f members) place o ≡ o
  mending_aside layout table mends f members header copy o = let ks = sectors_of layout mends in
      after_both (header_steps (sector_puts table ks)) (copy_steps (repaired f 0 members)) o
      ∙ ap (unit_after (copy_steps (repaired f 0 members)) place) (headers_aside table header ks o) ∙ copies_aside f copy members 0 o

  -- the update after it puts copies alone
  pub raising_aside : (layout : Layout) (table : List Header) (mends : List Mend) (f : SuperFields) (members : List Bool) (d : SuperFields)
      → ((k : ℕ) → sector_put table k place ≡ None) → ((n : ℕ) (g : SuperFields) → put_copy n g place ≡ None) → (o : Option AnyUnit)
      → unit_after (raising_steps layout table mends f members d) place o ≡ o
  raising_aside layout table mends f members d header copy o =
      after_both (mending_steps layout table mends f members) (update_steps (put_copies d)) o
      ∙ ap (unit_after (update_steps (put_copies d)) place) (mending_aside layout table mends f members header (λ n. copy n f) o) ∙ four d o
    where
      four : (g : SuperFields) (p : Option AnyUnit) → unit_after (update_steps (put_copies g)) place p ≡ p
      four g p = ap (λ (q : Option AnyUnit).
          or_else (put_copy 3 g place) (or_else (put_copy 2 g place) (or_else (put_copy 1 g place) (or_else q p)))) (copy 0 g)
          ∙ ap (λ (q : Option AnyUnit). or_else (put_copy 3 g place) (or_else (put_copy 2 g place) (or_else q p))) (copy 1 g)
          ∙ ap (λ (q : Option AnyUnit). or_else (put_copy 3 g place) (or_else q p)) (copy 2 g)
          ∙ ap (λ (q : Option AnyUnit). or_else q p) (copy 3 g)

module _ (file : DataFile) (table : List Header) (mends : List Mend) (f : SuperFields) (members : List Bool) (d : SuperFields) where
  -- each front of these device calls leaves them so
  pub front_spares : (part : List Event) → FrontSteps (format file) part (raising_steps file.layout table mends f members d)
      → (image : Image) → IsImage image → SparesReads file image (image_after part image)
  front_spares part front image whole = spared_by file part front.steps front.are
      (λ k o. front.aside (PreparePlace k) o (raising_aside (PreparePlace k) file.layout table mends f members d (λ n. refl) (λ n g. refl) None))
      (λ k o. front.aside (ReplyPlace k) o (raising_aside (ReplyPlace k) file.layout table mends f members d (λ n. refl) (λ n g. refl) None))
      (λ k o. front.aside
      (BlockPlace k) o (raising_aside (BlockPlace k) file.layout table mends f members d (λ n. refl) (λ n g. refl) None)) image whole

  pub raising_spares : AreSteps
      (format file) (raising_events file.layout table mends f members d) (raising_steps file.layout table mends f members d)
      → (image : Image) → IsImage image → SparesReads file image (image_after (raising_events file.layout table mends f members d) image)
  raising_spares are = front_spares (raising_events file.layout table mends f members d)
      (all_front (format file) (raising_events file.layout table mends f members d) (raising_steps file.layout table mends f members d) are)

-- ---- the superblock

four_there : (f : SuperFields) (n : ℕ) → n < 4
    → (o : Option AnyUnit) → unit_after (update_steps (put_copies f)) (CopyPlace n) o ≡ Some (CopyUnit (content_of (content_with f)))
four_there f zero inside o = refl
four_there f (suc zero) inside o = refl
four_there f (suc (suc zero)) inside o = refl
four_there f (suc (suc (suc zero))) inside o = refl
four_there f (suc (suc (suc (suc n)))) inside o = absurd (omega (arith, inside))

-- each copy shows what was written
pub raising_copies : (file : DataFile) (table : List Header) (mends : List Mend) (f : SuperFields) (members : List Bool) (d : SuperFields)
    → AreSteps (format file) (raising_events file.layout table mends f members d) (raising_steps file.layout table mends f members d)
    → (image : Image) → IsImage image → (n : ℕ) → n < 4 → unit_at file.layout file.cluster
    (image_after (raising_events file.layout table mends f members d) image) (CopyPlace n) ≡ Some (CopyUnit (content_of (content_with d)))
raising_copies file table mends f members d are image whole n inside = let first = mending_steps file.layout table mends f members in
    let shown = unit_at file.layout file.cluster image (CopyPlace n) in shown_by file.layout file.cluster
    (raising_events file.layout table mends f members d) (raising_steps file.layout table mends f members d) image are whole (CopyPlace n)
    ∙ after_both (CopyPlace n) first (update_steps (put_copies d)) shown ∙ four_there d n inside (unit_after first (CopyPlace n) shown)
