-- A file in order: as it was made or taken, as it is opened, and after a barrier.
use Rattle.{std.proofs.Common.{◌≡◌, ℕ, List, [], Some, None, Ok, refl, sym, subst}, df_disk.specs.Told.{IsHonest, Told}}
use Rattle.df_base.{specs.{Image.{Image}, Log.{IsLeft, IsLog, Log, Sync, add, now}, Moments.{EachMoment, Extends}}, proofs.Laws.{extends_self, from_before, now_is_image, started}}
use Rattle.{df_layout.specs.declared.layout.Layout.{Layout}, df_trailer.specs.Text.{parse_of}}
use Rattle.df_theory.{specs.{Device.{IsSafeDisk, NoChanceOf, units_log}, Holds.{Held, Stands}, TidyLaws.{IsTidy}, View.{View}}, proofs.Laws.{disk_barrier_law, firm_units, found_law, rests_holds, rests_safe, safe_disk_law}}
use Rattle.df_units.{specs.{Bytes.{unit_at}, Making.{first_view}, Meaning.{layout_of}}, proofs.Laws.{is_format, of_places}}
use Rattle.df_session.{specs.{Below.{shape, DataFile, restarted}, Following.{MayOpen}, Making.{MayMakeOn, file_of}, Serving.{format}}, proofs.Laws.{begun_may_open, keeps_self}}
use Rattle.df_lifetime.specs.Life.{Chapter, IsInOrder, MadeOn, MayBeOpened, MayHave, MayTake}

-- what is there now is one of the images that a stop may leave
pub now_left : (log : Log) → IsLog log → IsLeft log (now log)
now_left log is = record { whole = now_is_image log.start log.events is.start is.events; kept = λ sector firm. refl }

module _ (file : DataFile) (first : View) (chapters : List Chapter) where
  -- the image has a view that the file may have come to
  pub record Has (image : Image) : Type 0 where
    pub view : View
    pub had : MayHave file first chapters view
    pub held : Held (shape file) ((format file).unit_at image) view
    pub stands : Stands ((format file).unit_at image) view

  -- the log is safe, and so is each image that a stop may leave
  pub record Order (log : Log) : Type 0 where
    pub safe : IsSafeDisk (format file) (shape file) log
    pub left : (image : Image) → IsLeft log image → NoChanceOf (format file) log image → Has image

  pub order_of : (t : Told) → IsInOrder file first chapters t → Order t.log
  order_of t is = record {
    safe = is.safe;
    left = λ image left chance. let has = is.left image left chance in record { view = has.0; had = has.1; held = has.2; stands = has.3 };
  }

  pub in_order : (t : Told) → file.version ≡ 2 → IsHonest t → Order t.log → IsInOrder file first chapters t
  in_order t version honest order = record {
    version = version;
    safe = order.safe;
    honest = honest;
    left = λ image left chance. let has = order.left image left chance in (has.view, has.had, has.held, has.stands);
  }

  -- ---- it may be opened

  module _ (t : Told) (is : IsInOrder file first chapters t) (chance : NoChanceOf (format file) t.log (now t.log)) where
    pub here : Has (now t.log)
    here = (order_of t is).left (now t.log) (now_left t.log is.safe.is_log) chance

    pub may : MayOpen file here.view t
    may = record { version = is.version; safe = is.safe; honest = is.honest; found = (found_law (shape file) ((format file).unit_at (now t.log)) here.view).0 here.held; no_chance = chance }

    pub shows : now t.log ≡ t.shown
    shows = λ i sector. sym (is.honest.shows sector) i

    pub stands_shown : Stands (unit_at file.layout file.cluster t.shown) here.view
    stands_shown = subst (λ (image : Image). Stands (unit_at file.layout file.cluster image) here.view) shows here.stands

    pub goes_on : MayBeOpened file first chapters t
    goes_on = record { view = here.view; had = here.had; may = may; stands = stands_shown }

    -- after the barrier a stop leaves what is shown
    only : (image : Image) → IsLeft (add Sync t.log) image → now t.log ≡ image
    only image left i sector = sym (left.kept sector refl) i

    pub synced : Order (add Sync t.log)
    synced = record {
      safe = safe_disk_law (format file) (shape file)
          (add Sync t.log) (is_format file.layout file.cluster) (record { start = is.safe.is_log.start; events = is.safe.is_log.events })
          (rests_safe (shape file) (units_log (format file) (add Sync t.log))
          here.view (disk_barrier_law (format file) (shape file) here.view t.log is.safe may.found));
      left = λ image left no. subst Has (only image left) here;
    }

    -- nothing was added, or the sync of the barrier
    pub same_moments : EachMoment t.log t.log Order
    same_moments = started t.log Order (order_of t is)

    pub after_barrier : (exit : Log) → Extends exit (add Sync t.log) → EachMoment (add Sync t.log) exit Order → EachMoment t.log exit Order
    after_barrier exit grew later = from_before Sync t.log exit Order (order_of t is) grew later

    pub synced_moments : EachMoment t.log (add Sync t.log) Order
    synced_moments = after_barrier (add Sync t.log) (extends_self (add Sync t.log)) (started (add Sync t.log) Order synced)

-- ---- as it was made

pub none_referenced : (file : DataFile) (image : Image) → Stands ((format file).unit_at image) (first_view file.layout file.cluster)
none_referenced file image a c is = absurd (let no : None ≡ Some c = is in cc)

tidy_order : (file : DataFile) (log : Log) → IsSafeDisk (format file) (shape file) log → IsTidy (shape file)
    (units_log (format file) log) (first_view file.layout file.cluster) → Order file (first_view file.layout file.cluster) [] log
tidy_order file log safe tidy = record {
  safe = safe;
  left = λ image left chance. record {
    view = first_view file.layout file.cluster;
    had = keeps_self (first_view file.layout file.cluster);
    held = rests_holds (shape file) (units_log (format file) log) (first_view file.layout file.cluster)
        tidy.rests ((format file).unit_at image) (firm_units (format file) (is_format file.layout file.cluster) log image left.kept) chance;
    stands = none_referenced file image;
  };
}

pub made_in_order : (layout : Layout) (cluster : ℕ) (t n : Told) (may : MayMakeOn layout cluster t)
    → MadeOn layout cluster t n may (Ok tt) → IsInOrder (file_of layout cluster may.named) (first_view layout cluster) [] n
made_in_order layout cluster t n may made = let file = file_of layout cluster may.named in
    in_order file (first_view layout cluster) [] n refl made.honest
    (tidy_order file n.log (made.leaves.moments n.log (record { since = made.grew; until = extends_self n.log })) made.leaves.made.tidy)

-- ---- as it was taken

pub taken_in_order : (file : DataFile) (first : View) (t : Told) → MayTake file first t.shown → IsInOrder file first [] (restarted t)
taken_in_order file first t may = let opens : MayOpen file first (restarted t) = begun_may_open file first t may.version may.begins in
    let held : Held (shape file) (unit_at file.layout file.cluster t.shown) first =
    (found_law (shape file) (unit_at file.layout file.cluster t.shown) first).1 (of_places
    file.layout file.cluster file.named (parse_of (layout_of file.layout)) t.shown may.begins.whole) may.begins.found may.begins.clean in
    let only : (image : Image) → IsLeft (restarted t).log image → t.shown ≡ image = λ image left. λ i sector. sym (left.kept sector refl) i in
    in_order file first [] (restarted t) may.version opens.honest
    (record { safe = opens.safe; left = λ image left no. subst (Has file first []) (only image left) (record { view = first; had = keeps_self first; held = held; stands = may.stands }) })
