-- Calls on a file that was opened, whatever was done to its disk before: what they leave by the log that is restarted at the end of the
-- open.
use Rattle.std.{proofs.{Common.{◌≡◌, ◌<◌, ◌^◌, inl, inr, ℕ, List, [], ◌∷◌, ◌++◌, Option, Some, None, refl, sym, ◌∙◌, ap, subst}, lemmas.List.{append-nil}}, specs.Prelude.{take, drop}}
use Rattle.df_base.{specs.{Image.{Image}, Log.{IsLeft, Log, Sync}, Moments.{EachMoment, Extends}}, proofs.Laws.{extends_self, one_some}}
use Rattle.{df_disk.specs.Told.{IsHonest, Told, did}, df_format.specs.Copies.{content_with}, df_model.specs.{Sense.{IsWork}, Work.{Work}}}
use Rattle.{df_layout.specs.declared.layout.Layout.{Layout}, df_units.specs.{Bytes.{unit_at}, Meaning.{content_of}}}
use Rattle.df_theory.{specs.{Device.{IsSafeDisk, NoChanceOf, units_log}, Found.{IsFound}, Next.{booted}, UnitLog.{UnitLog}, Units.{Content, Units}, View.{View, boot_of}}, proofs.Laws.{one_found_law, pool_pools}}
use Rattle.df_session.{specs.{Below.{AreDistinctUnits, DataFile, IsOpened, shape, spelling, told_after}, HeldBlocks.{AreInputs}, Opened.{HistoryBegins}, Serving.{Firm, Grade, StandsFor, Whole, format}, Session.{Act, Exchange, HasView, IsMidway, acts_in, answers_in, answers_of, work_after}, Acknowledging.{IsUntil, KeepsAnswered}, Anew.{KeepsAnew, begun_after}, Begun.{begun_work}, Found.{FoundFile}, Keeping.{KeepsFile, LeavesAll, over}, Laws.{CallsKeep}, Links.{CallsMade, events_made, list_of}}, proofs.Laws.{added_is_told, keeps_self, file_there}}
use Rattle.df_lifetime.{specs.{Hurt.{StoppedOpensBegin}, Life.{AreMade, Extent, IsInOrder, ShowsFile, ToAMoment, ToItsEnd, chapter_of}}, proofs.{Acts.{ends_inputs, first_answers, front_and_rest, has_front, work_on}, Along.{grows}, Files.{one_file}, Orders.{in_order}}}

-- ---- what an open found

module _ (g : Grade) (file : DataFile) (view : View) (t : Told) (layout : Layout) (found : FoundFile layout t)
    (c : CallsMade) (shows : ShowsFile g file view t.shown) (calls : CallsKeep t found.replica found.mended found.mending c) where
  pub one : found.replica.file ≡ file
  one = file_there layout t found ∙ one_file 2 file layout t.shown view found.found shows.found found.is_opened

  found_there : IsFound (shape found.replica.file) (unit_at found.replica.file.layout found.replica.file.cluster t.shown) view
  found_there = subst (λ (f : DataFile). IsFound (shape f) (unit_at f.layout f.cluster t.shown) view) (sym one) shows.found

  pub anew : KeepsAnew g t found.replica view found.mending.events c
  anew = calls.anew g view found_there (rw (sym one) at shows.distinct) (rw (sym one) at shows.stands)

  -- said of the file
  pub keeps_begun : KeepsFile file g (begun_work file t.shown view)
      (begun_after found.mending.events t) c.exchanges c.failed (over [] (events_made c) (begun_after found.mending.events t))
  keeps_begun = subst (λ (f : DataFile). KeepsFile f g (begun_work f t.shown view) (begun_after found.mending.events t)
      c.exchanges c.failed (over [] (events_made c) (begun_after found.mending.events t))) one anew.keeps

  pub answers_begun : KeepsAnswered file g (begun_work file t.shown view) (over [] [] (begun_after found.mending.events t)) c
  answers_begun = subst (λ (f : DataFile).
      KeepsAnswered f g (begun_work f t.shown view) (over [] [] (begun_after found.mending.events t)) c) one anew.acknowledged

  pub begins_begun : HistoryBegins file (begun_after found.mending.events t).shown
  begins_begun = subst (λ (f : DataFile). HistoryBegins f (begun_after found.mending.events t).shown) one anew.begins

  pub work_begun : IsWork (shape file) (spelling file) (begun_work file t.shown view)
  work_begun = subst (λ (f : DataFile). IsWork (shape f) (spelling f) (begun_work f t.shown view)) one (calls.stands view found_there).0

  -- boots were left
  pub unspent_begun : boot_of view < 2 ^ 62
  unspent_begun = let is : IsOpened layout t.shown found.found = found.is_opened in
      let of : found.found.file ≡ file = one_file 2 file layout t.shown view found.found shows.found is in
      let there : IsFound (shape file) (unit_at file.layout file.cluster t.shown) is.view =
      rw of at (rw (sym is.of.layout_is) at is.found) in subst (λ (v : View).
      boot_of v < 2 ^ 62) (one_found_law (shape file) (unit_at file.layout file.cluster t.shown) is.view view there shows.found) is.unspent

-- ---- the moments of its calls, and their end

-- the image has the view after all that was answered, and perhaps some of the others
pub record Came (file : DataFile) (g : Grade) (w : Work) (answered perhaps : List Act) (image : Image) : Type 0 where
  pub came : List Act
  pub more : List Act
  pub rest : List Act
  pub are : came ≡ answered ++ more
  pub some : perhaps ≡ more ++ rest
  pub has : HasView file g (work_after file w came) image

module _ (file : DataFile) (g : Grade) (w : Work) where
  all_came : (acts : List Act) (failed : Option Act) (n : Told) → LeavesAll file g w acts failed n
      → (image : Image) → IsLeft n.log image → NoChanceOf (format file) n.log image → Came file g w acts (list_of failed) image
  all_came acts None n all image left fair =
      record { came = acts; more = []; rest = []; are = sym (append-nil acts); some = refl; has = all image left fair }
  all_came acts (Some a) n all image left fair = elim (all image left fair) [
    | inl before ↦ record { came = acts; more = []; rest = a ∷ []; are = sym (append-nil acts); some = refl; has = before }
    | inr after ↦ record { came = acts ++ a ∷ []; more = a ∷ []; rest = []; are = refl; some = refl; has = after }
  ]

  some_came : (acts perhaps : List Act) (log : Log) → IsMidway file g (work_after file w acts) perhaps log
      → (image : Image) → IsLeft log image → NoChanceOf (format file) log image → Came file g w acts perhaps image
  some_came acts perhaps log mid image left fair =
      let front = has_front file g (work_after file w acts) perhaps image (mid.left image left fair) in
      record { came = acts ++ front.front; more = front.front; rest = front.rest; are = refl; some = front.are; has = rw (sym (work_on file w acts front.front)) at front.has }

  module _ (b : Told) (c : CallsMade) (keeps : KeepsFile file g w b c.exchanges c.failed (over [] (events_made c) b))
      (answered : KeepsAnswered file g w (over [] [] b) c) where
    abbrev end : Told
    end = told_after (events_made c) (did Sync b)

    same_end : keeps.after ≡ end
    same_end = one_some (over [] (events_made c) b) keeps.after end keeps.is refl

    grew : Extends end.log (did Sync b).log
    grew = grows (events_made c) (did Sync b)

    last : IsMidway file g w (acts_in c.exchanges ++ list_of c.failed) end.log
    last = subst (λ (x : Told).
        EachMoment (did Sync b).log x.log (IsMidway file g w (acts_in c.exchanges ++ list_of c.failed))) same_end keeps.moments end.log
        (record { since = grew; until = extends_self end.log })

    midway : (k : ℕ) (m : Told) → AreMade (ToAMoment k) b c m
        → IsMidway file g (work_after file w (acts_in (take k c.exchanges))) (acts_in (drop k c.exchanges) ++ list_of c.failed) m.log
    midway k m made = answered k m.log made.0 (rw ((added_is_told (events_made c) (did Sync b))) made.1)

    pub made_honest : (extent : Extent) (m : Told) → AreMade extent b c m → IsHonest m
    made_honest ToItsEnd m made = subst IsHonest (same_end ∙ sym made) keeps.honest
    made_honest (ToAMoment k) m made = made.2

    pub made_safe : (extent : Extent) (m : Told) → AreMade extent b c m → IsSafeDisk (format file) (shape file) m.log
    made_safe ToItsEnd m made = subst (λ (x : Told). IsSafeDisk (format file) (shape file) x.log) (sym made) last.safe
    made_safe (ToAMoment k) m made = (midway k m made).safe

    -- the log begins where it was begun
    pub made_start : (extent : Extent) (m : Told) → AreMade extent b c m → m.log.start ≡ b.log.start
    made_start ToItsEnd m made = ap (λ (x : Told). x.log.start) made ∙ grew.2
    made_start (ToAMoment k) m made = sym made.1.2 ∙ grew.2

    pub made_left : (extent : Extent) (shown : Image) (m : Told)
        → AreMade extent b c m → (image : Image) → IsLeft m.log image → NoChanceOf (format file) m.log image
        → Came file g w (acts_in (chapter_of extent shown c).answered) (chapter_of extent shown c).perhaps image
    made_left ToItsEnd shown m made = subst (λ (x : Told). (image : Image) → IsLeft x.log image
        → NoChanceOf (format file) x.log image → Came file g w (acts_in c.exchanges) (list_of c.failed) image) (same_end ∙ sym made)
        (all_came (acts_in c.exchanges) c.failed keeps.after keeps.left)
    made_left (ToAMoment k) shown m made =
        some_came (acts_in (take k c.exchanges)) (acts_in (drop k c.exchanges) ++ list_of c.failed) m.log (midway k m made)

made_inputs : (c : CallsMade) (extent : Extent) (shown : Image)
    → AreInputs (acts_in (chapter_of extent shown c).answered ++ (chapter_of extent shown c).perhaps)
made_inputs c ToItsEnd shown = ends_inputs c.from c.to c.old c.new c.exchanges c.failed c.calls
made_inputs c (ToAMoment k) shown = subst AreInputs
    (sym (front_and_rest k c.exchanges (list_of c.failed))) (ends_inputs c.from c.to c.old c.new c.exchanges c.failed c.calls)

-- ---- so a life that begins there is in order

module _ (file : DataFile) (first : View) (t m : Told) (shows : ShowsFile Whole file first t.shown) (unspent : boot_of first < 2 ^ 62) where
  -- a session as far as it is known, of which each image that is left has what came through
  opened_by : (answered : List Exchange) (perhaps : List Act) → answers_in answered ≡ answers_of file (begun_work file t.shown first)
      (acts_in answered) → AreInputs (acts_in answered ++ perhaps) → IsHonest m → IsSafeDisk (format file) (shape file) m.log
      → ((image : Image) → IsLeft m.log image
      → NoChanceOf (format file) m.log image → Came file Whole (begun_work file t.shown first) (acts_in answered) perhaps image)
      → IsInOrder file first (record { shown = t.shown; answered = answered; perhaps = perhaps } ∷ []) m
  opened_by answered perhaps are inputs honest safe left =
      in_order file first (record { shown = t.shown; answered = answered; perhaps = perhaps } ∷ []) m shows.version honest (record {
        safe = safe;
        left = λ image gone no. let by = left image gone no in record {
          view = by.has.0;
          had = (
            first,
            keeps_self first,
            inr (
              by.came,
              record {
                whole = shows.whole;
                found = shows.found;
                unspent = unspent;
                inputs = inputs;
                answers_are = are;
                came = record { more = by.more; rest = by.rest; are = by.are; some = by.some };
                view = by.has.1;
              },
            ),
          );
          held = by.has.2.0;
          stands = by.has.2.1;
        };
      })

pub opened_in_order : (file : DataFile) (first : View) (t m : Told) (layout : Layout) (found : FoundFile layout t)
    (c : CallsMade) (extent : Extent) → ShowsFile Whole file first t.shown → CallsKeep t found.replica found.mended found.mending c
    → AreMade extent (begun_after found.mending.events t) c m → IsInOrder file first (chapter_of extent t.shown c ∷ []) m
opened_in_order file first t m layout found c ToItsEnd shows calls made = let w : Work = begun_work file t.shown first in
    let b : Told = begun_after found.mending.events t in let keeps = keeps_begun Whole file first t layout found c shows calls in
    let answered = answers_begun Whole file first t layout found c shows calls in
    opened_by file first t m shows (unspent_begun Whole file first t layout found c shows calls) c.exchanges
    (list_of c.failed) keeps.answered (made_inputs c ToItsEnd t.shown) (made_honest file Whole w b c keeps answered ToItsEnd m made)
    (made_safe file Whole w b c keeps answered ToItsEnd m made) (made_left file Whole w b c keeps answered ToItsEnd t.shown m made)
opened_in_order file first t m layout found c (ToAMoment k) shows calls made = let w : Work = begun_work file t.shown first in
    let b : Told = begun_after found.mending.events t in let keeps = keeps_begun Whole file first t layout found c shows calls in
    let answered = answers_begun Whole file first t layout found c shows calls in
    opened_by file first t m shows (unspent_begun Whole file first t layout found c shows calls)
    (take k c.exchanges) (acts_in (drop k c.exchanges) ++ list_of c.failed) (first_answers file k w c.exchanges keeps.answered)
    (made_inputs c (ToAMoment k) t.shown) (made_honest file Whole w b c keeps answered (ToAMoment k) m made) (made_safe
    file Whole w b c keeps answered (ToAMoment k) m made) (made_left file Whole w b c keeps answered (ToAMoment k) t.shown m made)

-- ---- a stop within the open

-- a boot update leaves what is referenced
stands_booted : (g : Grade) (image : Units) (view : View) (d : Content) → StandsFor g image view → StandsFor g image (booted view d)
stands_booted Firm image view d stands = tt
stands_booted Whole image view d stands = stands

-- no two units that came about by no chance have one checksum
pub distinct_left : (file : DataFile) (log : Log) (image : Image)
    → NoChanceOf (format file) log image → AreDistinctUnits (unit_at file.layout file.cluster image)
distinct_left file log image chance place other x y one two = let units : UnitLog = units_log (format file) log in
    chance.distinct place other x y (pool_pools units.start units.events place x (chance.pooled place x one))
    (pool_pools units.start units.events other y (chance.pooled other y two))

pub stopped_opens_begin : StoppedOpensBegin
stopped_opens_begin g file view t m image layout found c shows calls moment left chance =
    let same : found.replica.file ≡ file = one g file view t layout found c shows calls in
    let keeps = anew g file view t layout found c shows calls in let fair = rw (sym same) at chance in
    let is = (keeps.opening m.log moment).left image left fair in
    let stands : StandsFor g (unit_at file.layout file.cluster image) view = rw same at is.1 in elim is.0 [
      | inl before ↦ (
        view,
        keeps_self view,
        record {
          version = shows.version;
          whole = left.whole;
          found = rw same at before;
          distinct = distinct_left file m.log image chance;
          stands = stands;
        },
      )
      | inr after ↦ (
        booted view (content_of (content_with found.replica.fields)),
        keeps.bare,
        record {
          version = shows.version;
          whole = left.whole;
          found = rw same at after;
          distinct = distinct_left file m.log image chance;
          stands = stands_booted g (unit_at file.layout file.cluster image) view (content_of (content_with found.replica.fields)) stands;
        },
      )
    ]
