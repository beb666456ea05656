-- Each thing that happens to a file that is in order leaves it in order.
use Rattle.std.{proofs.{Common.{◌≡◌, ◌<◌, ◌^◌, inl, inr, ℕ, zero, suc, List, [], ◌∷◌, ◌++◌, Option, Some, None, refl, sym, ◌∙◌, ap, subst}, lemmas.List.{append-nil}}, specs.Prelude.{take, drop}}
use Rattle.df_base.{specs.{Image.{Image, IsImage, changed}, Log.{AreLoose, Event, IsLeft, IsLog, Log, Stop, Sync, now}, Moments.{EachMoment, Extends}}, proofs.Laws.{changed_is_image, extends_self, from_before, now_is_image, weaker, one_some}}
use Rattle.{df_disk.specs.{Adds.{AddsPart, after_all}, Told.{IsHonest, Told, did}}, df_layout.specs.declared.layout.Layout.{Layout}}
use Rattle.df_format.specs.declared.superblock.SuperFields.{SuperFields}
use Rattle.df_theory.{specs.{Device.{IsSafeDisk, NoChanceOf, units_log}, Found.{IsFound}, Rests.{RestsOn}, Next.{IsSameBare}, View.{View, boot_of}}, proofs.Laws.{disk_stop_law, one_found_law, rests_safe, safe_disk_law, changed_kept}}
use Rattle.df_units.{specs.{Bytes.{unit_at}, Making.{first_view}}, proofs.Laws.{is_format}}
use Rattle.df_model.specs.{Views.{KeepsView}, Work.{Work, kept}, declared.errors.OpenError.TheVariants.{NotFormatted}}
use Rattle.df_session.{specs.{Below.{IsOpened, State as Replica, boot_fields, shape, DataFile, IsUnformatted, told_after}, Following.{MayOpen}, HeldBlocks.{AreInputs}, Making.{file_of}, Opened.{MendsPartly, StopsOpening, begun_state}, Serving.{Grade, IsGoodFor, StandsFor, Whole, format}, Session.{Act, Exchange, HasView, IsMidway, acts_in, work_after}, Begun.{begun_work}, Links.{CallsMade, events_made, list_of}, Programs.{FileRun, LooksOnly, Serves, ServedFile, StopsInOpen, calls_in_run}, Acknowledging.{IsUntil, KeepsAnswered, WereAnswered}, Keeping.{KeepsFile, LeavesAll, over}}, proofs.Laws.{added_is_told, found_is_usable, good_left, good_safe, honest_stays, keeps_on, keeps_self, file_there}}
use Rattle.df_top.{proofs.Laws.{second_is_left}, specs.{Formats.{Formats}, declared.status.Status.{Status}, declared.status.Status.TheVariants.{Done, Found, Words, Script, Refused, DiskFault, ReadFault, WriteFault, Memory}}}
use Rattle.df_lifetime.{specs.{Life.{Chapter, EveryLifeGoesOn, EveryLifeIsInOrder, EveryRunGoesAlong, GoesAlong, HaveAnswers, IsInOrder, MayHave, ToAMoment, ToItsEnd, chapter_of, chapters_of, sessions_in}, Life.Life.{Begun, Ended, Made, Opened, Ran, Spared, Stopped, Taken}, Words.{OtherWord}, Words.OtherWord.{ToFormat, ToUpgrade}}, proofs.{Bases.{AnsweredOver, KeepsOver, told_over}, Along.{after_along, along_on, answered_along, extends_along, grows, moment_along, one_end}, Acts.{HasFront, ends_inputs, first_answers, front_and_rest, has_front, work_on}, Files.{one_file}, Haves.{had_on}, Openings.{opened_in_order}, Orders.{Has, Order, after_barrier, goes_on, here, in_order, made_in_order, may, none_referenced, order_of, same_moments, shows, stands_shown, synced, synced_moments, taken_in_order}}}

-- the word `format` leaves a disk as it is whose superblock isn't blank
pub format_spares : (layout : Layout) (cluster : ℕ) (t n : Told) (old new : Option (List ℕ)) (status : Status)
    → (IsUnformatted t.shown → ⊥) → Formats layout cluster (Some t) (Some n) old new status → t ≡ n
format_spares layout cluster t n old new Done formatted made = absurd (formatted (made.0.may.blank t refl))
format_spares layout cluster t n old new Refused formatted refuses = one_some (Some n) t n refuses.1.same refl
format_spares layout cluster t n old new DiskFault formatted part =
    elim part.2 [ inl none ↦ one_some (Some n) t n none refl | inr blank ↦ absurd (formatted blank) ]
format_spares layout cluster t n old new WriteFault formatted (inl made) = absurd (formatted (made.0.may.blank t refl))
format_spares layout cluster t n old new WriteFault formatted (inr refuses) = one_some (Some n) t n refuses.1.same refl
format_spares layout cluster t n old new Memory formatted nothing = one_some (Some n) t n nothing.0 refl
format_spares layout cluster t n old new Found formatted none = absurd none
format_spares layout cluster t n old new Words formatted none = absurd none
format_spares layout cluster t n old new Script formatted none = absurd none
format_spares layout cluster t n old new ReadFault formatted none = absurd none

-- what a run leaves of a file's log that goes along with the disk, where it made these calls: it is honest, and in order at the end, and at
-- each moment, by what was answered by then
pub record Comes (file : DataFile) (first : View) (chapters : List Chapter) (calls : Option CallsMade) (t n b : Told) : Type 0 where
  pub end : Told
  pub along : GoesAlong t n b end
  pub own : b ≡ t → end ≡ n
  pub honest : IsHonest end
  pub at_end : Order file first (chapters_of ToItsEnd t.shown calls ++ chapters) end.log
  pub moments : (k : ℕ) (p m : Told) → Extends n.log p.log
      → GoesAlong t p b m → HaveAnswers k p.log calls → Order file first (chapters_of (ToAMoment k) t.shown calls ++ chapters) m.log

module _ (file : DataFile) (first : View) (chapters : List Chapter) (b : Told) (is : IsInOrder file first chapters b)
    (chance : NoChanceOf (format file) b.log (now b.log)) (t : Told) (shown : b.shown ≡ t.shown) where
  -- ---- no calls were made

  -- these events were added
  quiet_comes : (es : List Event) (n : Told) → told_after es t ≡ n → Order file first chapters (told_after es b).log
      → EachMoment b.log (told_after es b).log (Order file first chapters) → Comes file first chapters None t n b
  quiet_comes es n same at_end each = let along : GoesAlong t (told_after es t) b (told_after es b) = after_along es t b shown in
      subst (λ (x : Told). Comes file first chapters None t x b) same (record {
        end = told_after es b;
        along = along;
        own = ap (told_after es);
        honest = honest_stays es b is.honest;
        at_end = at_end;
        moments = λ k p m until part had. each m.log (moment_along t p (told_after es t) b m (told_after es b) along part until);
      })

  -- nothing but the barrier was done
  same_comes : (n : Told) → t ≡ n → Comes file first chapters None t n b
  same_comes n same = quiet_comes [] n same (order_of file first chapters b is) (same_moments file first chapters b is chance)

  sync_comes : (n : Told) → did Sync t ≡ n → Comes file first chapters None t n b
  sync_comes n same = quiet_comes (Sync ∷ []) n same (synced file first chapters b is chance) (synced_moments file first chapters b is chance)

  part_comes : (new : Option Told) (n : Told) → new ≡ Some n → AddsPart (Sync ∷ []) (Some t) new → Comes file first chapters None t n b
  part_comes new n to (inl none) = same_comes n (one_some new t n none to)
  part_comes new n to (inr all) = sync_comes n (one_some new (did Sync t) n all to)

  -- ---- the view that is found

  abbrev view : View
  view = (here file first chapters b is chance).view

  opens : MayOpen file view b
  opens = may file first chapters b is chance

  shows_now : now b.log ≡ t.shown
  shows_now = shows file first chapters b is chance ∙ shown

  found_shown : IsFound (shape file) (unit_at file.layout file.cluster t.shown) view
  found_shown = subst (λ (image : Image). IsFound (shape file) (unit_at file.layout file.cluster image) view) shows_now opens.found

  stands_there : StandsFor Whole (unit_at file.layout file.cluster t.shown) view
  stands_there = subst (λ (image : Image).
      StandsFor Whole (unit_at file.layout file.cluster image) view) shown (stands_shown file first chapters b is chance)

  whole : IsImage t.shown
  whole = subst IsImage shows_now (now_is_image b.log.start b.log.events is.safe.is_log.start is.safe.is_log.events)

  -- its superblock is there
  formatted : IsUnformatted t.shown → ⊥
  formatted blank = found_is_usable file t.shown view is.version whole found_shown NotFormatted blank

  had : MayHave file first chapters view
  had = (here file first chapters b is chance).had

  -- what was opened is the file, in whatever rooms
  one_opened : (layout : Layout) (s : Replica) → IsOpened layout t.shown s → s.file ≡ file
  one_opened layout s opened = one_file 2 file layout t.shown view s found_shown opened

  -- and boots were left
  one_unspent : (layout : Layout) (s : Replica) → IsOpened layout t.shown s → boot_of view < 2 ^ 62
  one_unspent layout s opened = let of = one_opened layout s opened in
      let there : IsFound (shape file) (unit_at file.layout file.cluster t.shown) opened.view =
      rw of at (rw (sym opened.of.layout_is) at opened.found) in subst (λ (v : View). boot_of v
      < 2 ^ 62) (one_found_law (shape file) (unit_at file.layout file.cluster t.shown) opened.view view there found_shown) opened.unspent

  -- ---- the disk failed within the mending or the boot update

  good_order : (raised : View)
      → KeepsView view raised → (log : Log) → IsGoodFor Whole (format file) (shape file) view raised log → Order file first chapters log
  good_order raised bare log good = record {
    safe = good_safe file Whole view raised log good;
    left = λ image left no. elim (good_left file Whole view raised log good image left no) [
      | inl old ↦ record { view = old.0; had = had_on file first chapters view old.0 had old.1; held = old.2.0; stands = old.2.1 }
      | inr new ↦ record { view = new.0; had = had_on file first chapters view new.0 had (keeps_on view raised new.0 bare new.1); held = new.2.0; stands = new.2.1 }
    ];
  }

  mends_comes : (layout : Layout) (new : Option Told) (n : Told)
      → new ≡ Some n → MendsPartly layout t new → Comes file first chapters None t n b
  mends_comes layout new n to mends = let one : mends.found.file ≡ file = one_opened layout mends.found mends.opened in
      let es : List Event = mends.mending.events in let d : SuperFields = boot_fields mends.found in
      let raised : View = kept (begun_state file b view d) in let end : Told = told_after es (did Sync b) in
      let both : EachMoment (did Sync b).log end.log (IsGoodFor Whole (format file) (shape file) view raised) × IsSameBare view raised =
      (rw one at mends.moments) Whole view b shown opens stands_there in
      let later : EachMoment (did Sync b).log end.log (Order file first chapters) =
      weaker (did Sync b).log end.log (IsGoodFor Whole (format file) (shape file) view raised) (Order file first chapters) (λ log good.
      good_order raised both.1 log good) both.0 in let grew : Extends end.log (did Sync b).log = grows es (did Sync b) in
      quiet_comes (Sync ∷ es) n (one_some new (told_after es (did Sync t)) n (mends.mending.told ∙ added_is_told es (did Sync t)) to)
      (later end.log (record { since = grew; until = extends_self end.log }))
      (after_barrier file first chapters b is chance end.log grew later)

  stops_comes : (layout : Layout) (new : Option Told) (n : Told)
      → new ≡ Some n → StopsOpening layout t new → Comes file first chapters None t n b
  stops_comes layout new n to (inl none) = same_comes n (one_some new t n none to)
  stops_comes layout new n to (inr (inl all)) = sync_comes n (one_some new (did Sync t) n all to)
  stops_comes layout new n to (inr (inr mends)) = mends_comes layout new n to mends

  -- ---- the file was opened, and kept

  abbrev start : Work
  start = begun_work file t.shown view

  keeps_as : (replica : Replica) (xs : List Exchange) (failed : Option Act) (mending added : List Event)
      → replica.file ≡ file → KeepsOver replica.file t xs failed mending added
      → KeepsFile file Whole start b xs failed (over mending added b)
  keeps_as replica xs failed mending added one keeps =
      subst (λ (f : DataFile). KeepsOver f t xs failed mending added) one keeps Whole view b shown opens stands_there

  answered_as : (replica : Replica) (c : CallsMade) (mending : List Event)
      → replica.file ≡ file → AnsweredOver replica.file t mending c → KeepsAnswered file Whole start (over mending [] b) c
  answered_as replica c mending one keeps = subst (λ (f : DataFile). AnsweredOver f t mending c) one keeps Whole view b shown opens stands_there

  module _ (xs : List Exchange) (failed : Option Act) (e : Told) (keeps : KeepsFile file Whole start b xs failed (Some e)) where
    same_end : keeps.after ≡ e
    same_end = one_some (Some e) keeps.after e keeps.is refl

    honest_end : IsHonest e
    honest_end = subst IsHonest same_end keeps.honest

    barrier : Extends e.log (did Sync b).log
    barrier = subst (λ (x : Told). Extends x.log (did Sync b).log) same_end keeps.barrier

    midway : EachMoment (did Sync b).log e.log (IsMidway file Whole start (acts_in xs ++ list_of failed))
    midway = subst (λ (x : Told).
        EachMoment (did Sync b).log x.log (IsMidway file Whole start (acts_in xs ++ list_of failed))) same_end keeps.moments

    leaves : LeavesAll file Whole start (acts_in xs) failed e
    leaves = subst (λ (x : Told). LeavesAll file Whole start (acts_in xs) failed x) same_end keeps.left

    last : IsMidway file Whole start (acts_in xs ++ list_of failed) e.log
    last = midway e.log (record { since = barrier; until = extends_self e.log })

    abbrev ended : Chapter
    ended = record { shown = t.shown; answered = xs; perhaps = list_of failed }

    module _ (unspent : boot_of view < 2 ^ 62) (inputs : AreInputs (acts_in xs ++ list_of failed)) where
      -- at the end these acts came through
      all_came : (image : Image) (came more rest : List Act) → came ≡ acts_in xs ++ more
          → list_of failed ≡ more ++ rest → HasView file Whole (work_after file start came) image → Has file first (ended ∷ chapters) image
      all_came image came more rest are some has = record {
        view = has.0;
        had = (view, had, inr (came, record { whole = whole; found = found_shown; unspent = unspent; inputs = inputs; answers_are = keeps.answered; came = record { more = more; rest = rest; are = are; some = some }; view = has.1 }));
        held = has.2.0;
        stands = has.2.1;
      }

  end_order : (xs : List Exchange) (failed : Option Act) (e : Told) (keeps : KeepsFile file Whole start b xs failed (Some e))
      → boot_of view < 2 ^ 62 → AreInputs (acts_in xs ++ list_of failed) → LeavesAll file Whole start (acts_in xs) failed e
      → Order file first (record { shown = t.shown; answered = xs; perhaps = list_of failed } ∷ chapters) e.log
  end_order xs None e keeps unspent inputs all = record {
    safe = (last xs None e keeps).safe;
    left = λ image left no.
        all_came xs None e keeps unspent inputs image (acts_in xs) [] [] (sym (append-nil (acts_in xs))) refl (all image left no);
  }
  end_order xs (Some a) e keeps unspent inputs all = record {
    safe = (last xs (Some a) e keeps).safe;
    left = λ image left no. elim (all image left no) [
      | inl before ↦ all_came xs (Some a) e keeps unspent inputs image (acts_in xs) [] (a ∷ []) (sym (append-nil (acts_in xs))) refl before
      | inr after ↦ all_came xs (Some a) e keeps unspent inputs image (acts_in xs ++ a ∷ []) (a ∷ []) [] refl refl after
    ];
  }

  -- up to a moment these did
  module _ (c : CallsMade) (mending : List Event) (unspent : boot_of view < 2 ^ 62) (inputs : AreInputs (acts_in c.exchanges
      ++ list_of c.failed)) (keeps : KeepsFile file Whole start b c.exchanges c.failed (over mending (events_made c) b)) where
    -- what the disk and the log tell after the mending, and at the end
    abbrev opened : Told
    opened = told_after mending (did Sync b)

    abbrev end : Told
    end = told_after (events_made c) opened

    abbrev cut : ℕ → Chapter
    cut k = chapter_of (ToAMoment k) t.shown c

    some_came : (k : ℕ) (image : Image) → HasFront file Whole (work_after file start (acts_in (take k c.exchanges)))
        (acts_in (drop k c.exchanges) ++ list_of c.failed) image → Has file first (cut k ∷ chapters) image
    some_came k image has = record {
      view = has.has.0;
      had = (
        view,
        had,
        inr (
          acts_in (take k c.exchanges) ++ has.front,
          record {
            whole = whole;
            found = found_shown;
            unspent = unspent;
            inputs = subst AreInputs (sym (front_and_rest k c.exchanges (list_of c.failed))) inputs;
            answers_are = first_answers file k start c.exchanges keeps.answered;
            came = record { more = has.front; rest = has.rest; are = refl; some = has.are };
            view = rw (sym (work_on file start (acts_in (take k c.exchanges)) has.front)) at has.has.1;
          },
        ),
      );
      held = has.has.2.0;
      stands = has.has.2.1;
    }

    mid_order : (k : ℕ) (log : Log) → IsMidway file Whole (work_after file start (acts_in (take k c.exchanges)))
        (acts_in (drop k c.exchanges) ++ list_of c.failed) log → Order file first (cut k ∷ chapters) log
    mid_order k log mid = record {
      safe = mid.safe;
      left = λ image left no. some_came k image (has_front file Whole (work_after file start (acts_in (take k c.exchanges)))
          (acts_in (drop k c.exchanges) ++ list_of c.failed) image (mid.left image left no));
    }

    none_came : (image : Image) → Has file first chapters image → Has file first (cut 0 ∷ chapters) image
    none_came image has = record { view = has.view; had = (has.view, has.had, inl (record { none = refl; same = keeps_self has.view })); held = has.held; stands = has.stands }

    cut_order : (log : Log) → Order file first chapters log → Order file first (cut 0 ∷ chapters) log
    cut_order log order = record { safe = order.safe; left = λ image left no. none_came image (order.left image left no) }

    module _ (on : KeepsAnswered file Whole start (over mending [] b) c) where
      -- where none was answered it may be a moment before the barrier
      first_moments : EachMoment b.log end.log (Order file first (cut 0 ∷ chapters))
      first_moments = from_before Sync b.log end.log (Order file first (cut 0 ∷ chapters))
          (cut_order b.log (order_of file first chapters b is)) (barrier c.exchanges c.failed end keeps)
          (weaker (did Sync b).log end.log (IsMidway file Whole start (acts_in c.exchanges ++ list_of c.failed))
          (Order file first (cut 0 ∷ chapters)) (mid_order 0) (midway c.exchanges c.failed end keeps))

      until : (log : Log) → Extends end.log log → IsUntil (after_all (events_made c) (over mending [] b)) log
      until log later = subst (λ (o : Option Told). IsUntil o log) (sym (added_is_told (events_made c) opened)) later

      -- what the disk tells at the end
      abbrev told : Told
      told = told_after (events_made c) (told_after mending (did Sync t))

      along : GoesAlong t told b end
      along = let behind : GoesAlong t (told_after mending (did Sync t)) b opened = after_along (Sync ∷ mending) t b shown in
          along_on t (told_after mending (did Sync t))
          told b opened end behind (after_along (events_made c) (told_after mending (did Sync t)) opened behind.shows)

      all_moments : (k : ℕ) (p m : Told) → Extends told.log p.log
          → GoesAlong t p b m → HaveAnswers k p.log (Some c) → c.old ≡ over mending [] t → Order file first (cut k ∷ chapters) m.log
      all_moments zero p m later part none from = first_moments m.log (moment_along t p told b m end along part later)
      all_moments (suc k) p m later part were from = mid_order (suc k) m.log
          (on (suc k) m.log (answered_along t p b m part (suc k) mending c shown (rw (← from) were))
          (until m.log (extends_along t p told b m end along part later)))

      served_comes : (n : Told) → told ≡ n → c.old ≡ over mending [] t → Comes file first chapters (Some c) t n b
      served_comes n same from = subst (λ (x : Told). Comes file first chapters (Some c) t x b) same (record {
        end = end;
        along = along;
        own = ap (λ (x : Told). told_after (events_made c) (told_after mending (did Sync x)));
        honest = honest_end c.exchanges c.failed end keeps;
        at_end = end_order c.exchanges c.failed end keeps unspent inputs (leaves c.exchanges c.failed end keeps);
        moments = λ k p m later part had. all_moments k p m later part had from;
      })

  -- ---- a run

  -- the file was found, and these calls were made on it
  served_run : (n : Told) (served : ServedFile t n) → Comes file first chapters (Some served.made) t n b
  served_run n served = let found = served.found in let c : CallsMade = served.made in let es : List Event = found.mending.events in
      let one : found.replica.file ≡ file = file_there served.layout t found ∙ one_opened served.layout found.found found.is_opened in
      served_comes c es (one_unspent served.layout found.found found.is_opened) (ends_inputs c.from
      c.to c.old c.new c.exchanges c.failed c.calls) (keeps_as found.replica c.exchanges c.failed es (events_made c) one served.keep.keeps)
      (answered_as found.replica c es one served.keep.acknowledged) n
      (one_some c.new (told_after (events_made c) (told_after es (did Sync t)))
      n (told_over es (events_made c) t found.mended c.new found.mending.told served.keep.adds) served.to)
      (served.after ∙ told_over es [] t found.mended found.mended found.mending.told refl)

  pub run_comes : (n : Told) (run : FileRun t n) → Comes file first chapters (calls_in_run run) t n b
  run_comes n (LooksOnly part) = part_comes (Some n) n refl part
  run_comes n (StopsInOpen layout stops) = stops_comes layout (Some n) n refl stops
  run_comes n (Serves served) = served_run n served

  -- ---- the other words

  -- neither does anything to a file of version 2
  pub other_same : (n : Told) → OtherWord t n → t ≡ n
  other_same n (ToFormat layout cluster status word) = format_spares layout cluster t n word.old word.new status formatted word.formats
  other_same n (ToUpgrade status word) = one_some word.new.told
      t n (second_is_left file view t word.old word.new status is.version whole found_shown word.from word.runs ∙ word.from) word.to

-- ---- a stop

-- what a stop leaves is one of the images that it may leave
pub left_by : (log : Log) (changes : List (ℕ × List ℕ)) → IsLog log → AreLoose log.events changes → IsLeft log (changed changes (now log))
left_by log changes is loose = record {
  whole = changed_is_image log.events changes (now log) loose (now_is_image log.start log.events is.start is.events);
  kept = λ sector firm. changed_kept log.events changes (now log) sector loose firm;
}

module _ (file : DataFile) (first : View) (chapters : List Chapter) (t : Told) (version : file.version ≡ 2) (safe : IsSafeDisk (format
    file) (shape file) t.log) (honest : IsHonest t) (changes : List (ℕ × List ℕ)) (loose : AreLoose t.log.events changes)
    (chance : NoChanceOf (format file) t.log (changed changes (now t.log))) (there : Has file first chapters (changed changes (now t.log))) where
  rests : RestsOn (shape file) (units_log (format file) (did (Stop changes) t).log) there.view
  rests = disk_stop_law (format file) (shape file) there.view t.log changes safe loose chance there.held

  -- after it nothing is loose, so that another one leaves the same
  only : (image : Image) → IsLeft (did (Stop changes) t).log image → changed changes (now t.log) ≡ image
  only image left i sector = sym (left.kept sector refl) i

  stopped_order : IsInOrder file first chapters (did (Stop changes) t)
  stopped_order =
      in_order file first chapters (did (Stop changes) t) version (record { shows = λ sector i. changed changes (λ s. honest.shows s i) sector })
      (record {
        safe = safe_disk_law (format file) (shape file) (did (Stop changes) t).log
            (is_format file.layout file.cluster) (record { start = safe.is_log.start; events = (loose, safe.is_log.events) })
            (rests_safe (shape file) (units_log (format file) (did (Stop changes) t).log) there.view rests);
        left = λ image left no. subst (Has file first chapters) (only image left) there;
      })

-- ---- the laws

ended_order : (file : DataFile) (first : View) (chapters : List Chapter) (m e : Told)
    → file.version ≡ 2 → e ≡ m → IsHonest e → Order file first chapters e.log → IsInOrder file first chapters m
ended_order file first chapters m e version same honest order =
    subst (IsInOrder file first chapters) same (in_order file first chapters e version honest order)

pub every_life_is_in_order : EveryLifeIsInOrder
every_life_is_in_order _ _ _ _ (Made layout cluster t n makable made) = made_in_order layout cluster t n makable made
every_life_is_in_order _ _ _ _ (Begun layout cluster t n m result changes makable made moment there loose chance held) =
    let file = file_of layout cluster makable.named in
    stopped_order file (first_view layout cluster) [] m refl (made.leaves.moments m.log moment) there changes loose chance
    (record { view = first_view layout cluster; had = keeps_self (first_view layout cluster); held = held; stands = none_referenced file (changed changes (now m.log)) })
every_life_is_in_order _ _ _ _ (Taken file first t may) = taken_in_order file first t may
every_life_is_in_order _ _ _ _ (Opened file first t m layout found c extent shows calls made) =
    opened_in_order file first t m layout found c extent shows calls made
every_life_is_in_order _ _ _ _ (Ran file first b m t n chapters run life chance along) =
    let is = every_life_is_in_order file first b chapters life in
    let comes = run_comes file first chapters b is chance t along.shown n run in ended_order file first
    (sessions_in ToItsEnd run ++ chapters) m comes.end is.version (one_end t n b m comes.end comes.along along) comes.honest comes.at_end
every_life_is_in_order _ _ _ _ (Ended file first b m t p n chapters run answered life chance until along honest had) =
    let is = every_life_is_in_order file first b chapters life in
    let comes = run_comes file first chapters b is chance t along.shown n run in
    in_order file first (sessions_in (ToAMoment answered) run ++ chapters) m is.version honest (comes.moments answered p m until along had)
every_life_is_in_order _ _ _ _ (Spared file first b m t p n chapters word life chance until along honest) =
    let is = every_life_is_in_order file first b chapters life in
    let comes = same_comes file first chapters b is chance t along.shown n (other_same file first chapters b is chance t along.shown n word) in
    in_order file first chapters m is.version honest (comes.moments 0 p m until along tt)
every_life_is_in_order _ _ _ _ (Stopped file first b chapters changes life loose chance) =
    let is = every_life_is_in_order file first b chapters life in
    stopped_order file first chapters b is.version is.safe is.honest changes loose
    chance ((order_of file first chapters b is).left (changed changes (now b.log)) (left_by b.log changes is.safe.is_log loose) chance)

pub every_life_goes_on : EveryLifeGoesOn
every_life_goes_on file first t chapters life chance = goes_on file first chapters t (every_life_is_in_order file first t chapters life) chance

pub every_run_goes_along : EveryRunGoesAlong
every_run_goes_along file first b t n chapters life chance shown run = let is = every_life_is_in_order file first b chapters life in
    elim run [
      | inl over ↦ let comes = run_comes file first chapters b is chance t shown n over in (comes.end, comes.along, comes.own)
      | inr other ↦ let comes = same_comes file first
          chapters b is chance t shown n (other_same file first chapters b is chance t shown n other) in (comes.end, comes.along, comes.own)
    ]
