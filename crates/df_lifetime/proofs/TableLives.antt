-- Whatever life a file has had in which each session keeps the table: it is in order, with a table that it may have come to.
use Rattle.std.proofs.Common.{◌≡◌, ◌⊎◌, inl, inr, ℕ, zero, suc, List, [], ◌∷◌, ◌++◌, take, drop, append_assoc, Option, Some, Ok, Err, refl, sym, ◌∙◌, ap, subst}
use Rattle.df_base.{specs.{Image.{Image, changed}, Log.{Event, IsLeft, Log, Stop, Sync, now}, Moments.{EachMoment, Extends}}, proofs.Laws.{extends_self, from_before, one_some, started}}
use Rattle.{df_disk.specs.{Adds.{AddsPart}, Told.{IsHonest, Told, did}}, df_layout.specs.declared.layout.Layout.{Layout}}
use Rattle.{df_theory.specs.{Device.{NoChanceOf}, View.{View}}, df_units.specs.{Bytes.{unit_at}, Making.{first_view}}}
use Rattle.df_rows.{specs.{declared.command.Command.{Command as Change}, Tables.{Table, with_commands}}, proofs.Laws.{commands_more}}
use Rattle.df_session.{specs.{Acknowledging.{WereAnswered}, Anew.{begun_after}, Below.{DataFile, restarted, told_after}, Following.{MayOpen}, Found.{FoundFile, no_calls}, Keeping.{over}, Laws.{CallsKeep}, Links.{CallsMade, events_made}, Making.{file_of}, Opened.{StopsOpening}, Programs.{FileRun, IsSession, LooksOnly, Serves, ServedFile, StopsInOpen, calls_in_run}, Serving.{Whole, format}, Session.{Exchange}}, proofs.Laws.{added_is_told}}
use Rattle.df_table.{specs.{declared.ending.Ending.TheVariants.{Disk}, declared.status.Status.{Status}, Keeping.{AreChanges, KeepsTable}, Laws.{FindsIn}, Outside.{Outside}, Run.{DoesTable, ServesTable, TableOutcome}, Table.{IsObjectTable, empty_table}}, proofs.Laws.{Has, KeptOn, Order, OwnView, behind_barrier, cut_order, each_order, ends_order, finds, first_is_empty, found_is_table, found_of, found_own, here, is_shown, kept_anew, kept_on, leaving_keeps_table, may, mends_order, none_taken, order_as, shown_there, stopped, synced, view_has, were_since}}
use Rattle.df_table.specs.Outside as table
use Rattle.df_lifetime.{specs.{Life.{AreMade, Chapter, Extent, GoesAlong, HaveAnswers, IsInOrder, Life, MayTake, ShowsFile, ToAMoment, ToItsEnd}, Life.Life.{Begun, Ended, Made, Opened, Ran, Spared, Stopped, Taken}, Programs.{CopyDoesAs, CopyGoesAs, TableDoesAs, TableGoesAs}, Tables.{AsksNothing, CopiesLeaveIt, EveryTableGoesOn, IsTableLife, KeepsCalls, KeepsChapter, KeepsOfRun, LeavesIt, LeavingRunsKeepIt, MayHaveTable, NextRunServesIt, QuietRunsLeaveIt, TableChapter, TableGoesOn, TableRunsKeepIt, WordsLeaveIt, no_changes}, Words.{ComesAs, GoesAs, IsQuiet, Outcome, WorksAs, outcome_of}}, proofs.{Along.{after_along, along_on, answered_along, extends_along, moment_along, one_end}, Bases.{told_over}, Lives.{every_life_is_in_order, left_by, other_same}, Orders.{taken_in_order}}}
use Rattle.df_program.specs.Two as two
use Rattle.df_copy.specs.Run.{CopyOutcome, DoesCopy}
use Rattle.df_copy.specs.declared.status.Status as copy_status
use Rattle.df_top.specs.Outside as top
use Rattle.df_top.specs.{Run.{ComesTo, Works}, declared.mode.Mode.{Mode}, declared.mode.Mode.TheVariants.{Format, Inspect, Paced, Recover, Run, Scrub, Upgrade, Workload}}
use Rattle.df_top.specs.declared.status.Status as top_status

-- ---- after a run that made no calls, at a moment of it or at its end

module _ (file : DataFile) (P : Table → Type 0) (b : Told) (version : file.version ≡ 2) (honest : IsHonest b)
    (order : Order file P b.log) (chance : NoChanceOf (format file) b.log (now b.log)) (t : Told) (shown : b.shown ≡ t.shown) where
  quiet : (es : List Event) (n p m : Told) → told_after es t ≡ n
      → EachMoment b.log (told_after es b).log (Order file P) → Extends n.log p.log → GoesAlong t p b m → Order file P m.log
  quiet es n p m same each until part =
      each m.log (moment_along t p (told_after es t) b m (told_after es b) (after_along es t b shown) part (rw (sym same) at until))

  same : (n p m : Told) → t ≡ n → Extends n.log p.log → GoesAlong t p b m → Order file P m.log
  same n p m one until part = quiet [] n p m one (started b.log (Order file P) order) until part

  barrier : (n p m : Told) → Some n ≡ Some (did Sync t) → Extends n.log p.log → GoesAlong t p b m → Order file P m.log
  barrier n p m all until part = quiet (Sync ∷ []) n p m (one_some (Some n) (did Sync t) n all refl)
      (behind_barrier file P b version honest order chance t shown (did Sync b) (extends_self (did Sync b).log)
      (started (did Sync b).log (Order file P) (synced file P b version honest order chance t shown))) until part

  looks : (n p m : Told) → AddsPart (Sync ∷ []) (Some t) (Some n) → Extends n.log p.log → GoesAlong t p b m → Order file P m.log
  looks n p m (inl none) until part = same n p m (one_some (Some n) t n none refl) until part
  looks n p m (inr all) until part = barrier n p m all until part

  stops : (layout : Layout) (n p m : Told) → StopsOpening layout t (Some n) → Extends n.log p.log → GoesAlong t p b m → Order file P m.log
  stops layout n p m (inl none) until part = same n p m (one_some (Some n) t n none refl) until part
  stops layout n p m (inr (inl all)) until part = barrier n p m all until part
  stops layout n p m (inr (inr mends)) until part = let es = mends.mending.events in
      quiet (Sync ∷ es) n p m (one_some (Some n) (told_after es (did Sync t)) n (mends.mending.told ∙ added_is_told es (did Sync t)) refl)
      (mends_order file P b version honest order chance t shown layout (Some n) mends) until part

-- ---- after a session

-- a chapter more
one_more : (start : Table) (before : List TableChapter) (kept perhaps : List Change) (v : Table) (n : ℕ) → MayHaveTable start before v
    → MayHaveTable start (record { kept = kept; perhaps = perhaps } ∷ before) (with_commands (take n perhaps) (with_commands kept v))
one_more start before kept perhaps v n had = (v, n, had, sym (commands_more kept (take n perhaps) v))

module _ (file : DataFile) (start : Table) (before : List TableChapter) (table : Table) (had : MayHaveTable start before table) (base : Told) (mending : List Event) (c : CallsMade) (changes pending : List Change) (kept : KeptOn file table base mending c changes pending) where
  abbrev end : Told
  end = told_after (events_made c) (told_after mending (did Sync base))

  abbrev After : TableChapter → Log → Type 0
  After chapter log = Order file (MayHaveTable start (chapter ∷ before)) log

  ended : (chapter : TableChapter) → chapter ≡ record { kept = changes; perhaps = pending } → After chapter end.log
  ended chapter is = subst (λ (x : TableChapter). After x end.log) (sym is) (ends_order file table base mending c changes pending kept
      (MayHaveTable start (record { kept = changes; perhaps = pending } ∷ before)) (λ n. one_more start before changes pending table n had))

  since_barrier : (chapter : TableChapter)
      → chapter ≡ record { kept = []; perhaps = changes ++ pending } → EachMoment (did Sync base).log end.log (After chapter)
  since_barrier chapter is = subst (λ (x : TableChapter). EachMoment (did Sync base).log end.log (After x)) (sym is)
      (each_order file table base mending c changes pending kept (MayHaveTable
      start (record { kept = []; perhaps = changes ++ pending } ∷ before)) (λ n. one_more start before [] (changes ++ pending) table n had))

  cut : (k : ℕ) (log : Log) (chapter : TableChapter) → WereAnswered (suc k) (over mending [] base) log c
      → Extends end.log log → KeepsChapter (ToAMoment (suc k)) c changes pending chapter → After chapter log
  cut k log chapter were until is = cut_order file
      table base mending c changes pending kept (MayHaveTable start (chapter ∷ before)) (suc k) log chapter.kept is.0 were until is.1 is.2
      (λ n. rw (← is.3) (one_more start before chapter.kept chapter.perhaps table n had))

module _ (file : DataFile) (start : Table) (before : List TableChapter) (b : Told) (version : file.version ≡ 2) (honest : IsHonest b)
    (order : Order file (MayHaveTable start before) b.log) (chance : NoChanceOf (format file) b.log (now b.log)) (t : Told)
    (shown : b.shown ≡ t.shown) where
  abbrev P : Table → Type 0
  P = MayHaveTable start before

  abbrev there : Has file P (now b.log)
  there = here file P b version honest order chance t shown

  module _ (n : Told) (served : ServedFile t n) (keeps : KeepsTable t served.found.replica served.found.mending.events served.made) where
    abbrev c : CallsMade
    c = served.made

    abbrev es : List Event
    es = served.found.mending.events

    abbrev mid : Told
    mid = told_after es (did Sync t)

    abbrev opened : Told
    opened = told_after es (did Sync b)

    abbrev last : Told
    last = told_after (events_made c) opened

    kept : KeptOn file there.table b es c keeps.changes keeps.pending
    kept = kept_on file P b version honest order chance t shown served.layout served.found c served.keep keeps

    n_is : told_after (events_made c) mid ≡ n
    n_is = one_some c.new (told_after (events_made c) mid)
        n (told_over es (events_made c) t served.found.mended c.new served.found.mending.told served.keep.adds) served.to

    from : c.old ≡ over es [] t
    from = served.after ∙ told_over es [] t served.found.mended served.found.mended served.found.mending.told refl

    along : GoesAlong t n b last
    along = let first : GoesAlong t mid b opened = after_along (Sync ∷ es) t b shown in subst (λ (x : Told). GoesAlong t x b last)
        n_is (along_on t mid (told_after (events_made c) mid) b opened last first (after_along (events_made c) mid opened first.shows))

    at_end : (m : Told) (chapter : TableChapter) → GoesAlong t n b m
        → KeepsChapter ToItsEnd c keeps.changes keeps.pending chapter → Order file (MayHaveTable start (chapter ∷ before)) m.log
    at_end m chapter part is = subst (λ (x : Told). Order file (MayHaveTable start (chapter ∷ before)) x.log)
        (one_end t n b m last along part) (ended file start before there.table there.had b es c keeps.changes keeps.pending kept chapter is)

    unchanged : (perhaps : List Change) (v : Table) → P v → MayHaveTable start (record { kept = []; perhaps = perhaps } ∷ before) v
    unchanged perhaps v had = (v, 0, had, sym (none_taken v perhaps))

    at_first : (chapter : TableChapter) → KeepsChapter (ToAMoment 0) c keeps.changes keeps.pending chapter
        → EachMoment b.log last.log (Order file (MayHaveTable start (chapter ∷ before)))
    at_first chapter is = from_before Sync b.log last.log (Order file (MayHaveTable start (chapter ∷ before)))
        (order_as file P (MayHaveTable start (chapter ∷ before)) b.log (λ v had.
        rw is (unchanged (keeps.changes ++ keeps.pending) v had)) order) kept.barrier
        (since_barrier file start before there.table there.had b es c keeps.changes keeps.pending kept chapter is)

    at_moment : (k : ℕ) (p m : Told) (chapter : TableChapter) → Extends n.log p.log → GoesAlong t p b m → HaveAnswers k p.log (Some c)
        → KeepsChapter (ToAMoment k) c keeps.changes keeps.pending chapter → Order file (MayHaveTable start (chapter ∷ before)) m.log
    at_moment zero p m chapter until part had is = at_first chapter is m.log (moment_along t p n b m last along part until)
    at_moment (suc k) p m chapter until part had is = cut file start before there.table
        there.had b es c keeps.changes keeps.pending kept k m.log chapter (answered_along t p b m part (suc k) es c shown (rw (← from) had))
        (extends_along t p n b m last along part until) is

  -- ---- after any run

  abbrev Came : List TableChapter → Told → Type 0
  Came newest m = Order file (MayHaveTable start (newest ++ before)) m.log

  none : (newest : List TableChapter) (m : Told) → newest ≡ [] → Order file P m.log → Came newest m
  none newest m is there = subst (λ (l : List TableChapter). Came l m) (sym is) there

  run_ended : (n m : Told) (run : FileRun t n) (newest : List TableChapter)
      → GoesAlong t n b m → KeepsOfRun ToItsEnd run newest → Came newest m
  run_ended n m (LooksOnly part) newest along is =
      none newest m is (looks file P b version honest order chance t shown n n m part (extends_self n.log) along)
  run_ended n m (StopsInOpen layout part) newest along is =
      none newest m is (stops file P b version honest order chance t shown layout n n m part (extends_self n.log) along)
  run_ended n m (Serves served) newest along is =
      subst (λ (l : List TableChapter). Came l m) (sym is.is) (at_end n served is.keeps m is.chapter along is.kept)

  run_cut : (k : ℕ) (n p m : Told) (run : FileRun t n) (newest : List TableChapter) → Extends n.log p.log
      → GoesAlong t p b m → HaveAnswers k p.log (calls_in_run run) → KeepsOfRun (ToAMoment k) run newest → Came newest m
  run_cut k n p m (LooksOnly part) newest until along had is =
      none newest m is (looks file P b version honest order chance t shown n p m part until along)
  run_cut k n p m (StopsInOpen layout part) newest until along had is =
      none newest m is (stops file P b version honest order chance t shown layout n p m part until along)
  run_cut k n p m (Serves served) newest until along had is =
      subst (λ (l : List TableChapter). Came l m) (sym is.is) (at_moment n served is.keeps k p m is.chapter until along had is.kept)

-- ---- a life begins

began : (file : DataFile) (first : View) (t : Told) (start : Table) → IsInOrder file first [] t → OwnView first → ((image : Image)
    → IsLeft t.log image → IsObjectTable file ((format file).unit_at image) first start) → Order file (MayHaveTable start []) t.log
began file first t start is own each = record {
  safe = is.safe;
  left = λ image left chance. let has = is.left image left chance in
      view_has file (MayHaveTable start []) image first has.0 start has.1 has.2 has.3 own (each image left) refl;
}

made : (layout : Layout) (cluster : ℕ) (file : DataFile) (t : Told) (start : Table) (tables : List TableChapter) → file.layout ≡ layout → IsInOrder file (first_view file.layout file.cluster) [] t → (start ≡ empty_table layout) × (tables ≡ []) → Order file (MayHaveTable start tables) t.log
made layout cluster file t start tables of is begins =
    let empty : Order file (MayHaveTable (empty_table file.layout) []) t.log = began file (first_view file.layout file.cluster)
    t (empty_table file.layout) is (record { parts = tt; tail = tt }) (λ image left. first_is_empty file ((format file).unit_at image)) in
    subst (λ (l : List TableChapter). Order file (MayHaveTable start l) t.log) (sym begins.1)
    (rw (sym (begins.0 ∙ ap empty_table (sym of))) at empty)

taken : (file : DataFile) (first : View) (t : Told) (start : Table) (tables : List TableChapter)
    → MayTake file first t.shown → FindsIn file t first start → tables ≡ [] → Order file (MayHaveTable start tables) (restarted t).log
taken file first t start tables may finds none = let is : IsObjectTable file (unit_at file.layout file.cluster t.shown) first start =
    found_is_table file t first start may.begins.whole may.begins.found finds in
    subst (λ (l : List TableChapter). Order file (MayHaveTable start l) (restarted t).log) (sym none)
    (began file first (restarted t) start (taken_in_order file first t may) (found_own file t first start finds) (λ image left.
    subst (λ (i : Image). IsObjectTable file ((format file).unit_at i) first start) (λ i sector. sym (left.kept sector refl) i) is))

module _ (file : DataFile) (first : View) (t m : Told) (layout : Layout) (found : FoundFile layout t) (c : CallsMade) (shows : ShowsFile Whole file first t.shown) (calls : CallsKeep t found.replica found.mended found.mending c) (start : Table) (finds : FindsIn file t first start)
    (keeps : KeepsTable t found.replica found.mending.events c) where
  abbrev base : Told
  base = begun_after found.mending.events t

  begun : KeptOn file start base [] c keeps.changes keeps.pending
  begun = kept_anew file first t shows.whole shows.found shows.distinct shows.stands start finds layout found c calls keeps

  opened_order : (extent : Extent) (chapter : TableChapter) → AreMade extent base c m
      → KeepsChapter extent c keeps.changes keeps.pending chapter → Order file (MayHaveTable start (chapter ∷ [])) m.log
  opened_order ToItsEnd chapter made is = subst (λ (x : Told). Order file (MayHaveTable start (chapter ∷ [])) x.log)
      (sym made) (ended file start [] start refl base [] c keeps.changes keeps.pending begun chapter is)
  opened_order (ToAMoment zero) chapter made is = since_barrier file start [] start refl base []
      c keeps.changes keeps.pending begun chapter is m.log (record { since = were_since 0 (did Sync base) m.log c made.0; until = made.1 })
  opened_order (ToAMoment (suc k)) chapter made is =
      cut file start [] start refl base [] c keeps.changes keeps.pending begun k m.log chapter made.0 made.1 is

-- ---- the laws

table_order : (file : DataFile) (first : View) (t : Told) (chapters : List Chapter) (start : Table) (tables : List TableChapter)
    (life : Life file first t chapters) → IsTableLife start file first t chapters life tables → Order file (MayHaveTable start tables) t.log
table_order _ _ _ _ start tables (Made layout cluster t n makable making) begins =
    made layout cluster (file_of layout cluster makable.named) n start tables refl (every_life_is_in_order
    (file_of layout cluster makable.named) (first_view layout cluster) n [] (Made layout cluster t n makable making)) begins
table_order _ _ _ _ start tables (Begun layout cluster t n m result changes makable making moment honest loose chance held) begins =
    made layout cluster (file_of layout cluster makable.named) (did (Stop changes) m) start tables refl
    (every_life_is_in_order (file_of layout cluster makable.named) (first_view layout cluster)
    (did (Stop changes) m) [] (Begun layout cluster t n m result changes makable making moment honest loose chance held)) begins
table_order _ _ _ _ start tables (Taken file first t may) begins = taken file first t start tables may begins.0 begins.1
table_order _ _ _ _ start tables (Opened file first t m layout found c extent shows calls made) begins = let own = begins.1 in
    subst (λ (l : List TableChapter). Order file (MayHaveTable start l) m.log)
    (sym own.is) (opened_order file first t m layout found c shows calls start begins.0 own.keeps extent own.chapter made own.kept)
table_order _ _ _ _ start tables (Ran file first b m t n chapters run life chance along) own =
    let is = every_life_is_in_order file first b chapters life in let order = table_order file first b chapters start own.1 life own.3 in
    subst (λ (l : List TableChapter). Order file (MayHaveTable start l) m.log)
    (sym own.4) (run_ended file start own.1 b is.version is.honest order chance t along.shown n m run own.0 along own.2)
table_order _ _ _ _ start tables (Ended file first b m t p n chapters run answered life chance until along honest had) own =
    let is = every_life_is_in_order file first b chapters life in let order = table_order file first b chapters start own.1 life own.3 in
    subst (λ (l : List TableChapter). Order file (MayHaveTable start l) m.log)
    (sym own.4) (run_cut file start own.1 b is.version is.honest order chance t along.shown answered n p m run own.0 until along had own.2)
table_order _ _ _ _ start tables (Spared file first b m t p n chapters word life chance until along honest) own =
    let is = every_life_is_in_order file first b chapters life in let order = table_order file first b chapters start tables life own in
    same file (MayHaveTable start tables)
    b is.version is.honest order chance t along.shown n p m (other_same file first chapters b is chance t along.shown n word) until along
table_order _ _ _ _ start tables (Stopped file first b chapters changes life loose chance) own =
    let is = every_life_is_in_order file first b chapters life in let order = table_order file first b chapters start tables life own in
    stopped file (MayHaveTable start tables)
    b changes is.safe loose chance (order.left (changed changes (now b.log)) (left_by b.log changes is.safe.is_log loose) chance)

module _ (file : DataFile) (first : View) (b : Told) (chapters : List Chapter) (start : Table) (tables : List TableChapter) (life : Life file first b chapters) (own : IsTableLife start file first b chapters life tables) (chance : NoChanceOf (format file) b.log (now b.log)) where
  is : IsInOrder file first chapters b
  is = every_life_is_in_order file first b chapters life

  order : Order file (MayHaveTable start tables) b.log
  order = table_order file first b chapters start tables life own

  module _ (t : Told) (shown : b.shown ≡ t.shown) where
    abbrev has : Has file (MayHaveTable start tables) (now b.log)
    has = here file (MayHaveTable start tables) b is.version is.honest order chance t shown

    opens : MayOpen file has.view b
    opens = may file (MayHaveTable start tables) b is.version is.honest order chance t shown

    found_there : FindsIn file t has.view has.table
    found_there = finds file (MayHaveTable start tables) b is.version is.honest order chance t shown

  goes_on : TableGoesOn file start tables b
  goes_on = let there = has b refl in
      record { view = there.view; may = opens b refl; table = there.table; is = is_shown file (MayHaveTable start tables) b is.version is.honest order chance b refl; had = there.had; finds = found_there b refl }

  serves_it : (t : Told) (layout : Layout) (old new : Outside)
      (status : Status) (found : FoundFile layout t) (serves : ServesTable layout t found old new status) → b.shown ≡ t.shown
      → (serves.opened ≡ Err Disk) ⊎ ((table : Table) × (serves.opened ≡ Ok table) × MayHaveTable start tables table)
  serves_it t layout old new status found serves shown = let there = has t shown in elim (found_of file there.view
      t (shown_there file there.view b t shown (opens t shown)) there.table (found_there t shown) layout old new status found serves) [
        | inl disk ↦ inl disk
        | inr is ↦ inr (there.table, is, there.had)
      ]

pub every_table_goes_on : EveryTableGoesOn
every_table_goes_on file first t chapters start tables life own chance = goes_on file first t chapters start tables life own chance

pub next_run_serves_it : NextRunServesIt
next_run_serves_it file first b chapters start tables life own chance = serves_it file first b chapters start tables life own chance

-- ---- which runs keep it

-- the puts and drops of the first calls, and those of the rest
split : (k : ℕ) (xs : List Exchange) (changes : List Change) → AreChanges xs changes
    → (some more : List Change) × AreChanges (take k xs) some × AreChanges (drop k xs) more × (some ++ more ≡ changes)
split zero [] changes are = ([], changes, refl, are, refl)
split zero (x ∷ xs) changes are = ([], changes, refl, are, refl)
split (suc k) [] changes are = ([], changes, refl, are, refl)
split (suc k) (x ∷ xs) changes are = let rest = split k xs are.1 are.3 in
    (are.0 ++ rest.0, rest.1, (are.0, rest.0, are.2, rest.2, refl), rest.3, append_assoc are.0 rest.0 rest.1 ∙ ap (λ (l : List Change). are.0 ++ l) rest.4 ∙ sym are.4)

chapter_for : (extent : Extent) (c : CallsMade) (changes pending : List Change) → AreChanges c.exchanges changes
    → (chapter : TableChapter) × KeepsChapter extent c changes pending chapter × (chapter.kept ++ chapter.perhaps ≡ changes ++ pending)
chapter_for ToItsEnd c changes pending are = (record { kept = changes; perhaps = pending }, refl, refl)
chapter_for (ToAMoment zero) c changes pending are = (record { kept = []; perhaps = changes ++ pending }, refl, refl)
chapter_for (ToAMoment (suc k)) c changes pending are = let both = split (suc k) c.exchanges changes are in
    (record { kept = both.0; perhaps = both.1 ++ pending }, (both.1, both.2, both.3, refl), sym (append_assoc both.0 both.1 pending) ∙ ap (λ (l : List Change). l ++ pending) both.4)

pub keeps_calls : (extent : Extent)
    (layout : Layout) (t : Told) (found : FoundFile layout t) (c : CallsMade) (keeps : KeepsTable t found.replica found.mending.events c)
    → (chapter : TableChapter) × KeepsCalls extent found c (chapter ∷ []) × (chapter.kept ++ chapter.perhaps ≡ keeps.changes ++ keeps.pending)
keeps_calls extent layout t found c keeps = let one = chapter_for extent c keeps.changes keeps.pending keeps.are in
    (one.0, record { keeps = keeps; chapter = one.0; kept = one.1; is = refl }, one.2)

pub quiet_runs_leave_it : QuietRunsLeaveIt
quiet_runs_leave_it t n (LooksOnly part) is = tt
quiet_runs_leave_it t n (StopsInOpen layout part) is = tt
quiet_runs_leave_it t n (Serves served) (inl quiet) = absurd (cc (quiet))
quiet_runs_leave_it t n (Serves served) (inr idle) = subst (λ (r : FileRun t n). LeavesIt r) (sym idle.2.4) tt

both_none : (some more : List Change) → some ++ more ≡ [] → record { kept = some; perhaps = more } ≡ no_changes
both_none [] [] none = refl
both_none [] (c ∷ more) none = absurd (cc (none))
both_none (c ∷ some) more none = absurd (cc (none))

pub leaving_runs_keep_it : LeavingRunsKeepIt
leaving_runs_keep_it extent t n (LooksOnly part) leave = ([], refl, inl refl)
leaving_runs_keep_it extent t n (StopsInOpen layout part) leave = ([], refl, inl refl)
leaving_runs_keep_it extent t n (Serves served) leave =
    let law = leaving_keeps_table t served.found.replica served.found.mended served.found.mending served.made served.keep leave in
    let one = keeps_calls extent served.layout t served.found served.made law.0 in
    let none : one.0.kept ++ one.0.perhaps ≡ [] = one.2 ∙ ap (λ (l : List Change). l ++ law.0.pending) law.1 ∙ law.2 in
    (one.0 ∷ [], one.1, inr (ap (λ (x : TableChapter). x ∷ []) (both_none one.0.kept one.0.perhaps none)))

-- ---- each program

quiet_keeps : (extent : Extent) (t n : Told) (run : FileRun t n) → IsQuiet run → (chapters : List TableChapter) × KeepsOfRun extent run chapters
quiet_keeps extent t n run quiet = let all = leaving_runs_keep_it extent t n run (quiet_runs_leave_it t n run (inl quiet)) in (all.0, all.1)

module _ (extent : Extent) (t n : Told) (run : FileRun t n) where
  abbrev Kept : Type 0
  Kept = (chapters : List TableChapter) × KeepsOfRun extent run chapters

  does_keep : (layout : Layout) (old new : table.Outside) (status : Status) (does : DoesTable layout t old new status)
      → TableDoesAs run layout old new status does → Kept
  does_keep layout old new status (inl refuses) how = quiet_keeps extent t n run how
  does_keep layout old new status (inr (inl fails)) how = quiet_keeps extent t n run how
  does_keep layout old new status (inr (inr serves)) how = let one = keeps_calls extent layout t serves.0 serves.1.made serves.1.keeps in
      subst (λ (r : FileRun t n). (chapters : List TableChapter) × KeepsOfRun extent r chapters) (sym how.4) (one.0 ∷ [], one.1)

  table_keeps : (old new : table.Outside) (status : Status) (outcome : TableOutcome t old new status)
      → TableGoesAs run old new status outcome → Kept
  table_keeps old new status (inl nothing) how = quiet_keeps extent t n run how
  table_keeps old new status (inr (inl refuses)) how = quiet_keeps extent t n run how
  table_keeps old new status (inr (inr own)) how = does_keep own.layout old new status own.does how

pub table_runs_keep_it : TableRunsKeepIt
table_runs_keep_it extent t n ran run how = table_keeps extent t n run ran.old ran.new ran.status (ran.runs t ran.from ran.whole) how

module _ (t n : Told) (run : FileRun t n) where
  quiet_leaves : IsQuiet run → LeavesIt run
  quiet_leaves quiet = quiet_runs_leave_it t n run (inl quiet)

  idle_leaves : (layout : Layout) (found : FoundFile layout t) → IsSession run layout found (no_calls found) → LeavesIt run
  idle_leaves layout found idle = quiet_runs_leave_it t n run (inr (layout, found, idle))

  works_leave : (mode : Mode) (layout : Layout) (found : FoundFile layout t) (old new : top.Outside) (status : top_status.Status) (works : Works mode layout t found old new status) → AsksNothing mode → WorksAs run mode layout found old new status works → LeavesIt run
  works_leave (Format shape cluster) layout found old new status works asks how = absurd asks
  works_leave Upgrade layout found old new status works asks how = absurd asks
  works_leave Run layout found old new status works asks how = absurd asks
  works_leave (Paced pace) layout found old new status works asks how = absurd asks
  works_leave (Workload seed count) layout found old new status works asks how = absurd asks
  works_leave Recover layout found old new status works asks how = idle_leaves layout found how
  works_leave Scrub layout found old new status works asks how = idle_leaves layout found how
  works_leave Inspect layout found old new status works asks how = quiet_leaves how

  comes_leave : (mode : Mode) (layout : Layout) (old new : top.Outside) (status : top_status.Status)
      (comes : ComesTo mode layout t old new status) → AsksNothing mode → ComesAs run mode layout old new status comes → LeavesIt run
  comes_leave mode layout old new status (inl refuses) asks how = quiet_leaves how
  comes_leave mode layout old new status (inr (inl fails)) asks how = quiet_leaves how
  comes_leave mode layout old new status (inr (inr works)) asks how = works_leave mode layout works.0 old new status works.1 asks how

  word_leaves : (mode : Mode) (old new : top.Outside) (status : top_status.Status) (outcome : Outcome mode t old new status)
      → AsksNothing mode → GoesAs run mode old new status outcome → LeavesIt run
  word_leaves mode old new status (inl nothing) asks how = quiet_leaves how
  word_leaves mode old new status (inr (inl refuses)) asks how = quiet_leaves how
  word_leaves mode old new status (inr (inr does)) asks how = comes_leave mode does.0 old new status does.1.1 asks how

  does_leave : (layout own : Layout) (old new : two.Outside) (status : copy_status.Status) (does : DoesCopy layout own t old new status)
      → CopyDoesAs run layout own old new status does → LeavesIt run
  does_leave layout own old new status (inl refuses) how = quiet_leaves how
  does_leave layout own old new status (inr (inl fails)) how = quiet_leaves how
  does_leave layout own old new status (inr (inr copies)) how = idle_leaves copies.state.file.layout how.0 how.2

  copy_leaves : (layout : Layout) (old new : two.Outside) (status : copy_status.Status) (outcome : CopyOutcome layout t old new status)
      → CopyGoesAs run layout old new status outcome → LeavesIt run
  copy_leaves layout old new status (inl nothing) how = quiet_leaves how
  copy_leaves layout old new status (inr (inl refuses)) how = quiet_leaves how
  copy_leaves layout old new status (inr (inr own)) how = does_leave layout own.own old new status own.does how

pub words_leave_it : WordsLeaveIt
words_leave_it t n word run asks how = word_leaves t n run word.mode
    word.old word.new word.status (outcome_of word.mode t word.old word.new word.status word.carried word.from word.whole) asks how

pub copies_leave_it : CopiesLeaveIt
copies_leave_it layout t n old new status outcome run how = copy_leaves t n run layout old new status outcome how
