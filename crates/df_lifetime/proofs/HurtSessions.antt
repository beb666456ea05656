-- A session keeps its file by any base, and the next open by that base goes on from there.
use Rattle.std.{proofs.{Common.{◌≡◌, inl, inr, ℕ, zero, suc, List, [], ◌∷◌, ◌++◌, append_assoc, Option, Some, None, refl, sym, ◌∙◌, ap, subst}, lemmas.List.{append-nil}}, specs.Prelude.{take, drop}}
use Rattle.df_base.{specs.{Image.{Image, changed}, Log.{AreLoose, Event, Stop, Sync, now}, Moments.{EachMoment, Extends, IsMoment}}, proofs.Laws.{extends_self, one_some}}
use Rattle.{df_disk.specs.{Adds.{after_all}, Told.{IsHonest, Told, did}}, df_units.specs.Bytes.{unit_at}}
use Rattle.df_theory.{specs.{Device.{IsSafeDisk, NoChanceOf}, Found.{IsFound}, Holds.{Held}, Shape.{Shape}, Units.{Parts, Units}, View.{View}}, proofs.Laws.{found_law}}
use Rattle.df_model.specs.{Sense.{IsWork}, Views.{KeepsView}, Work.{Work, kept}}
use Rattle.df_session.{specs.{Below.{DataFile, State, restarted, shape, spelling, told_after}, Following.{MayOpen}, HeldBlocks.{AreInputs}, Serving.{Firm, Grade, StandsFor, Whole, format}, Session.{Act, Exchange, HasView, HoldsFor, IsMidway, acts_in, answers_in, answers_of, work_after}, Anew.{begun_after}, Begun.{begun_work}, Links.{CallsMade, events_made, list_of}, Acknowledging.{IsUntil, KeepsAnswered}, Keeping.{KeepsFile, LeavesAll, over}, Programs.{ServedFile}}, proofs.Laws.{added_is_told, begun_may_open, same_goes_on, stopped_may_open, file_there}}
use Rattle.df_lifetime.{specs.{Acknowledged.{AreThere}, Hurt.{AreAnswered, HurtRunsKeep, KeepsOn, NextFinds, RunsKeepAnew, RunsKeepOn, at_end}, There.{promised_in}}, proofs.{Acts.{ends_inputs, first_answers, front_and_rest, has_front, work_on}, Bases.{AnsweredOver, KeepsOver, told_over}, Files.{one_file}, Found.{front_inputs, front_there}, Lives.{left_by}, Openings.{answers_begun, keeps_begun, work_begun}, Orders.{now_left}}}

-- ---- what an image has

held_for : (g : Grade) (sh : Shape) (u : Units) (v : View) → HoldsFor g sh u v → (x : View) × KeepsView v x × Held sh u x × StandsFor g u v
held_for Firm sh u v has = (has.0, has.1, has.2, tt)
held_for Whole sh u v has = (has.0, has.1, has.2.0, λ a c is. has.2.1 a c (ap (λ (parts : Parts). parts.references a) has.1.parts ∙ is))

-- ---- the next open

module _ (file : DataFile) (g : Grade) (w : Work) (work : IsWork (shape file) (spelling file) w) (version : file.version ≡ 2) where
  -- what was answered is in the view after it
  answers_there : (xs : List Exchange) (more rest : List Act) → answers_in xs ≡ answers_of file w (acts_in xs)
      → AreInputs (acts_in xs ++ (more ++ rest)) → AreThere (kept (work_after file w (acts_in xs ++ more))) (promised_in w) xs
  answers_there xs more rest are inputs = front_there file
      xs more w work (front_inputs file (acts_in xs ++ more) rest (subst AreInputs (sym (append_assoc (acts_in xs) more rest)) inputs)) are

  module _ (xs : List Exchange)
      (are : answers_in xs ≡ answers_of file w (acts_in xs)) (perhaps : List Act) (inputs : AreInputs (acts_in xs ++ perhaps)) where
    -- after no stop
    next_now : (more rest : List Act) (n : Told) → perhaps ≡ more ++ rest → IsSafeDisk (format file) (shape file) n.log
        → IsHonest n → NoChanceOf (format file) n.log (now n.log) → HasView file g (work_after file w (acts_in xs ++ more)) (now n.log)
        → NextFinds file g w xs perhaps n
    next_now more rest n some safe honest chance has = let view : View = kept (work_after file w (acts_in xs ++ more)) in
        let both = held_for g (shape file) ((format file).unit_at (now n.log)) view has in
        let shows : now n.log ≡ n.shown = λ i sector. sym (honest.shows sector) i in record {
          more = more;
          rest = rest;
          some = some;
          may = (both.0, both.1, record { version = version; safe = safe; honest = honest; found = (found_law (shape file) ((format file).unit_at (now n.log)) both.0).0 both.2; no_chance = chance });
          there = answers_there xs more rest are (rw some at inputs);
          stands = rw shows at both.3;
        }

    -- after one
    next_stopped : (m : Told) (changes : List (ℕ × List ℕ)) → IsMidway file g (work_after file w (acts_in xs)) perhaps m.log
        → IsHonest m → AreLoose m.log.events changes → NoChanceOf (format file) m.log (changed changes (now m.log))
        → NextFinds file g w xs perhaps (did (Stop changes) m)
    next_stopped m changes mid honest loose chance = let image : Image = changed changes (now m.log) in let some = has_front
        file g (work_after file w (acts_in xs)) perhaps image (mid.left image (left_by m.log changes mid.safe.is_log loose) chance) in
        let view : View = kept (work_after file w (acts_in xs ++ some.front)) in
        let has : HasView file g (work_after file w (acts_in xs ++ some.front)) image =
        rw (sym (work_on file w (acts_in xs) some.front)) at some.has in
        let both = held_for g (shape file) ((format file).unit_at image) view has in
        let shows : now m.log ≡ m.shown = λ i sector. sym (honest.shows sector) i in record {
          more = some.front;
          rest = some.rest;
          some = some.are;
          may = (both.0, both.1, stopped_may_open file both.0 m changes version mid.safe honest loose chance both.2);
          there = answers_there xs some.front some.rest are (rw some.are at inputs);
          stands = rw (← shows) both.3;
        }

  -- at the end of a session
  next_ended : (xs : List Exchange) (failed : Option Act) (n : Told) → IsSafeDisk (format file) (shape file) n.log → IsHonest n
      → LeavesAll file g w (acts_in xs) failed n → answers_in xs ≡ answers_of file w (acts_in xs) → AreInputs (acts_in xs ++ list_of failed)
      → NoChanceOf (format file) n.log (now n.log) → NextFinds file g w xs (list_of failed) n
  next_ended xs None n safe honest left are inputs chance = next_now xs are [] inputs [] [] n refl safe honest chance
      (rw (sym (append-nil (acts_in xs))) at (left (now n.log) (now_left n.log safe.is_log) chance))
  next_ended xs (Some a) n safe honest left are inputs chance = elim (left (now n.log) (now_left n.log safe.is_log) chance) [
    | inl before ↦ next_now xs are (a ∷ []) inputs [] (a ∷ []) n refl safe honest chance (rw (sym (append-nil (acts_in xs))) at before)
    | inr after ↦ next_now xs are (a ∷ []) inputs (a ∷ []) [] n refl safe honest chance after
  ]

-- ---- a session

-- what a base finds that shows what is shown
found_shown : (file : DataFile) (view : View) (t base : Told)
    → base.shown ≡ t.shown → MayOpen file view base → IsFound (shape file) (unit_at file.layout file.cluster t.shown) view
found_shown file view t base same may = let shows : now base.log ≡ base.shown = λ i sector. sym (may.honest.shows sector) i in
    subst (λ (image : Image). IsFound (shape file) (unit_at file.layout file.cluster image) view) (shows ∙ same) may.found

module _ (file : DataFile) (g : Grade) (view : View) (t base : Told) (version : file.version ≡ 2) where
  abbrev start : Work
  start = begun_work file t.shown view

  module _ (work : IsWork (shape file) (spelling file) start) (mending : List Event) (c : CallsMade) (keeps : KeepsFile file g
      start base c.exchanges c.failed (over mending (events_made c) base)) (answered : KeepsAnswered file g start (over mending [] base) c)
      (shows : (n : Told) → c.new ≡ Some n → (at_end mending c base).shown ≡ n.shown) where
    inputs : AreInputs (acts_in c.exchanges ++ list_of c.failed)
    inputs = ends_inputs c.from c.to c.old c.new c.exchanges c.failed c.calls

    abbrev last : Told
    last = at_end mending c base

    after_is : keeps.after ≡ last
    after_is = one_some (over mending (events_made c) base) keeps.after last keeps.is refl

    moments : EachMoment (did Sync base).log last.log (IsMidway file g start (acts_in c.exchanges ++ list_of c.failed))
    moments = subst (λ (x : Told).
        EachMoment (did Sync base).log x.log (IsMidway file g start (acts_in c.exchanges ++ list_of c.failed))) after_is keeps.moments

    grew : Extends last.log (did Sync base).log
    grew = subst (λ (x : Told). Extends x.log (did Sync base).log) after_is keeps.barrier

    ended : NoChanceOf (format file) last.log (now last.log) → NextFinds file g start c.exchanges (list_of c.failed) last
    ended chance = next_ended file g start work version c.exchanges c.failed
        last (moments last.log (record { since = grew; until = extends_self last.log })).safe (subst IsHonest after_is keeps.honest)
        (rw after_is at keeps.left) keeps.answered inputs chance

    midway : (k : ℕ) (m : Told) → IsMoment (did Sync base).log last.log m.log → AreAnswered k mending base m.log c
        → IsMidway file g (work_after file start (acts_in (take k c.exchanges))) (acts_in (drop k c.exchanges) ++ list_of c.failed) m.log
    midway zero m moment none = moments m.log moment
    midway (suc k) m moment were =
        answered (suc k) m.log were (rw ((added_is_told (events_made c) (told_after mending (did Sync base)))) moment.until)

    stopped : (k : ℕ) (m : Told) (changes : List (ℕ × List ℕ)) → IsMoment (did Sync base).log last.log m.log → AreAnswered
        k mending base m.log c → IsHonest m → AreLoose m.log.events changes → NoChanceOf (format file) m.log (changed changes (now m.log))
        → NextFinds file g start (take k c.exchanges) (acts_in (drop k c.exchanges) ++ list_of c.failed) (did (Stop changes) m)
    stopped k m changes moment were honest loose chance =
        next_stopped file g start work version (take k c.exchanges) (first_answers file k start c.exchanges keeps.answered)
        (acts_in (drop k c.exchanges) ++ list_of c.failed) (subst AreInputs (sym (front_and_rest k c.exchanges (list_of c.failed))) inputs)
        m changes (midway k m moment were) honest loose chance

    keeps_on : KeepsOn file g start base mending c
    keeps_on = record { keeps = keeps; acknowledged = answered; shows = shows; ended = ended; stopped = stopped }

-- ---- the disk shows what the base tells

-- where it showed the same at the open
shows_over : (mending : List Event) (c : CallsMade) (t base : Told) → base.shown ≡ t.shown → c.old ≡ after_all mending (Some (did Sync t))
    → c.new ≡ after_all (events_made c) c.old → (n : Told) → c.new ≡ Some n → (at_end mending c base).shown ≡ n.shown
shows_over mending c t base same from to n is = let told : Told = at_end mending c t in
    let one : told ≡ n = one_some c.new told n (told_over mending (events_made c) t c.old c.new from to) is in
    same_goes_on (events_made c) (told_after mending (did Sync t))
    (told_after mending (did Sync base)) (same_goes_on mending (did Sync t) (did Sync base) same) ∙ ap (λ (x : Told). x.shown) one

-- and where it was begun at the end of that
pub shows_begun : (mending : List Event) (c : CallsMade) (t : Told) → c.old ≡ after_all mending (Some (did Sync t))
    → c.new ≡ after_all (events_made c) c.old → (n : Told) → c.new ≡ Some n → (at_end [] c (begun_after mending t)).shown ≡ n.shown
shows_begun mending c t from to n is =
    let one : at_end mending c t ≡ n = one_some c.new (at_end mending c t) n (told_over mending (events_made c) t c.old c.new from to) is in
    same_goes_on (events_made c) (told_after mending (did Sync t)) (did Sync (begun_after mending t)) refl ∙ ap (λ (x : Told). x.shown) one

-- ---- the laws

-- what was told after the calls of a run
pub served_adds : (t n : Told) (served : ServedFile t n) → served.made.new ≡ after_all (events_made served.made) served.made.old
served_adds t n served = served.keep.adds ∙ ap (after_all (events_made served.made)) (sym served.after)

pub runs_keep_on : RunsKeepOn
runs_keep_on g file view t n base served same may stands = let found = served.found in let c : CallsMade = served.made in
    let here = found_shown file view t base same may in let one : found.replica.file ≡ file =
    file_there served.layout t found ∙ one_file 2 file served.layout t.shown view found.found here found.is_opened in
    let there = rw (sym one) at here in
    let work : IsWork (shape file) (spelling file) (begun_work file t.shown view) = rw one at (served.keep.stands view there).0 in
    keeps_on file g view t base may.version work found.mending.events c (subst (λ (f : DataFile).
    KeepsOver f t c.exchanges c.failed found.mending.events (events_made c)) one served.keep.keeps g view base same may stands)
    (subst (λ (f : DataFile). AnsweredOver f t found.mending.events c) one served.keep.acknowledged g view base same may stands)
    (shows_over found.mending.events c t base same (served.after ∙ found.mending.told) (served_adds t n served))

-- the file of what was opened is of its version
of_one : (file : DataFile) (s : State) → s.file ≡ file → s.file.version ≡ 2 → file.version ≡ 2
of_one file s same version = ap (λ (f : DataFile). f.version) (sym same) ∙ version

pub hurt_runs_keep : HurtRunsKeep
hurt_runs_keep g file view t n served had same stands = runs_keep_on g file had.found t n (restarted t) served refl
    (begun_may_open file had.found t (of_one file served.found.found had.of served.found.is_opened.of.version_is) (had.begins same)) stands

-- ---- whatever was done before

pub runs_keep_anew : RunsKeepAnew
runs_keep_anew g file view t n served shows = let found = served.found in let c : CallsMade = served.made in
    keeps_on file g view t (begun_after found.mending.events t) shows.version (work_begun
    g file view t served.layout found c shows served.keep) [] c (keeps_begun g file view t served.layout found c shows served.keep)
    (answers_begun g file view t served.layout found c shows served.keep)
    (shows_begun found.mending.events c t (served.after ∙ found.mending.told) (served_adds t n served))
