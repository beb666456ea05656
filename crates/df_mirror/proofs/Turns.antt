-- A turn of a walk over known units: what was mended so far and what it leaves, what is mended next, and both together.
use Rattle.std.{proofs.{Common.{◌≡◌, ℕ, ◌+◌, ◌≤◌, List, [], ◌++◌, length, Option, Some, refl, sym, ◌∙◌, subst, arith}, lemmas.Option.{same_Some}}, specs.Prelude.{Result, Ok, Err, IfOk, OnOk}}
use Rattle.{df_base.specs.Image.{Image}, df_disk.specs.Told.{Told}, df_format.specs.declared.kind.Kind.{Kind, TheVariants.{Trailer}}}
use Rattle.{df_layout.specs.declared.layout.Layout.{Layout}, df_buffers.specs.{declared.identity.Identity.{Identity}, Sounds.{Holding}}}
use Rattle.{df_theory.specs.Units.{Place, Units}, df_units.specs.Meaning.{number_of}, df_program.specs.Two.{Faults}}
use Rattle.df_opening.specs.Below.{DataFile, shape}
use Rattle.df_mirror.{specs.{declared.ending.Ending.{Ending}, declared.ending.Ending.TheVariants.{First}, declared.superblock.Superblock.{Superblock}, Known.{IsDue}, Mends.{AnswersMending, AreAt, AreOfKind, IsRefusal, Mend}, Outside.{Outside, Tell}, Statuses.{AreBlamed}, Taking.{HoldsShown, IsFor, MendsUnit, ShowsHeld, ShowsUnit}, Walks.{Mended, content_of_superblock, superblock_units}}, proofs.Joined.{answers_then, answers_with, kind_at, kinds_append, more, none_came, none_failed, told_is_whole}}

-- ---- nothing was mended

module _ (b : Superblock) (Of : List Mend → Type 0) (none : Of []) (t o : Told) (old new : Outside)
    (tell : Tell t o old) (same : new.first ≡ old.first) (silent : new.written ≡ old.written) (Shows : Units → Type 0) where
  -- what was shown is
  pub none_mended : Shows (superblock_units b t.shown) → Mended b Of t o old new (Ok 0) Shows
  none_mended shows = record {
    answers = none_came b.file
        (content_of_superblock b) Of none t o new.first old.written new.written (same ∙ tell.first) silent (λ ms n. 0 ≡ length ms) refl;
    shown = λ u is. rw (same_Some _ _ (sym (same ∙ tell.first) ∙ is)) at shows;
  }

  -- the first file can't be read
  pub none_read : Mended b Of t o old new (Err First) Shows
  none_read = record { answers = none_failed b.file (content_of_superblock b) Of none t o new.first old.written new.written First (same ∙ tell.first, silent); shown = λ u is. tt }

-- ---- one after the other

on_more : (a : ℕ) (result : Result ℕ Ending) (P : Type 0) → OnOk result P → OnOk (more a result) P
on_more a (Ok n) P is = is
on_more a (Err e) P is = tt

-- this many were mended, and then as many more as are answered; or the trailer is refused, where blocks of it alone were
pub then_mended : {b : Superblock} {Of Then All : List Mend → Type 0} {t o : Told} {old mid new : Outside} {a : ℕ} {Before After : Units → Type 0} → ((ms ls : List Mend) → Of ms → Then ls → All (ms ++ ls)) → Tell t o old → mid.second ≡ old.second
    → Mended b Of t o old mid (Ok a) Before → (result : Result ℕ Ending) → (IsRefusal result → (ms : List Mend) → Of ms → AreOfKind Trailer ms) → ((m : Told) → Tell m o mid → Before (superblock_units b m.shown) → Mended b Then m o mid new result After) → Mended b All t o old new (more a result) After
then_mended {b = b} {Of = Of} {Then = Then} {All = All} {t = t} {o = o} {old = old} {mid = mid} {new = new} {a = a} {After = After}
    closed tell same has result only next =
    let came = has.answers in let on : Tell came.after o mid = record {
      first = came.after_is;
      second = same ∙ tell.second;
      whole = told_is_whole b.file (content_of_superblock b) Of t o came.after mid.first old.written mid.written a tell.whole came came.after_is;
      other = tell.other;
    } in let rest = next came.after on (has.shown came.after came.after_is) in record {
      answers = answers_then b.file (content_of_superblock b) Of Then
          All closed t o came.after mid.first new.first old.written mid.written new.written a result only came came.after_is rest.answers;
      shown = λ u is. on_more a result (After (superblock_units b u.shown)) (rest.shown u is);
    }

-- a read comes after it
pub read_behind : {b : Superblock} {Of : List Mend → Type 0} {t o : Told} {old mid new : Outside} {result : Result ℕ Ending} {Shows : Units → Type 0} → Mended b Of t o old mid result Shows → new.first ≡ mid.first → new.written ≡ mid.written → Mended b Of t o old new result Shows
read_behind {b = b} {Of = Of} {t = t} {o = o} {old = old} {mid = mid} {new = new} {result = result} has same silent = record {
  answers = rw (sym same) at (rw (sym silent) at has.answers);
  shown = λ u is. has.shown u (sym same ∙ is);
}

on_so : (result : Result ℕ Ending) (P Q : Type 0) → (P → Q) → OnOk result P → OnOk result Q
on_so (Ok n) P Q says is = says is
on_so (Err e) P Q says is = tt

-- what is shown says more
pub shows_more : {b : Superblock} {Of : List Mend → Type 0} {t o : Told} {old new : Outside} {result : Result ℕ Ending} {Before After : Units → Type 0} → ((image : Units) → Before image → After image) → Mended b Of t o old new result Before → Mended b Of t o old new result After
shows_more {b = b} {result = result} {Before = Before} {After = After} says has = record { answers = has.answers; shown = λ u is. on_so result (Before (superblock_units b u.shown)) (After (superblock_units b u.shown)) (says (superblock_units b u.shown)) (has.shown u is) }

-- it ends there, as a part of more
pub ends_so : {b : Superblock} {Of All : List Mend → Type 0} {t o : Told} {old new : Outside} {e : Ending} {Before After : Units → Type 0}
    → ((ms : List Mend) → Of ms → All ms) → Mended b Of t o old new (Err e) Before → Mended b All t o old new (Err e) After
ends_so {b = b} {Of = Of} {All = All} {t = t} {o = o} {old = old} {new = new} {e = e} of has = record { answers = answers_with b.file (content_of_superblock b) Of All t o new.first old.written new.written (Err e) of has.answers; shown = λ u is. tt }

-- ---- one unit

-- what was mended of a unit that was due; the image shows it and the shelf holds it, where it didn't end there
pub record MendsDue (b : Superblock) (kind : Kind) (at : Place) (check : List ℕ) (t o : Told) (old new : Outside) (shelf : Option Holding) (result : Result ℕ Ending) : Type 0 where
  pub answers : AnswersMending b.file (content_of_superblock b) (AreAt kind at) t o new.first old.written new.written result
  pub shows : (m : Told) → new.first ≡ Some m → IfOk result (λ n. ShowsHeld b.file kind at check m.shown shelf)

-- what it lends is shown
pub lent_shown : (file : DataFile) (kind : Kind) (at : Place) (check : List ℕ) (image : Image) (shelf : Option Holding) (held : Holding)
    → shelf ≡ Some held → ShowsHeld file kind at check image shelf → ShowsUnit file kind at check image held.unit
lent_shown file kind at check image shelf held lent shows =
    subst (λ (h : Holding). ShowsUnit file kind at check image h.unit) (same_Some _ _ (sym shows.1 ∙ lent)) shows.2

module _ (b : Superblock) (kind : Kind) (at : Place) (check : List ℕ) (identity : Identity)
    (for : IsFor b.file kind at check identity) (t o : Told) (old new : Outside) (tell : Tell t o old) (shelf : Option Holding) where
  pub holds : (result : Result ℕ Ending) → IfOk result (λ n. HoldsShown kind identity old.first new.first shelf)
      → (m : Told) → new.first ≡ Some m → IfOk result (λ n. ShowsHeld b.file kind at check m.shown shelf)
  holds (Ok n) shown m is = shown b.file at check t m for tell.first is tell.whole
  holds (Err e) shown m is = tt

  pub due_mended : IsDue (shape b.file) (superblock_units b t.shown) (content_of_superblock b) kind at (number_of check) → (result : Result
      ℕ Ending) → MendsUnit kind identity old new result → IfOk result (λ n. HoldsShown kind identity old.first new.first shelf)
      → MendsDue b kind at check t o old new shelf result
  due_mended due result mends shown =
      record { answers = mends b.file (content_of_superblock b) at check t o for tell due; shows = holds result shown }

-- one of its kind
pub of_one : (b : Superblock) (kind : Kind) (at : Place) (t o : Told) (old new : Outside) (result : Result ℕ Ending)
    (Shows : Units → Type 0) → AnswersMending b.file (content_of_superblock b) (AreAt kind at) t o new.first old.written new.written result
    → ((u : Told) → new.first ≡ Some u → OnOk result (Shows (superblock_units b u.shown))) → Mended b (AreOfKind kind) t o old new result Shows
of_one b kind at t o old new result Shows is shown = record { answers = answers_with b.file (content_of_superblock b) (AreAt kind at) (AreOfKind kind) t o new.first old.written new.written result (kind_at kind at) is; shown = shown }

-- ---- a walk

-- the second file tells what it did, and no count of faults rose
pub record IsCalm (old now : Outside) (before after : Faults) : Type 0 where
  pub same : now.second ≡ old.second
  pub first : after.first ≡ before.first
  pub second : after.second ≡ before.second
  pub sink : after.sink ≡ before.sink

-- How far a walk over units of one kind has come: its room is one of the file, and where it began with what it needs, this many units were
-- mended, not too many, and this is shown.
pub record Walked (b : Superblock) (kind : Kind) (old now : Outside) (before after : Faults) (room : Layout) (mended most : ℕ) {X : Type 0} (Begins : X → Told → Type 0) (Shows : X → Units → Type 0) : Type 0 where
  pub calm : IsCalm old now before after
  pub room_is : room ≡ b.file.layout
  pub few : mended ≤ most
  pub mends : (x : X) (t o : Told) → Tell t o old → Begins x t → Mended b (AreOfKind kind) t o old now (Ok mended) (Shows x)

module _ {b : Superblock} {kind : Kind} {old : Outside} {before : Faults} {X : Type 0} {Begins : X → Told → Type 0} where
  pub begins : {room : Layout} {most : ℕ} {Shows : X → Units → Type 0} → room ≡ b.file.layout → ((x : X) (t : Told)
      → Begins x t → Shows x (superblock_units b t.shown)) → Walked b kind old old before before room 0 most Begins Shows
  begins {Shows = Shows} same shows = record {
    calm = record { same = refl; first = refl; second = refl; sink = refl };
    room_is = same;
    few = omega arith;
    mends = λ x t o tell is. none_mended b (AreOfKind kind) tt t o old old tell refl refl (Shows x) (shows x t is);
  }

  module _ {mid : Outside} {between : Faults} {room : Layout} {a most : ℕ} {Shows : X → Units → Type 0}
      (walked : Walked b kind old mid before between room a most Begins Shows) where
    -- what the next turn answers is answered
    turn : {new : Outside} {After : X → Units → Type 0} (result : Result ℕ Ending) → (IsRefusal result → (ms : List Mend) → AreOfKind kind ms → AreOfKind Trailer ms) → ((x : X) (m o : Told) → Tell m o mid → Shows x (superblock_units b m.shown) → Mended b (AreOfKind kind) m o mid new result (After x))
        → (x : X) (t o : Told) → Tell t o old → Begins x t → Mended b (AreOfKind kind) t o old new (more a result) (After x)
    turn result only next x t o tell is =
        then_mended (kinds_append kind) tell walked.calm.same (walked.mends x t o tell is) result only (λ m. next x m o)

    -- it ends there
    pub stops : {new : Outside} {After : X → Units → Type 0} (e : Ending) → (IsRefusal (Err e) → (ms : List Mend) → AreOfKind kind ms → AreOfKind Trailer ms) → ((x : X) (m o : Told) → Tell m o mid → Shows x (superblock_units b m.shown) → Mended b (AreOfKind kind) m o mid new (Err e) (After x))
        → (x : X) (t o : Told) → Tell t o old → Begins x t → (Says : Units → Type 0) → Mended b (AreOfKind kind) t o old new (Err e) Says
    stops e only next x t o tell is Says = ends_so (λ ms of. of) (turn (Err e) only next x t o tell is)

    -- or goes on
    pub goes_on : {new : Outside} {after : Faults} {back : Layout} {one later : ℕ} {After : X → Units → Type 0}
        → new.second ≡ mid.second → AreBlamed between after (Ok one) → back ≡ b.file.layout → a + one ≤ later
        → ((x : X) (m o : Told) → Tell m o mid → Shows x (superblock_units b m.shown)
        → Mended b (AreOfKind kind) m o mid new (Ok one) (After x)) → Walked b kind old new before after back (a + one) later Begins After
    goes_on {one = one} same blamed back few next = record {
      calm = record { same = same ∙ walked.calm.same; first = blamed.0 ∙ walked.calm.first; second = blamed.1 ∙ walked.calm.second; sink = blamed.2 ∙ walked.calm.sink };
      room_is = back;
      few = few;
      mends = turn (Ok one) (λ refusal. absurd refusal) next;
    }

    -- or has come to its end, where what is shown says this
    pub comes_to : {Says : X → Units → Type 0} → ((x : X) (image : Units) → Shows x image → Says x image)
        → (x : X) (t o : Told) → Tell t o old → Begins x t → Mended b (AreOfKind kind) t o old mid (Ok a) (Says x)
    comes_to says x t o tell is = shows_more (says x) (walked.mends x t o tell is)

    -- or nothing is mended in this turn, since what is shown says it already
    pub passes : {later : ℕ} {Says : X → Units → Type 0} → a ≤ later → ((x : X) (image : Units) → Shows x image → Says x image)
        → Walked b kind old mid before between room a later Begins Says
    passes few says = record { calm = walked.calm; room_is = walked.room_is; few = few; mends = comes_to says }
