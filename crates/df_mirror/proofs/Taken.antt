-- One unit is mended, or isn't: as a list of mends.
use Rattle.std.{proofs.{Common.{◌≡◌, ◌≢◌, ℕ, List, [], ◌∷◌, length, take, Option, Some, None, refl, sym, ◌∙◌, ap, subst, arith}, lemmas.List.{append-nil, length-take}, lemmas.Option.{same_Some}}, specs.Prelude.{Result, Ok, Err}}
use Rattle.{df_base.specs.{Image.{IsImage}, Log.{Sync, Write}, Streams.{Appends}}, df_inspect.proofs.Laws.{appends_none}}
use Rattle.{df_disk.specs.Told.{Told, did}, df_places.specs.Shelves.{HoldsBlanked, HoldsFound, IsBlanked, IsFoundUnit, IsRead, shown_at}}
use Rattle.df_layout.specs.{declared.damage.Class.{Class}, declared.layout.Layout.{Layout}, declared.places.Place.{Place as FilePlace}, declared.places.Zone.TheVariants.{ClientReplies, Grid, WalHeaders, WalPrepares}}
use Rattle.df_format.specs.{declared.kind.Kind.{Kind}, declared.kind.Kind.TheVariants.{Block, Prepare, Reply, Trailer}, Brings.{Brings}, Message.{Message, sectors_end, sectors_of}}
use Rattle.df_buffers.specs.{declared.identity.Identity.{Identity}, declared.identity.Wanted.TheVariants.{Checksum}, Sounds.{Holding, IsTidy}}
use Rattle.df_theory.{specs.{Device.{IsPut}, UnitLog.{put_one}, Units.{AnyUnit, BlockPlace, Content, Place, PreparePlace, ReplyPlace, or_else}}, proofs.Laws.{put_one_law}}
use Rattle.{df_units.specs.{Bytes.{first_at}, Format.{format_of}, Meaning.{number_of, place_of}}, df_opening.specs.Below.{DataFile, shape}}
use Rattle.df_mirror.{specs.{declared.ending.Ending.{Ending}, declared.ending.Ending.TheVariants.{First, Neither, Second, Sink, Unopened}, Known.{IsDue, IsKnownAt, IsShownAs}, Mends.{AnswersMending, AreAt, Came, Failed, IsMend, IsNeither, IsRefusal, Mend, WouldBe, units_shown}, Outside.{Outside}, Taking.{IsFor, PutsUnit, ShowsUnit, TakesHeld, TakesUnit, WritesUnit}, Texts.{mended_text}}, proofs.{Frames.{IsPlaceOf, known_place}, Joined.{none_came, none_failed}, Loaded.{IsUnitOf, blanked_held, class_is, found_held, found_unit, lacks_unit, shown_still, shows_unit}, Spelled.{exact_sectors}}}

-- ---- one

-- What was written of the unit that the shelf holds: it was found in the second file, where nothing was wrong, and blanked after it.
pub takes_all : (kind : Kind) (identity : Identity) (class : Class) (old new : Outside) (layout : Layout) (loaded shelf : Option Holding)
    (held : Holding) (wrong : Option Class)
    (result : Result (Unit {0}) Ending) → wrong ≡ None → HoldsFound kind identity wrong loaded → IsRead kind identity old.second wrong loaded
    → HoldsBlanked layout loaded shelf → shelf ≡ Some held → PutsUnit identity.layout identity.place held
    → WritesUnit identity.layout identity.place held old.first new.first old.written new.written result
    → TakesUnit kind identity class old new shelf result
takes_all kind identity class old new layout loaded shelf held wrong result none found read blanks is puts writes = by result writes
  where
    was : (h : Holding) × (loaded ≡ Some h) × IsFoundUnit kind identity h.unit
    was = found_held kind identity loaded (subst (λ (w : Option Class). HoldsFound kind identity w loaded) none found)

    blanked : IsBlanked layout was.0 held
    blanked = let now = blanked_held layout loaded shelf was.0 was.1 blanks in subst (λ (h : Holding). IsBlanked layout was.0 h)
        (same_Some _ _ (sym now.1 ∙ is)) now.2

    shown : IsRead kind identity old.second None (Some held)
    shown = let right = subst (λ (w : Option Class). IsRead kind identity old.second w loaded) none read in
        shown_still kind identity old.second was.0 held blanked.unit_is
        (subst (λ (s : Option Holding). IsRead kind identity old.second None s) was.1 right)

    takes : (r : Result (Unit {0}) Ending) → WritesUnit identity.layout identity.place held old.first new.first old.written new.written r
        → TakesHeld kind identity old new shelf r
    takes r writes = (
      held,
      is,
      record {
        found = subst (λ (u : Message). IsFoundUnit kind identity u) (sym blanked.unit_is) was.2;
        shown = shown;
        puts = puts;
        tidy = blanked.tidy;
        writes = writes;
      },
    )

    by : (r : Result (Unit {0}) Ending) → WritesUnit identity.layout identity.place held old.first new.first old.written new.written r
        → TakesUnit kind identity class old new shelf r
    by (Ok x) writes = takes (Ok tt) writes
    by (Err First) writes = takes (Err First) writes
    by (Err Sink) writes = takes (Err Sink) writes
    by (Err Second) writes = absurd writes
    by (Err (Unopened e)) writes = absurd writes
    by (Err (Neither place other)) writes = absurd writes

-- a known unit stands in no header ring
no_ring : (kind : Kind) (at : Place) → IsPlaceOf kind at → (place_of at).zone ≡ WalHeaders → ⊥
no_ring Trailer (BlockPlace a) is same = let both : Grid ≡ WalHeaders = same in cc
no_ring Block (BlockPlace a) is same = let both : Grid ≡ WalHeaders = same in cc
no_ring Prepare (PreparePlace s) is same = let both : WalPrepares ≡ WalHeaders = same in cc
no_ring Reply (ReplyPlace k) is same = let both : ClientReplies ≡ WalHeaders = same in cc
no_ring kind at is same = absurd is

abbrev bytes_of : Holding → List ℕ
bytes_of held = take (sectors_end held.unit.header.size) held.bytes

module _ (file : DataFile) (kind : Kind) (at : Place) (check : List ℕ) (identity : Identity) (for : IsFor file kind at check identity) (held : Holding) (found : IsFoundUnit kind identity held.unit) (puts : PutsUnit identity.layout identity.place held) (tidy : IsTidy held) where
  there : IsUnitOf kind at check held.unit
  there = found_unit file kind at check identity for held.unit found

  put : IsPut (format_of file.layout file.cluster) (first_at file.layout at) (bytes_of held) (put_one at there.unit)
  put = let steps : PutsUnit file.layout (place_of at) held = rw for.is at puts in
      let owner : held.unit.header.cluster ≡ file.cluster = found.is.owner ∙ ap (λ (i : Identity). i.cluster) for.is in
      subst (λ (k : ℕ). IsPut (format_of file.layout k) (first_at file.layout at) (bytes_of held) (put_one at there.unit))
      owner (steps.0 at there.unit refl there.unit_is).0

  -- the bytes are the unit's sectors
  its_sectors : (place_of at).zone ≢ WalHeaders → bytes_of held ≡ sectors_of held.unit
  its_sectors other =
      let own : IsFoundUnit kind (record { layout = file.layout; cluster = file.cluster; place = place_of at; wanted = Checksum check })
      held.unit = rw for.is at found in let brings : PutsUnit file.layout (place_of at) held = rw for.is at puts in
      exact_sectors file.layout file.cluster (place_of at) held.unit (bytes_of held) other own.is (rw (← own.is.owner) brings.1)
      (omega (arith, length-take (sectors_end held.unit.header.size) held.bytes)) tidy

  the_mend : Mend
  the_mend = record { kind = kind; place = at; unit = there.unit; bytes = bytes_of held }

  -- what the write tells, in the file's own places
  own_place : {T : Type 0} (result : Result T Ending) (first new : Option Told) (old text : Option (List ℕ)) → WritesUnit
      identity.layout identity.place held first new old text result → WritesUnit file.layout (place_of at) held first new old text result
  own_place result first new old text writes = subst (λ (i : Identity). WritesUnit i.layout i.place held first new old text result) for.is writes

  -- a unit that was written is shown
  pub written_is_shown : (t n : Told) (new : Option Told) (old text : Option (List ℕ)) → IsImage t.shown → WritesUnit identity.layout
      identity.place held (Some t) new old text {T = Unit {0}} (Ok tt) → new ≡ Some n → ShowsUnit file kind at check n.shown held.unit
  written_is_shown t n new old text seen writes is = let own = own_place {T = Unit {0}} (Ok tt) (Some t) new old text writes in
      let same : n ≡ did Sync (did (Write (first_at file.layout at) (bytes_of held)) t) = same_Some _ _ (sym is ∙ own.0) in record {
        unit = there.unit;
        unit_is = there.unit_is;
        shown = ap (λ (m : Told). units_shown file m.shown at) same ∙ put.shows t.shown at seen
            ∙ ap (λ (y : Option AnyUnit). or_else y (units_shown file t.shown at)) (put_one_law at there.unit).at;
        of_kind = there.of_kind;
        sum_is = there.sum_is;
      }

  module _ (c : Content) (t o : Told) (shown : shown_at identity o.shown ≡ Some held.unit) (due : IsDue (shape file) (units_shown
      file t.shown) c kind at (number_of check)) (lacks : IsShownAs (units_shown file t.shown) kind at (number_of check) → ⊥) where
    is_mend : IsMend file c t.shown o.shown the_mend
    unfolding the_mend there
    is_mend = let from = shows_unit file kind at check identity for o.shown held.unit shown found in let sum = sym there.sum_is in record {
      next = record {
        known = rw sum at due.known;
        lacks = rw sum at lacks;
        first = due.first;
        trailer = due.trailer;
      };
      spare = due.spare lacks;
      of_kind = there.of_kind;
      from = from.shown ∙ sym from.unit_is ∙ there.unit_is;
      puts = put;
      sectors = (held.unit, there.unit_is, rw for.is at shown, its_sectors (no_ring kind at (known_place (shape file) (units_shown file t.shown) c kind at (number_of check) due.known)));
    }

    pub one_mended : (new : Option Told) (old text : Option (List ℕ)) → WritesUnit identity.layout identity.place
        held (Some t) new old text {T = Unit {0}} (Ok tt) → Came file c (AreAt kind at) t o new old text (λ ms n. 1 ≡ length ms)
    unfolding the_mend
    one_mended new old text writes = let own = own_place {T = Unit {0}} (Ok tt) (Some t) new old text writes in record {
      mends = the_mend ∷ [];
      after = _;
      after_is = own.0;
      are_of = (refl, refl, tt);
      does = record { are = (is_mend, tt); told = refl; printed = rw (sym (append-nil (mended_text (place_of at)))) at own.1 };
      last = refl;
    }

    pub one_unwritten : (new : Option Told) (old text : Option (List ℕ)) → WritesUnit identity.layout
        identity.place held (Some t) new old text {T = Unit {0}} (Err First) → Failed file c (AreAt kind at) t o new old text First
    unfolding the_mend
    one_unwritten new old text writes = let own = own_place {T = Unit {0}} (Err First) (Some t) new old text writes in
        record { mends = []; one = Some the_mend; are_of = (refl, refl, tt); are = (is_mend, tt); said = old; printed = appends_none old; fails = own }

    pub one_unprinted : (new : Option Told) (old text : Option (List ℕ)) → WritesUnit identity.layout
        identity.place held (Some t) new old text {T = Unit {0}} (Err Sink) → Failed file c (AreAt kind at) t o new old text Sink
    unfolding the_mend
    one_unprinted new old text writes = let own = own_place {T = Unit {0}} (Err Sink) (Some t) new old text writes in
        record { mends = []; one = Some the_mend; are_of = (refl, refl, tt); are = (is_mend, tt); said = old; printed = appends_none old; fails = own }

-- how many were written, where the unit came from the second file
abbrev pub one_in : Result (Unit {0}) Ending → Result ℕ Ending
one_in (Ok x) = Ok 1
one_in (Err e) = Err e

module _ (file : DataFile) (c : Content) (kind : Kind) (at : Place) (check : List ℕ) (identity : Identity)
    (for : IsFor file kind at check identity) (t o : Told) (due : IsDue (shape file) (units_shown file t.shown) c kind at (number_of check))
    (lacks : IsShownAs (units_shown file t.shown) kind at (number_of check) → ⊥) where
  -- ---- whatever the second file shows

  abbrev From : Option (List ℕ) → Outside
  From old = record { first = Some t; second = Some o; written = old }

  neither : (class other : Class) (place : FilePlace) → IsImage o.shown → place ≡ identity.place → IsRead kind
      identity (Some t) (Some class) None → IsRead kind identity (Some o) (Some other) None → IsNeither file c t.shown o.shown place class
  neither class other place whole is first second = record {
    kind = kind;
    at = at;
    sum = number_of check;
    place_is = is ∙ ap (λ (i : Identity). i.place) for.is;
    next = record { known = due.known; lacks = lacks; first = due.first; trailer = due.trailer };
    spare = due.spare lacks;
    other = lacks_unit file kind at check identity for o.shown whole second.judges.0;
    class_is = class_is file kind at check identity for t.shown class first.judges.1;
  }

  pub taken : (class : Class) (old : Option (List ℕ)) (new : Outside) (shelf : Option Holding) (result : Result (Unit {0}) Ending)
      → IsImage o.shown → IsRead kind identity (Some t) (Some class) None → TakesUnit kind identity class (From old) new shelf result
      → AnswersMending file c (AreAt kind at) t o new.first old new.written (one_in result)
  unfolding neither
  taken class old new shelf (Ok x) whole first takes = let h = takes.0 in let by = takes.2 in one_mended
      file kind at check identity for h by.found by.puts by.tidy c t o by.shown.judges due lacks new.first old new.written by.writes
  taken class old new shelf (Err First) whole first takes = let h = takes.0 in let by = takes.2 in one_unwritten
      file kind at check identity for h by.found by.puts by.tidy c t o by.shown.judges due lacks new.first old new.written by.writes
  taken class old new shelf (Err Sink) whole first takes = let h = takes.0 in let by = takes.2 in one_unprinted
      file kind at check identity for h by.found by.puts by.tidy c t o by.shown.judges due lacks new.first old new.written by.writes
  taken class old new shelf (Err Second) whole first takes =
      none_failed file c (AreAt kind at) tt t o new.first old new.written Second (takes.0, takes.1)
  taken class old new shelf (Err (Unopened e)) whole first takes = absurd takes
  taken class old new shelf (Err (Neither place other)) whole first takes =
      none_came file c (AreAt kind at) tt t o new.first old new.written takes.2.0 takes.2.1
      (λ ms n. (is : IsNeither file c n.shown o.shown place other) × WouldBe (AreAt kind at) ms is.kind is.at) (
        neither other takes.3.0 place whole takes.0 (rw (sym takes.1) at first) takes.3.1,
        λ m same there. (same, there, tt),
      )

-- it is no refusal of a trailer
pub no_refusal : (kind : Kind) (identity : Identity) (class : Class) (old new : Outside) (shelf : Option Holding)
    (result : Result (Unit {0}) Ending) → TakesUnit kind identity class old new shelf result → IsRefusal (one_in result) → ⊥
no_refusal kind identity class old new shelf (Ok x) takes refusal = refusal
no_refusal kind identity class old new shelf (Err First) takes refusal = refusal
no_refusal kind identity class old new shelf (Err Second) takes refusal = refusal
no_refusal kind identity class old new shelf (Err Sink) takes refusal = refusal
no_refusal kind identity class old new shelf (Err (Unopened e)) takes refusal = takes
no_refusal kind identity class old new shelf (Err (Neither place other)) takes refusal = refusal

-- the outside as it is told
pub told_from : (kind : Kind) (identity : Identity) (class : Class) (old new : Outside) (shelf : Option Holding) (result : Result
    (Unit {0}) Ending) (t o : Told) → old.first ≡ Some t → old.second ≡ Some o → TakesUnit kind identity class old new shelf result
    → TakesUnit kind identity class (record { first = Some t; second = Some o; written = old.written }) new shelf result
told_from kind identity class old new shelf result t o first second takes = rw second at (rw first at takes)
