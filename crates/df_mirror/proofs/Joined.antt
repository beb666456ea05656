-- Mends one list after the other, and the answers of walks one after the other.
use Rattle.std.{proofs.{Common.{◌≡◌, ℕ, ◌+◌, ◌≤◌, List, [], ◌∷◌, ◌++◌, length, Option, Some, None, refl, sym, ◌∙◌, ap, subst, arith, length-append, append_assoc}, lemmas.Option.{same_Some}}, specs.Prelude.{Result, Ok, Err}}
use Rattle.df_base.{specs.{Image.{Image, IsImage}, Log.{Event, Sync, Write}, Streams.{Appends}}, proofs.Laws.{appends_more, written_is_image}}
use Rattle.{df_inspect.proofs.Laws.{appends_none}, df_disk.specs.{Adds.{after_all}, Told.{Told, did}}, df_damage.specs.Anew.{told_after}}
use Rattle.{df_format.specs.declared.kind.Kind.{Kind, TheVariants.{Trailer}}, df_theory.specs.Units.{Content, Place}}
use Rattle.{df_units.specs.{Bytes.{first_at}, Meaning.{place_of}}, df_opening.specs.Below.{DataFile}}
use Rattle.df_mirror.specs.{declared.ending.Ending.{Ending}, declared.ending.Ending.TheVariants.{First, Neither, Second, Sink, Unopened}, Known.{rank_of_kind}, Laws.{MendsGoOn, UnitsComeInOrder}, Mends.{AnswersMending, AreAt, AreFrom, AreMends, AreOfKind, Came, Failed, FailsAt, IsRefusal, Mend, MendsUnits, lines_of, mirrored_events, under_way}, Texts.{mended_text}}

-- ---- lists

pub told_append : (es fs : List Event) (t : Told) → told_after (es ++ fs) t ≡ told_after fs (told_after es t)
told_append [] fs t = refl
told_append (e ∷ es) fs t = told_append es fs (did e t)

pub events_append : (file : DataFile) (ms ls : List Mend)
    → mirrored_events file (ms ++ ls) ≡ mirrored_events file ms ++ mirrored_events file ls
events_append file [] ls = refl
events_append file (m ∷ ms) ls = ap (λ (es : List Event). Write (first_at file.layout m.place) m.bytes ∷ Sync ∷ es) (events_append file ms ls)

lines_append : (ms ls : List Mend) → lines_of (ms ++ ls) ≡ lines_of ms ++ lines_of ls
lines_append [] ls = refl
lines_append (m ∷ ms) ls = ap (λ (rest : List ℕ). mended_text (place_of m.place) ++ rest) (lines_append ms ls)
    ∙ sym (append_assoc (mended_text (place_of m.place)) (lines_of ms) (lines_of ls))

pub told_behind : (file : DataFile) (ms ls : List Mend) (t : Told)
    → told_after (mirrored_events file (ms ++ ls)) t ≡ told_after (mirrored_events file ls) (told_after (mirrored_events file ms) t)
told_behind file ms ls t =
    ap (λ (es : List Event). told_after es t) (events_append file ms ls) ∙ told_append (mirrored_events file ms) (mirrored_events file ls) t

pub mends_go_on : MendsGoOn
mends_go_on file c second t [] later are then = then
mends_go_on file c second t (m ∷ ms) later are then =
    (are.0, mends_go_on file c second (told_after (mirrored_events file (m ∷ [])) t) ms later are.1 then)

pub after_told : (es : List Event) (t : Told) → after_all es (Some t) ≡ Some (told_after es t)
after_told [] t = refl
after_told (e ∷ es) t = after_told es (did e t)

-- sectors stay whole
pub image_after : (file : DataFile) (c : Content) (second : Image) (t : Told) (ms : List Mend)
    → IsImage t.shown → AreMends file c second t ms → IsImage (told_after (mirrored_events file ms) t).shown
image_after file c second t [] whole are = whole
image_after file c second t (m ∷ ms) whole are = image_after file c second (told_after (mirrored_events file (m ∷ [])) t)
    ms (written_is_image (first_at file.layout m.place) m.bytes t.shown are.0.puts.piece whole) are.1

-- ---- the order of kinds

-- what follows is no earlier
none_before : (rank : ℕ) (between back : List Mend) (n : Mend) → AreFrom rank (between ++ n ∷ back) → rank ≤ rank_of_kind n.kind
none_before rank [] back n are = are.0
none_before rank (m ∷ between) back n are = omega (arith, are.0, none_before (rank_of_kind m.kind) between back n are.1)

from_any : (rank : ℕ) (front between back : List Mend) (m n : Mend)
    → AreFrom rank (front ++ m ∷ between ++ n ∷ back) → rank_of_kind m.kind ≤ rank_of_kind n.kind
from_any rank [] between back m n are = none_before (rank_of_kind m.kind) between back n are.1
from_any rank (l ∷ front) between back m n are = from_any (rank_of_kind l.kind) front between back m n are.1

pub units_come_in_order : UnitsComeInOrder
units_come_in_order front between back m n are = from_any 0 front between back m n are

pub kinds_append : (kind : Kind) (ms ls : List Mend) → AreOfKind kind ms → AreOfKind kind ls → AreOfKind kind (ms ++ ls)
kinds_append kind [] ls one two = two
kinds_append kind (m ∷ ms) ls one two = (one.0, kinds_append kind ms ls one.1 two)

pub kind_at : (kind : Kind) (place : Place) (ms : List Mend) → AreAt kind place ms → AreOfKind kind ms
kind_at kind place [] are = tt
kind_at kind place (m ∷ ms) are = (are.0, kind_at kind place ms are.2)

-- ---- answers

module _ (file : DataFile) (c : Content) (Of : List Mend → Type 0)
    (none : Of []) (t o : Told) (new : Option Told) (old text : Option (List ℕ)) (same : new ≡ Some t) (silent : text ≡ old) where
  nothing : Appends old text []
  nothing = subst (λ (x : Option (List ℕ)). Appends old x []) (sym silent) (appends_none old)

  pub none_came : (Last : List Mend → Told → Type 0) → Last [] t → Came file c Of t o new old text Last
  none_came Last last = record { mends = []; after = t; after_is = same; are_of = none; does = record { are = tt; told = refl; printed = nothing }; last = last }

-- a call failed before any was
pub none_failed : (file : DataFile) (c : Content) (Of : List Mend → Type 0) → Of [] → (t o : Told)
    (new : Option Told) (old text : Option (List ℕ)) (e : Ending) → FailsAt file e None t new old text → Failed file c Of t o new old text e
none_failed file c Of none t o new old text e fails =
    record { mends = []; one = None; are_of = none; are = tt; said = old; printed = appends_none old; fails = fails }

-- what comes last is another fact
pub came_with : (file : DataFile) (c : Content) (Of Also : List Mend → Type 0) (t o : Told)
    (new : Option Told) (old text : Option (List ℕ)) (One Other : List Mend → Told → Type 0) → ((ms : List Mend) → Of ms → Also ms)
    → ((ms : List Mend) (n : Told) → new ≡ Some n → Of ms → One ms n → Other ms n)
    → Came file c Of t o new old text One → Came file c Also t o new old text Other
came_with file c Of Also t o new old text One Other of last came = record { mends = came.mends; after = came.after; after_is = came.after_is; are_of = of came.mends came.are_of; does = came.does; last = last came.mends came.after came.after_is came.are_of came.last }

failed_with : (file : DataFile) (c : Content) (Of Also : List Mend → Type 0) (t o : Told) (new : Option Told) (old text : Option (List ℕ))
    (e : Ending) → ((ms : List Mend) → Of ms → Also ms) → Failed file c Of t o new old text e → Failed file c Also t o new old text e
failed_with file c Of Also t o new old text e of failed =
    record { mends = failed.mends; one = failed.one; are_of = of (failed.mends ++ under_way failed.one) failed.are_of; are = failed.are; said = failed.said; printed = failed.printed; fails = failed.fails }

pub answers_with : (file : DataFile) (c : Content) (Of Also : List Mend → Type 0) (t o : Told) (new : Option Told) (old text : Option (List
    ℕ)) (result : Result ℕ Ending) → ((ms : List Mend) → Of ms → Also ms) → AnswersMending file c Of t o new old text result
    → AnswersMending file c Also t o new old text result
answers_with file c Of Also t o new old text (Ok n) of is = came_with file c Of Also t o new old text _ _ of (λ ms n same are last. last) is
answers_with file c Of Also t o new old text (Err (Neither place class)) of is =
    came_with file c Of Also t o new old text _ _ of (λ ms n same are last. (last.0, λ m kind at. of (ms ++ m ∷ []) (last.1 m kind at))) is
answers_with file c Of Also t o new old text (Err (Unopened e)) of is =
    came_with file c Of Also t o new old text _ _ of (λ ms n same are last. last) is
answers_with file c Of Also t o new old text (Err First) of is = failed_with file c Of Also t o new old text First of is
answers_with file c Of Also t o new old text (Err Second) of is = failed_with file c Of Also t o new old text Second of is
answers_with file c Of Also t o new old text (Err Sink) of is = failed_with file c Of Also t o new old text Sink of is

-- this many more were mended
abbrev pub more : ℕ → Result ℕ Ending → Result ℕ Ending
more a (Ok b) = Ok (a + b)
more a (Err e) = Err e

module _ (file : DataFile) (c : Content) (Of Then All : List Mend → Type 0) (closed : (ms ls : List Mend) → Of ms → Then ls → All (ms ++ ls)) (t o : Told) (ms : List Mend) (of : Of ms) (old text : Option (List ℕ)) (does : MendsUnits file c t o (told_after (mirrored_events file ms) t) old text ms) where
  abbrev Mid : Told
  Mid = told_after (mirrored_events file ms) t

  join : (new : Option Told) (later : Option (List ℕ)) (One Other : List Mend → Told → Type 0) → ((ls : List Mend) (n : Told)
      → One ls n → Other (ms ++ ls) n) → Came file c Then Mid o new text later One → Came file c All t o new old later Other
  join new later One Other last came = record {
    mends = ms ++ came.mends;
    after = came.after;
    after_is = came.after_is;
    are_of = closed ms came.mends of came.are_of;
    does = record {
      are = mends_go_on file c o.shown t ms came.mends does.are came.does.are;
      told = came.does.told ∙ sym (told_behind file ms came.mends t);
      printed = rw (sym (lines_append ms came.mends)) at
          (appends_more old text later (lines_of ms) (lines_of came.mends) does.printed came.does.printed);
    };
    last = last came.mends came.after came.last;
  }

  join_failed : (new : Option Told) (later : Option (List ℕ)) (e : Ending)
      → Failed file c Then Mid o new text later e → Failed file c All t o new old later e
  join_failed new later e failed = let last : List Mend = under_way failed.one in
      let all : ms ++ (failed.mends ++ last) ≡ (ms ++ failed.mends) ++ last = sym (append_assoc ms failed.mends last) in record {
        mends = ms ++ failed.mends;
        one = failed.one;
        are_of = subst All all (closed ms (failed.mends ++ last) of failed.are_of);
        are = rw all at (mends_go_on file c o.shown t ms (failed.mends ++ last) does.are failed.are);
        said = failed.said;
        printed = rw (sym (lines_append ms failed.mends)) at
            (appends_more old text failed.said (lines_of ms) (lines_of failed.mends) does.printed failed.printed);
        fails = rw (sym (told_behind file ms failed.mends t)) at failed.fails;
      }

  pub joined : (a : ℕ) → a ≡ length ms → (new : Option Told) (later : Option (List ℕ)) (result : Result ℕ Ending) → (IsRefusal result → AreOfKind Trailer ms) → AnswersMending file c Then Mid o new text later result → AnswersMending file c All t o new old later (more a result)
  joined a size new later (Ok b) only is =
      join new later (λ ls n. b ≡ length ls) (λ ls n. a + b ≡ length ls) (λ ls n count. omega (arith, size, count, length-append ms ls)) is
  joined a size new later (Err (Neither place class)) only is = join new later _ _ (λ ls n last. (
    last.0,
    λ m kind at. subst All (sym (append_assoc ms ls (m ∷ []))) (closed ms (ls ++ m ∷ []) of (last.1 m kind at)),
  )) is
  joined a size new later (Err (Unopened e)) only is =
      join new later _ _ (λ ls n last. (kinds_append Trailer ms ls (only tt) last.0, last.1)) is
  joined a size new later (Err First) only is = join_failed new later First is
  joined a size new later (Err Second) only is = join_failed new later Second is
  joined a size new later (Err Sink) only is = join_failed new later Sink is

-- what one walk mended, and what the next one does
pub answers_then : (file : DataFile) (c : Content) (Of Then All : List Mend → Type 0) → ((ms ls : List Mend) → Of ms → Then ls → All (ms ++ ls)) → (t o m : Told) (mid new : Option Told) (old text later : Option (List ℕ)) (a : ℕ) (result : Result ℕ Ending) → (IsRefusal result → (ms : List Mend) → Of ms → AreOfKind Trailer ms)
    → AnswersMending file c Of t o mid old text (Ok a)
    → mid ≡ Some m → AnswersMending file c Then m o new text later result → AnswersMending file c All t o new old later (more a result)
answers_then file c Of Then All closed t o m mid new old text later a result only came is rest =
    let same : m ≡ told_after (mirrored_events file came.mends) t = sym (same_Some _ _ (sym came.after_is ∙ is)) ∙ came.does.told in
    let does : MendsUnits file c t o (told_after (mirrored_events file came.mends) t) old text came.mends =
    record { are = came.does.are; told = refl; printed = came.does.printed } in
    joined file c Of Then All closed t o came.mends came.are_of old text does a came.last new later result (λ refusal.
    only refusal came.mends came.are_of) (rw same at rest)

-- what is told after a walk is whole
pub told_is_whole : (file : DataFile) (c : Content) (Of : List Mend → Type 0) (t o m : Told) (mid : Option Told) (old text : Option (List ℕ)) (a : ℕ) → IsImage t.shown → AnswersMending file c Of t o mid old text (Ok a) → mid ≡ Some m → IsImage m.shown
told_is_whole file c Of t o m mid old text a whole came is =
    let same : m ≡ told_after (mirrored_events file came.mends) t = sym (same_Some _ _ (sym came.after_is ∙ is)) ∙ came.does.told in
    rw (sym same) at (image_after file c o.shown t came.mends whole came.does.are)
