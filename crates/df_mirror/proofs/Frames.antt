-- What mends leave as it was: each place at which none was mended.
use Rattle.std.{proofs.{Common.{◌≡◌, ℕ, List, [], ◌∷◌, Option, Some, None, refl, sym, ◌∙◌, ap}, lemmas.Option.{same_Some}}, specs.Prelude.{Ok}}
use Rattle.{df_base.{specs.Image.{Image, IsImage}, proofs.Laws.{written_is_image}}, df_disk.specs.Told.{Told}}
use Rattle.{df_format.specs.declared.kind.Kind.{Kind, TheVariants.{Block, Prepare, Reply, Trailer}}, df_damage.specs.Anew.{told_after}}
use Rattle.df_theory.{specs.{Shape.{Shape}, UnitLog.{put_one}, Units.{AnyUnit, BlockPlace, Content, Place, PreparePlace, ReplyPlace, Units, or_else}}, proofs.Laws.{put_one_law}}
use Rattle.{df_units.specs.{Bytes.{first_at}, Wanted.{checksum_of}}, df_opening.specs.Below.{DataFile, shape}}
use Rattle.df_mirror.specs.{Known.{IsKnownAt}, Mends.{AnswersMending, AreAt, AreMends, AreOfKind, Came, Mend, mirrored_events, units_shown}}

-- the place is one for known units of this kind
abbrev pub IsPlaceOf : Kind → Place → Type 0
IsPlaceOf Trailer (BlockPlace a) = Unit {0}
IsPlaceOf Block (BlockPlace a) = Unit {0}
IsPlaceOf Prepare (PreparePlace s) = Unit {0}
IsPlaceOf Reply (ReplyPlace k) = Unit {0}
IsPlaceOf kind place = ⊥

pub known_place : (sh : Shape) (image : Units) (c : Content) (kind : Kind) (place : Place) (sum : ℕ)
    → IsKnownAt sh image c kind place sum → IsPlaceOf kind place
known_place sh image c Trailer (BlockPlace a) sum known = tt
known_place sh image c Block (BlockPlace a) sum known = tt
known_place sh image c Prepare (PreparePlace s) sum known = tt
known_place sh image c Reply (ReplyPlace k) sum known = tt
known_place sh image c kind place sum known = absurd known

-- none is at this place
abbrev pub Misses : List Mend → Place → Type 0
Misses [] place = Unit {0}
Misses (m ∷ ms) place = (m.place ≡ place → ⊥) × Misses ms place

pub put_elsewhere : (at place : Place) (x : AnyUnit) → (at ≡ place → ⊥) → put_one at x place ≡ None
put_elsewhere at place x other = by (put_one at x place) refl
  where
    by : (o : Option AnyUnit) → put_one at x place ≡ o → put_one at x place ≡ None
    by None is = is
    by (Some y) is = absurd (other (sym ((put_one_law at x).only place y is).0))

pub stays : (file : DataFile) (c : Content) (second : Image) (t : Told) (ms : List Mend) (place : Place) → IsImage t.shown → AreMends file
    c second t ms → Misses ms place → units_shown file (told_after (mirrored_events file ms) t).shown place ≡ units_shown file t.shown place
stays file c second t [] place whole are misses = refl
stays file c second t (m ∷ ms) place whole are misses = stays file c second (told_after (mirrored_events file (m ∷ [])) t)
    ms place (written_is_image (first_at file.layout m.place) m.bytes t.shown are.0.puts.piece whole) are.1 misses.1
    ∙ are.0.puts.shows t.shown place whole
    ∙ ap (λ (o : Option AnyUnit). or_else o (units_shown file t.shown place)) (put_elsewhere m.place place m.unit misses.0)

misses_kind : (file : DataFile) (c : Content) (second : Image) (t : Told) (ms : List Mend) (kind : Kind) (place : Place)
    → AreMends file c second t ms → AreOfKind kind ms → (IsPlaceOf kind place → ⊥) → Misses ms place
misses_kind file c second t [] kind place are of other = tt
misses_kind file c second t (m ∷ ms) kind place are of other = (
  λ same. let here : IsPlaceOf m.kind m.place =
      known_place (shape file) (units_shown file t.shown) c m.kind m.place (checksum_of m.unit) are.0.known in
      other (rw same at (rw of.0 at here)),
  misses_kind file c second (told_after (mirrored_events file (m ∷ [])) t) ms kind place are.1 of.1 other,
)

misses_at : (kind : Kind) (at place : Place) (ms : List Mend) → AreAt kind at ms → (at ≡ place → ⊥) → Misses ms place
misses_at kind at place [] are other = tt
misses_at kind at place (m ∷ ms) are other = (λ same. other (sym are.1 ∙ same), misses_at kind at place ms are.2 other)

module _ (file : DataFile) (c : Content)
    (t o n : Told) (new : Option Told) (old text : Option (List ℕ)) (whole : IsImage t.shown) (is : new ≡ Some n) (place : Place) where
  came_to : (Of : List Mend → Type 0) (Last : List Mend → Told → Type 0) (came : Came file c Of t o new old text Last)
      → Misses came.mends place → units_shown file n.shown place ≡ units_shown file t.shown place
  came_to Of Last came misses =
      let same : n ≡ told_after (mirrored_events file came.mends) t = sym (same_Some _ _ (sym came.after_is ∙ is)) ∙ came.does.told in
      ap (λ (m : Told). units_shown file m.shown place) same ∙ stays file c o.shown t came.mends place whole came.does.are misses

  -- after a walk over units of one kind each other place is as it was
  pub other_kind : (kind : Kind) (count : ℕ) → AnswersMending file c (AreOfKind kind) t o new old text (Ok count)
      → (IsPlaceOf kind place → ⊥) → units_shown file n.shown place ≡ units_shown file t.shown place
  other_kind kind count came other =
      came_to (AreOfKind kind) _ came (misses_kind file c o.shown t came.mends kind place came.does.are came.are_of other)

  -- and so is it after one unit
  pub other_place : (kind : Kind) (at : Place) (count : ℕ) → AnswersMending file c (AreAt kind at) t o new old text (Ok count)
      → (at ≡ place → ⊥) → units_shown file n.shown place ≡ units_shown file t.shown place
  other_place kind at count came other = came_to (AreAt kind at) _ came (misses_at kind at place came.mends came.are_of other)
