-- Units that are mended one after the other, what that writes and prints, and how it ends.
use Rattle.std.specs.Prelude.{◌≡◌, ◌≤◌, ℕ, List, [], ◌∷◌, ◌++◌, length, Option, Some, None, Result, Ok, Err}
use Rattle.df_base.specs.{Image.{Image}, Log.{Event, Sync, Write}, Streams.{Appends, AppendsPart}}
use Rattle.df_disk.specs.{Adds.{AddsPart}, Told.{Told}}
use Rattle.df_format.specs.{declared.kind.Kind.{Kind}, declared.kind.Kind.TheVariants.{Trailer}, Message.{Message, sectors_of}}
use Rattle.df_format.specs.Shown
use Rattle.df_layout.specs.{declared.damage.Class.{Class}, declared.places.Place.{Place as FilePlace}}
use Rattle.df_theory.specs.{Device.{IsPut}, UnitLog.{put_one}, Units.{AnyUnit, Content, Place, Units}}
use Rattle.df_units.specs.{Bytes.{first_at, unit_at}, Format.{format_of}, Meaning.{place_of, unit_of}, Wanted.{IsOfKind, checksum_of, class_at}}
use Rattle.df_damage.specs.Anew.{told_after}
use Rattle.df_opening.specs.Below.{DataFile, shape}
use Rattle.df_mirror.specs.{Known.{IsNext, IsShownAs, IsSparePlace, rank_of_kind}, Refusals.{RefusesFirstTrailer}, Texts.{mended_text}, declared.ending.Ending.{Ending}}
use Rattle.df_mirror.specs.declared.ending.Ending.TheVariants.{First, Neither, Second, Sink, Unopened}

-- what an image of the file shows
abbrev pub units_shown : DataFile → Image → Units
units_shown file image = unit_at file.layout file.cluster image

-- ---- one unit

-- a unit that is mended: its kind and place, and the sectors that are written
pub record Mend : Type 0 where
  pub kind : Kind
  pub place : Place
  pub unit : AnyUnit
  pub bytes : List ℕ

-- it is the first known unit that isn't shown, no known unit that is shown stands at its place, the second file shows it there, its sectors bring it and touch no other place; they are those of the unit whole, its header and its body, and zeros after them
pub record IsMend (file : DataFile) (c : Content) (shown second : Image) (m : Mend) : Type 0 where
  pub next : IsNext (shape file) (units_shown file shown) c m.kind m.place (checksum_of m.unit)
  pub open next use *
  pub spare : IsSparePlace (shape file) (units_shown file shown) c m.place
  pub of_kind : IsOfKind m.kind m.unit
  pub from : units_shown file second m.place ≡ Some m.unit
  pub puts : IsPut (format_of file.layout file.cluster) (first_at file.layout m.place) m.bytes (put_one m.place m.unit)
  pub sectors : (u : Message) × (unit_of m.place u ≡ Some m.unit) × (Shown.unit_at file.layout file.cluster second (place_of m.place) ≡ Some u) × (m.bytes ≡ sectors_of u)

-- ---- all of them

-- each is one write and a sync
abbrev pub mirrored_events : DataFile → List Mend → List Event
mirrored_events file [] = []
mirrored_events file (m ∷ ms) = Write (first_at file.layout m.place) m.bytes ∷ Sync ∷ mirrored_events file ms

-- and a line
abbrev pub lines_of : List Mend → List ℕ
lines_of [] = []
lines_of (m ∷ ms) = mended_text (place_of m.place) ++ lines_of ms

-- each is a mend of what is shown after those before it
abbrev pub AreMends : DataFile → Content → Image → Told → List Mend → Type 0
AreMends file c second t [] = Unit {0}
AreMends file c second t (m ∷ ms) = IsMend file c t.shown second m × AreMends file c second (told_after (mirrored_events file (m ∷ [])) t) ms

-- each is of this kind
abbrev pub AreOfKind : Kind → List Mend → Type 0
AreOfKind kind [] = Unit {0}
AreOfKind kind (m ∷ ms) = (m.kind ≡ kind) × AreOfKind kind ms

-- each is of this kind, and at this place
abbrev pub AreAt : Kind → Place → List Mend → Type 0
AreAt kind place [] = Unit {0}
AreAt kind place (m ∷ ms) = (m.kind ≡ kind) × (m.place ≡ place) × AreAt kind place ms

abbrev pub AreFrom : ℕ → List Mend → Type 0
AreFrom rank [] = Unit {0}
AreFrom rank (m ∷ ms) = (rank ≤ rank_of_kind m.kind) × AreFrom (rank_of_kind m.kind) ms

-- prepares come first, and then replies
abbrev pub AreLate : List Mend → Type 0
AreLate ms = AreFrom 3 ms

-- blocks of the trailer come first, then those that it references, then prepares, and then replies
abbrev pub AreInOrder : List Mend → Type 0
AreInOrder ms = AreFrom 0 ms

-- ---- how that ends

-- these were mended: all of it was written and printed
pub record MendsUnits (file : DataFile) (c : Content) (t o n : Told) (old new : Option (List ℕ)) (ms : List Mend) : Type 0 where
  pub are : AreMends file c o.shown t ms
  pub told : n ≡ told_after (mirrored_events file ms) t
  pub printed : Appends old new (lines_of ms)

-- the unit at which a call failed, if it was at one
abbrev pub under_way : Option Mend → List Mend
under_way None = []
under_way (Some m) = m ∷ []

-- How a call failed, by what was told and printed before it: it was a read, and nothing more was done; or a write or the sync of this unit, and a part of that is there, and no byte of its line; or its line, of which a part is there, and it is written.
abbrev pub FailsAt : DataFile → Ending → Option Mend → Told → (new : Option Told) → (said text : Option (List ℕ)) → Type 0
FailsAt file First None mid new said text = (new ≡ Some mid) × (text ≡ said)
FailsAt file Second None mid new said text = (new ≡ Some mid) × (text ≡ said)
FailsAt file First (Some m) mid new said text = AddsPart (mirrored_events file (m ∷ [])) (Some mid) new × (text ≡ said)
FailsAt file Sink (Some m) mid new said text = (new ≡ Some (told_after (mirrored_events file (m ∷ [])) mid)) × AppendsPart said text (mended_text (place_of m.place))
FailsAt file e one mid new said text = ⊥

-- the first known unit that isn't shown is shown by neither file, no known unit that is shown stands at its place, and this is the class of what the first one shows
pub record IsNeither (file : DataFile) (c : Content) (shown second : Image) (place : FilePlace) (class : Class) : Type 0 where
  pub kind : Kind
  pub at : Place
  pub sum : ℕ
  pub place_is : place ≡ place_of at
  pub next : IsNext (shape file) (units_shown file shown) c kind at sum
  pub open next use *
  pub spare : IsSparePlace (shape file) (units_shown file shown) c at
  pub other : IsShownAs (units_shown file second) kind at sum → ⊥
  pub class_is : class ≡ class_at file.layout file.cluster shown at

-- some were mended, and then it ended so
pub record Came (file : DataFile) (c : Content) (Of : List Mend → Type 0) (t o : Told) (new : Option Told) (old text : Option (List ℕ)) (Last : List Mend → Told → Type 0) : Type 0 where
  pub mends : List Mend
  pub after : Told
  pub after_is : new ≡ Some after
  pub are_of : Of mends
  pub does : MendsUnits file c t o after old text mends
  pub last : Last mends after

-- Some were, and all of each was written and printed; and then a disk or the sink failed, at the next one if at any. So what was written and what was printed know one another: no line tells of a unit that isn't written.
pub record Failed (file : DataFile) (c : Content) (Of : List Mend → Type 0) (t o : Told) (new : Option Told) (old text : Option (List ℕ)) (e : Ending) : Type 0 where
  pub mends : List Mend
  pub one : Option Mend
  pub are_of : Of (mends ++ under_way one)
  pub are : AreMends file c o.shown t (mends ++ under_way one)
  pub said : Option (List ℕ)
  pub printed : Appends old said (lines_of mends)
  pub fails : FailsAt file e one (told_after (mirrored_events file mends) t) new said text

-- a unit of this kind at this place would be one more of them
abbrev pub WouldBe : (List Mend → Type 0) → List Mend → Kind → Place → Type 0
WouldBe Of ms kind at = (m : Mend) → m.kind ≡ kind → m.place ≡ at → Of (ms ++ m ∷ [])

-- units are mended, of such a kind or in such an order: this many, or up to the first that neither file shows, which would be one more, or to where the trailer fails a test, once blocks of its own alone were mended, or a call failed
abbrev pub AnswersMending : DataFile → Content → (List Mend → Type 0) → Told → Told → Option Told → (old text : Option (List ℕ)) → Result ℕ Ending → Type 0
AnswersMending file c Of t o new old text (Ok count) = Came file c Of t o new old text (λ ms n. count ≡ length ms)
AnswersMending file c Of t o new old text (Err (Neither place class)) = Came file c Of t o new old text (λ ms n. (is : IsNeither file c n.shown o.shown place class) × WouldBe Of ms is.kind is.at)
AnswersMending file c Of t o new old text (Err (Unopened e)) = Came file c Of t o new old text (λ ms n. AreOfKind Trailer ms × RefusesFirstTrailer file n.shown c e)
AnswersMending file c Of t o new old text (Err First) = Failed file c Of t o new old text First
AnswersMending file c Of t o new old text (Err Second) = Failed file c Of t o new old text Second
AnswersMending file c Of t o new old text (Err Sink) = Failed file c Of t o new old text Sink

-- it is the refusal of a trailer
abbrev pub IsRefusal : Result ℕ Ending → Type 0
IsRefusal (Err (Unopened e)) = Unit {0}
IsRefusal result = ⊥
