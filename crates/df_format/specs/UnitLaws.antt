-- What holds of every header, and of every unit, place and image of a layout: what the layers above rest on.
use Rattle.std.specs.Prelude.{◌≡◌, ◌≢◌, ◌↔◌, ◌<◌, ◌≤◌, ◌+◌, ◌-◌, ◌*◌, ◌/◌, ◌%◌, ℕ, false, List, [], ◌∷◌, ◌++◌, length, take, drop, replicate, slice_get, Some, None}
use Rattle.df_base.specs.{declared.TheConstants.{HEADER, SECTOR}, Fields.{AreBytes, spelled}, Image.{Image, IsImage, IsPiece, blank, bytes_at, written}, Log.{Log, Write, IsLeft, add, loose, now}}
use Rattle.df_layout.specs.{declared.damage.Class.TheVariants.{Blank, Elsewhere, Stale}, declared.layout.Layout.{Layout}, declared.places.Place.{Place}, declared.places.Zone.{Zone}}
use Rattle.df_layout.specs.{declared.places.Zone.TheVariants.{WalHeaders}, Spans.{HasPlace, place_sectors, span_of}, Order.{ShareHeaderSector}}
use Rattle.df_format.specs.{declared.header.Header.{Header}, Spelling.{spelling, tail_of}, Rules.{IsSealed, ObeysFirst}, Reading.{header_in}, Message.{Message, sectors_of}, Own.{place_in, own_place}}
use Rattle.df_format.specs.{Whole.{greatest_size}, Shown.{part_in, unit_in, class_of, unit_at, class_at}, Valid.{IsUnit, BeginsWithUnit, Belongs}}

-- 256 bytes are read as a header exactly where it is sealed and they are its spelling
abbrev pub HeadersHaveOneSpelling : Type 0
HeadersHaveOneSpelling = (bytes : List ℕ) (h : Header) → length bytes ≡ HEADER → AreBytes bytes → (header_in bytes ≡ Some h) ↔ (IsSealed h × (bytes ≡ spelling h))

-- after its version a header of version 1 ends in zeros
abbrev pub FirstVersionEndsInZeros : Type 0
FirstVersionEndsInZeros = (h : Header) → ObeysFirst h → tail_of h ≡ spelled 2 1 ++ replicate 132 0

-- how many bytes a place of a zone has; a header has its part of a sector
abbrev pub place_size : Layout → Zone → ℕ
place_size layout WalHeaders = HEADER
place_size layout zone = SECTOR * place_sectors layout zone

-- a place shows a unit exactly where its bytes begin with one that is valid there
abbrev pub UnitsHaveOneSpelling : Type 0
UnitsHaveOneSpelling =
    (layout : Layout) (cluster : ℕ) (place : Place) (bytes : List ℕ) (u : Message) → length bytes ≡ place_size layout place.zone → AreBytes bytes
    → (unit_in layout cluster place bytes ≡ Some u) ↔ BeginsWithUnit layout cluster place bytes u

-- a place that shows a unit is one of the layout, and the unit's header says that it belongs there
pub record IsAtPlace (layout : Layout) (place : Place) (u : Message) : Type 0 where
  pub has : HasPlace layout place
  pub own : own_place layout place.zone u.header ≡ Some place
  pub belongs : Belongs layout place.zone place.index u.header

abbrev pub ShownBelongs : Type 0
ShownBelongs = (layout : Layout) (cluster : ℕ) (image : Image) (place : Place) (u : Message) → unit_at layout cluster image place ≡ Some u → IsAtPlace layout place u

-- what an image of whole sectors shows at a place is a unit valid there
abbrev pub ShownIsUnit : Type 0
ShownIsUnit = (layout : Layout) (cluster : ℕ) (image : Image) (place : Place) (u : Message) → IsImage image → unit_at layout cluster image place ≡ Some u → IsUnit layout cluster place u

-- so is each place whose bytes are a unit that is valid there
abbrev pub ReadBelongs : Type 0
ReadBelongs = (layout : Layout) (cluster : ℕ) (place : Place) (bytes : List ℕ) (u : Message) → unit_in layout cluster place bytes ≡ Some u → IsAtPlace layout place u

-- and each place at which a unit is valid
abbrev pub ValidBelongs : Type 0
ValidBelongs = (layout : Layout) (cluster : ℕ) (place : Place) (u : Message) → IsUnit layout cluster place u → IsAtPlace layout place u

-- the body of a unit is what follows its header
abbrev pub BodyFollows : Type 0
BodyFollows =
    (layout : Layout) (cluster : ℕ) (place : Place) (bytes : List ℕ) (u : Message) → place.zone ≢ WalHeaders → unit_in layout cluster place bytes ≡ Some u
    → u.body ≡ take (u.header.size - HEADER) (drop HEADER bytes)

-- in the header ring a unit has no body
abbrev pub RingHasNoBody : Type 0
RingHasNoBody = (layout : Layout) (cluster : ℕ) (place : Place) (bytes : List ℕ) (u : Message) → place.zone ≡ WalHeaders → unit_in layout cluster place bytes ≡ Some u → u.body ≡ []

-- the classes of bytes: what is valid is neither blank nor elsewhere, and what is elsewhere belongs at another place
abbrev pub ValidIsStale : Type 0
ValidIsStale = (layout : Layout) (cluster : ℕ) (place : Place) (bytes : List ℕ) (u : Message) → unit_in layout cluster place bytes ≡ Some u → class_of layout cluster place bytes ≡ Stale

-- and what is stale is a unit that is valid there
abbrev pub StaleIsValid : Type 0
StaleIsValid = (layout : Layout) (cluster : ℕ) (place : Place) (bytes : List ℕ) → class_of layout cluster place bytes ≡ Stale → (u : Message) × (unit_in layout cluster place bytes ≡ Some u)

abbrev pub ElsewhereIsOther : Type 0
ElsewhereIsOther =
    (layout : Layout) (cluster : ℕ) (place other : Place) (bytes : List ℕ) → class_of layout cluster place bytes ≡ Elsewhere other → HasPlace layout other × (other ≢ place)

-- two images have the same bytes in the sectors of a place
abbrev pub AgreeAt : Layout → Place → Image → Image → Type 0
AgreeAt layout place one two = (k : ℕ) → k < (span_of layout place).count → one ((span_of layout place).first + k) ≡ two ((span_of layout place).first + k)

-- two images show the same at a place
pub record ShowSameAt (layout : Layout) (cluster : ℕ) (place : Place) (one two : Image) : Type 0 where
  pub unit : unit_at layout cluster one place ≡ unit_at layout cluster two place
  pub class : class_at layout cluster one place ≡ class_at layout cluster two place

-- what a place shows depends on its own sectors alone
abbrev pub SameIsShown : Type 0
SameIsShown = (layout : Layout) (cluster : ℕ) (place : Place) (one two : Image) → AgreeAt layout place one two → ShowSameAt layout cluster place one two

-- elsewhere than in the header ring the sectors of a place, as they are read, are what it shows
abbrev pub ReadIsShown : Type 0
ReadIsShown =
    (layout : Layout) (cluster : ℕ) (image : Image) (place : Place) → place.zone ≢ WalHeaders
    → unit_in layout cluster place (bytes_at image (span_of layout place).first (span_of layout place).count) ≡ unit_at layout cluster image place

-- the image after a write from the first sector of a place on
abbrev pub put : Layout → Place → List ℕ → Image → Image
put layout place bytes image = written (span_of layout place).first bytes image

-- a unit that is written at its own place is shown there, whatever was there before
abbrev pub WrittenIsShown : Type 0
WrittenIsShown =
    (layout : Layout) (cluster : ℕ) (image : Image) (place : Place) (u : Message) → place.zone ≢ WalHeaders → IsImage image → IsUnit layout cluster place u
    → unit_at layout cluster (put layout place (sectors_of u) image) place ≡ Some u

-- the bytes can be written, and are no longer than the sectors of the place
pub record AreForPlace (layout : Layout) (place : Place) (bytes : List ℕ) : Type 0 where
  pub piece : IsPiece bytes
  pub fits : length bytes ≤ SECTOR * (span_of layout place).count

-- the sectors of a unit are for its place
abbrev pub SectorsFitPlace : Type 0
SectorsFitPlace = (layout : Layout) (cluster : ℕ) (place : Place) (u : Message) → place.zone ≢ WalHeaders → IsUnit layout cluster place u → AreForPlace layout place (sectors_of u)

-- neither the place itself, nor a header of its sector
pub record IsOther (layout : Layout) (place other : Place) : Type 0 where
  pub has : HasPlace layout other
  pub differs : other ≢ place
  pub apart : ¬ ShareHeaderSector place other

-- a write that fits a place leaves what every other place shows
abbrev pub WrittenIsApart : Type 0
WrittenIsApart =
    (layout : Layout) (cluster : ℕ) (image : Image) (place other : Place) (bytes : List ℕ) → HasPlace layout place → IsOther layout place other
    → length bytes ≤ SECTOR * (span_of layout place).count → ShowSameAt layout cluster other (put layout place bytes image) image

-- a header sector that is written shows at each of its sixteen slots what its part of the bytes says
abbrev pub SectorIsShown : Type 0
SectorIsShown =
    (layout : Layout) (cluster : ℕ) (image : Image) (index slot : ℕ) (bytes : List ℕ) → length bytes ≡ SECTOR → index / 16 ≡ slot / 16
    → unit_at layout cluster (put layout (place_in WalHeaders index) bytes image) (place_in WalHeaders slot) ≡ unit_in layout cluster (place_in WalHeaders slot) (part_in WalHeaders slot bytes)

-- headers one after the other
abbrev pub headers_bytes : List Header → List ℕ
headers_bytes [] = []
headers_bytes (h ∷ hs) = spelling h ++ headers_bytes hs

-- sixteen sealed headers fill a sector
pub record AreSixteen (headers : List Header) : Type 0 where
  pub count : length headers ≡ 16
  pub each : (i : ℕ) (h : Header) → slice_get headers i ≡ Some h → IsSealed h

abbrev pub HeadersFillSector : Type 0
HeadersFillSector = (layout : Layout) (index : ℕ) (headers : List Header) → AreSixteen headers → AreForPlace layout (place_in WalHeaders index) (headers_bytes headers)

-- a header of a sector that is written is shown in its slot, whatever was there before
abbrev pub HeaderIsShown : Type 0
HeaderIsShown =
    (layout : Layout) (cluster : ℕ) (image : Image) (index slot : ℕ) (headers : List Header) (h : Header) → AreSixteen headers → index / 16 ≡ slot / 16
    → slice_get headers (slot % 16) ≡ Some h → IsUnit layout cluster (place_in WalHeaders slot) (record { header = h; body = [] })
    → unit_at layout cluster (put layout (place_in WalHeaders index) (headers_bytes headers) image) (place_in WalHeaders slot) ≡ Some (record { header = h; body = [] })

-- a blank image shows no unit
abbrev pub BlankShowsNone : Type 0
BlankShowsNone = (layout : Layout) (cluster : ℕ) (place : Place) → (unit_at layout cluster blank place ≡ None) × (class_at layout cluster blank place ≡ Blank)

-- no sector of a place was written since the last sync or stop
abbrev pub IsQuietPlace : Layout → Log → Place → Type 0
IsQuietPlace layout log place = (k : ℕ) → k < (span_of layout place).count → loose log ((span_of layout place).first + k) ≡ false

-- what a stop within a write to one place leaves shows at every other quiet place what was there
abbrev pub LeftIsApart : Type 0
LeftIsApart =
    (layout : Layout) (cluster : ℕ) (log : Log) (image : Image) (place other : Place) (bytes : List ℕ) → HasPlace layout place → IsOther layout place other
    → length bytes ≤ SECTOR * (span_of layout place).count → IsQuietPlace layout log other → IsLeft (add (Write (span_of layout place).first bytes) log) image
    → ShowSameAt layout cluster other image (now log)

-- a unit that was made is valid at its own place, where it fits that; in the header ring it has no body
abbrev pub MadeIsUnit : Message → Type 0
MadeIsUnit u =
    (layout : Layout) (place : Place) → own_place layout place.zone u.header ≡ Some place → u.header.size ≤ greatest_size layout place.zone → (place.zone ≡ WalHeaders → u.body ≡ [])
    → IsUnit layout u.header.cluster place u
