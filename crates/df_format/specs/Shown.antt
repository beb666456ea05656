-- The unit that a place shows, and the class of what it shows in place of the unit wanted. The copies of the superblock
-- are no messages: a place of that zone shows no unit here, and its class isn't said here.
use Rattle.std.specs.{Prelude.{◌%◌, ◌*◌, ◌==◌, ℕ, List, Bool, true, false, ◌&&◌, if◌then◌else◌, take, drop, replicate, Option, Some, None, Result, Ok, Err}, Str.{bytes_eq}}
use Rattle.df_base.specs.{declared.TheConstants.{HEADER}, Image.{Image, bytes_at}}
use Rattle.df_layout.specs.{declared.layout.Layout.{Layout}, declared.damage.Class.{Class}, declared.damage.Class.TheVariants.{Blank, Garbled, Elsewhere, Stale}, declared.places.Place.{Place}}
use Rattle.df_layout.specs.{declared.places.Zone.{Zone}, declared.places.Zone.TheVariants.{Superblock, WalHeaders, WalPrepares, ClientReplies, Grid}, Spans.{span_of}}
use Rattle.df_format.specs.{declared.header.Header.{Header}, Message.{Message}, Whole.{Whole, whole_in}}

-- one zone
abbrev pub same_zone : Zone → Zone → Bool
same_zone Superblock Superblock = true
same_zone WalHeaders WalHeaders = true
same_zone WalPrepares WalPrepares = true
same_zone ClientReplies ClientReplies = true
same_zone Grid Grid = true
same_zone _ _ = false

-- one place
abbrev pub same_place : Place → Place → Bool
same_place a b = same_zone a.zone b.zone && (a.index == b.index)

-- the unit, if it belongs here
abbrev pub if_own : Place → Option Whole → Option Message
if_own place None = None
if_own place (Some w) = if same_place w.own place then Some w.unit else None

-- the unit that is valid at a place with these bytes
unfoldable pub unit_in : Layout → ℕ → Place → List ℕ → Option Message
unit_in layout cluster place bytes = if_own place (whole_in layout cluster place.zone bytes)

-- 256 zeros at the front, as a place that was never written has
unfoldable pub is_blank : List ℕ → Bool
is_blank bytes = bytes_eq (take HEADER bytes) (replicate HEADER 0)

-- the class of bytes that are no whole unit
abbrev pub class_of_none : List ℕ → Class
class_of_none bytes = if is_blank bytes then Blank else Garbled

-- the class of bytes that aren't blank
abbrev pub class_of_whole : Place → Option Whole → Class
class_of_whole place None = Garbled
class_of_whole place (Some w) = if same_place w.own place then Stale else Elsewhere w.own

-- the class of bytes that aren't the unit wanted at a place: the first that applies
unfoldable pub class_of : Layout → ℕ → Place → List ℕ → Class
class_of layout cluster place bytes = if is_blank bytes then Blank else class_of_whole place (whole_in layout cluster place.zone bytes)

-- what of its sectors belongs to a place: a header has 256 bytes of a sector of sixteen, any other unit has them all
abbrev pub part_in : Zone → ℕ → List ℕ → List ℕ
part_in WalHeaders index bytes = take HEADER (drop (HEADER * (index % 16)) bytes)
part_in zone index bytes = bytes

-- the bytes of a place
unfoldable pub bytes_of : Layout → Image → Place → List ℕ
bytes_of layout image place = part_in place.zone place.index (bytes_at image (span_of layout place).first (span_of layout place).count)

-- the unit that an image shows at a place
unfoldable pub unit_at : Layout → ℕ → Image → Place → Option Message
unit_at layout cluster image place = unit_in layout cluster place (bytes_of layout image place)

-- the class of what an image shows at a place that doesn't show the unit wanted
unfoldable pub class_at : Layout → ℕ → Image → Place → Class
class_at layout cluster image place = class_of layout cluster place (bytes_of layout image place)

-- the header of the unit that is valid at a place, or the class of what is there, where any unit is wanted
abbrev pub header_or_class : Option Message → Class → Result Header Class
header_or_class None class = Err class
header_or_class (Some u) class = Ok u.header
