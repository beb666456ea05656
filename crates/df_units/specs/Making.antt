-- The making of a file on a disk that was never written, as its device calls: reserved headers, a sync, and four copies of the first superblock with
-- a sync after each. A stop at any moment leaves a file with its first view, or none.
use Rattle.std.specs.Prelude.{◌≡◌, ◌<◌, ◌+◌, ◌*◌, ◌/◌, ℕ, List, [], ◌∷◌, ◌++◌, length, slice_get, Option, Some, None}
use Rattle.df_base.specs.{Image.{blank}, Log.{AreSyncs, Event, IsLog, Log, Sync, Write}, Moments.{EachMoment, adds}}
use Rattle.df_layout.specs.declared.layout.Layout.{Layout}
use Rattle.df_format.specs.{declared.header.Header.{Header}, declared.kind.Kind.TheVariants.{Reserved}, declared.superblock.SuperFields.{SuperFields}, Super.{copy_bytes}, SuperRules.{IsUsable}}
use Rattle.df_format.specs.{First.{first_content, first_super}, UnitLaws.{headers_bytes}}
use Rattle.df_theory.specs.Units
use Rattle.df_theory.specs.{Units.{HeaderPlace}, Trailer.{no_parts}, View.{View}, Device.{Format, IsSafeDisk, units_log}, TidyLaws.{IsTidy}, WholeLaws.{IsStanding}, MakingLaws.{IsMaking}}
use Rattle.df_theory.specs.Shape.{Shape}
use Rattle.df_units.specs.{Meaning.{content_of}, Bytes.{first_at}, Format.{format_of, shape_of}, Puts.{AreHeaders, put_headers}}

-- the writes of header sectors, from this sector of the ring on
abbrev pub header_writes : Layout → ℕ → List (List Header) → List Event
header_writes layout sector [] = []
header_writes layout sector (headers ∷ rest) = Write (first_at layout (HeaderPlace (16 * sector))) (headers_bytes headers) ∷ header_writes layout (sector + 1) rest

-- what they put
abbrev pub header_puts : ℕ → List (List Header) → List Units.Units
header_puts sector [] = []
header_puts sector (headers ∷ rest) = put_headers sector headers ∷ header_puts (sector + 1) rest

-- sectors of reserved headers
abbrev pub AreReservedSectors : Layout → ℕ → ℕ → List (List Header) → Type 0
AreReservedSectors layout cluster sector [] = Unit {0}
AreReservedSectors layout cluster sector (headers ∷ rest) =
    AreHeaders layout cluster sector headers × ((i : ℕ) (h : Header) → slice_get headers i ≡ Some h → h.kind ≡ Reserved) × AreReservedSectors layout cluster (sector + 1) rest

-- the device calls of a making
abbrev pub format_events : Layout → List (List Header) → SuperFields → List Event
format_events layout sectors f =
    header_writes layout 0 sectors
    ++ (Sync ∷ Write 0 (copy_bytes 0 f) ∷ Sync ∷ Write 1 (copy_bytes 1 f) ∷ Sync ∷ Write 2 (copy_bytes 2 f) ∷ Sync ∷ Write 3 (copy_bytes 3 f) ∷ Sync ∷ [])

-- the view of a file that was just made
abbrev pub first_view : Layout → ℕ → View
first_view layout cluster = record { checkpoint = record { content = content_of (first_content layout cluster); chain = []; parts = no_parts }; tail = []; replies = 0; stored = λ k. None }

-- a file may be made on a disk that was never written, also after syncs
abbrev pub NewIsMaking : Type 0
NewIsMaking =
    (layout : Layout) (cluster : ℕ) (named : 0 < cluster) (parse : ℕ → List ℕ → Option Units.Parts) (events : List Event) → IsUsable (first_super layout cluster) → AreSyncs events
    → IsMaking (shape_of layout cluster named parse) (units_log (format_of layout cluster) (record { start = blank; events = events })) (content_of (first_content layout cluster))

-- a file that is made: the disk is safe at each moment, and at the end it is tidy, with its first view
pub record IsMadeOnDisk (f : Format) (sh : Shape) (before after : Log) (v : View) : Type 0 where
  pub moments : EachMoment before after (IsSafeDisk f sh)
  pub tidy : IsTidy sh (units_log f after) v
  pub standing : IsStanding (units_log f after) v

-- a file may be made with any sectors of reserved headers, one for each sixteen slots
abbrev pub FormatOnDisk : Type 0
FormatOnDisk =
    (layout : Layout) (cluster : ℕ) (named : 0 < cluster) (parse : ℕ → List ℕ → Option Units.Parts) (sectors : List (List Header)) (log : Log)
    → IsUsable (first_super layout cluster) → length sectors ≡ layout.slots / 16 → AreReservedSectors layout cluster 0 sectors
    → IsLog log → IsMaking (shape_of layout cluster named parse) (units_log (format_of layout cluster) log) (content_of (first_content layout cluster))
    → IsMadeOnDisk (format_of layout cluster) (shape_of layout cluster named parse) log (adds (format_events layout sectors (first_super layout cluster)) log) (first_view layout cluster)
