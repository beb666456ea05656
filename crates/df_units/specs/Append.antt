-- An append on a disk, as its device calls: the prepare, a sync, its header sector, a sync. A stop at any moment leaves the file
-- with it or without it.
use Rattle.std.specs.Prelude.{◌<◌, ◌*◌, ℕ, List, [], ◌∷◌, Option}
use Rattle.df_base.specs.Log
use Rattle.df_base.specs.{Log.{Event, IsLog, Sync, Write}, Moments.{EachMoment, adds}}
use Rattle.df_layout.specs.{declared.layout.Layout.{Layout}, declared.places.Zone.TheVariants.{WalPrepares}}
use Rattle.df_format.specs.{declared.header.Header.{Header}, Message.{Message}, Own.{place_in}, Brings.{Brings}, UnitLaws.{headers_bytes}}
use Rattle.df_theory.specs.Units
use Rattle.df_theory.specs.{Units.{HeaderPlace, PreparePlace}, View.{View}, Next.{MayAppend, appended}, Device.{Format, IsGoodDisk, IsGoodWholeDisk, units_log}, TidyLaws.{IsTidy}}
use Rattle.df_theory.specs.{WholeLaws.{IsStanding}, Shape.{Shape}}
use Rattle.df_units.specs.{Meaning.{message_of}, Bytes.{first_at}, Format.{format_of, shape_of}, Puts.{IsNextSector}}

-- the device calls of an append
abbrev pub append_events : Layout → ℕ → List ℕ → ℕ → List Header → List Event
append_events layout slot bytes sector headers =
    Write (first_at layout (PreparePlace slot)) bytes ∷ Sync ∷ Write (first_at layout (HeaderPlace (16 * sector))) (headers_bytes headers) ∷ Sync ∷ []

-- a tidy file leads to the next one: a stop at any moment leaves one of the two views, and where the referenced blocks stood, they do
pub record AppendLeadsOnDisk (f : Format) (sh : Shape) (before after : Log.Log) (v u : View) : Type 0 where
  pub moments : EachMoment before after (IsGoodDisk f sh v u)
  pub tidy : IsTidy sh (units_log f after) u
  pub whole : IsStanding (units_log f before) v → EachMoment before after (IsGoodWholeDisk f sh v u)
  pub standing : IsStanding (units_log f before) v → IsStanding (units_log f after) u

-- from a tidy file on an append leads to the file with it
abbrev pub AppendOnDisk : Type 0
AppendOnDisk =
    (layout : Layout) (cluster : ℕ) (named : 0 < cluster) (parse : ℕ → List ℕ → Option Units.Parts) (log : Log.Log) (v : View) (u : Message) (bytes : List ℕ) (sector : ℕ) (headers : List Header)
    → IsLog log → IsTidy (shape_of layout cluster named parse) (units_log (format_of layout cluster) log) v → MayAppend (shape_of layout cluster named parse) v (message_of u ∷ [])
    → Brings layout cluster (place_in WalPrepares u.header.slot) u bytes → IsNextSector layout cluster (Log.now log) u.header sector headers
    → AppendLeadsOnDisk (format_of layout cluster) (shape_of layout cluster named parse) log (adds (append_events layout u.header.slot bytes sector headers) log) v (appended v (message_of u ∷ []))
