-- How zones and spans lie in the file.
use Rattle.std.specs.Prelude.{◌≡◌, ℕ, ◌+◌, ◌/◌, ◌%◌, ◌^◌, ◌≤◌, ◌<◌, ◌⊎◌}
use Rattle.df_layout.specs.{declared.layout.Layout.{Layout}, declared.places.Place.{Place}, declared.places.Span.{Span}}
use Rattle.df_layout.specs.{declared.places.Zone.TheVariants.{Superblock, WalHeaders, WalPrepares, ClientReplies, Grid}, Zones.{block_sectors, first_sector, end_sector, file_sectors}, Spans.{span_of}}

-- Each zone begins where the one before ends; the grid begins at the next whole number of blocks.
pub record ZonesFollow (layout : Layout) : Type 0 where
  pub superblock : first_sector layout Superblock ≡ 0
  pub headers : first_sector layout WalHeaders ≡ end_sector layout Superblock
  pub prepares : first_sector layout WalPrepares ≡ end_sector layout WalHeaders
  pub replies : first_sector layout ClientReplies ≡ end_sector layout WalPrepares
  pub grid : end_sector layout ClientReplies ≤ first_sector layout Grid
  pub padding : first_sector layout Grid < end_sector layout ClientReplies + block_sectors layout
  pub whole_blocks : first_sector layout Grid % block_sectors layout ≡ 0
  pub bound : file_sectors layout < 2 ^ 22

-- the sector after the last one of a span
abbrev pub span_end : Span → ℕ
span_end span = span.first + span.count

-- the span of a place has sectors, and they lie in its zone and in the file
pub record IsInside (layout : Layout) (place : Place) : Type 0 where
  pub some : 0 < (span_of layout place).count
  pub begins : first_sector layout place.zone ≤ (span_of layout place).first
  pub ends : span_end (span_of layout place) ≤ end_sector layout place.zone
  pub in_file : span_end (span_of layout place) ≤ file_sectors layout

-- two spans share no sector
abbrev pub AreApart : Span → Span → Type 0
AreApart a b = (span_end a ≤ b.first) ⊎ (span_end b ≤ a.first)

-- two header slots of one sector
abbrev pub ShareHeaderSector : Place → Place → Type 0
ShareHeaderSector a b = (a.zone ≡ WalHeaders) × (b.zone ≡ WalHeaders) × (a.index / 16 ≡ b.index / 16)
