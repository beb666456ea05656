-- The sectors of a place are sectors of the disk, and what is read of them is what the place shows.
use Rattle.std.{proofs.Common.{◌≡◌, ◌≢◌, ℕ, ◌/◌, ◌%◌, ◌<◌, ◌≤◌, List, length, Option, Some, None, refl, sym, ◌∙◌, ap, arith}, specs.Prelude.{Result}}
use Rattle.{df_base.specs.Image.{Image, bytes_at}, df_disk.specs.Told.{AreSectors, Shows, Told}, df_buffers.specs.Rooms.{room_size}}
use Rattle.df_layout.{specs.{declared.damage.Class.{Class}, declared.layout.Layout.{Layout}, declared.places.Place.{Place}, declared.places.Zone.{Zone}, declared.places.Zone.TheVariants.{Superblock, WalHeaders, WalPrepares, ClientReplies, Grid}, Spans.{HasPlace, span_of}}, proofs.Laws.{lies_inside, zones_follow}}
use Rattle.df_format.specs.{declared.header.Header.{Header}, Shown.{bytes_of, part_in, class_at, class_of, header_or_class, unit_at, unit_in}}
use Rattle.df_places.specs.Units.{IsSeen, header_at}

-- a front of a place's sectors, one at least, is one of the disk's
pub are_sectors : (layout : Layout) (place : Place) (zone : Zone) (first n : ℕ) → HasPlace layout place
    → place.zone ≡ zone → first ≡ (span_of layout place).first → 0 < n → n % 4096 ≡ 0 → n ≤ room_size layout zone → AreSectors first n
unfolding span_of
are_sectors layout place zone first n has in_zone is some whole fits = let inside = lies_inside layout place has in
    let room : n ≤ room_size layout place.zone = rw (sym in_zone) at fits in
    record { some = some; whole = whole; last = omega (arith, is, room, inside.in_file, (zones_follow layout).bound) }

pub room_sectors : (layout : Layout) (place : Place) (zone : Zone) (first n : ℕ)
    → HasPlace layout place → place.zone ≡ zone → first ≡ (span_of layout place).first → n ≡ room_size layout zone → AreSectors first n
unfolding span_of
room_sectors layout place zone first n has in_zone is size = let inside = lies_inside layout place has in
    let room : n ≡ room_size layout place.zone = rw (sym in_zone) at size in
    are_sectors layout place zone first n has in_zone is (omega (arith, room, inside.some)) (omega (arith, size)) (omega (arith, size))

sectors_read : (layout : Layout) (place : Place) (zone : Zone) (n : ℕ)
    → place.zone ≡ zone → n ≡ room_size layout zone → n / 4096 ≡ (span_of layout place).count
unfolding span_of
sectors_read layout place zone n in_zone is = let room : n ≡ room_size layout place.zone = rw (sym in_zone) at is in omega (arith, room)

-- the bytes that were read are those of the place
pub read_part : (layout : Layout) (image : Image) (place : Place) (zone : Zone) (bytes : List ℕ)
    → zone ≢ WalHeaders → place.zone ≡ zone → length bytes ≡ room_size layout zone
    → bytes ≡ bytes_at image (span_of layout place).first (length bytes / 4096)
    → bytes ≡ bytes_at image (span_of layout place).first (span_of layout place).count
read_part layout image place zone bytes alone in_zone size is =
    is ∙ ap (λ (n : ℕ). bytes_at image (span_of layout place).first n) (sectors_read layout place zone (length bytes) in_zone size)

-- all bytes of a place that is no header slot are its own
pub all_own : (zone : Zone) (index : ℕ) (bytes : List ℕ) → zone ≢ WalHeaders → bytes ≡ part_in zone index bytes
all_own WalHeaders index bytes alone = absurd (alone refl)
all_own Superblock index bytes alone = refl
all_own WalPrepares index bytes alone = refl
all_own ClientReplies index bytes alone = refl
all_own Grid index bytes alone = refl

pub place_part : (layout : Layout) (image : Image) (place : Place)
    → place.zone ≢ WalHeaders → bytes_at image (span_of layout place).first (span_of layout place).count ≡ bytes_of layout image place
unfolding bytes_of
place_part layout image place alone =
    all_own place.zone place.index (bytes_at image (span_of layout place).first (span_of layout place).count) alone

shown_part : (layout : Layout) (cluster : ℕ) (image : Image) (place : Place) (bytes : List ℕ) → bytes ≡ bytes_of layout image place
    → header_or_class (unit_in layout cluster place bytes) (class_of layout cluster place bytes) ≡ header_at layout cluster image place
unfolding unit_at class_at
shown_part layout cluster image place bytes is =
    ap (λ (b : List ℕ). header_or_class (unit_in layout cluster place b) (class_of layout cluster place b)) is

-- so what they show is what the disk shows
pub read_seen : (layout : Layout) (cluster : ℕ) (place : Place) (zone : Zone) (told : Option Told)
    (bytes : List ℕ) (seen : Result Header Class) → zone ≢ WalHeaders → place.zone ≡ zone → length bytes ≡ room_size layout zone
    → Shows told (span_of layout place).first bytes → seen
    ≡ header_or_class (unit_in layout cluster place bytes) (class_of layout cluster place bytes) → IsSeen layout cluster told place seen
read_seen layout cluster place zone None bytes seen alone in_zone size shows is = tt
read_seen layout cluster place zone (Some t) bytes seen alone in_zone size shows is =
    let part = read_part layout t.shown place zone bytes alone in_zone size shows in
    is ∙ shown_part layout cluster t.shown place bytes (part ∙ place_part layout t.shown place (rw (sym in_zone) at alone))
