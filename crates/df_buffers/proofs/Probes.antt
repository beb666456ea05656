-- The rooms of the superblock's copies.
use Rattle.std.{proofs.{Common.{◌≡◌, ◌<◌, ℕ, List, length, Some, refl, sym, ◌∙◌, ap, arith}, lemmas.Option.{slice_get-get_or}}, specs.Prelude.{slice_get, slice_index_or}}
use Rattle.df_layout.specs.{declared.layout.Layout.{Layout}, declared.places.Zone.TheVariants.{Superblock}, Spans.{place_sectors}}
use Rattle.df_buffers.specs.Rooms.{Room, FillsRoom, room_size}

-- a copy has one sector in every layout
pub copy_size : (layout : Layout) → room_size layout Superblock ≡ 4096
unfolding place_sectors
copy_size layout = refl

-- the length of a room that was opened
pub opened_size : (layout : Layout) (bytes : List ℕ) (room : Room)
    → record { layout = layout; bytes = bytes } ≡ room → FillsRoom layout Superblock bytes → length room.bytes ≡ 4096
opened_size layout bytes room is fills = ap (λ (r : Room). length r.bytes) (sym is) ∙ fills ∙ copy_size layout

-- the room that an index lends is the one with this number
pub lent : (rooms items : List Room) (number index : ℕ) (room d : Room) → items ≡ rooms
    → length items ≡ 4 → index ≡ number → number < 4 → room ≡ slice_index_or items index d → slice_get rooms number ≡ Some room
lent rooms items number index room d same size here inside is = (λ k. slice_get (sym same k) (sym here k))
    ∙ slice_get-get_or items index d (omega (arith, size, here, inside)) ∙ ap (λ (r : Room). Some r) (sym is)
