-- The room of a header sector has 4096 bytes, and keeps them.
use Rattle.std.proofs.{Common.{◌≡◌, ◌∙◌, ℕ, List, ◌++◌, length, length-append, take, drop, arith}, lemmas.List.{length-take-le}}
use Rattle.df_layout.specs.{declared.layout.Layout.{Layout}, declared.places.Zone.TheVariants.{WalHeaders}, Spans.{place_sectors}}
use Rattle.df_buffers.specs.Rooms.{room_size}

pub one_sector : (layout : Layout) (n : ℕ) → n ≡ room_size layout WalHeaders → n ≡ 4096
unfolding place_sectors
one_sector layout n is = omega (arith, is)

pub kept : (b w : List ℕ) → length w ≡ length b → length b ≡ 4096 → length (take (length b) (w ++ drop (length w) b)) ≡ 4096
kept b w same size = length-take-le (length b) (w ++ drop (length w) b) (omega (arith, same, length-append w (drop (length w) b))) ∙ size
