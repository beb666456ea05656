-- A filled room has room for its body, and for the sectors of a unit with it.
use Rattle.std.proofs.{Common.{◌≡◌, ◌≢◌, ◌≤◌, ◌+◌, ℕ, List, length, take, drop, length-drop, arith}, lemmas.List.{length-take-le}}
use Rattle.df_layout.specs.{declared.layout.Layout.{Layout}, declared.places.Zone.{Zone}, declared.places.Zone.TheVariants.{WalHeaders}}
use Rattle.{df_format.specs.Message.{sectors_end}, df_buffers.{specs.Fillings.{IsFilled}, proofs.Making.{made_fits}}}

pub record HasBody (count : ℕ) (bytes : List ℕ) : Type 0 where
  pub sectors : sectors_end (256 + count) ≤ length bytes
  pub size : length (take count (drop 256 bytes)) ≡ count

pub filled_has : (zone : Zone) (layout : Layout) (count : ℕ) (sum bytes : List ℕ)
    → zone ≢ WalHeaders → IsFilled zone layout count sum bytes → HasBody count bytes
filled_has zone layout count sum bytes other is = let fits = made_fits zone layout (256 + count) other is.fits in
    record { sectors = omega (arith, fits.1, is.fills); size = length-take-le count (drop 256 bytes) (omega (arith, fits.1, is.fills, length-drop 256 bytes)) }
