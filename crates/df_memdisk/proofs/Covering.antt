-- Which sectors a write of whole sectors has bytes for.
use Rattle.std.proofs.{Common.{◌≡◌, ℕ, ◌-◌, ◌/◌, ◌%◌, ◌<◌, ◌≤◌, nat_le, nat_lt, List, length, arith}, lemmas.Bool.Decides.{nat_tests}}
use Rattle.df_base.specs.Image.{covers}

pub covers_behind : (at sector : ℕ) (bytes : List ℕ)
    → length bytes % 4096 ≡ 0 → at ≤ sector → nat_lt (sector - at) (length bytes / 4096) ≡ covers at bytes sector
unfolding covers
covers_behind at sector bytes whole behind = grind (arith, nat_tests)

pub covers_before : (at sector : ℕ) (bytes : List ℕ) → sector < at → nat_le at sector ≡ covers at bytes sector
unfolding covers
covers_before at sector bytes before = grind (arith, nat_tests)
