-- A block has room for 3,840 bytes at least, and no trailer is longer than 267,272 bytes.
use Rattle.std.proofs.{Common.{◌≡◌, ℕ, ◌-◌, ◌*◌, ◌<◌, ◌≤◌, inl, inr, arith}, lemmas.Bool.{cases_lt}, Math.Nat.{mul-le-mul_left, mul_comm}}
use Rattle.{df_layout.specs.declared.layout.Layout.{Layout}, df_theory.specs.Trailer.{IsCount, greatest_trailer}}
use Rattle.df_units.specs.Meaning.{layout_of}
use Rattle.df_grid.proofs.grid.chains_have_room.Goals as goal

few : (layout : Layout) (size blocks : ℕ)
    → size ≤ greatest_trailer (layout_of layout) → IsCount (layout.block_size - 256) size blocks → blocks ≤ 70
few layout size blocks longest count = elim (cases_lt 70 blocks) [
  | inl many ↦ let room : ℕ = layout.block_size - 256 in let wide : 3840 ≤ room = omega (arith, layout.block_size_within.0) in
      let needed : room * (blocks - 1) < size = count.needed (omega arith) in
      let one : room * 70 ≤ room * (blocks - 1) = mul-le-mul_left room (omega arith) in
      let two : 70 * 3840 ≤ 70 * room = mul-le-mul_left 70 wide in let same : room * 70 ≡ 70 * room = mul_comm room 70 in
      absurd (omega (arith, one, two, same, needed, longest, layout.clients_within.1, layout.blocks_within.1))
  | inr least ↦ least
]

pub returns : goal.returns
returns c = few
