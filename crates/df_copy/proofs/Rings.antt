-- The header ring of a copy: a reserved header in each slot, as in a new file.
use Rattle.{std.proofs.Common.{ℕ, ◌/◌, ◌^◌, ◌<◌, arith}, df_layout.specs.declared.layout.Layout.{Layout}}
use Rattle.df_theory.specs.{Units.{HeaderPlace}, MakingLaws.{AllReserved, all_puts}, MendLaws.{Reaches}, Device.{AreSteps}}
use Rattle.df_units.{specs.{Format.{format_of}, Making.{header_puts, header_writes}}, proofs.Laws.{headers_are_steps, all_reserved, reached}}
use Rattle.df_opening.{specs.Making.{reserved_table, sectors_in}, proofs.Laws.{how_many, ring_reserved}}

-- ---- what its writes put

pub ring_steps : (layout : Layout) (cluster : ℕ) → 0 < cluster → cluster < 2 ^ 128
    → AreSteps (format_of layout cluster) (header_writes layout 0 (sectors_in layout (reserved_table layout cluster)))
    (all_puts (header_puts 0 (sectors_in layout (reserved_table layout cluster))))
ring_steps layout cluster named small =
    headers_are_steps layout cluster 0 (sectors_in layout (reserved_table layout cluster)) (ring_reserved layout cluster named small)

pub ring_all_reserved : (layout : Layout) (cluster : ℕ)
    → 0 < cluster → cluster < 2 ^ 128 → AllReserved (header_puts 0 (sectors_in layout (reserved_table layout cluster)))
ring_all_reserved layout cluster named small =
    all_reserved layout cluster 0 (sectors_in layout (reserved_table layout cluster)) (ring_reserved layout cluster named small)

-- each slot of the ring is reached
pub ring_reaches : (layout : Layout) (cluster : ℕ) → 0 < cluster → cluster < 2 ^ 128
    → (s : ℕ) → s < layout.slots → Reaches (header_puts 0 (sectors_in layout (reserved_table layout cluster))) (HeaderPlace s)
ring_reaches layout cluster named small s inside =
    reached layout cluster 0 (sectors_in layout (reserved_table layout cluster)) (ring_reserved layout cluster named small) s (omega arith)
    (omega (arith, inside, how_many 0 (layout.slots / 16) (reserved_table layout cluster), layout.slots_within.2))
