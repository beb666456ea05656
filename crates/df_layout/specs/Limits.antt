-- The limits of the five numbers of a layout.
use Rattle.std.specs.Prelude.{◌≡◌, ℕ, ◌≤◌, ◌%◌}
use Rattle.df_layout.specs.{declared.layout.TheConstants.{SECTOR}, declared.fields.Field.{Field}, declared.fields.Field.TheVariants.{Slots, MessageSize, Clients, BlockSize, Blocks}}

-- slots of each ring, in whole sectors of sixteen headers
abbrev pub AreSlots : ℕ → Type 0
AreSlots n = (16 ≤ n) × (n ≤ 1024) × (n % 16 ≡ 0)

-- bytes of a prepare or a reply, in whole sectors
abbrev pub IsMessageSize : ℕ → Type 0
IsMessageSize n = (SECTOR ≤ n) × (n ≤ 1048576) × (n % SECTOR ≡ 0)

-- sessions
abbrev pub AreClients : ℕ → Type 0
AreClients n = (1 ≤ n) × (n ≤ 64)

-- bytes of a block, in whole sectors
abbrev pub IsBlockSize : ℕ → Type 0
IsBlockSize n = (SECTOR ≤ n) × (n ≤ 524288) × (n % SECTOR ≡ 0)

-- blocks of the grid
abbrev pub AreBlocks : ℕ → Type 0
AreBlocks n = (8 ≤ n) × (n ≤ 16384)

-- the five numbers are within their limits
pub record AreWithinLimits (slots message_size clients block_size blocks : ℕ) : Type 0 where
  pub slots_within : AreSlots slots
  pub message_size_within : IsMessageSize message_size
  pub clients_within : AreClients clients
  pub block_size_within : IsBlockSize block_size
  pub blocks_within : AreBlocks blocks

-- the field breaks its limit, and those before it don't
abbrev pub FirstOutside : (slots message_size clients block_size blocks : ℕ) → Field → Type 0
FirstOutside slots message_size clients block_size blocks Slots = ¬ AreSlots slots
FirstOutside slots message_size clients block_size blocks MessageSize = AreSlots slots × ¬ IsMessageSize message_size
FirstOutside slots message_size clients block_size blocks Clients = AreSlots slots × IsMessageSize message_size × ¬ AreClients clients
FirstOutside slots message_size clients block_size blocks BlockSize =
    AreSlots slots × IsMessageSize message_size × AreClients clients × ¬ IsBlockSize block_size
FirstOutside slots message_size clients block_size blocks Blocks =
    AreSlots slots × IsMessageSize message_size × AreClients clients × IsBlockSize block_size × ¬ AreBlocks blocks
FirstOutside slots message_size clients block_size blocks _ = ⊥
