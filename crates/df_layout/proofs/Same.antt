-- A layout is its five numbers.
use Rattle.std.proofs.{Common.{◌≡◌, ℕ, ap, subst}, Math.Bridge.{le_prop}, Math.Nat.{ℕ_set}}
use Rattle.df_layout.specs.{declared.layout.Layout.{Layout}, Limits.{AreSlots, IsMessageSize, AreClients, IsBlockSize, AreBlocks}}

-- the five numbers, and that they are within their limits
abbrev Five : Type 0
Five = ℕ × ℕ × ℕ × ℕ × ℕ

abbrev Within : Five → Type 0
Within n = AreSlots n.0 × IsMessageSize n.1 × AreClients n.2 × IsBlockSize n.3 × AreBlocks n.4

of_five : (n : Five) → Within n → Layout
of_five n w = record {
  slots = n.0;
  message_size = n.1;
  clients = n.2;
  block_size = n.3;
  blocks = n.4;
  slots_within = w.0;
  message_size_within = w.1;
  clients_within = w.2;
  block_size_within = w.3;
  blocks_within = w.4;
}

-- there is one proof of that at most
within_prop : (n : Five) → IsProp (Within n)
within_prop n = hlevel (le_prop, ℕ_set)

same_five : (a b c d e p q r s t : ℕ) → a ≡ p → b ≡ q → c ≡ r → d ≡ s → e ≡ t → let x : Five = (a, b, c, d, e) in x ≡ (p, q, r, s, t)
same_five a b c d e p q r s t ap bq cr ds et = cc

same_of_five : (n m : Five) → n ≡ m → (x : Within n) (y : Within m) → of_five n x ≡ of_five m y
same_of_five n m e x = subst (λ (k : Five). (y : Within k) → of_five n x ≡ of_five k y) e (λ y. ap (of_five n) (within_prop n x y))

pub same_layout : (a b : Layout) → a.slots ≡ b.slots
    → a.message_size ≡ b.message_size → a.clients ≡ b.clients → a.block_size ≡ b.block_size → a.blocks ≡ b.blocks → a ≡ b
unfolding of_five
same_layout a b slots message_size clients block_size blocks =
    same_of_five (a.slots, a.message_size, a.clients, a.block_size, a.blocks) (b.slots, b.message_size, b.clients, b.block_size, b.blocks)
    (same_five a.slots a.message_size
    a.clients a.block_size a.blocks b.slots b.message_size b.clients b.block_size b.blocks slots message_size clients block_size blocks)
    (a.slots_within, a.message_size_within, a.clients_within, a.block_size_within, a.blocks_within)
    (b.slots_within, b.message_size_within, b.clients_within, b.block_size_within, b.blocks_within)
