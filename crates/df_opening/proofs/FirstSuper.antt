-- The superblock of a new file can be used.
use Rattle.std.proofs.{Common.{inr, ◌≡◌, ℕ, ◌<◌, ◌+◌, drop, length-drop, None, refl, ◌∙◌, arith}, lemmas.List.{get_or-drop}}
use Rattle.df_format.{specs.{Super.{AreNone, no_checksums}, SuperRules.{IsSuper, fault_of}, First.{first_super}}, proofs.Laws.{faults, no_names}}
use Rattle.df_layout.specs.declared.layout.Layout.{Layout}

-- no place is named, from any one on
none_from : (n : ℕ) → AreNone (drop n no_checksums)
none_from n k past inside = get_or-drop n no_checksums k past ∙ no_names (n + k) past (omega (arith, inside, length-drop n no_checksums))

pub first_is_super : (layout : Layout) (cluster : ℕ) → 0 < cluster → IsSuper (first_super layout cluster)
unfolding first_super
first_is_super layout cluster some = record {
  version = inr
      (record { version = refl; boot = omega arith; no_head = λ none. refl; head_is_op = λ same. refl; spare = none_from layout.clients });
  layout = record { slots_within = layout.slots_within; message_size_within = layout.message_size_within; clients_within = layout.clients_within; block_size_within = layout.block_size_within; blocks_within = layout.blocks_within };
  cluster = some;
  sequence = (omega arith, omega arith);
  op = omega arith;
  op_checksum = λ _. refl;
  head = (omega arith, omega arith, omega arith);
  replies = (omega arith, omega arith);
  trailer = (omega arith, λ other. absurd (other refl));
  trailer_checksum = λ _. refl;
  no_trailer = λ _. refl;
  trailer_size = λ other. absurd (other refl);
  zero = refl;
}

pub no_fault : (layout : Layout) (cluster : ℕ) → 0 < cluster → fault_of (first_super layout cluster) ≡ None
no_fault layout cluster some = (faults (first_super layout cluster)).1 (first_is_super layout cluster some)
