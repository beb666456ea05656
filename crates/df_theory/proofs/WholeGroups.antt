-- Whole groups are found.
use Rattle.std.proofs.{Common.{◌≡◌, inl, inr, ◌+◌, ◌<◌, ◌≤◌, ◌%◌, List, Some, sym, ◌∙◌, arith}, lemmas.Bool.{cases_lt}}
use Rattle.df_theory.{specs.{Units.{AnyUnit, Message, Place, PreparePlace, PrepareUnit, Units}, Tails.{In}, Shape.{Shape}, View.{View}, Chance.{InImages}, Found.{IsFound}}, proofs.{Past.{HasGap}, Grouped.{group_from, same_group}, Founds.{chain_at}, Agreeing.{take_boot}, Tails.{chain_last, chain_ops}}}

module _ (sh : Shape) (images : List Units) (shown : Units)
    (of : (place : Place) (x : AnyUnit) → shown place ≡ Some x → InImages images place x) (w : View) (f : IsFound sh shown w) where
  settled_at : (p : Message) → In p w.tail → InImages images (PreparePlace (p.header.op % sh.layout.slots)) (PrepareUnit p)
  settled_at p at = of (PreparePlace (p.header.op % sh.layout.slots)) (PrepareUnit p) (f.tail.takes p at).shown

  -- of the group of a prepare above the pin none lacks
  pub no_gap : (p : Message) → In p w.tail → p.header.group ≤ p.header.op → w.checkpoint.content.pin < p.header.op → HasGap images p → ⊥
  no_gap p at holds_op above gap = let ops = chain_ops sh.layout.clients
      (w.checkpoint.content.op + 1) w.checkpoint.content.op_checksum 0 w.checkpoint.parts.sessions w.tail p f.tail.chain at in
      let last = f.tail.groups p at in
      let begins : w.checkpoint.content.op < p.header.group = elim (cases_lt w.checkpoint.content.op p.header.group) [
        | inl yes_above ↦ yes_above
        | inr not ↦ absurd (omega (arith, ops.0, (group_from sh.layout.clients 0 w.checkpoint.content.op (w.checkpoint.content.op + 1) w.checkpoint.content.op_checksum 0 w.checkpoint.parts.sessions w.tail p f.tail.chain f.tail.grouped at (omega arith)).2))
      ] in let q = chain_at sh.layout.clients (w.checkpoint.content.op + 1) w.checkpoint.content.op_checksum
      0 w.checkpoint.parts.sessions w.tail gap.missing f.tail.chain (omega (arith, gap.from)) (omega (arith, gap.to)) in
      let group = same_group sh.layout.clients 0 w.checkpoint.content.op (w.checkpoint.content.op + 1) w.checkpoint.content.op_checksum 0 w.checkpoint.parts.sessions w.tail p q.0 f.tail.chain f.tail.grouped at q.1 (omega (arith, q.2, gap.from)) (omega (arith, q.2, gap.to)) in
      let q_above : w.checkpoint.content.pin < q.0.header.op = elim (cases_lt w.checkpoint.content.pin q.0.header.op) [
        | inl yes_above ↦ yes_above
        | inr not ↦ absurd (let q_last = f.tail.pin_ends q.0 q.1 (omega arith) in
            let p_last = last_op p at in omega (arith, q_last, group.1, p_last, above))
      ] in let own_p = take_boot sh.layout.slots shown w.checkpoint.content p (f.tail.takes p at) above in
      let own_q = take_boot sh.layout.slots shown w.checkpoint.content q.0 (f.tail.takes q.0 q.1) q_above in
      gap.lacks (q.0.header.op % sh.layout.slots) q.0 (settled_at q.0 q.1) q.2 (own_q ∙ sym own_p) group.0
    where
      last_op : (p : Message) → In p w.tail → p.header.op ≤ p.header.group_last
      last_op p at = chain_last sh.layout.clients
          (w.checkpoint.content.op + 1) w.checkpoint.content.op_checksum 0 w.checkpoint.parts.sessions w.tail p f.tail.chain at
