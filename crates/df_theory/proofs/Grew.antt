-- What agrees with a view agrees with each later one.
use Rattle.std.proofs.Common.{◌≡◌, ◌⊎◌, inl, inr, ℕ, ◌+◌, ◌-◌, ◌<◌, ◌≤◌, refl, sym, ap, subst, arith, length-append, length-drop}
use Rattle.df_theory.{specs.{Units.{AnyUnit, BlockPlace, Content, CopyPlace, Header, HeaderPlace, Message, Place, PreparePlace, PrepareUnit, ReplyPlace}, Tails.{BindsHead, In}, Shape.{Shape}, Copies.{rank_of}, View.{Checkpoint, View, boot_of, head, sequence}, Shows.{Agrees, AgreesCopy}, Holds.{Sound}, Next.{Append, Boot, Finish, Next, Reply, Same}}, proofs.{Choices.{boot_higher, finish_higher}, Tails.{in_front, in_drop}}}

-- what later views keep of an earlier one
pub record Grew (v u : View) : Type 0 where
  pub head : head v ≤ head u
  pub checkpoint : (v.checkpoint ≡ u.checkpoint) ⊎ (rank_of v.checkpoint.content < rank_of u.checkpoint.content)
  pub sequence : sequence v ≤ sequence u
  pub boot : boot_of v ≤ boot_of u
  pub pin : (v.checkpoint.content.pin ≤ u.checkpoint.content.pin) × (u.checkpoint.content.op ≤ u.checkpoint.content.pin)
  pub op : v.checkpoint.content.op ≤ u.checkpoint.content.op
  pub replies : v.replies ≤ u.replies
  pub tail : (p : Message) → In p v.tail → u.checkpoint.content.op < p.header.op → In p u.tail

copy_grew : (v u : View) (n : ℕ) (c : Content)
    → (v.checkpoint ≡ u.checkpoint) ⊎ (rank_of v.checkpoint.content < rank_of u.checkpoint.content) → AgreesCopy v n c → AgreesCopy u n c
copy_grew v u n c (inl same) a = subst (λ (b : Checkpoint). (n ≡ 0 → ⊥) → (c ≡ b.content) ⊎ (rank_of c < rank_of b.content)) same a
copy_grew v u n c (inr more) a = λ differs. elim (a differs) [
  | inl is ↦ inr (omega (arith, ap rank_of is))
  | inr less ↦ inr (omega arith)
]

-- the head stays, or the boot is raised, or a prepare of this boot that is shown isn't above it: nothing survived there
abbrev pub Stays : View → View → Place → AnyUnit → Type 0
Stays v u place x = (head u ≡ head v) ⊎ (boot_of v < boot_of u)
    ⊎ ((s : ℕ) (p : Message) → place ≡ PreparePlace s → x ≡ PrepareUnit p → p.header.boot ≡ boot_of v → p.header.op ≤ head v)

binds_on : (top more : ℕ) (h : Header) → BindsHead top h → (more ≡ top) ⊎ (h.op ≤ top) → top ≤ more → BindsHead more h
binds_on top more h binds (inl same) up = subst (λ (n : ℕ). BindsHead n h) (sym same) binds
binds_on top more h binds (inr low) up = inl (omega arith)

pub agrees_grew : (sh : Shape) (v u : View)
    → Grew v u → (place : Place) (x : AnyUnit) → Stays v u place x → Agrees sh v place x → Agrees sh u place x
agrees_grew sh v u g (CopyPlace n) x stays a = (a.0, a.1, copy_grew v u n a.0 g.checkpoint a.2)
agrees_grew sh v u g (HeaderPlace s) x stays a = (
  a.0,
  a.1,
  record {
    op = λ same. omega (arith, a.2.op (omega (arith, a.2.boot, g.boot)), g.head);
    ring = omega (arith, a.2.ring, g.op);
    checkpoint = omega (arith, a.2.checkpoint, g.sequence);
    boot = omega (arith, a.2.boot, g.boot);
    slot = a.2.slot;
    in_tail = λ same above. let old = a.2.in_tail (omega (arith, a.2.boot, g.boot)) (omega (arith, g.pin.0)) in
        (old.0, g.tail old.0 old.1 (omega (arith, old.2, g.pin.1)), old.2, old.3);
  },
)
agrees_grew sh v u g (PreparePlace s) x stays a = (
  a.0,
  a.1,
  record {
    some = a.2.some;
    op = λ same. binds_on (head v) (head u) a.0.header (a.2.op (omega (arith, a.2.boot, g.boot))) (low same) g.head;
    ring = omega (arith, a.2.ring, g.op);
    checkpoint = omega (arith, a.2.checkpoint, g.sequence);
    boot = omega (arith, a.2.boot, g.boot);
    slot = a.2.slot;
    in_tail = λ same above to. g.tail a.0 (a.2.in_tail (omega (arith, a.2.boot, g.boot))
        (omega (arith, g.pin.0)) (elim (low same) [ inl head_is ↦ omega arith | inr is ↦ is ])) (omega (arith, g.pin.1));
  },
)
  where
    low : a.0.header.boot ≡ boot_of u → (head u ≡ head v) ⊎ (a.0.header.op ≤ head v)
    low same = elim stays [ inl is ↦ inl is | inr (inl more) ↦ absurd (omega (arith, a.2.boot, same, more)) | inr (inr each) ↦ inr (each s a.0 refl a.1 (omega (arith, a.2.boot, g.boot))) ]
agrees_grew sh v u g (ReplyPlace k) x stays a = (
  a.0,
  a.1,
  record {
    op = λ same. omega (arith, a.2.op (omega (arith, a.2.boot, g.boot)), g.replies);
    mark = λ same. omega (arith, a.2.mark (omega (arith, a.2.boot, g.boot)), g.head);
    checkpoint = omega (arith, a.2.checkpoint, g.sequence);
    boot = omega (arith, a.2.boot, g.boot);
    alone = a.2.alone;
  },
)
agrees_grew sh v u g (BlockPlace a) x stays b = b

pub next_grew : (sh : Shape) (v u : View) → Sound sh v → Next v u → Grew v u
next_grew sh v _ sound Same = record { head = omega arith; checkpoint = inl refl; sequence = omega arith; boot = omega arith; pin = (omega arith, sound.checkpoint.tests.pin.0); op = omega arith; replies = omega arith; tail = λ p at above. at }
next_grew sh v _ sound (Append ps is) = record {
  head = omega (arith, length-append v.tail ps);
  checkpoint = inl refl;
  sequence = omega arith;
  boot = omega arith;
  pin = (omega arith, sound.checkpoint.tests.pin.0);
  op = omega arith;
  replies = omega arith;
  tail = λ q at above. in_front q v.tail ps at;
}
next_grew sh v _ sound (Reply place r is) = record { head = omega arith; checkpoint = inl refl; sequence = omega arith; boot = omega arith; pin = (omega arith, sound.checkpoint.tests.pin.0); op = omega arith; replies = omega arith; tail = λ p at above. at }
next_grew sh v _ sound (Finish c is) = record {
  head = omega (arith, length-drop (c.content.op - v.checkpoint.content.op) v.tail, is.op_from, is.op_to);
  checkpoint = inr (finish_higher v c is);
  sequence = omega (arith, is.sequence);
  boot = omega (arith, is.boot);
  pin = is.records.pin_from;
  op = is.op_from;
  replies = omega arith;
  tail = λ p at above. in_drop (c.content.op - v.checkpoint.content.op) sh.layout.clients (v.checkpoint.content.op
      + 1) v.checkpoint.content.op_checksum 0 v.checkpoint.parts.sessions v.tail p sound.chain at (omega (arith, is.op_from));
}
next_grew sh v _ sound (Boot d is) = record {
  head = omega (arith, is.same.op.0);
  checkpoint = inr (boot_higher v d is);
  sequence = omega (arith, is.same.sequence);
  boot = omega (arith, is.boot);
  pin = is.records.pin_from;
  op = omega (arith, is.same.op.0);
  replies = omega arith;
  tail = λ p at above. at;
}
