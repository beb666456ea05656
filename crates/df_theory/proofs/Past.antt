-- What holds of all settled images of a log.
use Rattle.std.proofs.Common.{◌≡◌, ◌⊎◌, inl, inr, ℕ, ◌+◌, ◌-◌, ◌%◌, ◌<◌, ◌≤◌, List, [], ◌∷◌, length, Some, None, refl, sym, ◌∙◌, ap, arith, length-append}
use Rattle.df_theory.{specs.{Units.{AnyUnit, Content, Message, PreparePlace, PrepareUnit, Units}, Tails.{In, last_checksum}, Shape.{Shape}, Copies.{rank_of}, View.{Checkpoint, View, boot_of, head}, Holds.{Holds}, Next.{Append, Boot, Finish, Next, Reply, Same}, Chance.{InImages}, First.{AreMade}, Grown.{AllInHistory, GoesOn, Grows, IsClear, IsLeftGroup}, Past.{FromEmpty, Was}, HistoryLaws.{OnePrepareLaw, StampLaw}}, proofs.{Grew.{Grew, next_grew}, Tails.{in_either, in_dropped, turn_ops}, Agreeing.{prepare_agrees}, Steps.{grows_sound}}}

-- later views have counted as far
pub was_low : (sh : Shape) (images : List Units) (v : View) (grows : Grows sh images v) (w : View) → Was sh images v grows w → (w.checkpoint.content.sequence ≤ v.checkpoint.content.sequence) × (head w ≤ head v) × (w.replies ≤ v.replies) × (rank_of w.checkpoint.content ≤ rank_of v.checkpoint.content)
was_low sh [] v grows w was = absurd was
was_low sh (image ∷ images) v (holds, inl begins) w is = (omega (arith, ap (λ (x : View). x.checkpoint.content.sequence) is), omega (arith, ap head is), omega (arith, ap (λ (x : View). x.replies) is), omega (arith, ap (λ (x : View). rank_of x.checkpoint.content) is))
was_low sh (image ∷ images) v (holds, inr (history, (u, next, grows))) w (inl is) = (omega (arith, ap (λ (x : View). x.checkpoint.content.sequence) is), omega (arith, ap head is), omega (arith, ap (λ (x : View). x.replies) is), omega (arith, ap (λ (x : View). rank_of x.checkpoint.content) is))
was_low sh (image ∷ images) v (holds, inr (history, (u, next, grows))) w (inr was) = let low = was_low sh images u grows w was in
    let grew = next_grew sh u v (grows_sound sh images u grows) next.next in
    let rank : rank_of u.checkpoint.content ≤ rank_of v.checkpoint.content =
    elim grew.checkpoint [ inl same ↦ omega (arith, ap (λ (c : Checkpoint). rank_of c.content) same) | inr less ↦ omega arith ] in
    (omega (arith, low.0, grew.sequence), omega (arith, low.1, grew.head), omega (arith, low.2, grew.replies), omega (arith, low.3))

grew_rank : (u v : View) → Grew u v → rank_of u.checkpoint.content ≤ rank_of v.checkpoint.content
grew_rank u v grew = elim grew.checkpoint [ inl same ↦ omega (arith, ap (λ (c : Checkpoint). rank_of c.content) same) | inr less ↦ omega arith ]

pub stamp_law : StampLaw
stamp_law sh [] v grows s t r a b c was_a at_a was_b at_b was_c at_c = absurd was_a
stamp_law sh (image ∷ images) v (holds, inl begins) s t r a b c was_a at_a was_b at_b was_c at_c =
    (v, refl, omega (arith, at_a, ap (λ (x : View). rank_of x.checkpoint.content) was_a), omega (arith, at_b, ap head was_b), omega (arith, at_c, ap (λ (x : View). x.replies) was_c))
stamp_law sh (image ∷ images) v (holds, inr (history, (u, next, grows))) s t r a b c (inr was_a) at_a (inr was_b) at_b (inr was_c) at_c =
    let found = stamp_law sh images u grows s t r a b c was_a at_a was_b at_b was_c at_c in
    (found.0, inr found.1, found.2, found.3, found.4)
stamp_law sh (image ∷ images) v (holds, inr (history, (u, next, grows))) s t r a b c (inl is) at_a was_b at_b was_c at_c =
    let low_b = was_low sh (image ∷ images) v (holds, inr (history, (u, next, grows))) b was_b in
    let low_c = was_low sh (image ∷ images) v (holds, inr (history, (u, next, grows))) c was_c in
    (v, inl refl, omega (arith, at_a, ap (λ (x : View). rank_of x.checkpoint.content) is), omega (arith, at_a, ap head is, at_b, low_b), omega (arith, at_a, ap (λ (x : View). x.replies) is, at_c, low_c))
stamp_law sh (image ∷ images) v (holds, inr (history, (u, next, grows))) s t r a b c (inr was_a) at_a (inl is) at_b was_c at_c =
    let low_a = was_low sh images u grows a was_a in let grew = next_grew sh u v (grows_sound sh images u grows) next.next in
    let low_c = was_low sh (image ∷ images) v (holds, inr (history, (u, next, grows))) c was_c in
    (v, inl refl, omega (arith, at_b, ap (λ (x : View). rank_of x.checkpoint.content) is, at_a, low_a, grew_rank u v grew), omega (arith, at_b, ap head is), omega (arith, at_b, ap (λ (x : View). x.replies) is, at_c, low_c))
stamp_law sh (image ∷ images) v (holds, inr (history, (u, next, grows))) s t r a b c (inr was_a) at_a (inr was_b) at_b (inl is) at_c =
    let low_a = was_low sh images u grows a was_a in let low_b = was_low sh images u grows b was_b in
    let grew = next_grew sh u v (grows_sound sh images u grows) next.next in
    (v, inl refl, omega (arith, at_c, ap (λ (x : View). rank_of x.checkpoint.content) is, at_a, low_a, grew_rank u v grew), omega (arith, at_c, ap head is, at_b, low_b, grew.head), omega (arith, at_c, ap (λ (x : View). x.replies) is))

-- ---- a settled prepare was in a tail, or survived of a group that was cut off

abbrev pub WasIn : (sh : Shape) (images : List Units) (v : View) → Grows sh images v → Message → Type 0
WasIn sh images v grows p = (w : View) × Was sh images v grows w × In p w.tail

pub no_made : (c : Content) → (images : List Units) → AreMade c images → (s : ℕ) (x : AnyUnit) → InImages images (PreparePlace s) x → ⊥
no_made c [] made s x at = made
no_made c (image ∷ []) made s x (inl here) = let both : Some x ≡ None = sym here ∙ made (PreparePlace s) in cc
no_made c (image ∷ []) made s x (inr there) = there
no_made c (image ∷ before ∷ images) made s x (inl here) = made.0 (PreparePlace s) x here
no_made c (image ∷ before ∷ images) made s x (inr there) = no_made c (before ∷ images) made.2 s x there

pub was_self : (sh : Shape) (images : List Units) (v : View) (grows : Grows sh images v) → Was sh images v grows v
was_self sh [] v grows = grows
was_self sh (image ∷ images) v (holds, inl begins) = refl
was_self sh (image ∷ images) v (holds, inr (history, (u, next, grows))) = inl refl

-- what the newest view's tail has was settled
pub tail_settled : (sh : Shape) (images : List Units) (v : View)
    → Grows sh images v → (p : Message) → In p v.tail → InImages images (PreparePlace (p.header.op % sh.layout.slots)) (PrepareUnit p)
tail_settled sh [] v grows p at = absurd grows
tail_settled sh (image ∷ images) v grows p at =
    inl (grows.0.bears.needs (PreparePlace (p.header.op % sh.layout.slots)) (PrepareUnit p) (p, at, refl, refl))

-- and so was what an earlier one had
pub was_prepare : (sh : Shape) (images : List Units) (v : View) (grows : Grows sh images v) (w : View)
    → Was sh images v grows w → (p : Message) → In p w.tail → InImages images (PreparePlace (p.header.op % sh.layout.slots)) (PrepareUnit p)
was_prepare sh [] v grows w was p at = absurd was
was_prepare sh (image ∷ images) v (holds, inl begins) w is p at =
    inl (holds.bears.needs (PreparePlace (p.header.op % sh.layout.slots)) (PrepareUnit p) (p, rw is at at, refl, refl))
was_prepare sh (image ∷ images) v (holds, inr (history, (u, next, grows))) w (inl is) p at =
    inl (holds.bears.needs (PreparePlace (p.header.op % sh.layout.slots)) (PrepareUnit p) (p, rw is at at, refl, refl))
was_prepare sh (image ∷ images) v (holds, inr (history, (u, next, grows))) w (inr was) p at = inr (was_prepare sh images u grows w was p at)

-- a prepare that was appended in this step
pub record IsNew (u v : View) (p : Message) : Type 0 where
  pub above : head u < p.header.op
  pub more : head u < head v
  pub boot : p.header.boot ≡ boot_of u
  pub level : boot_of v ≡ boot_of u
  pub group : p.header.group ≡ head u + 1

-- a prepare of the next tail is one of this tail, or was appended
pub next_in : (u v : View) (p : Message) → Next u v → In p v.tail → In p u.tail ⊎ IsNew u v p
next_in u _ p Same at = inl at
next_in u _ p (Append ps is) at = elim (in_either p u.tail ps at) [
  | inl old ↦ inl old
  | inr new ↦ let ops = turn_ops (head u + 1) (last_checksum u.checkpoint.content.op_checksum u.tail) ps p is.turn new in
      let stamped = is.stamped p new in
      inr (record { above = omega (arith, ops.0); more = omega (arith, length-append u.tail ps, is.some); boot = stamped.boot; level = refl; group = stamped.group })
]
next_in u _ p (Reply place r is) at = inl at
next_in u _ p (Boot d is) at = inl at
next_in u _ p (Finish c is) at = inl (in_dropped (c.content.op - u.checkpoint.content.op) p u.tail at)

-- where something was appended nothing had survived
pub appended_clear : (images : List Units) (u v : View) (p : Message) → GoesOn images u v → IsNew u v p → IsClear images u
appended_clear images u v p goes is = elim goes.clear [
  | inl same ↦ absurd (omega (arith, ap (λ (b : Checkpoint). b.content.op) same.0, ap length same.1, is.more))
  | inr (inl more) ↦ absurd (omega (arith, is.level))
  | inr (inr clear) ↦ clear
]

-- what two slots of one image show of one op is one
pub same_slot : (sh : Shape) (image : Units) (v : View) → Holds sh image v → (s t : ℕ) (p q : Message)
    → image (PreparePlace s) ≡ Some (PrepareUnit p) → image (PreparePlace t) ≡ Some (PrepareUnit q) → p.header.op ≡ q.header.op → p ≡ q
same_slot sh image v holds s t p q at there same = let a = prepare_agrees sh image v holds.bears.sound holds.bears.agrees s p at in
    let b = prepare_agrees sh image v holds.bears.sound holds.bears.agrees t q there in
    let slot : s ≡ t = a.slot ∙ ap (λ (o : ℕ). o % sh.layout.slots) same ∙ sym b.slot in
    let both : Some (PrepareUnit p) ≡ Some (PrepareUnit q) = sym at ∙ ap (λ (k : ℕ). image (PreparePlace k)) slot ∙ there in cc

-- a prepare that is shown now, and one that was settled before
abbrev OneBefore : Shape → List Units → Message → Message → Type 0
OneBefore sh images p q = (s t : ℕ)
    → InImages images (PreparePlace s) (PrepareUnit p) → InImages images (PreparePlace t) (PrepareUnit q) → p ≡ q

one_later : (sh : Shape) (image : Units) (images : List Units) (u v : View)
    → AllInHistory images image v → GoesOn images u v → Grows sh images u → (s t : ℕ) (p q : Message)
    → image (PreparePlace s) ≡ Some (PrepareUnit p) → InImages images (PreparePlace t) (PrepareUnit q)
    → p.header.op ≡ q.header.op → p.header.boot ≡ q.header.boot → OneBefore sh images p q → p ≡ q
one_later sh image images u v history goes grows s t p q here there op boot before = elim (history (PreparePlace s) (PrepareUnit p) here) [
  | inl (inl old) ↦ before s t old there
  | inl (inr new) ↦ let same : new.0 ≡ p = (let e = new.1 in cc) in elim (next_in u v p goes.next (rw same at new.2)) [
    | inl old ↦ before (p.header.op % sh.layout.slots) t (tail_settled sh images u grows p old) there
    | inr is ↦ absurd (omega (arith, appended_clear images u v p goes is t q there (sym boot ∙ is.boot), is.above))
  ]
  | inr survivor ↦ let same : survivor.0 ≡ p = (let e = survivor.1 in cc) in let left = survivor.2 in
      absurd (omega (arith, left.clear t q there (sym boot ∙ ap (λ (w : Message). w.header.boot) (sym same) ∙ left.own), left.cut.above, ap (λ (w : Message). w.header.op) same))
]

-- the settled prepares of one op and boot are one
pub settled_one : (sh : Shape) (images : List Units) (v : View) (grows : Grows sh images v) → FromEmpty sh images v grows → (s t : ℕ) (p q : Message) → InImages images (PreparePlace s) (PrepareUnit p) → InImages images (PreparePlace t) (PrepareUnit q) → p.header.op ≡ q.header.op → p.header.boot ≡ q.header.boot → p ≡ q
settled_one sh [] v grows empty s t p q at there op boot = absurd at
settled_one sh (image ∷ []) v (holds, inl begins) empty s t p q at there op boot = absurd empty
settled_one sh (image ∷ before ∷ images) v (holds, inl begins) empty s t p q (inl here) there op boot =
    absurd (begins.1 (PreparePlace s) (PrepareUnit p) here)
settled_one sh (image ∷ before ∷ images) v (holds, inl begins) empty s t p q (inr old) there op boot =
    absurd (no_made v.checkpoint.content (before ∷ images) begins.2 s (PrepareUnit p) old)
settled_one sh (image ∷ images) v (holds, inr (history, (u, next, grows))) empty s t p q (inl here) (inl there) op boot =
    same_slot sh image v holds s t p q here there op
settled_one sh (image ∷ images) v (holds, inr (history, (u, next, grows))) empty s t p q (inl here) (inr there) op boot =
    one_later sh image images u v history next grows s t p q here there op boot (λ a b old other.
    settled_one sh images u grows empty a b p q old other op boot)
settled_one sh (image ∷ images) v (holds, inr (history, (u, next, grows))) empty s t p q (inr here) (inl there) op boot =
    sym (one_later sh image images u v history next grows t s q p there here (sym op) (sym boot) (λ a b old other.
    settled_one sh images u grows empty a b q p old other (sym op) (sym boot)))
settled_one sh (image ∷ images) v (holds, inr (history, (u, next, grows))) empty s t p q (inr here) (inr there) op boot =
    settled_one sh images u grows empty s t p q here there op boot

-- of the group of this prepare one was never settled
pub record HasGap (images : List Units) (p : Message) : Type 0 where
  pub missing : ℕ
  pub from : p.header.group ≤ missing
  pub to : missing ≤ p.header.group_last
  pub lacks : (t : ℕ) (q : Message) → InImages images (PreparePlace t) (PrepareUnit q)
      → q.header.op ≡ missing → q.header.boot ≡ p.header.boot → q.header.group ≡ p.header.group → ⊥

-- where a prepare is left of a group that is cut
pub gap_left : (images : List Units) (image : Units) (v : View) (p : Message) → IsLeftGroup images image v p → HasGap (image ∷ images) p
gap_left images image v p left = record {
  missing = left.missing;
  from = omega (arith, left.cut.first, left.from);
  to = left.to;
  lacks = λ t q at op boot group. elim at [
    | inl shown ↦ left.lacks t q shown (boot ∙ left.own) op
    | inr old ↦ omega (arith, left.clear t q old (boot ∙ left.own), left.from)
  ];
}

-- nor is it settled later
gap_stays : (sh : Shape) (image : Units) (images : List Units) (u v : View) → AllInHistory images image v → GoesOn images u v → Grows sh images u → (s : ℕ) (p : Message) → InImages images (PreparePlace s) (PrepareUnit p) → p.header.group ≤ p.header.op → HasGap images p → HasGap (image ∷ images) p
gap_stays sh image images u v history goes grows s p at holds gap = record { missing = gap.missing; from = gap.from; to = gap.to; lacks = lacks }
  where
    lacks : (t : ℕ) (q : Message) → InImages (image ∷ images) (PreparePlace t) (PrepareUnit q)
        → q.header.op ≡ gap.missing → q.header.boot ≡ p.header.boot → q.header.group ≡ p.header.group → ⊥
    lacks t q (inr there) op boot group = gap.lacks t q there op boot group
    lacks t q (inl here) op boot group = elim (history (PreparePlace t) (PrepareUnit q) here) [
      | inl (inl old) ↦ gap.lacks t q old op boot group
      | inl (inr new) ↦ let same : new.0 ≡ q = (let e = new.1 in cc) in elim (next_in u v q goes.next (rw same at new.2)) [
        | inl old ↦ gap.lacks (q.header.op % sh.layout.slots) q (tail_settled sh images u grows q old) op boot group
        | inr is ↦ omega (arith, appended_clear images u v q goes is s p at (sym boot ∙ is.boot), is.group)
      ]
      | inr survivor ↦ let same : survivor.0 ≡ q = (let e = survivor.1 in cc) in let left = survivor.2 in
          omega (arith, left.clear s p at (sym boot ∙ ap (λ (w : Message). w.header.boot) (sym same) ∙ left.own), left.cut.first, ap (λ (w : Message). w.header.group) same)
    ]

pub settled_was : (sh : Shape) (images : List Units) (v : View) (grows : Grows sh images v) → FromEmpty sh images v grows → (s : ℕ) (p : Message) → InImages images (PreparePlace s) (PrepareUnit p) → p.header.group ≤ p.header.op → WasIn sh images v grows p ⊎ HasGap images p
settled_was sh [] v grows empty s p at holds_op = absurd at
settled_was sh (image ∷ []) v (holds, inl begins) empty s p at holds_op = absurd empty
settled_was sh (image ∷ before ∷ images) v (holds, inl begins) empty s p (inl here) holds_op =
    absurd (begins.1 (PreparePlace s) (PrepareUnit p) here)
settled_was sh (image ∷ before ∷ images) v (holds, inl begins) empty s p (inr there) holds_op =
    absurd (no_made v.checkpoint.content (before ∷ images) begins.2 s (PrepareUnit p) there)
settled_was sh (image ∷ images) v (holds, inr (history, (u, next, grows))) empty s p (inr there) holds_op =
    elim (settled_was sh images u grows empty s p there holds_op) [
      | inl w ↦ inl (w.0, inr w.1, w.2)
      | inr gap ↦ inr (gap_stays sh image images u v history next grows s p there holds_op gap)
    ]
settled_was sh (image ∷ images) v (holds, inr (history, (u, next, grows))) empty s p (inl here) holds_op =
    elim (history (PreparePlace s) (PrepareUnit p) here) [
      | inl (inl old) ↦ elim (settled_was sh images u grows empty s p old holds_op) [
        | inl w ↦ inl (w.0, inr w.1, w.2)
        | inr gap ↦ inr (gap_stays sh image images u v history next grows s p old holds_op gap)
      ]
      | inl (inr new) ↦ let same : new.0 ≡ p = (let e = new.1 in cc) in inl (v, inl refl, rw same at new.2)
      | inr survivor ↦ let same : survivor.0 ≡ p = (let e = survivor.1 in cc) in
          let left : IsLeftGroup images image v p = rw same at survivor.2 in inr (gap_left images image v p left)
    ]

pub one_prepare_law : OnePrepareLaw
one_prepare_law sh images v grows empty s t p q at_p at_q same boot = settled_one sh images v grows empty s t p q at_p at_q same boot
