-- What is found in any image of settled units was the view of a settled image.
use Rattle.std.proofs.{Common.{◌≡◌, ◌⊎◌, inl, inr, ℕ, ◌+◌, ◌-◌, ◌%◌, ◌<◌, ◌≤◌, List, length, take, Some, sym, ◌∙◌, ap, subst, arith}, lemmas.Bool.{cases_lt}}
use Rattle.df_theory.{specs.{Units.{AnyUnit, BlockPlace, BlockUnit, Content, CopyPlace, CopyUnit, Message, Place, PreparePlace, PrepareUnit, ReplyPlace, ReplyUnit, Units}, Tails.{Chain, In, last_checksum, last_mark}, Shape.{Shape}, Copies.{rank_of}, View.{Checkpoint, View, head, sessions}, Holds.{Sound}, Chance.{Distinct, InImages}, Grown.{Grows}, Found.{IsFound}, Past.{FromEmpty, Was}, HistoryLaws.{FoundWasLaw, OneContentLaw, OneReplyLaw}}, proofs.{Choices.{rank_low}, SameView.{view_is_found}, WholeGroups.{no_gap}, Past.{WasIn, settled_one, settled_was, was_prepare, stamp_law}, Grouped.{group_holds}, Founds.{chain_at}, Agreeing.{take_boot}, Pinned.{same_named}, Tails.{chain_ops}, Settled.{settled_content, settled_reply, after_append, after_reply, after_base}, Once.{was_base, was_sound, was_reply, was_chain, last_of, no_mark}}}

module _ (sh : Shape) (images : List Units) (v : View) (grows : Grows sh images v) (empty : FromEmpty sh images v grows)
    (distinct : (place other : Place) (x y : AnyUnit) → InImages images place x → InImages images other y → Distinct x y)
    (shown : Units)
    (of : (place : Place) (x : AnyUnit) → shown place ≡ Some x → InImages images place x) (w : View) (f : IsFound sh shown w) where
  checkpoint_event : (a : View) × Was sh images v grows a
      × (a.checkpoint.content ≡ w.checkpoint.content) × (head a ≡ w.checkpoint.content.head) × (a.replies ≡ w.checkpoint.content.replies)
  checkpoint_event = let agreed = f.chosen.agreed in
      let z = settled_content sh images v grows empty agreed.second w.checkpoint.content (λ zero_is.
      omega (arith, agreed.apart)) (of (CopyPlace agreed.second) (CopyUnit w.checkpoint.content) agreed.at_second) in
      let a = after_base sh images v grows empty z.0 z.1 in
      let same : a.0.checkpoint.content ≡ w.checkpoint.content = ap (λ (b : Checkpoint). b.content) a.2 ∙ sym z.2 in
      (a.0, a.1, same, a.3 ∙ ap (λ (c : Content). c.head) same, a.4 ∙ ap (λ (c : Content). c.replies) same)

  -- a prepare that the content names is that of each view with this content
  named : (y : View) → Was sh images v grows y → y.checkpoint.content ≡ w.checkpoint.content
      → (p q : Message) → In p w.tail → In q y.tail → p.header.op ≡ q.header.op → p.header.op ≤ w.checkpoint.content.pin → p ≡ q
  named y was content p q at there op low = let sound = was_sound sh images v grows y was in let ops = chain_ops sh.layout.clients
      (w.checkpoint.content.op + 1) w.checkpoint.content.op_checksum 0 w.checkpoint.parts.sessions w.tail p f.tail.chain at in
      let chain : Chain sh.layout.clients (w.checkpoint.content.op + 1) w.checkpoint.content.op_checksum 0 y.checkpoint.parts.sessions y.tail =
      rw content at sound.chain in
      let ends : last_checksum w.checkpoint.content.op_checksum (take (w.checkpoint.content.pin - w.checkpoint.content.op) y.tail)
      ≡ w.checkpoint.content.pin_checksum =
      rw content at sound.records.checksum in
      same_named sh.layout.clients (w.checkpoint.content.op + 1) w.checkpoint.content.op_checksum 0 0 w.checkpoint.parts.sessions
      y.checkpoint.parts.sessions w.tail y.tail (w.checkpoint.content.pin - w.checkpoint.content.op) f.tail.chain chain
      (omega (arith, f.tail.reaches)) (omega
      (arith, sound.records.pin_to, ap (λ (c : Content). c.pin) content, ap (λ (c : Content). c.op) content)) (f.tail.pinned ∙ sym ends)
      (λ a b in_a in_b checksum.
      distinct (PreparePlace (a.header.op % sh.layout.slots)) (PreparePlace (b.header.op % sh.layout.slots)) (PrepareUnit a) (PrepareUnit b)
      (of (PreparePlace (a.header.op % sh.layout.slots)) (PrepareUnit a) (f.tail.takes a in_a).shown)
      (was_prepare sh images v grows y was b in_b) checksum) (w.checkpoint.content.pin - p.header.op) p q at there op (omega (arith, ops.0))

  settled_at : (p : Message) → In p w.tail → InImages images (PreparePlace (p.header.op % sh.layout.slots)) (PrepareUnit p)
  settled_at p at = of (PreparePlace (p.header.op % sh.layout.slots)) (PrepareUnit p) (f.tail.takes p at).shown

  -- each prepare of the tail was in a view's
  was_in : (p : Message) → In p w.tail → WasIn sh images v grows p
  was_in p at = let ops = chain_ops sh.layout.clients
      (w.checkpoint.content.op + 1) w.checkpoint.content.op_checksum 0 w.checkpoint.parts.sessions w.tail p f.tail.chain at in
      let holds_op = group_holds sh.layout.clients 0 w.checkpoint.content.op (w.checkpoint.content.op
      + 1) w.checkpoint.content.op_checksum 0 w.checkpoint.parts.sessions w.tail p f.tail.chain f.tail.grouped (omega arith) at in
      elim (cases_lt w.checkpoint.content.pin p.header.op) [
        | inr low ↦ let a = checkpoint_event in let sound = was_sound sh images v grows a.0 a.1 in
            let op_is : a.0.checkpoint.content.op ≡ w.checkpoint.content.op = ap (λ (c : Content). c.op) a.2 in
            let q = chain_at sh.layout.clients (a.0.checkpoint.content.op + 1) a.0.checkpoint.content.op_checksum 0 a.0.checkpoint.parts.sessions a.0.tail p.header.op sound.chain (omega (arith, ops.0, op_is)) (omega (arith, sound.records.pin_to, ap (λ (c : Content). c.pin) a.2)) in
            (a.0, a.1, rw (sym (named a.0 a.1 a.2 p q.0 at q.1 (sym q.2) (omega arith))) at q.1)
        | inl above ↦ above_case p at ops holds_op above
      ]
    where
      above_case : (p : Message) → In p w.tail → (w.checkpoint.content.op + 1 ≤ p.header.op) × (p.header.op < w.checkpoint.content.op
          + 1 + length w.tail) → p.header.group ≤ p.header.op → w.checkpoint.content.pin < p.header.op → WasIn sh images v grows p
      above_case p at ops holds_op above =
          elim (settled_was sh images v grows empty (p.header.op % sh.layout.slots) p (settled_at p at) holds_op) [
            | inl was ↦ was
            | inr gap ↦ absurd (no_gap sh images shown of w f p at holds_op above gap)
          ]

  append_event : 0 < length w.tail → (b : View) × Was sh images v grows b
      × (rank_of b.checkpoint.content ≤ rank_of w.checkpoint.content) × (head b ≡ head w) × (b.replies ≡ last_mark 0 w.tail)
  append_event some = let p = last_of sh.layout.clients
      (w.checkpoint.content.op + 1) w.checkpoint.content.op_checksum 0 0 w.checkpoint.parts.sessions w.tail f.tail.chain some in
      let place = (f.tail.takes p.0 p.1).shown in let z = was_in p.0 p.1 in let b = after_append sh images v grows empty z.0 p.0 z.1 z.2 in
      (b.0, b.1, (let low = f.not_behind.prepare (p.0.header.op % sh.layout.slots) p.0 place in rank_low b.0.checkpoint.content w.checkpoint.content (omega (arith, b.4, low.0)) (omega (arith, b.5, low.2))), omega (arith, b.2, p.2, p.4, f.tail.groups p.0 p.1), b.3 ∙ p.3)

  reply_event : (k : ℕ) (x : Message) → shown (ReplyPlace k) ≡ Some (ReplyUnit x) → x.header.boot ≡ w.checkpoint.content.boot → (b : View) × Was sh images v grows b × (rank_of b.checkpoint.content ≤ rank_of w.checkpoint.content) × (head b ≤ head w) × (b.replies ≡ x.header.op)
  reply_event k x at own = let z = settled_reply sh images v grows empty k x (of (ReplyPlace k) (ReplyUnit x) at) in
      let b = after_reply sh images v grows empty z.0 k x z.1 z.2 in
      (b.0, b.1, (let low = f.not_behind.reply k x at in rank_low b.0.checkpoint.content w.checkpoint.content (omega (arith, b.4, low.0)) (omega (arith, b.5, low.1))), omega (arith, b.3, (f.not_lost.reply k x at own).1), b.2)

  abbrev Stamped : View → Type 0
  Stamped z =
      Was sh images v grows z × (rank_of z.checkpoint.content ≡ rank_of w.checkpoint.content) × (head z ≡ head w) × (z.replies ≡ w.replies)

  all_three : (z : View) × Stamped z
  all_three = let a = checkpoint_event in let s : rank_of a.0.checkpoint.content ≡ rank_of w.checkpoint.content = ap rank_of a.2 in
      let b = top_event a.0 a.1 s a.3 a.4 in let c = replies_event a.0 a.1 s a.3 a.4 f.replies.reached in
      let z = stamp_law sh images v grows (rank_of w.checkpoint.content) (head w) w.replies a.0 b.0 c.0
      a.1 (s, omega (arith, a.3, f.not_lost.superblock), omega (arith, a.4, f.replies.superblock)) b.1 (b.2, b.3, b.4)
      c.1 (c.2, c.3, c.4) in (z.0, (z.1, z.2, z.3, z.4))
    where
      top_event : (a : View) → Was sh images v grows a → rank_of a.checkpoint.content ≡ rank_of w.checkpoint.content → head a ≡ w.checkpoint.content.head → a.replies ≡ w.checkpoint.content.replies → (b : View) × Was sh images v grows b × (rank_of b.checkpoint.content ≤ rank_of w.checkpoint.content) × (head b ≡ head w) × (b.replies ≤ w.replies)
      top_event a was s top replies = elim (cases_lt 0 (length w.tail)) [
        | inl some ↦ let b = append_event some in (b.0, b.1, b.2, b.3, omega (arith, b.4, f.replies.mark))
        | inr none ↦ (a, was, omega arith, omega (arith, f.checkpoint.tests.head, f.not_lost.superblock), omega (arith, f.replies.superblock))
      ]

      replies_event : (a : View) → Was sh images v grows a → rank_of a.checkpoint.content ≡ rank_of w.checkpoint.content
          → head a ≡ w.checkpoint.content.head → a.replies ≡ w.checkpoint.content.replies
          → (w.checkpoint.content.replies ≡ w.replies) ⊎ (last_mark 0 w.tail ≡ w.replies) ⊎ ((k : ℕ) × (r : Message)
          × (shown (ReplyPlace k) ≡ Some (ReplyUnit r)) × (r.header.op ≡ w.replies) × (r.header.boot ≡ w.checkpoint.content.boot))
          → (c : View) × Was sh images v grows c
          × (rank_of c.checkpoint.content ≤ rank_of w.checkpoint.content) × (head c ≤ head w) × (c.replies ≡ w.replies)
      replies_event a was s top replies (inl base) = (a, was, omega arith, omega (arith, f.not_lost.superblock), replies ∙ base)
      replies_event a was s top replies (inr (inl mark)) = elim (cases_lt 0 (length w.tail)) [
        | inl some ↦ let b = append_event some in (b.0, b.1, b.2, omega (arith, b.3), b.4 ∙ mark)
        | inr none ↦ let zero_is : last_mark 0 w.tail ≡ 0 = no_mark w.tail (omega arith) in
            (a, was, omega arith, omega (arith, f.not_lost.superblock), omega (arith, f.replies.superblock))
      ]
      replies_event a was s top replies (inr (inr reply)) = let b = reply_event reply.0 reply.1 reply.2 reply.4 in
          (b.0, b.1, b.2, b.3, b.4 ∙ reply.3)

  module _ (z : View) (was : Was sh images v grows z)
      (s : rank_of z.checkpoint.content ≡ rank_of w.checkpoint.content) (top : head z ≡ head w) (r : z.replies ≡ w.replies) where
    sound : Sound sh z
    sound = was_sound sh images v grows z was

    same_content : z.checkpoint.content ≡ w.checkpoint.content
    same_content = let a = checkpoint_event in
        ap (λ (b : Checkpoint). b.content) (was_base sh images v grows z a.0 was a.1 (s ∙ ap rank_of (sym a.2))) ∙ a.2

    same_prepare : (p q : Message) → In p z.tail → In q w.tail → p.header.op ≡ q.header.op → p ≡ q
    same_prepare p q at there same = elim (cases_lt w.checkpoint.content.pin q.header.op) [
      | inl above ↦ let own_q = take_boot sh.layout.slots shown w.checkpoint.content q (f.tail.takes q there) above in
          let own_p = sound.records.tail p at (omega (arith, above, ap (λ (c : Content). c.pin) same_content)) in
          settled_one sh images v grows empty (p.header.op % sh.layout.slots) (q.header.op % sh.layout.slots) p q (was_prepare
          sh images v grows z was p at) (settled_at q there) same (own_p ∙ ap (λ (c : Content). c.boot) same_content ∙ sym own_q)
      | inr low ↦ sym (named z was same_content q p there at (sym same) (omega arith))
    ]

    same_reply : (k : ℕ) (x q : Message) → z.stored k ≡ Some x → shown (ReplyPlace k) ≡ Some (ReplyUnit q) → x.header.op ≡ q.header.op → x ≡ q
    same_reply k x q is at ops = let y = settled_reply sh images v grows empty k q (of (ReplyPlace k) (ReplyUnit q) at) in
        was_reply sh images v grows z y.0 k k x q was is y.1 y.2 ops

    pub same_view : z ≡ w
    same_view = view_is_found sh shown w f z sound same_content top r
        (λ a e b d at there checksum. distinct (BlockPlace a) (BlockPlace e) (BlockUnit b)
        (BlockUnit d) (was_chain sh images v grows z was a b at) (of (BlockPlace e) (BlockUnit d) (f.chain_shown e d there)) checksum)
        same_prepare (λ k x q is at named ops. same_reply k x q is at ops)

  pub found_was : Was sh images v grows w
  found_was = let z = all_three in subst (λ (x : View). Was sh images v grows x) (same_view z.0 z.1.0 z.1.1 z.1.2 z.1.3) z.1.0

pub found_was_law : FoundWasLaw
found_was_law sh images v grows empty distinct shown of w f = found_was sh images v grows empty distinct shown of w f

pub one_reply_law : OneReplyLaw
one_reply_law sh images v grows empty j k r q at_r at_q same = let a = settled_reply sh images v grows empty j r at_r in
    let b = settled_reply sh images v grows empty k q at_q in was_reply sh images v grows a.0 b.0 j k r q a.1 a.2 b.1 b.2 same

pub one_content_law : OneContentLaw
one_content_law sh images v grows empty m n c d away at_c other at_d = let a = settled_content sh images v grows empty m c away at_c in
    let b = settled_content sh images v grows empty n d other at_d in
    ((a.0, a.1, sym a.2), λ same. a.2 ∙ ap (λ (x : Checkpoint). x.content) (was_base sh images v grows a.0 b.0 a.1 b.1 (ap rank_of (sym a.2) ∙ same ∙ ap rank_of b.2)) ∙ sym b.2)
