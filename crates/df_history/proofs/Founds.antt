-- What is found in any image of units that a history settled was the view of a settled image of an awake log.
use Rattle.std.proofs.{Common.{◌≡◌, ◌⊎◌, inl, inr, ℕ, ◌+◌, ◌-◌, ◌%◌, ◌<◌, ◌≤◌, List, length, take, slice_index, Some, refl, sym, ◌∙◌, ap, subst, arith}, lemmas.Bool.{cases_lt}}
use Rattle.df_theory.{specs.{Units.{BlockPlace, BlockUnit, Content, CopyPlace, CopyUnit, Message, PreparePlace, PrepareUnit, ReplyPlace, ReplyUnit, Units}, Tails.{Chain, In, last_checksum, last_mark}, Shape.{Shape}, Copies.{rank_of}, View.{View, boot_of, head}, Holds.{IsNamed, Sound}, HistoryLaws.{AreDistinct, ShowsSettled}, Found.{IsFound}, Chance.{InImages}}, proofs.Laws.{take_boot, rank_low, view_is_found, no_gap, last_of, no_mark, same_named, group_holds}}
use Rattle.df_history.{specs.{Lives.{Awake, Lived, Lives, Turn, first_view_of}, Laws.{FoundLivedLaw, OneContentLaw, OnePrepareLaw, OneReplyLaw}}, proofs.{Steps.{first_low, lived_base, lived_needs, lived_sound}, Born.{Appended, Stored, after_base, awake_content, born_prepare, born_reply, settled_content, settled_one}, Stamps.{HasAll, one_of_stored, stamps}}}

module _ (sh : Shape) (images : List Units) (v : View) (t : Turn) (lives : Lives sh images v t) (distinct : AreDistinct images)
    (shown : Units) (of : ShowsSettled images shown) (w : View) (f : IsFound sh shown w)
    (young : rank_of (first_view_of sh images v t lives).checkpoint.content ≤ rank_of w.checkpoint.content) where
  abbrev WasAwake : View → Type 0
  WasAwake z = Lived sh images v t lives z Awake

  -- the awake view just after the superblock came
  pub checkpoint_event : (a : View) × WasAwake a
      × (a.checkpoint.content ≡ w.checkpoint.content) × (head a ≡ w.checkpoint.content.head) × (a.replies ≡ w.checkpoint.content.replies)
  checkpoint_event = elim (settled_content sh images v t lives f.chosen.agreed.second w.checkpoint.content (λ zero_is. omega
      (arith, f.chosen.agreed.apart)) (of (CopyPlace f.chosen.agreed.second) (CopyUnit w.checkpoint.content) f.chosen.agreed.at_second)) [
        | inl z ↦ let b = awake_content sh images v t lives z.0 z.1 z.2 in let a = after_base sh images v t lives b.0 b.1 in
            let same : a.0.checkpoint.content ≡ w.checkpoint.content = a.2 ∙ b.2 ∙ sym z.3 in
            (a.0, a.1, same, a.3 ∙ ap (λ (c : Content). c.head) same, a.4 ∙ ap (λ (c : Content). c.replies) same)
        | inr older ↦ absurd (omega arith)
      ]

  first_boot : boot_of (first_view_of sh images v t lives) ≤ boot_of w
  first_boot = let a = checkpoint_event in omega (arith, (first_low sh images v t lives a.0 Awake a.1).1, ap (λ (c : Content). c.boot) a.2)

  settled_at : (p : Message) → In p w.tail → InImages images (PreparePlace (p.header.op % sh.layout.slots)) (PrepareUnit p)
  settled_at p at = of (PreparePlace (p.header.op % sh.layout.slots)) (PrepareUnit p) (f.tail.takes p at).shown

  -- a prepare of this boot that is found was appended by an awake log
  appended_here : (q : Message)
      → In q w.tail → w.checkpoint.content.pin < q.header.op → Appended sh images v t lives q × (q.header.boot ≡ boot_of w)
  appended_here q at above = let boot = take_boot sh.layout.slots shown w.checkpoint.content q (f.tail.takes q at) above in
      let holds_op = group_holds sh.layout.clients 0 w.checkpoint.content.op (w.checkpoint.content.op
      + 1) w.checkpoint.content.op_checksum 0 w.checkpoint.parts.sessions w.tail q f.tail.chain f.tail.grouped (omega arith) at in
      elim (born_prepare sh images v t lives (q.header.op % sh.layout.slots) q (settled_at q at) holds_op) [
        | inl older ↦ absurd (omega (arith, first_boot))
        | inr (inl b) ↦ (b, boot)
        | inr (inr gap) ↦ absurd (no_gap sh images shown of w f q at holds_op above gap)
      ]

  stored_here : (k : ℕ) (r : Message) → shown (ReplyPlace k) ≡ Some (ReplyUnit r) → r.header.boot ≡ boot_of w → Stored sh images v t lives k r
  stored_here k r at own = elim (born_reply sh images v t lives k r (of (ReplyPlace k) (ReplyUnit r) at)) [
    | inl older ↦ absurd (omega (arith, first_boot))
    | inr b ↦ b
  ]

  -- up to the pin the tail is that of each view with this superblock
  pub same_known : (z : View) → WasAwake z → z.checkpoint.content ≡ w.checkpoint.content
      → (p q : Message) → In p z.tail → In q w.tail → p.header.op ≡ q.header.op → q.header.op ≤ w.checkpoint.content.pin → p ≡ q
  same_known z was same p q at there ops known = let sound = lived_sound sh images v t lives z Awake was in
      let from : w.checkpoint.content.op ≤ w.checkpoint.content.pin = f.checkpoint.tests.pin.0 in
      let chain_z : Chain sh.layout.clients (w.checkpoint.content.op + 1) w.checkpoint.content.op_checksum 0 z.checkpoint.parts.sessions z.tail =
      rw same at sound.chain in
      let ends_z : last_checksum w.checkpoint.content.op_checksum (take (w.checkpoint.content.pin - w.checkpoint.content.op) z.tail)
      ≡ w.checkpoint.content.pin_checksum =
      rw same at sound.records.checksum in
      same_named sh.layout.clients (w.checkpoint.content.op + 1) w.checkpoint.content.op_checksum 0 0 z.checkpoint.parts.sessions
      w.checkpoint.parts.sessions z.tail w.tail (w.checkpoint.content.pin - w.checkpoint.content.op) chain_z f.tail.chain
      (omega (arith, sound.records.pin_to, ap (λ (c : Content). c.pin) same, ap (λ (c : Content). c.op) same))
      (omega (arith, f.tail.reaches)) (ends_z ∙ sym f.tail.pinned) (λ x y in_x in_y sums.
      distinct (PreparePlace (x.header.op % sh.layout.slots)) (PreparePlace (y.header.op % sh.layout.slots)) (PrepareUnit x) (PrepareUnit y)
      (lived_needs sh images v t lives z Awake was (PreparePlace (x.header.op % sh.layout.slots)) (PrepareUnit x) (x, in_x, refl, refl))
      (of (PreparePlace (y.header.op % sh.layout.slots)) (PrepareUnit y) (f.tail.takes y in_y).shown) sums)
      (w.checkpoint.content.pin - q.header.op) p q at there ops (omega arith)

  abbrev Event : (View → Type 0) → Type 0
  Event Says = (b : View) × WasAwake b × (rank_of b.checkpoint.content ≤ rank_of w.checkpoint.content) × (boot_of b ≡ boot_of w) × Says b

  -- the awake view just after the last prepare came, where it is above the pin
  append_event : w.checkpoint.content.pin < head w → Event (λ b. (head b ≡ head w) × (b.replies ≡ last_mark 0 w.tail))
  append_event above = let p = last_of sh.layout.clients (w.checkpoint.content.op
      + 1) w.checkpoint.content.op_checksum 0 0 w.checkpoint.parts.sessions w.tail f.tail.chain (omega (arith, f.checkpoint.tests.pin.0)) in
      let here = appended_here p.0 p.1 (omega (arith, p.2)) in let b = here.0 in
      let low = f.not_behind.prepare (p.0.header.op % sh.layout.slots) p.0 (f.tail.takes p.0 p.1).shown in
      (b.0, b.1, rank_low b.0.checkpoint.content w.checkpoint.content (omega (arith, b.5, low.0)) (omega (arith, b.6, low.2)), b.6 ∙ here.1, (omega (arith, b.3, p.2, p.4, f.tail.groups p.0 p.1), b.4 ∙ p.3))

  reply_event : (k : ℕ) (x : Message) → shown (ReplyPlace k) ≡ Some (ReplyUnit x)
      → x.header.boot ≡ w.checkpoint.content.boot → Event (λ b. (head b ≤ head w) × (b.replies ≡ x.header.op))
  reply_event k x at own = let b = stored_here k x at own in let low = f.not_behind.reply k x at in
      (b.0, b.1, rank_low b.0.checkpoint.content w.checkpoint.content (omega (arith, b.5, low.0)) (omega (arith, b.6, low.1)), b.6 ∙ own, (omega (arith, b.4, (f.not_lost.reply k x at own).1), b.3))

  -- where the tail ends at the pin, its last mark is no more than the superblock's replies
  known_mark : (a : View) → WasAwake a → a.checkpoint.content ≡ w.checkpoint.content → head a ≡ w.checkpoint.content.head
      → a.replies ≡ w.checkpoint.content.replies → head w ≤ w.checkpoint.content.pin → last_mark 0 w.tail ≤ w.checkpoint.content.replies
  known_mark a was same top replies known = elim (cases_lt 0 (length w.tail)) [
    | inl some ↦ let sound = lived_sound sh images v t lives a Awake was in
        let ops : a.checkpoint.content.op ≡ w.checkpoint.content.op = ap (λ (c : Content). c.op) same in
        let heads : head a ≡ head w = omega (arith, top, f.not_lost.superblock, f.checkpoint.tests.pin.1) in
        let p = last_of sh.layout.clients
        (w.checkpoint.content.op + 1) w.checkpoint.content.op_checksum 0 0 w.checkpoint.parts.sessions w.tail f.tail.chain some in
        let q = last_of sh.layout.clients (a.checkpoint.content.op
        + 1) a.checkpoint.content.op_checksum 0 0 a.checkpoint.parts.sessions a.tail sound.chain (omega (arith, ops, heads)) in
        let one : q.0 ≡ p.0 = same_known a was same q.0 p.0 q.1 p.1 (omega (arith, p.2, q.2, ops, heads)) (omega (arith, p.2)) in
        omega (arith, p.3, q.3, ap (λ (x : Message). x.header.mark) one, sound.replies_from.1, replies)
    | inr none ↦ omega (arith, no_mark w.tail (omega arith))
  ]

  all_three : HasAll sh images v t lives (rank_of w.checkpoint.content) (head w) w.replies
  all_three = let a = checkpoint_event in let s : rank_of a.0.checkpoint.content ≡ rank_of w.checkpoint.content = ap rank_of a.2 in
      let boot : boot_of a.0 ≡ boot_of w = ap (λ (c : Content). c.boot) a.2 in let b = top_event a.0 a.1 s boot a.3 a.4 in
      let c = replies_event a.0 a.1 a.2 s boot a.3 a.4 f.replies.reached in
      stamps sh images v t lives (rank_of w.checkpoint.content) (head w) w.replies (boot_of w) a.0 b.0 c.0
      a.1 (s, omega (arith, a.3, f.not_lost.superblock), omega (arith, a.4, f.replies.superblock), boot) b.1 (b.2, b.4.0, b.4.1, b.3)
      c.1 (c.2, c.4.0, c.4.1, c.3)
    where
      top_event : (a : View) → WasAwake a → rank_of a.checkpoint.content ≡ rank_of w.checkpoint.content → boot_of a ≡ boot_of w → head a
          ≡ w.checkpoint.content.head → a.replies ≡ w.checkpoint.content.replies → Event (λ b. (head b ≡ head w) × (b.replies ≤ w.replies))
      top_event a was s boot top replies = elim (cases_lt w.checkpoint.content.pin (head w)) [
        | inl above ↦ let b = append_event above in (b.0, b.1, b.2, b.3, (b.4.0, omega (arith, b.4.1, f.replies.mark)))
        | inr not ↦ (a, was, omega arith, boot, (omega (arith, f.checkpoint.tests.pin.1, f.not_lost.superblock), omega (arith, f.replies.superblock)))
      ]

      replies_event : (a : View) → WasAwake a → a.checkpoint.content ≡ w.checkpoint.content → rank_of a.checkpoint.content ≡ rank_of
          w.checkpoint.content → boot_of a ≡ boot_of w → head a ≡ w.checkpoint.content.head → a.replies ≡ w.checkpoint.content.replies
          → (w.checkpoint.content.replies ≡ w.replies) ⊎ (last_mark 0 w.tail ≡ w.replies) ⊎ ((k : ℕ) × (r : Message)
          × (shown (ReplyPlace k) ≡ Some (ReplyUnit r)) × (r.header.op ≡ w.replies) × (r.header.boot ≡ w.checkpoint.content.boot))
          → Event (λ c. (head c ≤ head w) × (c.replies ≡ w.replies))
      replies_event a was same s boot top replies (inl base) =
          (a, was, omega arith, boot, (omega (arith, f.not_lost.superblock), replies ∙ base))
      replies_event a was same s boot top replies (inr (inl mark)) = elim (cases_lt w.checkpoint.content.pin (head w)) [
        | inl above ↦ let b = append_event above in (b.0, b.1, b.2, b.3, (omega (arith, b.4.0), b.4.1 ∙ mark))
        | inr not ↦ (a, was, omega arith, boot, (omega (arith, f.not_lost.superblock), omega (arith, known_mark a was same top replies (omega arith), f.replies.superblock)))
      ]
      replies_event a was same s boot top replies (inr (inr reply)) = let b = reply_event reply.0 reply.1 reply.2 reply.4 in
          (b.0, b.1, b.2, b.3, (b.4.0, b.4.1 ∙ reply.3))

  module _ (z : View) (was : Lived sh images v t lives z Awake)
      (s : rank_of z.checkpoint.content ≡ rank_of w.checkpoint.content) (top : head z ≡ head w) (r : z.replies ≡ w.replies) where
    pub sound : Sound sh z
    sound = lived_sound sh images v t lives z Awake was

    pub same_content : z.checkpoint.content ≡ w.checkpoint.content
    same_content = let a = checkpoint_event in lived_base sh images v t lives z Awake a.0 Awake was a.1 (s ∙ ap rank_of (sym a.2)) ∙ a.2

    same_prepare : (p q : Message) → In p z.tail → In q w.tail → p.header.op ≡ q.header.op → p ≡ q
    same_prepare p q at there same = elim (cases_lt w.checkpoint.content.pin q.header.op) [
      | inl above ↦ let own_q = take_boot sh.layout.slots shown w.checkpoint.content q (f.tail.takes q there) above in
          let own_p = sound.records.tail p at (omega (arith, above, same, ap (λ (c : Content). c.pin) same_content)) in
          settled_one sh images v t lives (p.header.op % sh.layout.slots) (q.header.op % sh.layout.slots) p q (lived_needs sh images
          v t lives z Awake was (PreparePlace (p.header.op % sh.layout.slots)) (PrepareUnit p) (p, at, refl, refl)) (settled_at q there)
          (omega (arith, first_boot, own_p, ap (λ (c : Content). c.boot) same_content))
          same (own_p ∙ ap (λ (c : Content). c.boot) same_content ∙ sym own_q)
      | inr not ↦ same_known z was same_content p q at there same (omega arith)
    ]

    same_reply : (k : ℕ) (x q : Message) → z.stored k ≡ Some x
        → shown (ReplyPlace k) ≡ Some (ReplyUnit q) → IsNamed w.checkpoint.content k q → x.header.op ≡ q.header.op → x ≡ q
    same_reply k x q is at named ops = elim (cases_lt q.header.op w.checkpoint.content.answered) [
      | inl old ↦ let first : slice_index w.checkpoint.content.reply_checksums k ≡ x.header.checksum =
          rw same_content at ((sound.records.stored k x is).old (omega (arith, ap (λ (c : Content). c.answered) same_content))) in
          distinct (ReplyPlace k) (ReplyPlace k) (ReplyUnit x) (ReplyUnit q) (lived_needs sh images
          v t lives z Awake was (ReplyPlace k) (ReplyUnit x) (x, is, refl)) (of (ReplyPlace k) (ReplyUnit q) at) (sym first ∙ named.old old)
      | inr not ↦ let own = named.new (omega arith) in let b = stored_here k q at own in
          one_of_stored sh images v t lives z b.0 k k x q was b.1 (ap (λ (c : Content). c.boot) same_content ∙ sym own ∙ sym b.6) is b.2 ops
    ]

    pub same_view : z ≡ w
    same_view = view_is_found sh shown w f z sound same_content top r
        (λ a e b d at there checksum. distinct (BlockPlace a) (BlockPlace e) (BlockUnit b) (BlockUnit d) (lived_needs sh images v t
        lives z Awake was (BlockPlace a) (BlockUnit b) (b, at, refl)) (of (BlockPlace e) (BlockUnit d) (f.chain_shown e d there)) checksum)
        same_prepare same_reply

  pub found_lived : Lived sh images v t lives w Awake
  found_lived = let z = all_three in subst (λ (x : View). Lived sh images v t lives x Awake) (same_view z.0 z.1 z.2 z.3 z.4) z.1

pub found_lived_law : FoundLivedLaw
found_lived_law sh images v t lives distinct shown of w f young = found_lived sh images v t lives distinct shown of w f young

-- ---- one unit

pub one_prepare_law : OnePrepareLaw
one_prepare_law sh images v t lives i j p q at_p at_q young boots ops = settled_one sh images v t lives i j p q at_p at_q young ops boots

pub one_reply_law : OneReplyLaw
one_reply_law sh images v t lives j k r q at_r at_q young boots ops = elim (born_reply sh images v t lives j r at_r) [
  | inl older ↦ absurd (omega arith)
  | inr a ↦ elim (born_reply sh images v t lives k q at_q) [
    | inl older ↦ absurd (omega arith)
    | inr b ↦ one_of_stored sh images v t lives a.0 b.0 j k r q a.1 b.1 (a.6 ∙ boots ∙ sym b.6) a.2 b.2 ops
  ]
]

pub one_content_law : OneContentLaw
one_content_law sh images v t lives m n c d away at_c other at_d young = elim (settled_content sh images v t lives m c away at_c) [
  | inl x ↦ (
    (x.0, x.1, x.2, sym x.3),
    λ same. elim (settled_content sh images v t lives n d other at_d) [
      | inl y ↦ x.3 ∙ lived_base sh images v t lives x.0 x.1 y.0 y.1 x.2 y.2 (ap rank_of (sym x.3) ∙ same ∙ ap rank_of y.3) ∙ sym y.3
      | inr older ↦ absurd (omega arith)
    ],
  )
  | inr older ↦ absurd (omega arith)
]
