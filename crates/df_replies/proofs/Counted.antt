-- The greatest numbers of the replies, turn by turn, and what they say of the theory's image.
use Rattle.std.{proofs.{Common.{◌≡◌, ◌==◌, ◌⊎◌, ◌↔◌, inl, inr, ℕ, ◌+◌, ◌<◌, ◌≤◌, List, length, get_or, max, Option, Some, None, refl, sym, ◌∙◌, ap, subst, arith}, lemmas.Bool.{cases_eq, cases_lt, cond-true, cond-false, eq-eqb, ne_eqb}, lemmas.Option.{slice_get_cases, slice_get-get_or}}, specs.{Prelude.{Result, Ok, Err}, List.{slice_get}}}
use Rattle.{df_layout.specs.declared.damage.Class.{Class}, df_format.specs.declared.header.Header.{Header}}
use Rattle.{df_stamps.specs.declared.counters.Counters.{Counters}, df_units.specs.Meaning.{header_of}}
use Rattle.df_theory.specs.Units
use Rattle.df_theory.specs.{Units.{AnyUnit, Content, Message, ReplyPlace, ReplyUnit}, Found.{IsReplies}, Tails.{last_mark}}
use Rattle.df_replies.specs.{Shown.{ShowsReplies, ShowsReply}, Counts.{AreNotAbove, CountsSome, IsGreatest, RepliesWithin, boot_in, checkpoint_in, counting_reply, in_boot, mark_in, op_of_reply}}

-- ---- numbers of the first entries

within_more : (number : Result Header Class → ℕ) (n k : ℕ) (replies : List (Result Header Class)) (reply : Result Header Class)
    → slice_get replies k ≡ Some reply → AreNotAbove number n k replies → number reply ≤ n → AreNotAbove number n (k + 1) replies
within_more number n k replies reply at all le j other less there = elim (cases_lt j k) [
  | inl before ↦ all j other before there
  | inr here ↦ let same : j ≡ k = omega arith in let both : Some other ≡ Some reply = sym there ∙ ap (slice_get replies) same ∙ at in
      let one : reply ≡ other = cc in rw one at le
]

within_fewer : (number : Result Header Class → ℕ) (n k : ℕ) (replies : List (Result Header Class))
    → AreNotAbove number n (k + 1) replies → AreNotAbove number n k replies
within_fewer number n k replies all j reply less at = all j reply (omega arith) at

-- ---- the counters

counts_next : (boot : ℕ) (start : Counters) (replies : List (Result Header Class)) (k : ℕ) (seen : Counters) (reply : Result Header Class)
    → slice_get replies k ≡ Some reply → CountsSome boot start replies k seen
    → CountsSome boot start replies (k + 1) (counting_reply boot seen reply)
counts_next boot start replies k seen reply at is = record {
  ring_op = is.ring_op;
  checkpoint = λ n. (
    λ le. let old = (is.checkpoint n).0 (omega arith) in (old.0, within_more checkpoint_in n k replies reply at old.1 (omega (arith, le))),
    λ all. let old = (is.checkpoint n).1 (all.0, within_fewer checkpoint_in n k replies all.1) in
        omega (arith, old, all.1 k reply (omega arith) at),
  );
  boot = λ n. (
    λ le. let old = (is.boot n).0 (omega arith) in (old.0, within_more boot_in n k replies reply at old.1 (omega (arith, le))),
    λ all. let old = (is.boot n).1 (all.0, within_fewer boot_in n k replies all.1) in omega (arith, old, all.1 k reply (omega arith) at),
  );
  reply_top = λ n. (
    λ le. let old = (is.reply_top n).0 (omega arith) in (old.0, within_more (op_of_reply boot) n k replies reply at old.1 (omega (arith, le)), within_more (mark_in boot) n k replies reply at old.2 (omega (arith, le))),
    λ all. let old =
        (is.reply_top n).1 (all.0, within_fewer (op_of_reply boot) n k replies all.1, within_fewer (mark_in boot) n k replies all.2) in
        omega (arith, old, all.1 k reply (omega arith) at, all.2 k reply (omega arith) at),
  );
}

pub counts_more : (boot : ℕ) (start : Counters) (replies : List (Result Header Class)) (k : ℕ) (seen new : Counters) (d : Result
    Header Class) → k < length replies → new ≡ counting_reply boot seen (get_or replies k d) → CountsSome boot start replies k seen
    → CountsSome boot start replies (k + 1) new
counts_more boot start replies k seen new d within is counts = subst (CountsSome boot start replies (k + 1))
    (sym is) (counts_next boot start replies k seen (get_or replies k d) (slice_get-get_or replies k d within) counts)

-- ---- the greatest op

-- that of the first k entries of the boot, or the start
abbrev IsReached : ℕ → ℕ → List (Result Header Class) → ℕ → Type 0
IsReached boot start replies top =
    (start ≡ top) ⊎ ((j : ℕ) × (h : Header) × (slice_get replies j ≡ Some (Ok h)) × (h.op ≡ top) × (h.boot ≡ boot))

-- no more than before
not_raised : (boot start : ℕ) (replies : List (Result Header Class)) (top new : ℕ)
    → new ≡ top → IsReached boot start replies top → IsReached boot start replies new
not_raised boot start replies top new same is = elim
    is [ inl first ↦ inl (omega (arith, first, same)) | inr there ↦ inr (there.0, there.1, there.2, omega (arith, there.3, same), there.4) ]

greatest_next : (boot start : ℕ) (replies : List (Result Header Class)) (k top : ℕ) (r : Result Header Class)
    → slice_get replies k ≡ Some r → IsReached boot start replies top → IsReached boot start replies (max top (op_of_reply boot r))
greatest_next boot start replies k top (Err class) at is = not_raised boot start replies top (max top 0) (omega arith) is
greatest_next boot start replies k top (Ok h) at is = elim (cases_eq h.boot boot) [
  | inl own ↦ let op : op_of_reply boot (Ok h) ≡ h.op = cond-true (h.boot == boot) h.op 0 (eq-eqb h.boot boot own) in
      elim (cases_lt top h.op) [
        | inl more ↦ inr (k, h, at, omega (arith, op, more), own)
        | inr less ↦ not_raised boot start replies top (max top (op_of_reply boot (Ok h))) (omega (arith, op, less)) is
      ]
  | inr other ↦ let op : op_of_reply boot (Ok h) ≡ 0 = cond-false (h.boot == boot) h.op 0 (ne_eqb h.boot boot other) in
      not_raised boot start replies top (max top (op_of_reply boot (Ok h))) (omega (arith, op)) is
]

within_higher : (number : Result Header Class → ℕ) (n m k : ℕ) (replies : List (Result Header Class))
    → n ≤ m → AreNotAbove number n k replies → AreNotAbove number m k replies
within_higher number n m k replies le all j reply less at = omega (arith, le, all j reply less at)

pub greatest_more : (boot start : ℕ) (replies : List (Result Header Class)) (k top new : ℕ) (d : Result Header Class) → k < length replies →
    new ≡ max top (op_of_reply boot (get_or replies k d)) → IsGreatest boot start replies k top → IsGreatest boot start replies (k + 1) new
greatest_more boot start replies k top new d within is old = let r = get_or replies k d in
    let at : slice_get replies k ≡ Some r = slice_get-get_or replies k d within in
    subst (IsGreatest boot start replies (k + 1)) (sym is) (record {
      from = omega (arith, old.from);
      each = within_more (op_of_reply boot) (max top (op_of_reply boot r)) k
          replies r at (within_higher (op_of_reply boot) top (max top (op_of_reply boot r)) k replies (omega arith) old.each) (omega arith);
      reached = greatest_next boot start replies k top r at old.reached;
    })

-- ---- in the theory

-- the reply that an entry is, where the image shows one there
entry_is : (x : Option AnyUnit) (r : Result Header Class) (m : Message)
    → ShowsReply x r → x ≡ Some (ReplyUnit m) → (h : Header) × (r ≡ Ok h) × (m.header ≡ header_of h)
entry_is x (Ok h) m (q, is, same) shown = let both : Some (ReplyUnit m) ≡ Some (ReplyUnit q) = sym shown ∙ is in
    let one : m ≡ q = cc in (h, refl, ap (λ (n : Message). n.header) one ∙ same)
entry_is x (Err class) m none shown = let both : None ≡ Some (ReplyUnit m) = sym none ∙ shown in absurd (cc)

-- each reply that the image shows is an entry
pub reply_there : (image : Units.Units) (replies : List (Result Header Class)) (k : ℕ) (m : Message)
    → ShowsReplies image replies → image (ReplyPlace k) ≡ Some (ReplyUnit m)
    → (h : Header) × (k < length replies) × (slice_get replies k ≡ Some (Ok h)) × (m.header ≡ header_of h)
reply_there image replies k m shows shown = elim (slice_get_cases replies k).1 [
  | inl there ↦ let entry = entry_is (image (ReplyPlace k)) there.0 m (shows.each k there.0 there.2) shown in
      (entry.0, there.1, there.2 ∙ ap Some entry.1, entry.2)
  | inr past ↦ let both : None ≡ Some (ReplyUnit m) = sym (shows.no_more k past.0) ∙ shown in absurd (cc)
]

-- and each entry that is a reply is one that the image shows
pub entry_shown : (image : Units.Units) (replies : List (Result Header Class)) (k : ℕ) (h : Header) → ShowsReplies image replies
    → slice_get replies k ≡ Some (Ok h) → (m : Message) × (image (ReplyPlace k) ≡ Some (ReplyUnit m)) × (m.header ≡ header_of h)
entry_shown image replies k h shows at = shows.each k (Ok h) at

-- the first entries have numbers of at most n exactly where the replies that the image shows have
within_shown : (number : Units.Header → ℕ) (entry : Result Header Class → ℕ)
    → ((h : Header) → entry (Ok h) ≡ number (header_of h)) → ((class : Class) → entry (Err class) ≡ 0)
    → (image : Units.Units) (replies : List (Result Header Class)) (n : ℕ)
    → ShowsReplies image replies → AreNotAbove entry n (length replies) replies ↔ RepliesWithin image number n
within_shown number entry same none image replies n shows = (to, from)
  where
    to : AreNotAbove entry n (length replies) replies → RepliesWithin image number n
    to all k r shown = let there = reply_there image replies k r shows shown in
        omega (arith, all k (Ok there.0) there.1 there.2, same there.0, ap number there.3)

    from : RepliesWithin image number n → AreNotAbove entry n (length replies) replies
    from all k (Err class) less at = omega (arith, none class)
    from all k (Ok h) less at = let there = entry_shown image replies k h shows at in
        omega (arith, same h, all k there.0 there.1, ap number there.2)

module _ (boot : ℕ) (start seen : Counters) (replies : List (Result Header Class))
    (counts : CountsSome boot start replies (length replies) seen) (image : Units.Units) (n : ℕ) (shows : ShowsReplies image replies) where
  pub counts_checkpoint : (seen.checkpoint ≤ n) ↔ ((start.checkpoint ≤ n) × RepliesWithin image (λ h. h.checkpoint) n)
  counts_checkpoint = let shown = within_shown (λ h. h.checkpoint) checkpoint_in (λ h. refl) (λ class. refl) image replies n shows in (
    λ le. let both = (counts.checkpoint n).0 le in (both.0, shown.0 both.1),
    λ both. (counts.checkpoint n).1 (both.0, shown.1 both.1),
  )

  pub counts_boot : (seen.boot ≤ n) ↔ ((start.boot ≤ n) × RepliesWithin image (λ h. h.boot) n)
  counts_boot = let shown = within_shown (λ h. h.boot) boot_in (λ h. refl) (λ class. refl) image replies n shows in (
    λ le. let both = (counts.boot n).0 le in (both.0, shown.0 both.1),
    λ both. (counts.boot n).1 (both.0, shown.1 both.1),
  )

  pub counts_top : (seen.reply_top
      ≤ n) ↔ ((start.reply_top ≤ n) × RepliesWithin image (in_boot boot (λ h. h.op)) n × RepliesWithin image (in_boot boot (λ h. h.mark)) n)
  counts_top = let ops = within_shown (in_boot boot (λ h. h.op)) (op_of_reply boot) (λ h. refl) (λ class. refl) image replies n shows in
      let marks = within_shown (in_boot boot (λ h. h.mark)) (mark_in boot) (λ h. refl) (λ class. refl) image replies n shows in (
        λ le. let all = (counts.reply_top n).0 le in (all.0, ops.0 all.1, marks.0 all.2),
        λ all. (counts.reply_top n).1 (all.0, ops.1 all.1, marks.1 all.2),
      )

own_op : (boot : ℕ) (h : Header) → h.boot ≡ boot → op_of_reply boot (Ok h) ≡ h.op
own_op boot h own = cond-true (h.boot == boot) h.op 0 (eq-eqb h.boot boot own)

-- the greatest of the superblock's number, the mark and the ops is the theory's number of replies
pub greatest_is_replies : (boot superblock mark top : ℕ) (replies : List (Result Header Class)) (image : Units.Units)
    (c : Content) (tail : List Message) → IsGreatest boot (max superblock mark) replies (length replies) top → ShowsReplies image replies
    → c.boot ≡ boot → c.replies ≡ superblock → last_mark 0 tail ≡ mark → IsReplies image c tail top
greatest_is_replies boot superblock mark top replies image c tail is shows boot_is replies_is mark_is = record {
  superblock = omega (arith, is.from, replies_is);
  mark = omega (arith, is.from, mark_is);
  reply = λ k m shown of. let there = reply_there image replies k m shows shown in
      let own : there.0.boot ≡ boot = sym (ap (λ (h : Units.Header). h.boot) there.3) ∙ of ∙ boot_is in
      omega (arith, is.each k (Ok there.0) there.1 there.2, own_op boot there.0 own, ap (λ (h : Units.Header). h.op) there.3);
  reached = elim is.reached [
    | inl same ↦ elim (cases_lt superblock mark) [ inl less ↦ inr (inl (omega arith)) | inr more ↦ inl (omega arith) ]
    | inr there ↦ let shown = entry_shown image replies there.0 there.1 shows there.2 in
        inr (inr (there.0, shown.0, shown.1, ap (λ (h : Units.Header). h.op) shown.2 ∙ there.3, ap (λ (h : Units.Header). h.boot) shown.2 ∙ there.4 ∙ sym boot_is))
  ];
}
