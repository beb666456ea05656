-- The counters are the greatest numbers.
use Rattle.std.{proofs.{Common.{◌≡◌, ◌↔◌, inl, inr, ℕ, ◌+◌, ◌<◌, ◌≤◌, Bool, true, false, List, length, get_or, Option, Some, None, refl, sym, ◌∙◌, ap, subst, arith, max}, lemmas.Bool.{cases_lt}, lemmas.Option.{slice_get_cases, slice_get-get_or}}, specs.{Prelude.{Result, Ok, Err, IsTrue, IsFalse}, Bool.{OnFalse}, List.{slice_get}}}
use Rattle.{df_layout.specs.declared.damage.Class.{Class}, df_format.specs.declared.header.Header.{Header as FileHeader}}
use Rattle.df_stamps.specs.{declared.counters.Counters.{Counters}, Evidence.{IsBehind, IsComplete, IsLost, IsUpToDate}}
use Rattle.df_theory.specs.{Units.{AnyUnit, Content, Header, HeaderPlace, HeaderUnit, Message, PreparePlace, PrepareUnit, Units}, Shape.{Shape, slots}, Found.{NotBehind, NotLost}}
use Rattle.{df_units.specs.Meaning.{header_of}, df_group.proofs.Laws.{binds, own_within, within_own}}
use Rattle.df_buffers.specs.declared.slots.SlotSeen.{SlotSeen}
use Rattle.df_journal.specs.{Shows.{ShowsHeader, ShowsPrepare, ShowsTable}, Counts.{CountsAll, CountsBinding, CountsBound, CountsRings, RingsWithin, binding_op, in_boot, number_in, with_unit}}

-- ---- the rings

-- in the first k slots the one number of what the header ring shows, and the other one of what the ring of prepares shows, are at most n
abbrev pub SlotsWithin : (Header → ℕ) → (Header → ℕ) → ℕ → ℕ → List SlotSeen → Type 0
SlotsWithin number other n k table = (s : ℕ) (seen : SlotSeen)
    → s < k → slice_get table s ≡ Some seen → (number_in number seen.header ≤ n) × (number_in other seen.prepare ≤ n)

-- this is the greatest of them
abbrev pub IsTopOf : (Header → ℕ) → (Header → ℕ) → List SlotSeen → ℕ → ℕ → Type 0
IsTopOf number other table k top = (n : ℕ) → (top ≤ n) ↔ SlotsWithin number other n k table

-- of one number of both
abbrev pub IsTop : (Header → ℕ) → List SlotSeen → ℕ → ℕ → Type 0
IsTop number table k top = IsTopOf number number table k top

pub top_more : (number other : Header → ℕ) (table : List SlotSeen) (k top a b : ℕ) (seen : SlotSeen)
    → slice_get table k ≡ Some seen → a ≡ number_in number seen.header → b ≡ number_in other seen.prepare
    → IsTopOf number other table k top → IsTopOf number other table (k + 1) (max (max top a) b)
top_more number other table k top a b seen at is_a is_b is n = (to, from)
  where
    to : max (max top a) b ≤ n → SlotsWithin number other n (k + 1) table
    to le s there less found = elim (cases_lt s k) [
      | inl before ↦ (is n).0 (omega arith) s there before found
      | inr here ↦ let same : s ≡ k = omega arith in let both : Some there ≡ Some seen = sym found ∙ ap (slice_get table) same ∙ at in
          let one : seen ≡ there = cc in rw (← one) (omega arith, omega arith)
    ]

    from : SlotsWithin number other n (k + 1) table → max (max top a) b ≤ n
    from all = let before : top ≤ n = (is n).1 (λ s there less found. all s there (omega arith) found) in
        let here = all k seen (omega arith) at in omega (arith, before, here.0, here.1, is_a, is_b)

header_within : (number : Header → ℕ) (n : ℕ) (x : Option AnyUnit) (r : Result FileHeader Class) (h : Header)
    → ShowsHeader x r → x ≡ Some (HeaderUnit h) → number_in number r ≤ n → number h ≤ n
header_within number n x (Ok g) h is shown le = let both : Some (HeaderUnit h) ≡ Some (HeaderUnit (header_of g)) = sym shown ∙ is in
    let one : header_of g ≡ h = cc in subst (λ (k : Header). number k ≤ n) one le
header_within number n x (Err class) h none shown le = let both : None ≡ Some (HeaderUnit h) = sym none ∙ shown in absurd (cc)

prepare_within : (number : Header → ℕ) (n : ℕ) (x : Option AnyUnit) (r : Result FileHeader Class) (p : Message)
    → ShowsPrepare x r → x ≡ Some (PrepareUnit p) → number_in number r ≤ n → number p.header ≤ n
prepare_within number n x (Ok g) p (q, is, same) shown le = let both : Some (PrepareUnit p) ≡ Some (PrepareUnit q) = sym shown ∙ is in
    let one : q ≡ p = cc in subst (λ (k : Header). number k ≤ n) (sym same ∙ ap (λ (m : Message). m.header) one) le
prepare_within number n x (Err class) p none shown le = let both : None ≡ Some (PrepareUnit p) = sym none ∙ shown in absurd (cc)

within_header : (number : Header → ℕ) (n : ℕ) (x : Option AnyUnit) (r : Result FileHeader Class)
    → ShowsHeader x r → ((h : Header) → x ≡ Some (HeaderUnit h) → number h ≤ n) → number_in number r ≤ n
within_header number n x (Ok g) is all = all (header_of g) is
within_header number n x (Err class) is all = omega arith

within_prepare : (number : Header → ℕ) (n : ℕ) (x : Option AnyUnit) (r : Result FileHeader Class)
    → ShowsPrepare x r → ((p : Message) → x ≡ Some (PrepareUnit p) → number p.header ≤ n) → number_in number r ≤ n
within_prepare number n x (Ok g) (p, is, same) all = subst (λ (k : Header). number k ≤ n) same (all p is)
within_prepare number n x (Err class) is all = omega arith

module _ (image : Units) (table : List SlotSeen) (shows : ShowsTable image table) where
  pub both_within : (number other : Header → ℕ) (n : ℕ) → SlotsWithin number other n (length table) table
      ↔ (((s : ℕ) (h : Header) → image (HeaderPlace s) ≡ Some (HeaderUnit h) → number h ≤ n)
      × ((s : ℕ) (p : Message) → image (PreparePlace s) ≡ Some (PrepareUnit p) → other p.header ≤ n))
  both_within number other n = (
    λ all. (headers all, prepares all),
    λ both s seen less at. (
      within_header number n (image (HeaderPlace s)) seen.header (shows.each s seen at).header (both.0 s),
      within_prepare other n (image (PreparePlace s)) seen.prepare (shows.each s seen at).prepare (both.1 s),
    ),
  )
    where
      headers : SlotsWithin number other n (length table) table
          → (s : ℕ) (h : Header) → image (HeaderPlace s) ≡ Some (HeaderUnit h) → number h ≤ n
      headers all s h shown = elim (slice_get_cases table s).1 [
        | inl there ↦ header_within
            number n (image (HeaderPlace s)) there.0.header h (shows.each s there.0 there.2).header shown (all s there.0 there.1 there.2).0
        | inr past ↦ let both : None ≡ Some (HeaderUnit h) = sym (shows.no_header s past.0) ∙ shown in absurd (cc)
      ]

      prepares : SlotsWithin number other n (length table) table
          → (s : ℕ) (p : Message) → image (PreparePlace s) ≡ Some (PrepareUnit p) → other p.header ≤ n
      prepares all s p shown = elim (slice_get_cases table s).1 [
        | inl there ↦ prepare_within other
            n (image (PreparePlace s)) there.0.prepare p (shows.each s there.0 there.2).prepare shown (all s there.0 there.1 there.2).1
        | inr past ↦ let both : None ≡ Some (PrepareUnit p) = sym (shows.no_prepare s past.0) ∙ shown in absurd (cc)
      ]

  pub rings_within : (number : Header → ℕ) (n : ℕ) → SlotsWithin number number n (length table) table ↔ RingsWithin image number n
  rings_within number n = let both = both_within number number n in (
    λ all. record { header = (both.0 all).0; prepare = (both.0 all).1 },
    λ rings. both.1 (rings.header, rings.prepare),
  )

-- the counters of the first k slots
pub record CountsSlots (table : List SlotSeen) (k : ℕ) (seen : Counters) : Type 0 where
  pub ring_op : IsTop (λ h. h.op) table k seen.ring_op
  pub checkpoint : IsTop (λ h. h.checkpoint) table k seen.checkpoint
  pub boot : IsTop (λ h. h.boot) table k seen.boot

pub slots_more : (table : List SlotSeen) (k : ℕ) (seen : Counters) (slot : SlotSeen) → slice_get table k ≡ Some slot
    → CountsSlots table k seen → CountsSlots table (k + 1) (with_unit (with_unit seen slot.header) slot.prepare)
slots_more table k seen slot at is = record {
  ring_op = top_more (λ h. h.op) (λ h. h.op) table k seen.ring_op _ _ slot at refl refl is.ring_op;
  checkpoint = top_more (λ h. h.checkpoint) (λ h. h.checkpoint) table k seen.checkpoint _ _ slot at refl refl is.checkpoint;
  boot = top_more (λ h. h.boot) (λ h. h.boot) table k seen.boot _ _ slot at refl refl is.boot;
}

then_iff : {A B C : Type 0} → A ↔ B → B ↔ C → A ↔ C
then_iff one two = (λ a. two.0 (one.0 a), λ c. one.1 (two.1 c))

pub slots_count : (table : List SlotSeen) (seen : Counters) (image : Units)
    → CountsSlots table (length table) seen → ShowsTable image table → CountsRings image seen
slots_count table seen image is shows = record {
  ring_op = λ n. then_iff (is.ring_op n) (rings_within image table shows (λ h. h.op) n);
  checkpoint = λ n. then_iff (is.checkpoint n) (rings_within image table shows (λ h. h.checkpoint) n);
  boot = λ n. then_iff (is.boot n) (rings_within image table shows (λ h. h.boot) n);
}

-- ---- what they say of a state

pub up_to_date : (sh : Shape) (image : Units) (c : Content) (seen : Counters)
    → CountsAll image seen → IsUpToDate seen c.sequence c.op (slots sh) c.boot ↔ NotBehind sh image c
up_to_date sh image c seen counts = (
  λ is. let op = (counts.ring_op (c.op + slots sh)).0 is.ring_op in let sequence = (counts.checkpoint c.sequence).0 is.checkpoint in
      let boot = (counts.boot c.boot).0 is.boot in record {
        header = λ s h shown. (sequence.0.header s h shown, op.header s h shown, boot.0.header s h shown);
        prepare = λ s p shown. (sequence.0.prepare s p shown, op.prepare s p shown, boot.0.prepare s p shown);
        reply = λ k r shown. (sequence.1 k r shown, boot.1 k r shown);
      },
  λ is. record {
    checkpoint = (counts.checkpoint c.sequence).1 (record { header = λ s h shown. (is.header s h shown).0; prepare = λ s p shown. (is.prepare s p shown).0 }, λ k r shown. (is.reply k r shown).0);
    ring_op = (counts.ring_op (c.op + slots sh)).1
        (record { header = λ s h shown. (is.header s h shown).1; prepare = λ s p shown. (is.prepare s p shown).1 });
    boot = (counts.boot c.boot).1 (record { header = λ s h shown. (is.header s h shown).2; prepare = λ s p shown. (is.prepare s p shown).2 }, λ k r shown. (is.reply k r shown).1);
  },
)

pub complete : (image : Units) (c : Content) (head : ℕ) (seen : Counters)
    → CountsBound c.boot head image seen → IsComplete seen c.head head ↔ NotLost image c head
complete image c head seen counts = (
  λ is. let op = (counts.ring_op head).0 is.ring_op in let reply = (counts.replies head).0 is.reply_top in record {
    header = λ s h shown. own_within c.boot head (λ x. x.op) h (op.header s h shown);
    prepare = λ s p shown. (binds c.boot head p.header).0 (op.prepare s p shown);
    superblock = is.superblock;
    reply = λ k r shown own. (own_within c.boot head (λ x. x.op) r.header (reply.0 k r shown) own, own_within c.boot head (λ x. x.mark) r.header (reply.1 k r shown) own);
  },
  λ is. record {
    ring_op = (counts.ring_op head).1 (record { header = λ s h shown. within_own c.boot head (λ x. x.op) h (is.header s h shown); prepare = λ s p shown. (binds c.boot head p.header).1 (is.prepare s p shown) });
    reply_top = (counts.replies head).1 (λ k r shown. within_own c.boot head (λ x. x.op) r.header (λ own. (is.reply k r shown own).0), λ k r shown. within_own c.boot head (λ x. x.mark) r.header (λ own. (is.reply k r shown own).1));
    superblock = is.superblock;
  },
)

pub record Tells (b : Bool) (N : Type 0) : Type 0 where
  pub yes : IsTrue b ↔ (N → ⊥)
  pub no : IsFalse b ↔ N

tells : {Bad Good N : Type 0} (b : Bool) → IsTrue b ↔ Bad → OnFalse b Good → Good ↔ N → (Bad → Good → ⊥) → Tells b N
tells true found none iff apart = record { yes = (λ is n. apart (found.0 refl) (iff.1 n), λ no. refl); no = (λ is. absurd (cc), λ n. absurd (apart (found.0 refl) (iff.1 n))) }
tells false found none iff apart = record { yes = (λ is. absurd (cc), λ no. absurd (no (iff.0 none))); no = (λ is. iff.0 none, λ n. refl) }

pub behind_tells : (sh : Shape) (image : Units) (c : Content) (seen : Counters) (b : Bool) (boot sequence op slot_count : ℕ)
    → IsTrue b ↔ IsBehind seen sequence op slot_count boot → OnFalse b (IsUpToDate seen sequence op slot_count boot)
    → CountsAll image seen → c.boot ≡ boot → c.sequence ≡ sequence → c.op ≡ op → slots sh ≡ slot_count → Tells b (NotBehind sh image c)
behind_tells sh image c seen b boot sequence op slot_count found none counts boot_is sequence_is op_is slots_are =
    let own : IsUpToDate seen c.sequence c.op (slots sh) c.boot ↔ NotBehind sh image c = up_to_date sh image c seen counts in
    let booted = subst (λ (k : ℕ). IsUpToDate seen c.sequence c.op (slots sh) k ↔ NotBehind sh image c) boot_is own in
    let sloted = subst (λ (k : ℕ). IsUpToDate seen c.sequence c.op k boot ↔ NotBehind sh image c) slots_are booted in
    let opped = subst (λ (k : ℕ). IsUpToDate seen c.sequence k slot_count boot ↔ NotBehind sh image c) op_is sloted in
    let iff = subst (λ (k : ℕ). IsUpToDate seen k op slot_count boot ↔ NotBehind sh image c) sequence_is opped in
    tells b found none iff (λ bad good. elim bad [
      | inl later ↦ omega (arith, later, good.checkpoint)
      | inr (inl further) ↦ omega (arith, further, good.ring_op)
      | inr (inr booted) ↦ omega (arith, booted, good.boot)
    ])

pub lost_tells : (image : Units) (c : Content) (seen : Counters) (b : Bool) (superblock_head head : ℕ)
    → IsTrue b ↔ IsLost seen superblock_head head → OnFalse b (IsComplete seen superblock_head head)
    → CountsBound c.boot head image seen → c.head ≡ superblock_head → Tells b (NotLost image c head)
lost_tells image c seen b superblock_head head found none counts is =
    let iff : IsComplete seen superblock_head head ↔ NotLost image c head = rw (← is) (complete image c head seen counts) in
    tells b found none iff (λ bad good. elim bad [ inl ring ↦ omega (arith, ring, good.ring_op) | inr (inl reply) ↦ omega (arith, reply, good.reply_top) | inr (inr own) ↦ omega (arith, own, good.superblock) ])

-- ---- turns of the loops, by what is read at an index

pub slot_turn : (table : List SlotSeen) (k : ℕ) (seen one two : Counters) (d e : SlotSeen) → k < length table → one ≡ with_unit seen
    (get_or table k d).header → two ≡ with_unit one (get_or table k e).prepare → CountsSlots table k seen → CountsSlots table (k + 1) two
slot_turn table k seen one two d e within first second is =
    let at : slice_get table k ≡ Some (get_or table k d) = slice_get-get_or table k d within in
    let other : slice_get table k ≡ Some (get_or table k e) = slice_get-get_or table k e within in
    let both : Some (get_or table k e) ≡ Some (get_or table k d) = sym other ∙ at in let same : get_or table k e ≡ get_or table k d = cc in
    let counted : two ≡ with_unit (with_unit seen (get_or table k d).header) (get_or table k d).prepare =
    second ∙ ap (λ (x : SlotSeen). with_unit one x.prepare) same ∙ ap (λ (x : Counters). with_unit x (get_or table k d).prepare) first in
    subst (CountsSlots table (k + 1)) (sym counted) (slots_more table k seen (get_or table k d) at is)

-- and of what binds the head
pub bound_turn : (boot head : ℕ) (table : List SlotSeen) (k top one two : ℕ) (d e : SlotSeen) → k < length table → one ≡ max top (number_in
    (in_boot boot (λ h. h.op)) (get_or table k d).header) → two ≡ max one (number_in (binding_op boot head) (get_or table k e).prepare)
    → IsTopOf (in_boot boot (λ h. h.op)) (binding_op boot head) table k top
    → IsTopOf (in_boot boot (λ h. h.op)) (binding_op boot head) table (k + 1) two
bound_turn boot head table k top one two d e within first second is =
    let at : slice_get table k ≡ Some (get_or table k d) = slice_get-get_or table k d within in
    let other : slice_get table k ≡ Some (get_or table k e) = slice_get-get_or table k e within in
    let both : Some (get_or table k e) ≡ Some (get_or table k d) = sym other ∙ at in let same : get_or table k e ≡ get_or table k d = cc in
    let counted : two ≡ max (max top (number_in (in_boot boot (λ h. h.op)) (get_or table k d).header)) (number_in (binding_op boot head) (get_or table k d).prepare) = second ∙ ap (λ (x : SlotSeen). max one (number_in (binding_op boot head) x.prepare)) same ∙ ap (λ (x : ℕ). max x (number_in (binding_op boot head) (get_or table k d).prepare)) first in
    subst (IsTopOf (in_boot boot (λ h. h.op)) (binding_op boot head) table (k + 1)) (sym counted)
    (top_more (in_boot boot (λ h. h.op)) (binding_op boot head) table k top _ _ (get_or table k d) at refl refl is)

pub bound_count : (boot head : ℕ) (table : List SlotSeen) (top : ℕ) (image : Units) → IsTopOf
    (in_boot boot (λ h. h.op)) (binding_op boot head) table (length table) top → ShowsTable image table → CountsBinding boot head image top
bound_count boot head table top image is shows n =
    let both = both_within image table shows (in_boot boot (λ h. h.op)) (binding_op boot head) n in
    then_iff (is n) (λ all. record { header = (both.0 all).0; prepare = (both.0 all).1 }, λ rings. both.1 (rings.header, rings.prepare))
