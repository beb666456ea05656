-- An image that shows each known unit holds the view that was left, where what else it shows was left so or is of what is recorded.
use Rattle.std.proofs.{Common.{◌≡◌, ◌⊎◌, inl, inr, ℕ, ◌+◌, ◌-◌, ◌%◌, ◌<◌, ◌≤◌, List, ◌∷◌, slice_index, Some, refl, sym, ◌∙◌, ap, arith}, lemmas.Bool.{cases_lt}, lemmas.Option.{same_Some}}
use Rattle.{df_format.specs.declared.kind.Kind.TheVariants.{Reply as AsReply}, df_units.specs.Wanted.{checksum_of}}
use Rattle.df_theory.{specs.{Units.{AnyUnit, BlockPlace, BlockUnit, Content, CopyPlace, HeaderPlace, Message, Place, PreparePlace, PrepareUnit, ReplyPlace, ReplyUnit, Units}, Copies.{IsChosen}, Shape.{Shape, slots}, View.{View, boot_of}, Shows.{Agrees, AgreesReply, Needs}, Holds.{Holds}, UnitLog.{UnitLog, now, settled}, Chance.{Distinct, InImages, InPool}, Found.{AreOfPlaces}}, proofs.Laws.{pool_pools, short_same}}
use Rattle.df_history.{specs.Histories.{IsLived, MayStart}, proofs.Laws.{choice_stays_law, history_pools}}
use Rattle.df_mirror.{specs.{Known.{AllShown, IsRecordedReply, ShowsTrailer}, Laws.{FoundHasNoneBack, LeftIsNoneBack, NoneCameBack}}, proofs.{OpenedKnown.{chain_shown, front_shown, reply_of}, OpenedMarks.{agrees_as, all_counted, same_reply}, OpenedPasts.{Rises, newest_rises, old_replies, pooled_settled, reply_low}, Logs.{known_there}}}

-- ---- what is shown of what was left

-- the slot of an op that the superblock names
abbrev pub IsNamedSlot : Shape → Content → ℕ → Type 0
IsNamedSlot sh c s = (op : ℕ) × (c.op < op) × (op ≤ c.pin) × (s ≡ op % slots sh)

-- a reply with the recorded checksum is shown, where none of this boot above those that are recorded was left
pub record IsRecordedAnew (was image : Units) (c : Content) (k : ℕ) : Type 0 where
  pub reply : Message
  pub shown : image (ReplyPlace k) ≡ Some (ReplyUnit reply)
  pub sum : reply.header.checksum ≡ slice_index c.reply_checksums k
  pub no_reply : (r : Message) → was (ReplyPlace k) ≡ Some (ReplyUnit r) → r.header.boot ≡ c.boot → r.header.op ≤ c.replies

-- Beside the superblock and the grid each place shows what was left there, or a unit was known there. Or a recorded reply is shown anew.
pub record ShowsLeft (sh : Shape) (was image : Units) (c : Content) : Type 0 where
  pub headers : (s : ℕ) → image (HeaderPlace s) ≡ was (HeaderPlace s)
  pub prepares : (s : ℕ) → (image (PreparePlace s) ≡ was (PreparePlace s)) ⊎ IsNamedSlot sh c s
  pub replies : (k : ℕ)
      → (image (ReplyPlace k) ≡ was (ReplyPlace k)) ⊎ IsRecordedAnew was image c k ⊎ ((sum : ℕ) × IsRecordedReply sh was c k sum)

-- each reply of the view's boot that is shown is of the log's own pool
abbrev pub ShowsOwn : UnitLog → Units → View → Type 0
ShowsOwn log image v = (k : ℕ) (r : Message)
    → image (ReplyPlace k) ≡ Some (ReplyUnit r) → r.header.boot ≡ boot_of v → InPool log (ReplyPlace k) (ReplyUnit r)

-- where an open finds the view none came back
pub found_has_none : FoundHasNoneBack
found_has_none sh image v found k r at boot above = (
  found.replies.reply k r at boot,
  (found.not_lost.reply k r at boot).1,
  λ q is. let s = found.stored.no_more k q is in let there = found.stored.shown k s.0 s.1 s.2 in
      let stored : there.0 ≡ q = same_Some _ _ (sym there.1 ∙ is) in
      let both : Some (ReplyUnit r) ≡ Some (ReplyUnit there.0) = sym at ∙ there.2 in let mine : r ≡ there.0 = cc in mine ∙ stored,
)

pub left_is_none : LeftIsNoneBack
left_is_none sh was image v found left k r at boot above = found_has_none sh was v found k r (left k r at boot above) boot above

-- ---- pools

module _ (sh : Shape) (second : sh.version ≡ 2) (log : UnitLog) (logs : List UnitLog)
    (v : View) (image : Units) (lived : IsLived sh (log ∷ logs)) (may : MayStart log logs image) (holds : Holds sh (now log) v)
    (places : AreOfPlaces sh image) (chosen : IsChosen image v.checkpoint.content)
    (all : AllShown sh image v.checkpoint.content) (left : ShowsLeft sh (now log) image v.checkpoint.content)
    (own : ShowsOwn log image v ⊎ NoneCameBack v image) where
  abbrev c : Content
  c = v.checkpoint.content

  abbrev was : Units
  was = now log

  one : (place : Place) (x y : AnyUnit) → was place ≡ Some x → image place ≡ Some y → Distinct x y
  one place x y at there = let settled_was : InImages (settled log) place x = rw may.settled_is.newest (inl at) in
      may.chance.distinct place place x y (inl (pool_pools log.start log.events place x (inl settled_was)))
      (history_pools (log ∷ logs) place y (may.chance.pooled place y there))

  rises : Rises sh (settled log) v
  rises = newest_rises sh log logs v lived may.settled_is holds

  -- ---- the trailer and the rings

  abbrev says : ShowsTrailer sh was c
  says = record {
    chain = v.checkpoint.chain;
    parts = v.checkpoint.parts;
    trailer = holds.bears.sound.checkpoint.trailer;
    shown = λ a b at. holds.bears.needs (BlockPlace a) (BlockUnit b) (b, at, refl);
  }

  named_same : (a : ℕ) → c.op < a → a ≤ c.pin → image (PreparePlace (a % sh.layout.slots)) ≡ was (PreparePlace (a % sh.layout.slots))
  named_same a above to = let sound = holds.bears.sound in let from : c.op ≤ c.pin = sound.checkpoint.tests.pin.0 in
      (front_shown sh was image c places all one (c.pin - c.op) sh.layout.clients (c.op
      + 1) c.op_checksum 0 v.checkpoint.parts.sessions v.tail sound.chain (omega (arith, sound.records.pin_to)) (omega arith) (omega arith)
      (λ some. sound.records.checksum) (λ p at.
      holds.bears.needs (PreparePlace (p.header.op % sh.layout.slots)) (PrepareUnit p) (p, at, refl, refl))).1 a (omega arith) (omega arith)

  prepares_same : (s : ℕ) → image (PreparePlace s) ≡ was (PreparePlace s)
  prepares_same s = elim (left.prepares s) [
    | inl same ↦ same
    | inr named ↦ rw (sym named.3) at (named_same named.0 named.1 named.2)
  ]

  -- ---- the replies

  -- a reply of this boot that is shown agrees with the view: it is of the newest log, or was left, or it is recorded
  own_agrees : (k : ℕ) (r : Message) → image (ReplyPlace k) ≡ Some (ReplyUnit r) → r.header.boot ≡ boot_of v → AgreesReply v r
  own_agrees k r at boot = elim own [
    | inl are ↦ agrees_as sh (settled log) v rises k r (pooled_settled log may.settled_is (ReplyPlace k) (ReplyUnit r) (are k r at boot))
    | inr none ↦ let pool = may.chance.pooled (ReplyPlace k) (ReplyUnit r) at in
        let old = old_replies sh log logs v lived may.settled_is holds k (ReplyUnit r) pool in elim (cases_lt c.replies r.header.op) [
          | inl above ↦ let is = none k r at boot above in rw (← (same_reply r old.0 old.1)) (record {
            op = λ own. omega (arith, is.0, ap (λ (q : Message). q.header.op) (same_reply r old.0 old.1));
            mark = λ own. omega (arith, is.1, ap (λ (q : Message). q.header.mark) (same_reply r old.0 old.1));
            checkpoint = old.2.checkpoint;
            boot = old.2.boot;
            alone = old.2.alone;
          })
          | inr not ↦ let low : r.header.op ≤ c.replies = omega arith in
              let mark = all_counted sh log logs v lived may.settled_is holds k r pool boot low in
              rw (← (same_reply r old.0 old.1)) (record {
                op = λ own. omega (arith, low, holds.bears.sound.replies_from.0, ap (λ (q : Message). q.header.op) (same_reply r old.0 old.1));
                mark = λ own. omega (arith, mark, holds.bears.sound.head_from, ap (λ (q : Message). q.header.mark) (same_reply r old.0 old.1));
                checkpoint = old.2.checkpoint;
                boot = old.2.boot;
                alone = old.2.alone;
              })
        ]
  ]

  -- where the stored reply is recorded, what is shown in its slot is
  own_recorded : (k : ℕ) (q : Message) → v.stored k ≡ Some q → q.header.op ≤ c.replies
      → (r : Message) → image (ReplyPlace k) ≡ Some (ReplyUnit r) → r.header.boot ≡ boot_of v → r.header.op ≤ c.replies
  own_recorded k q is low r at boot = elim own [
    | inl are ↦ let s = holds.bears.sound.answered k q is in
        omega (arith, reply_low sh (settled log) v rises k s.0 (inl s.1) r (pooled_settled log may.settled_is (ReplyPlace k) (ReplyUnit r) (are k r at boot)) boot, s.3.op, low)
    | inr none ↦ elim (cases_lt c.replies r.header.op) [
      | inl above ↦ let same = (none k r at boot above).2 q is in absurd (omega (arith, above, low, ap (λ (m : Message). m.header.op) same))
      | inr not ↦ omega arith
    ]
  ]

  -- what was recorded is recorded, where nothing later of this boot is shown
  still_recorded : (k sum : ℕ) → IsRecordedReply sh was c k sum → ((r : Message)
      → image (ReplyPlace k) ≡ Some (ReplyUnit r) → r.header.boot ≡ c.boot → r.header.op ≤ c.replies) → IsRecordedReply sh image c k sum
  still_recorded k sum is none = record {
    sessions = is.sessions;
    has = record {
      says = record { chain = is.has.says.chain; parts = is.has.says.parts; trailer = is.has.says.trailer; shown = chain_shown sh was image c places all one is.has.says };
      named = is.has.named;
      known = known_there sh.layout.slots was image (c.op + 1) c.pin_checksum is.has.named prepares_same is.has.known;
      count = is.has.count;
      sessions_are = is.has.sessions_are;
    };
    session = is.session;
    at = is.at;
    sum_is = is.sum_is;
    some = is.some;
    no_reply = none;
    no_prepare = λ s p shown. is.no_prepare s p (sym (prepares_same s) ∙ shown);
  }

  -- a stored reply is shown: it was left there, or it is the recorded one
  stored_shown : (k : ℕ) (q : Message) → v.stored k ≡ Some q → image (ReplyPlace k) ≡ Some (ReplyUnit q)
  stored_shown k q is = elim (left.replies k) [
    | inl same ↦ same ∙ had
    | inr (inl anew) ↦ recorded_shown anew.reply anew.shown anew.sum (anew.no_reply q had)
    | inr (inr (sum, known)) ↦ let low : q.header.op ≤ c.replies = not_above (known.no_reply q had) in
        let shown = all AsReply (ReplyPlace k) sum (still_recorded k sum known (own_recorded k q is low)) in
        let r = reply_of shown.unit shown.of_kind in
        recorded_shown r.0 (shown.shown ∙ ap Some r.1) (ap checksum_of (sym r.1) ∙ shown.sum_is ∙ known.sum_is) (λ boot. low)
  ]
    where
      had : was (ReplyPlace k) ≡ Some (ReplyUnit q)
      had = holds.bears.needs (ReplyPlace k) (ReplyUnit q) (q, is, refl)

      answered : c.answered ≡ c.replies + 1
      answered = (holds.bears.sound.checkpoint.tests.of.two (holds.bears.sound.checkpoint.tests.version ∙ second)).1

      not_above : (q.header.boot ≡ c.boot → q.header.op ≤ c.replies) → q.header.op ≤ c.replies
      not_above none = elim (cases_lt c.replies q.header.op) [
        | inl above ↦ none ((holds.bears.sound.records.stored k q is).new (omega (arith, answered)))
        | inr not ↦ omega arith
      ]

      recorded_shown : (r : Message) → image (ReplyPlace k) ≡ Some (ReplyUnit r) → r.header.checksum ≡ slice_index c.reply_checksums k
          → (q.header.boot ≡ c.boot → q.header.op ≤ c.replies) → image (ReplyPlace k) ≡ Some (ReplyUnit q)
      recorded_shown r at sum none = let named = (holds.bears.sound.records.stored k q is).old (omega (arith, not_above none, answered)) in
          let same : q ≡ r = one (ReplyPlace k) (ReplyUnit q) (ReplyUnit r) had at (sym named ∙ sym sum) in
          at ∙ ap (λ (m : Message). Some (ReplyUnit m)) (sym same)

  -- ---- all of it

  agrees : (place : Place) (x : AnyUnit) → image place ≡ Some x → Agrees sh v place x
  agrees (CopyPlace n) x at = let is = places (CopyPlace n) x at in
      (is.0, is.1, (choice_stays_law sh log logs image c lived may chosen).clean v refl n is.0 (at ∙ ap Some is.1))
  agrees (HeaderPlace s) x at = holds.bears.agrees (HeaderPlace s) x (sym (left.headers s) ∙ at)
  agrees (PreparePlace s) x at = holds.bears.agrees (PreparePlace s) x (sym (prepares_same s) ∙ at)
  agrees (ReplyPlace k) x at = let old = old_replies sh log logs v lived may.settled_is holds k x (may.chance.pooled (ReplyPlace k) x at) in
      let shown : image (ReplyPlace k) ≡ Some (ReplyUnit old.0) = at ∙ ap Some old.1 in (
        old.0,
        old.1,
        record {
          op = λ boot. (own_agrees k old.0 shown boot).op boot;
          mark = λ boot. (own_agrees k old.0 shown boot).mark boot;
          checkpoint = old.2.checkpoint;
          boot = old.2.boot;
          alone = old.2.alone;
        },
      )
  agrees (BlockPlace a) x at = tt

  needs : (place : Place) (x : AnyUnit) → Needs sh v place x → image place ≡ Some x
  needs (CopyPlace n) x need = absurd need
  needs (HeaderPlace s) x need = absurd need
  needs (PreparePlace s) x need = prepares_same s ∙ holds.bears.needs (PreparePlace s) x need
  needs (ReplyPlace k) x need = stored_shown k need.0 need.1 ∙ ap Some (sym need.2)
  needs (BlockPlace a) x need = chain_shown sh was image c places all one says a need.0 need.1 ∙ ap Some (sym need.2)

  -- the view that was left
  pub left_holds : Holds sh image v
  left_holds = record {
    bears = record { sound = holds.bears.sound; agrees = agrees; needs = needs };
    chosen = chosen;
    short = short_same sh was image v prepares_same holds.short;
  }
