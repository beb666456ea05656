-- Of a lived history each reply of the newest view's boot that its superblock records was stored below the head that the superblock
-- records.
use Rattle.std.proofs.Common.{◌≡◌, ◌⊎◌, inl, inr, ℕ, ◌<◌, ◌≤◌, List, [], ◌∷◌, ◌++◌, Some, None, refl, sym, ◌∙◌, ap, subst, arith}
use Rattle.df_theory.{specs.{Units.{AnyUnit, Content, Message, Place, ReplyPlace, ReplyUnit, Units}, Shape.{Shape}, View.{View, boot_of, sequence}, Shows.{AgreesReply}, Holds.{Holds, Sound}, Next.{Append, Boot, Finish, Next, Reply, Same}, UnitLog.{Stopped, Synced, UnitEvent, UnitLog, Wrote, now, settled, settled_of}, Chance.{InImages}, Grown.{AllInHistory, Grows}}, proofs.Laws.{made_reply, one_view, reply_here}}
use Rattle.df_history.{specs.Histories.{Among, GrowsOn, InHistoryPool, IsBegunAnew, IsFirstLog, IsLived, IsSettled, StaysBare, all_settled}, proofs.Laws.{choice_stays_law, images_either}}
use Rattle.df_mirror.proofs.OpenedPasts.{Rises, among_low, grows_rises, later_rises, newest_holds, newest_is, not_made, old_replies, old_start, pooled_settled, reply_agrees, rises_sound}

-- a reply of the content's boot that it records was stored below the head that it records
abbrev pub IsCounted : Content → Message → Type 0
IsCounted c r = r.header.boot ≡ c.boot → r.header.op ≤ c.replies → r.header.mark ≤ c.head

-- ---- from one view to the next

-- what the next content records had its reply before
recorded_low : (sh : Shape) (u v : View) → Sound sh u → Next u v → v.checkpoint.content.replies ≤ u.replies
recorded_low sh u _ sound Same = sound.replies_from.0
recorded_low sh u _ sound (Append ps is) = sound.replies_from.0
recorded_low sh u _ sound (Reply place r is) = sound.replies_from.0
recorded_low sh u _ sound (Finish c is) = omega (arith, is.replies)
recorded_low sh u _ sound (Boot d is) = omega (arith, is.replies)

-- of a reply that agrees with the view
own_step : (u v : View) → Next u v → (r : Message) → AgreesReply u r → IsCounted u.checkpoint.content r → IsCounted v.checkpoint.content r
own_step u _ Same r a counted = counted
own_step u _ (Append ps is) r a counted = counted
own_step u _ (Reply place q is) r a counted = counted
own_step u _ (Finish c is) r a counted = λ own low. omega (arith, a.mark (omega (arith, own, is.boot)), is.head)
own_step u _ (Boot d is) r a counted = λ own low. absurd (omega (arith, own, a.boot, is.boot))

-- of one from before this log began: no checkpoint is finished until the boot is raised
old_step : (u v : View) (b : ℕ) → Next u v → b ≤ boot_of u → (boot_of u ≡ b → sequence v ≡ sequence u)
    → (r : Message) → r.header.boot ≤ b → IsCounted u.checkpoint.content r → IsCounted v.checkpoint.content r
old_step u _ b Same from same r low counted = counted
old_step u _ b (Append ps is) from same r low counted = counted
old_step u _ b (Reply place q is) from same r low counted = counted
old_step u _ b (Finish c is) from same r low counted =
    λ own below. absurd (omega (arith, same (omega (arith, own, is.boot, low, from)), is.sequence))
old_step u _ b (Boot d is) from same r low counted = λ own below. absurd (omega (arith, own, is.boot, low, from))

-- of a stored reply: it was stored before, or its op is above all that are recorded
stored_step : (sh : Shape) (u v : View) → Sound sh u → Next u v → (k : ℕ) (r : Message)
    → v.stored k ≡ Some r → (u.stored k ≡ Some r → IsCounted v.checkpoint.content r) → IsCounted v.checkpoint.content r
stored_step sh u v sound next k r at old = elim (reply_here u v k r next at) [
  | inl was ↦ old was
  | inr new ↦ λ own below. absurd (omega (arith, below, recorded_low sh u v sound next, new.4))
]

-- ---- where a log begins

-- the oldest of the images
abbrev EndsAt : List Units → Units → Type 0
EndsAt [] start = ⊥
EndsAt (image ∷ []) start = image ≡ start
EndsAt (image ∷ before ∷ images) start = EndsAt (before ∷ images) start

ends_more : (image start : Units) (images : List Units) → EndsAt images start → EndsAt (image ∷ images) start
ends_more image start [] ends = absurd ends
ends_more image start (before ∷ images) ends = ends

ends_settled : (start : Units) (es : List UnitEvent) → EndsAt (settled_of start es) start
ends_settled start [] = refl
ends_settled start ((Wrote touches stands after) ∷ es) = ends_settled start es
ends_settled start (Synced ∷ es) = ends_more _ start (settled_of start es) (ends_settled start es)
ends_settled start ((Stopped after) ∷ es) = ends_more after start (settled_of start es) (ends_settled start es)

settled_pooled : (logs : List UnitLog) (place : Place) (x : AnyUnit) → InImages (all_settled logs) place x → InHistoryPool logs place x
settled_pooled [] place x at = at
settled_pooled (log ∷ logs) place x at = elim (images_either
    (settled log) (all_settled logs) place x at) [ inl own ↦ inl (inl own) | inr older ↦ inr (settled_pooled logs place x older) ]

pub same_reply : (r q : Message) → ReplyUnit r ≡ ReplyUnit q → q ≡ r
same_reply r q both = (let two : ReplyUnit r ≡ ReplyUnit q = both in cc)

pub agrees_as : (sh : Shape) (images : List Units) (v : View)
    → Rises sh images v → (k : ℕ) (r : Message) → InImages images (ReplyPlace k) (ReplyUnit r) → AgreesReply v r
agrees_as sh images v rises k r at = let a = reply_agrees sh images v rises k (ReplyUnit r) at in
    subst (λ (q : Message). AgreesReply v q) (same_reply r a.0 a.1) a.2

-- ---- the first log

-- each reply that the start shows is of an earlier boot
abbrev AreEarlier : Shape → Units → Type 0
AreEarlier sh start = (k : ℕ) (r : Message)
    → start (ReplyPlace k) ≡ Some (ReplyUnit r) → (w : View) → Holds sh start w → r.header.boot < boot_of w

-- of an image of a log: what it shows was shown before, or is stored in its view
newest_counted : (sh : Shape) (image before : Units) (images rest : List Units) (u v : View)
    → Rises sh (before ∷ images) u → Next u v → AllInHistory rest image v → (k : ℕ) (r : Message)
    → (InImages rest (ReplyPlace k) (ReplyUnit r) → IsCounted v.checkpoint.content r) → (InImages (before ∷ images) (ReplyPlace k)
    (ReplyUnit r) → IsCounted v.checkpoint.content r) → image (ReplyPlace k) ≡ Some (ReplyUnit r) → IsCounted v.checkpoint.content r
newest_counted sh image before images rest u v rises next history k r older shown here = elim (history (ReplyPlace k) (ReplyUnit r) here) [
  | inl (inl old) ↦ older old
  | inl (inr of) ↦ stored_step sh u v (rises_sound sh (before ∷ images) u rises) next k r (of.2 ∙ ap Some (same_reply r of.0 of.1)) (λ was.
      shown (inl (rises.0.bears.needs (ReplyPlace k) (ReplyUnit r) (r, was, refl))))
  | inr none ↦ absurd none
]

first_counted : (sh : Shape) (start : Units) → AreEarlier sh start → (images : List Units) (v : View) → Grows sh images v
    → EndsAt images start → (k : ℕ) (r : Message) → InImages images (ReplyPlace k) (ReplyUnit r) → IsCounted v.checkpoint.content r
first_counted sh start earlier [] v grows ends k r at = absurd at
first_counted sh start earlier (image ∷ []) v (holds, inl begins) ends k r (inl here) =
    λ own low. absurd (omega (arith, own, earlier k r (ap (λ (i : Units). i (ReplyPlace k)) (sym ends) ∙ here) v (rw ends at holds)))
first_counted sh start earlier (image ∷ []) v (holds, inl begins) ends k r (inr none) = absurd none
first_counted sh start earlier (image ∷ []) v (holds, inr (history, (u, goes, grows))) ends k r at = absurd grows
first_counted sh start earlier (image ∷ before ∷ images) v (holds, inl begins) ends k r (inl here) =
    absurd (begins.1 (ReplyPlace k) (ReplyUnit r) here)
first_counted sh start earlier (image ∷ before ∷ images) v (holds, inl begins) ends k r (inr there) =
    absurd (made_reply v.checkpoint.content (before ∷ images) begins.2 k (ReplyUnit r) there)
first_counted sh start earlier (image ∷ before ∷ images) v (holds, inr (history, (u, goes, grows))) ends k r at =
    let rises = grows_rises sh (before ∷ images) u grows in
    let older : InImages (before ∷ images) (ReplyPlace k) (ReplyUnit r) → IsCounted v.checkpoint.content r = λ there. own_step u v goes.next
    r (agrees_as sh (before ∷ images) u rises k r there) (first_counted sh start earlier (before ∷ images) u grows ends k r there) in
    elim at [ inr there ↦ older there | inl here ↦ newest_counted sh image before images (before ∷ images) u v rises goes.next history k r older older here ]

-- ---- a later log

among_end : (images : List Units) (start : Units) → EndsAt images start → Among images start
among_end [] start ends = absurd ends
among_end (image ∷ []) start ends = inl (sym ends)
among_end (image ∷ before ∷ images) start ends = inr (among_end (before ∷ images) start ends)

module _ (sh : Shape) (log last : UnitLog) (logs : List UnitLog) (begun : IsBegunAnew sh log last logs) (lived : IsLived sh (last ∷ logs))
    (counted_last : (w : View) → Holds sh (now last) w → (k : ℕ) (r : Message) → InHistoryPool (last
    ∷ logs) (ReplyPlace k) (ReplyUnit r) → IsCounted w.checkpoint.content r) where
  abbrev WasThere : ℕ → Message → Type 0
  WasThere k r = InHistoryPool (last ∷ logs) (ReplyPlace k) (ReplyUnit r)

  old_boot : (k : ℕ) (r : Message) → WasThere k r → r.header.boot ≤ boot_of begun.view
  old_boot k r pool = let old = old_start sh log last logs begun lived (ReplyUnit r) (λ w had.
      old_replies sh last logs w lived begun.start.settled_is had k (ReplyUnit r) pool) in
      omega (arith, old.2.boot, ap (λ (q : Message). q.header.boot) (same_reply r old.0 old.1))

  at_start : (v : View) → Holds sh log.start v → (k : ℕ) (r : Message) → WasThere k r → IsCounted v.checkpoint.content r
  at_start v holds k r pool = let from = choice_stays_law sh last logs log.start v.checkpoint.content lived begun.start holds.chosen in
      subst (λ (c : Content). IsCounted c r) (sym from.content) (counted_last from.view from.holds k r pool)

  later_counted : (images : List Units) (v : View)
      → GrowsOn sh (all_settled (last ∷ logs)) images v → StaysBare sh (boot_of begun.view) images → EndsAt images log.start
      → (k : ℕ) (r : Message) → InImages images (ReplyPlace k) (ReplyUnit r) ⊎ WasThere k r → IsCounted v.checkpoint.content r
  later_counted [] v grows stays ends k r at = absurd grows
  later_counted (image ∷ []) v holds stays ends k r at = at_start v (rw ends at holds) k r (elim at [
    | inl (inl here) ↦ begun.start.chance.pooled (ReplyPlace k) (ReplyUnit r) (ap (λ (i : Units). i (ReplyPlace k)) (sym ends) ∙ here)
    | inl (inr none) ↦ absurd none
    | inr was ↦ was
  ])
  later_counted (image ∷ before ∷ images) v (holds, history, (u, goes, grows)) stays ends k r at =
      let rises = later_rises sh (all_settled (last ∷ logs)) (before ∷ images) u grows in let from = among_low sh
      (all_settled (last ∷ logs)) (before ∷ images) u grows log.start (among_end (before ∷ images) log.start ends) begun.view begun.holds in
      let older : InImages (before ∷ images) (ReplyPlace k) (ReplyUnit r) → IsCounted v.checkpoint.content r = λ there. own_step u v goes.next r (agrees_as sh (before ∷ images) u rises k r there) (later_counted (before ∷ images) u grows stays.1 ends k r (inl there)) in
      let elder : WasThere k r → IsCounted v.checkpoint.content r =
      λ was. old_step u v (boot_of begun.view) goes.next from.0 (λ boot. (stays.0 u v rises.0 holds boot).content.sequence)
      r (old_boot k r was) (later_counted (before ∷ images) u grows stays.1 ends k r (inr was)) in
      let settled_before : InImages ((before ∷ images) ++ all_settled (last ∷ logs)) (ReplyPlace k) (ReplyUnit r)
      → IsCounted v.checkpoint.content r =
      λ old. elim (images_either (before ∷ images) (all_settled (last ∷ logs)) (ReplyPlace k)
      (ReplyUnit r) old) [ inl there ↦ older there | inr was ↦ elder (settled_pooled (last ∷ logs) (ReplyPlace k) (ReplyUnit r) was) ] in
      elim at [
        | inr was ↦ elder was
        | inl (inr there) ↦ older there
        | inl (inl here) ↦ newest_counted sh
            image before images ((before ∷ images) ++ all_settled (last ∷ logs)) u v rises goes.next history k r settled_before older here
      ]

-- ---- any of them

first_log_counted : (sh : Shape) (log : UnitLog) (v : View) → IsFirstLog sh log → IsSettled log
    → Holds sh (now log) v → (k : ℕ) (r : Message) → InImages (settled log) (ReplyPlace k) (ReplyUnit r) → IsCounted v.checkpoint.content r
first_log_counted sh log v (inl (inl grown, blank)) sync holds k r at = subst (λ (w : View). IsCounted w.checkpoint.content r)
    (one_view sh (now log) grown.0 v (newest_holds sh log grown.0 sync (grows_rises sh (settled log) grown.0 grown.1.grows)) holds)
    (first_counted sh log.start (λ j q shown w had. absurd (let both : None ≡ Some (ReplyUnit q) = sym (blank (ReplyPlace j)) ∙ shown in cc)) (settled log) grown.0 grown.1.grows (ends_settled log.start log.events) k r at)
first_log_counted sh log v (inl (inr made, blank)) sync holds k r at = absurd (not_made sh log made.0 v made.1 sync holds)
first_log_counted sh log v (inr (w, u, first, starts, grown)) sync holds k r at = subst (λ (x : View). IsCounted x.checkpoint.content r)
    (one_view sh (now log) u v (newest_holds sh log u sync (grows_rises sh (settled log) u grown.grows)) holds)
    (first_counted sh log.start (λ j q shown x had. omega (arith, starts.replies j q (inl shown), ap boot_of (one_view sh log.start w x first had))) (settled log) u grown.grows (ends_settled log.start log.events) k r at)

-- of a lived history
pub all_counted : (sh : Shape) (log : UnitLog) (logs : List UnitLog) (v : View) → IsLived sh (log ∷ logs) → IsSettled log → Holds
    sh (now log) v → (k : ℕ) (r : Message) → InHistoryPool (log ∷ logs) (ReplyPlace k) (ReplyUnit r) → IsCounted v.checkpoint.content r
all_counted sh log [] v lived sync holds k r (inl own) =
    first_log_counted sh log v lived sync holds k r (pooled_settled log sync (ReplyPlace k) (ReplyUnit r) own)
all_counted sh log [] v lived sync holds k r (inr none) = absurd none
all_counted sh log (before ∷ logs) v lived sync holds k r pool = let begun = lived.0 in
    rw (newest_is sh log before logs v begun sync holds) at
    (later_counted sh log before logs begun lived.1 (λ w had j q at. all_counted sh before logs w lived.1 begun.start.settled_is had j q at)
    (settled log) begun.newest begun.grows begun.stays (ends_settled log.start log.events) k r (elim pool [
      | inl own ↦ inl (pooled_settled log sync (ReplyPlace k) (ReplyUnit r) own)
      | inr older ↦ inr older
    ]))
