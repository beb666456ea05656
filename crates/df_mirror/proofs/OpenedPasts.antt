-- The replies that a history ever settled, seen from its newest view: each is no newer than it, and in the newest log none is later than
-- the last request of its session.
use Rattle.std.{proofs.{Common.{◌≡◌, ◌⊎◌, inl, inr, ℕ, ◌+◌, ◌-◌, ◌<◌, ◌≤◌, List, [], ◌∷◌, drop, Some, refl, sym, ◌∙◌, ap, subst, arith}, lemmas.Bool.{cases_lt}}, specs.List.{slice_get}}
use Rattle.df_theory.{specs.{Units.{AnyUnit, Content, IsAlone, Message, Place, ReplyPlace, ReplyUnit, Session, Units}, Sessions.{noted, sessions_after}, Shape.{Shape}, View.{View, boot_of, head, sequence, sessions}, Shows.{AgreesReply}, Holds.{Holds, Sound}, Next.{Append, AreInTurn, Boot, Finish, Next, Reply, Same}, UnitLog.{Stopped, Synced, UnitEvent, UnitLog, Wrote, add, now, settled, settled_of}, Chance.{InImages, InPool}, First.{AreMade}, Grown.{Begins, Grows, HasMade}}, proofs.Laws.{made_reply, next_grew, no_choice, noted_get, one_view, sessions-append, sessions-drop}}
use Rattle.df_history.{specs.{Awakened.{IsAwakened}, Histories.{Among, GrowsOn, InHistoryPool, IsBegunAnew, IsFirstLog, IsLived, IsSettled, all_settled}}, proofs.Laws.{choice_stays_law, synced_settled}}

-- ---- the images of one log

abbrev NoReplies : List Units → Type 0
NoReplies images = (k : ℕ) (x : AnyUnit) → InImages images (ReplyPlace k) x → ⊥

-- each has a view, next to the one before it, from one on before which no reply was shown
abbrev pub Rises : Shape → List Units → View → Type 0
Rises sh [] v = ⊥
Rises sh (image ∷ images) v = Holds sh image v × (NoReplies images ⊎ ((u : View) × Next u v × Rises sh images u))

begins_bare : (sh : Shape) (image : Units) (images : List Units) (v : View) → Begins sh image images v → NoReplies images
begins_bare sh image [] v begins k x at = at
begins_bare sh image (before ∷ images) v begins k x at = made_reply v.checkpoint.content (before ∷ images) begins.2 k x at

pub grows_rises : (sh : Shape) (images : List Units) (v : View) → Grows sh images v → Rises sh images v
grows_rises sh [] v grows = grows
grows_rises sh (image ∷ images) v (holds, inl begins) = (holds, inl (begins_bare sh image images v begins))
grows_rises sh (image ∷ images) v (holds, inr (history, (u, next, grows))) = (holds, inr (u, next.next, grows_rises sh images u grows))

pub later_rises : (sh : Shape) (rest images : List Units) (v : View) → GrowsOn sh rest images v → Rises sh images v
later_rises sh rest [] v grows = grows
later_rises sh rest (image ∷ []) v holds = (holds, inl (λ k x none. none))
later_rises sh rest (image ∷ before ∷ images) v (holds, history, (u, next, grows)) =
    (holds, inr (u, next.next, later_rises sh rest (before ∷ images) u grows))

pub rises_sound : (sh : Shape) (images : List Units) (v : View) → Rises sh images v → Sound sh v
rises_sound sh [] v rises = absurd rises
rises_sound sh (image ∷ images) v rises = rises.0.bears.sound

-- a reply that agrees with a view agrees with the next one
agrees_on : (sh : Shape) (u v : View) (r : Message) → Sound sh u → Next u v → AgreesReply u r → AgreesReply v r
agrees_on sh u v r sound next a = let g = next_grew sh u v sound next in
    let same : r.header.boot ≡ boot_of v → r.header.boot ≡ boot_of u = λ own. omega (arith, a.boot, g.boot) in
    record { op = λ own. omega (arith, a.op (same own), g.replies); mark = λ own. omega (arith, a.mark (same own), g.head); checkpoint = omega (arith, a.checkpoint, g.sequence); boot = omega (arith, a.boot, g.boot); alone = a.alone }

-- a reply that was settled agrees with the view
pub reply_agrees : (sh : Shape) (images : List Units) (v : View)
    → Rises sh images v → (k : ℕ) (x : AnyUnit) → InImages images (ReplyPlace k) x → (r : Message) × (x ≡ ReplyUnit r) × AgreesReply v r
reply_agrees sh [] v rises k x at = absurd rises
reply_agrees sh (image ∷ images) v rises k x (inl here) = rises.0.bears.agrees (ReplyPlace k) x here
reply_agrees sh (image ∷ images) v (holds, inl none) k x (inr there) = absurd (none k x there)
reply_agrees sh (image ∷ images) v (holds, inr (u, next, rises)) k x (inr there) = let a = reply_agrees sh images u rises k x there in
    (a.0, a.1, agrees_on sh u v a.0 (rises_sound sh images u rises) next a.2)

-- ---- sessions

-- a session after prepares is one from before, or its op is one of theirs
session_after : (ss : List Session) (op parent k : ℕ) (s : Session) (ps : List Message)
    → AreInTurn op parent ps → slice_get (sessions_after ss ps) k ≡ Some s → (slice_get ss k ≡ Some s) ⊎ (op ≤ s.op)
session_after ss op parent k s [] turn at = inl at
session_after ss op parent k s (p ∷ ps) turn at = elim (session_after (noted p.header ss) (op + 1) p.header.checksum k s ps turn.2 at) [
  | inl old ↦ elim (noted_get p.header ss k s old) [
    | inl is ↦ inr (omega (arith, turn.0, ap (λ (t : Session). t.op) is))
    | inr older ↦ inl older
  ]
  | inr new ↦ inr (omega arith)
]

-- a session of the next view is one of this view, or its op is above the head
session_before : (sh : Shape) (u v : View)
    → Next u v → (k : ℕ) (s : Session) → slice_get (sessions v) k ≡ Some s → (slice_get (sessions u) k ≡ Some s) ⊎ (head u < s.op)
session_before sh u _ Same k s at = inl at
session_before sh u _ (Append ps is) k s at = elim (session_after (sessions u) (head u
    + 1) _ k s ps is.turn (ap (λ (l : List Session). slice_get l k) (sym (sessions-append u.checkpoint.parts.sessions u.tail ps)) ∙ at)) [
      | inl old ↦ inl old
      | inr new ↦ inr (omega arith)
    ]
session_before sh u _ (Reply place r is) k s at = inl at
session_before sh u _ (Finish c is) k s at =
    let same : sessions_after c.parts.sessions (drop (c.content.op - u.checkpoint.content.op) u.tail) ≡ sessions u =
    ap (λ (l : List Session). sessions_after l (drop (c.content.op - u.checkpoint.content.op) u.tail)) is.sessions
    ∙ sessions-drop (c.content.op - u.checkpoint.content.op) u.checkpoint.parts.sessions u.tail in
    inl (ap (λ (l : List Session). slice_get l k) (sym same) ∙ at)
session_before sh u _ (Boot d is) k s at = inl at

-- what was settled in a slot is no later than the last request of the session there
pub reply_low : (sh : Shape) (images : List Units) (v : View)
    → Rises sh images v → (k : ℕ) (s : Session) → (slice_get (sessions v) k ≡ Some s) ⊎ (head v < s.op)
    → (r : Message) → InImages images (ReplyPlace k) (ReplyUnit r) → r.header.boot ≡ boot_of v → r.header.op ≤ s.op
reply_low sh [] v rises k s of r at own = absurd rises
reply_low sh (image ∷ images) v rises k s of r (inl here) own = let a = rises.0.bears.agrees (ReplyPlace k) (ReplyUnit r) here in
    let same : r ≡ a.0 = (let both : ReplyUnit r ≡ ReplyUnit a.0 = a.1 in cc) in let low : r.header.op ≤ v.replies =
    omega (arith, a.2.op (ap (λ (q : Message). q.header.boot) (sym same) ∙ own), ap (λ (q : Message). q.header.op) same) in elim of [
      | inl there ↦ elim (cases_lt v.replies s.op) [
        | inl waits ↦ omega arith
        | inr not ↦ let q = rises.0.bears.sound.stores k s there (omega arith) in let t = rises.0.bears.sound.answered k q.0 q.1 in
            let shown : image (ReplyPlace k) ≡ Some (ReplyUnit q.0) = rises.0.bears.needs (ReplyPlace k) (ReplyUnit q.0) (q.0, q.1, refl) in
            let one : r ≡ q.0 = (let both : Some (ReplyUnit r) ≡ Some (ReplyUnit q.0) = sym here ∙ shown in cc) in
            let session : t.0 ≡ s = (let both : Some t.0 ≡ Some s = sym t.1 ∙ there in cc) in
            omega (arith, ap (λ (m : Message). m.header.op) one, t.3.op, ap (λ (x : Session). x.op) session)
      ]
      | inr new ↦ omega (arith, rises.0.bears.sound.pipeline.0)
    ]
reply_low sh (image ∷ images) v (holds, inl none) k s of r (inr there) own = absurd (none k (ReplyUnit r) there)
reply_low sh (image ∷ images) v (holds, inr (u, next, rises)) k s of r (inr there) own = let sound = rises_sound sh images u rises in
    let g = next_grew sh u v sound next in let a = reply_agrees sh images u rises k (ReplyUnit r) there in
    let same : r ≡ a.0 = (let both : ReplyUnit r ≡ ReplyUnit a.0 = a.1 in cc) in
    reply_low sh images u rises k s (elim of [ inl at ↦ session_before sh u v next k s at | inr new ↦ inr (omega (arith, g.head)) ]) r there
    (omega (arith, own, a.2.boot, g.boot, ap (λ (q : Message). q.header.boot) same))

-- ---- the newest log

pub newest_holds : (sh : Shape) (log : UnitLog) (v : View) → IsSettled log → Rises sh (settled log) v → Holds sh (now log) v
newest_holds sh log v sync rises = (rw sync.newest at rises).0

pub not_made : (sh : Shape) (log : UnitLog) (c : Content) (v : View) → HasMade sh log c → IsSettled log → Holds sh (now log) v → ⊥
not_made sh log c v made sync holds = no_choice c (now log) sync.older (rw sync.newest at made.made) v.checkpoint.content holds.chosen.agreed

first_rises : (sh : Shape) (log : UnitLog) (v : View)
    → IsFirstLog sh log → IsSettled log → Holds sh (now log) v → (u : View) × Rises sh (settled log) u
first_rises sh log v (inl (inl grown, blank)) sync holds = (grown.0, grows_rises sh (settled log) grown.0 grown.1.grows)
first_rises sh log v (inl (inr made, blank)) sync holds = absurd (not_made sh log made.0 v made.1 sync holds)
first_rises sh log v (inr (w, u, first, starts, grown)) sync holds = (u, grows_rises sh (settled log) u grown.grows)

some_rises : (sh : Shape) (log : UnitLog) (logs : List UnitLog) (v : View)
    → IsLived sh (log ∷ logs) → IsSettled log → Holds sh (now log) v → (u : View) × Rises sh (settled log) u
some_rises sh log [] v lived sync holds = first_rises sh log v lived sync holds
some_rises sh log (before ∷ logs) v lived sync holds =
    (lived.0.newest, later_rises sh (all_settled (before ∷ logs)) (settled log) lived.0.newest lived.0.grows)

-- the newest log of a lived history rises to the view that it has now
pub newest_rises : (sh : Shape) (log : UnitLog) (logs : List UnitLog) (v : View)
    → IsLived sh (log ∷ logs) → IsSettled log → Holds sh (now log) v → Rises sh (settled log) v
newest_rises sh log logs v lived sync holds = let u = some_rises sh log logs v lived sync holds in
    subst (λ (w : View). Rises sh (settled log) w) (one_view sh (now log) u.0 v (newest_holds sh log u.0 sync u.1) holds) u.1

pub pooled_settled : (log : UnitLog) → IsSettled log → (place : Place) (x : AnyUnit) → InPool log place x → InImages (settled log) place x
pooled_settled log sync place x (inl old) = old
pooled_settled log sync place x (inr written) = absurd (sync.writes place x written)

-- ---- the logs before it

same_low : (w v : View) → w ≡ v → (boot_of w ≤ boot_of v) × (sequence w ≤ sequence v)
same_low w v same = (omega (arith, ap boot_of same), omega (arith, ap sequence same))

-- the views of a log that was restarted are no older than that of its start
pub among_low : (sh : Shape) (rest images : List Units) (v : View) → GrowsOn sh rest images v
    → (i : Units) → Among images i → (w : View) → Holds sh i w → (boot_of w ≤ boot_of v) × (sequence w ≤ sequence v)
among_low sh rest [] v grows i among w holds = absurd among
among_low sh rest (image ∷ []) v grows i (inl is) w holds = same_low w v (one_view sh image w v (rw is at holds) grows)
among_low sh rest (image ∷ []) v grows i (inr none) w holds = absurd none
among_low sh rest (image ∷ before ∷ images) v grows i (inl is) w holds = same_low w v (one_view sh image w v (rw is at holds) grows.0)
among_low sh rest (image ∷ before ∷ images) v grows i (inr there) w holds =
    let low = among_low sh rest (before ∷ images) grows.2.0 grows.2.2 i there w holds in let g = next_grew sh
    grows.2.0 v (rises_sound sh (before ∷ images) grows.2.0 (later_rises sh rest (before ∷ images) grows.2.0 grows.2.2)) grows.2.1.next in
    (omega (arith, low.0, g.boot), omega (arith, low.1, g.sequence))

among_start : (start : Units) (es : List UnitEvent) → Among (settled_of start es) start
among_start start [] = inl refl
among_start start ((Wrote touches stands after) ∷ es) = among_start start es
among_start start (Synced ∷ es) = inr (among_start start es)
among_start start ((Stopped after) ∷ es) = inr (among_start start es)

pub newest_is : (sh : Shape) (log before : UnitLog) (logs : List UnitLog) (v : View) (begun : IsBegunAnew sh log before logs)
    → IsSettled log → Holds sh (now log) v → begun.newest ≡ v
newest_is sh log before logs v begun sync holds = one_view sh (now log) begun.newest
    v (newest_holds sh log begun.newest sync (later_rises sh (all_settled (before ∷ logs)) (settled log) begun.newest begun.grows)) holds

begun_low : (sh : Shape) (log before : UnitLog) (logs : List UnitLog) (v : View) (begun : IsBegunAnew sh log before logs)
    → IsSettled log → Holds sh (now log) v → (boot_of begun.view ≤ boot_of v) × (sequence begun.view ≤ sequence v)
begun_low sh log before logs v begun sync holds = let low = among_low sh (all_settled (before ∷ logs))
    (settled log) begun.newest begun.grows log.start (among_start log.start log.events) begun.view begun.holds in
    let same = newest_is sh log before logs v begun sync holds in
    (omega (arith, low.0, ap boot_of same), omega (arith, low.1, ap sequence same))

-- a reply of no later checkpoint or boot
pub record IsOldReply (v : View) (r : Message) : Type 0 where
  pub checkpoint : r.header.checkpoint ≤ sequence v
  pub boot : r.header.boot ≤ boot_of v
  pub alone : IsAlone r.header

abbrev pub OldReply : View → AnyUnit → Type 0
OldReply v x = (r : Message) × (x ≡ ReplyUnit r) × IsOldReply v r

own_old : (sh : Shape) (log : UnitLog) (v : View)
    → Rises sh (settled log) v → IsSettled log → (k : ℕ) (x : AnyUnit) → InPool log (ReplyPlace k) x → OldReply v x
own_old sh log v rises sync k x pool = let a = reply_agrees sh (settled log) v rises k x (pooled_settled log sync (ReplyPlace k) x pool) in
    (a.0, a.1, record { checkpoint = a.2.checkpoint; boot = a.2.boot; alone = a.2.alone })

-- what is no newer than each view that the log before has is no newer than the start of the log that was begun after it
pub old_start : (sh : Shape) (log before : UnitLog) (logs : List UnitLog) (begun : IsBegunAnew sh log before logs)
    → IsLived sh (before ∷ logs) → (x : AnyUnit) → ((v : View) → Holds sh (now before) v → OldReply v x) → OldReply begun.view x
old_start sh log before logs begun lived x each =
    let from = choice_stays_law sh before logs log.start begun.view.checkpoint.content lived begun.start begun.holds.chosen in
    let old = each from.view from.holds in (
      old.0,
      old.1,
      record {
        checkpoint = omega (arith, old.2.checkpoint, ap (λ (c : Content). c.sequence) from.content);
        boot = omega (arith, old.2.boot, ap (λ (c : Content). c.boot) from.content);
        alone = old.2.alone;
      },
    )

-- whatever a lived history gave a reply slot is no newer than its view
pub old_replies : (sh : Shape) (log : UnitLog) (logs : List UnitLog) (v : View) → IsLived sh (log ∷ logs)
    → IsSettled log → Holds sh (now log) v → (k : ℕ) (x : AnyUnit) → InHistoryPool (log ∷ logs) (ReplyPlace k) x → OldReply v x
old_replies sh log logs v lived sync holds k x (inl own) = own_old sh log v (newest_rises sh log logs v lived sync holds) sync k x own
old_replies sh log [] v lived sync holds k x (inr none) = absurd none
old_replies sh log (before ∷ logs) v lived sync holds k x (inr older) = let old =
    old_start sh log before logs lived.0 lived.1 x (λ w had. old_replies sh before logs w lived.1 lived.0.start.settled_is had k x older) in
    let low = begun_low sh log before logs v lived.0 sync holds in
    (old.0, old.1, record { checkpoint = omega (arith, old.2.checkpoint, low.1); boot = omega (arith, old.2.boot, low.0); alone = old.2.alone })

newest_among : (sh : Shape) (rest images : List Units) (v : View) → GrowsOn sh rest images v → (i : Units) × Among images i × Holds sh i v
newest_among sh rest [] v grows = absurd grows
newest_among sh rest (image ∷ []) v holds = (image, inl refl, holds)
newest_among sh rest (image ∷ before ∷ images) v grows = (image, inl refl, grows.0)

-- where its boot was raised since it began, each reply of that boot is of its own pool, after a sync
pub raised_own : (sh : Shape) (log before : UnitLog) (logs : List UnitLog) (v : View)
    → IsAwakened sh log before logs → IsLived sh (add Synced log ∷ before ∷ logs) → Holds sh (now log) v
    → (k : ℕ) (r : Message) → r.header.boot ≡ boot_of v
    → InHistoryPool (add Synced log ∷ before ∷ logs) (ReplyPlace k) (ReplyUnit r) → InPool (add Synced log) (ReplyPlace k) (ReplyUnit r)
raised_own sh log before logs v raised lived holds k r own (inl pool) = pool
raised_own sh log before logs v raised lived holds k r own (inr older) =
    let old = old_start sh log before logs raised.begun lived.1 (ReplyUnit r) (λ w had.
    old_replies sh before logs w lived.1 raised.begun.start.settled_is had k (ReplyUnit r) older) in
    let same : r ≡ old.0 = (let both : ReplyUnit r ≡ ReplyUnit old.0 = old.1 in cc) in
    let was = newest_among sh (all_settled (before ∷ logs)) (settled log) raised.begun.newest raised.begun.grows in let low = among_low
    sh (all_settled (before ∷ logs)) (settled (add Synced log)) lived.0.newest lived.0.grows was.0 (inr was.1) raised.begun.newest was.2 in
    absurd (omega (arith, own, old.2.boot, raised.raised, low.0, ap (λ (q : Message). q.header.boot) same, ap boot_of (newest_is sh (add Synced log) before logs v lived.0 (synced_settled log) holds)))
