-- Each step answers as the theory's step.
use Rattle.{std.{proofs.Common.{◌≡◌, Bool, refl, sym, ◌∙◌, ap, subst, arith}, specs.Bool.{OnFalse}}, df_units.specs.Meaning.{content_of}}
use Rattle.{df_layout.specs.declared.damage.Class.TheVariants.{Stale}, df_replies.{specs.Answers.{AllAnswered}, proofs.Laws.{stored_found}}}
use Rattle.df_format.specs.{Copies.{content_with}, SuperRules.{IsSuper}, declared.superblock.SuperFields.{SuperFields}}
use Rattle.df_journal.{specs.{Scan.{entry}, Seen.{class_of}, Tail.{IsReached}}, proofs.Laws.{class_shown}}
use Rattle.{df_sessions.specs.Requests.{sessions_of}, df_stamps.specs.{Evidence.{IsComplete}, declared.counters.Counters.{Counters}}}
use Rattle.df_theory.specs.{Found.{IsReplies, NotBehind, NotLost}, Opens.{LacksReply}, Sessions.{Tracks}, Shape.{Shape}, Units.{Content, CopyPlace, PreparePlace, ReplyPlace, Units}, View.{Checkpoint}}
use Rattle.df_recovery.{specs.{Finding.{IsReadFrom, lowest_of}, Surveying.{EndsBehind}}, proofs.{FindingBounds.{any_base, any_is, any_shape, asked_on, boot_unspent, few_wait, image_of, not_above, shows_replies, shows_table, tracks_on}, FindingSteps.{at_place, below_spent, boot_is, bound_counts, content_same, counted, counts_bound, finds, is_base, opens_behind, opens_known, opens_lacking, opens_lost, opens_spent}}}
use Rattle.df_recovery.proofs.finding.find_state.Goals.{After-replies-stored}
use Rattle.df_recovery.proofs.finding.find_state.Goals as goal

pub returns-then-is_behind-clause-answer : goal.returns-then-is_behind-clause-answer
returns-then-is_behind-clause-answer c =
    at_place _ (CopyPlace (lowest_of c.args.found.now.chosen.members)) Stale c.behind_damage.result c.behind_damage.ensures
    (λ sh image b is.
    let content = content_same sh image b _ is c.fields-content.result.now c.fields-content.ensures.value in
    let counts = counted sh image b _ is c.count_rings.result c.count-seen.result c.count_rings.ensures.rings c.count-seen.ensures.rings
    c.count-seen.ensures.checkpoint c.count-seen.ensures.boot in
    opens_behind sh image b _ is ((c.is_behind.ensures.behind
    sh image b.content counts (boot_is sh image b _ is c.fields-content.result.now c.fields-content.ensures.value)
    (ap (λ (x : Content). x.sequence) content) (ap (λ (x : Content). x.op) content) is.slots_are).0 c.if-is_behind.true))
    (λ t scanned. refl)

pub returns-in-Err-clause-answer : goal.returns-in-Err-clause-answer
returns-in-Err-clause-answer c = at_place
    _ (PreparePlace c.in-Err.slot) (class_of (entry c.args.slots.now c.in-Err.slot).prepare) c.lost_damage.result c.lost_damage.ensures
    (λ sh image b is.
    let content = content_same sh image b _ is c.fields-content.result.now c.fields-content.ensures.value in
    let counts = counted sh image b _ is c.count_rings.result c.count-seen.result c.count_rings.ensures.rings c.count-seen.ensures.rings
    c.count-seen.ensures.checkpoint c.count-seen.ensures.boot in
    let early =
    (c.is_behind.ensures.none sh image b.content counts (boot_is sh image b _ is c.fields-content.result.now c.fields-content.ensures.value)
    (ap (λ (x : Content). x.sequence) content) (ap (λ (x : Content). x.op) content) is.slots_are).0 c.if-is_behind.false in
    opens_known sh image b _ is c.in-Err.slot early (c.in-Err.ensures.answer.blames sh image b is.tells
    (is_base sh image b _ is c.fields-content.result.now c.fields-content.ensures.value)))
    (λ t scanned. (class_shown c.args.layout.now t c.args.slots.now c.in-Err.slot scanned.slots c.in-Err.ensures.answer.below).1)

pub returns-then-is_lost-clause-answer : goal.returns-then-is_lost-clause-answer
returns-then-is_lost-clause-answer c = at_place _ (PreparePlace c.slot_of.result)
    (class_of (entry c.args.slots.now c.slot_of.result).prepare) c.lost_damage-then-is_lost.result c.lost_damage-then-is_lost.ensures
    (λ sh image b is.
    let content = content_same sh image b _ is c.fields-content.result.now c.fields-content.ensures.value in
    let counts = counted sh image b _ is c.count_rings.result c.count-seen.result c.count_rings.ensures.rings c.count-seen.ensures.rings
    c.count-seen.ensures.checkpoint c.count-seen.ensures.boot in
    let early =
    (c.is_behind.ensures.none sh image b.content counts (boot_is sh image b _ is c.fields-content.result.now c.fields-content.ensures.value)
    (ap (λ (x : Content). x.sequence) content) (ap (λ (x : Content). x.op) content) is.slots_are).0 c.if-is_behind.false in
    let found = c.in-Ok.ensures.answer sh image b is.tells
    (is_base sh image b _ is c.fields-content.result.now c.fields-content.ensures.value) in
    let bound = counts_bound sh image b _ is c.fields-content.result.now c.in-Ok.reach.tail.op c.bound_top.result c.count_rings.result
    c.count-seen.result c.fields-content.ensures.value c.bound_top.ensures c.count_rings.ensures.replies c.count-seen.ensures.top in
    let lost = (c.is_lost.ensures.lost image b.content bound (ap (λ (x : Content). x.head) content)).0 c.if-is_lost.true in
    opens_lost sh image b _ is c.in-Ok.reach c.find_known.new.sessions.sessions early found c.slot_of.result c.slot_of.ensures.value lost)
    (λ t scanned. (class_shown c.args.layout.now t c.args.slots.now c.slot_of.result scanned.slots c.slot_of.ensures.below).1)

-- where an op above the tail left no trace, what is known of each image that was read, once its replies are counted
module _ (c : After-replies-stored) (sh : Shape) (image : Units) (b : Checkpoint)
    (is : IsReadFrom sh image b
    (record {
      layout = c.args.layout.now;
      found = c.args.found.now;
      slots = c.args.slots.now;
      replies = c.args.replies.now;
      sessions = c.args.sessions.now.sessions;
    })) where
  content : b.content ≡ content_of (content_with c.fields-content.result.now)
  content = content_same sh image b _ is c.fields-content.result.now c.fields-content.ensures.value

  boot : b.content.boot ≡ c.fields-content.result.now.boot
  boot = boot_is sh image b _ is c.fields-content.result.now c.fields-content.ensures.value

  early : NotBehind sh image b.content
  early =
      let counts = counted sh image b _ is c.count_rings.result c.count-seen.result c.count_rings.ensures.rings c.count-seen.ensures.rings
      c.count-seen.ensures.checkpoint c.count-seen.ensures.boot in
      (c.is_behind.ensures.none sh image b.content counts boot (ap (λ (x : Content). x.sequence) content)
      (ap (λ (x : Content). x.op) content) is.slots_are).0 c.if-is_behind.false

  found : IsReached sh image b c.in-Ok.reach c.find_known.new.sessions.sessions
  found = c.in-Ok.ensures.answer sh image b is.tells (is_base sh image b _ is c.fields-content.result.now c.fields-content.ensures.value)

  kept : NotLost image b.content c.in-Ok.reach.tail.op
  kept = let bound = counts_bound sh image b _ is c.fields-content.result.now c.in-Ok.reach.tail.op c.bound_top.result c.count_rings.result
      c.count-seen.result c.fields-content.ensures.value c.bound_top.ensures c.count_rings.ensures.replies c.count-seen.ensures.top in
      (c.is_lost.ensures.none image b.content bound (ap (λ (x : Content). x.head) content)).0 c.if-is_lost.false

  number : IsReplies image b.content found.tail c.replies-stored.result
  number = c.replies-stored.ensures image b.content found.tail is.shows boot (ap (λ (x : Content). x.replies) content) (sym found.ends.mark)

  -- what is said of the fields is said of the content
  of_content : (P : Content → Type 0) → P (content_of (content_with c.fields-content.result.now)) → P b.content
  of_content P of = subst P (sym content) of

pub returns-in-Some-clause-answer : goal.returns-in-Some-clause-answer
returns-in-Some-clause-answer c = at_place _ (ReplyPlace c.in-Some.lacking.place) c.in-Some.lacking.class c.damage.result c.damage.ensures
    (λ sh image b is.
    let s = (goal.at.returns-in-Some-clause-answer c).After-replies-stored in
    opens_lacking sh image b _ is c.in-Ok.reach c.find_known.new.sessions.sessions (early s sh image b is) (found s sh image b is)
    c.replies-stored.result c.in-Some.lacking.place (kept s sh image b is) (number s sh image b is)
    (of_content s sh image b is (λ (x : Content). LacksReply image x (sessions_of c.find_known.new.sessions.sessions)
    c.replies-stored.result c.in-Some.lacking.place) (c.in-Some.ensures.lacks image is.shows)))
    (λ t scanned. c.in-Some.ensures.class c.args.layout.now c.args.slots.now.start.cluster t scanned.replies)

-- no step before the last refuses
pub returns-then-content-eq-GREATEST-clause-answer : goal.returns-then-content-eq-GREATEST-clause-answer
returns-then-content-eq-GREATEST-clause-answer c = λ sh image b is.
    let s = (goal.at.returns-then-content-eq-GREATEST-clause-answer c).After-replies-stored in
    opens_spent sh image b _ is c.in-Ok.reach c.find_known.new.sessions.sessions (early s sh image b is) (found s sh image b is)
    c.replies-stored.result (boot s sh image b is ∙ c.if-content-eq-GREATEST.true) stored_found (kept s sh image b is)
    (number s sh image b is)
    (of_content s sh image b is (λ (x : Content). AllAnswered image x (sessions_of c.find_known.new.sessions.sessions)
    c.replies-stored.result) (c.in-None.ensures.lacks image is.shows))

pub returns-else-content-eq-GREATEST-clause-answer : goal.returns-else-content-eq-GREATEST-clause-answer
returns-else-content-eq-GREATEST-clause-answer c = λ sh image b is.
    let s = (goal.at.returns-else-content-eq-GREATEST-clause-answer c).After-replies-stored in
    let below = below_spent sh image b _ is c.fields-content.result.now c.fields-content.ensures.value c.if-content-eq-GREATEST.false in
    finds sh image b _ is c.in-Ok.reach c.find_known.new.sessions.sessions (early s sh image b is) (found s sh image b is)
    c.replies-stored.result below stored_found (kept s sh image b is) (number s sh image b is)
    (of_content s sh image b is (λ (x : Content). AllAnswered image x (sessions_of c.find_known.new.sessions.sessions)
    c.replies-stored.result) (c.in-None.ensures.lacks image is.shows))

-- ---- the bounds, of an image that shows what the tables say

pub returns-else-content-eq-GREATEST-clause-tail : goal.returns-else-content-eq-GREATEST-clause-tail
returns-else-content-eq-GREATEST-clause-tail c = let slots = c.args.slots.now.slots in let f = c.fields-content.result.now in
    let super = subst IsSuper (sym c.fields-content.ensures.value) c.fields-content.ensures.usable.rules in
    let shape = any_shape c.args.layout.now in let image = image_of slots c.args.replies.now in
    let table = shows_table slots c.args.replies.now in let shows = shows_replies slots c.args.replies.now in
    let found = c.in-Ok.ensures.answer shape image (any_base f c.args.sessions.now.sessions)
    (record { table = c.requires.table; shows = table }) (any_is c.args.layout.now f c.args.sessions.now.sessions) in let number =
    c.replies-stored.ensures image (any_base f c.args.sessions.now.sessions).content found.tail shows refl refl (sym found.ends.mark) in
    let bound = bound_counts f.boot c.in-Ok.reach.tail.op c.bound_top.result slots c.args.replies.now c.count_rings.result
    c.count-seen.result c.bound_top.ensures c.count_rings.ensures.replies c.count-seen.ensures.top image table shows in
    let own : Counters = record c.count-seen.result { ring_op = c.bound_top.result } in
    let complete : IsComplete own f.head c.in-Ok.reach.tail.op = subst
    (λ (b : Bool). OnFalse b (IsComplete own f.head c.in-Ok.reach.tail.op)) c.if-is_lost.false c.is_lost.ensures.counters in
    let bounds = c.in-Ok.ensures.bounds in
    subst (λ (x : SuperFields). EndsBehind c.args.layout.now x (record { tail = c.in-Ok.reach.tail; replies = c.replies-stored.result }))
    c.fields-content.ensures.value (record {
      checksum = bounds.checksum;
      empty = bounds.start;
      from = bounds.from;
      within = omega (arith, bounds.order, bounds.within);
      most = omega (arith, bounds.order, bounds.most);
      order = not_above shape image f c.args.sessions.now.sessions c.find_known.new.sessions.sessions c.in-Ok.reach
          c.replies-stored.result super found number own bound.replies complete;
      few = few_wait shape
          image f c.args.sessions.now.sessions c.find_known.new.sessions.sessions c.in-Ok.reach c.replies-stored.result super found number;
      unspent = boot_unspent f super c.if-content-eq-GREATEST.false;
    })

pub returns-else-content-eq-GREATEST-clause-after : goal.returns-else-content-eq-GREATEST-clause-after
returns-else-content-eq-GREATEST-clause-after c = λ were. let slots = c.args.slots.now.slots in let f = c.fields-content.result.now in
    let super = subst IsSuper (sym c.fields-content.ensures.value) c.fields-content.ensures.usable.rules in
    let shape = any_shape c.args.layout.now in let image = image_of slots c.args.replies.now in
    let found = c.in-Ok.ensures.answer shape image (any_base f c.args.sessions.now.sessions)
    (record { table = c.requires.table; shows = shows_table slots c.args.replies.now })
    (any_is c.args.layout.now f c.args.sessions.now.sessions) in let number = c.replies-stored.ensures image
    (any_base f c.args.sessions.now.sessions).content found.tail (shows_replies slots c.args.replies.now) refl refl (sym found.ends.mark) in
    record {
      numbered = c.in-Ok.ensures.sessions.numbered were.numbered;
      asked = asked_on shape image f c.args.sessions.now.sessions
          c.find_known.new.sessions.sessions c.in-Ok.reach c.replies-stored.result super found number were.asked;
      tracks = tracks_on shape image f c.args.sessions.now.sessions c.find_known.new.sessions.sessions
          c.in-Ok.reach c.replies-stored.result super found number (rw (sym c.fields-content.ensures.value) at were.tracks);
    }
