-- Each step of what an open finds is the theory's.
use Rattle.std.{proofs.{Common.{inl, inr, ◌≡◌, ◌≢◌, ◌↔◌, ℕ, ◌+◌, ◌<◌, ◌≤◌, ◌%◌, ◌^◌, List, length, refl, sym, ◌∙◌, ap, subst, arith}, lemmas.Bool.{cases_lt}}, specs.{Prelude.{Result}, List.{slice_get}}}
use Rattle.{df_disk.specs.Told.{Told}, df_layout.specs.declared.{damage.Class.{Class}, layout.Layout.{Layout}}}
use Rattle.df_format.specs.{Copies.{content_with}, declared.header.Header.{Header}, declared.superblock.SuperFields.{SuperFields}}
use Rattle.{df_sessions.specs.{declared.session.Session.{Session}, Requests.{sessions_of}}, df_units.specs.Meaning.{content_of}}
use Rattle.{df_stamps.specs.declared.counters.Counters.{Counters}, df_model.specs.declared.errors.OpenError.{OpenError}}
use Rattle.df_theory.specs.Units
use Rattle.df_theory.specs.{Units.{Content, CopyPlace, PreparePlace, ReplyPlace}, Found.{IsReplies, NotBehind, NotLost}, Opens.{Behind, BootSpent as NoBoot, Damaged as Damages, LacksReply, Lost, Opens, ReachesReplies, ReachesTail, Refused, Spent, Unanswered, Unfit, Unknown}, Sessions.{sessions_after}, Shape.{Shape, slots}, View.{Checkpoint, View}}
use Rattle.df_theory.specs.Found
use Rattle.df_journal.specs.{Counts.{CountsAll, CountsBinding, CountsBound, CountsReplies, CountsRings, RepliesWithin, RingsWithin, in_boot}, Shows.{ShowsTable}, Tail.{IsReached}}
use Rattle.{df_group.specs.declared.{reach.Reach.{Reach}, groups.Tail.{Tail}}, df_buffers.specs.declared.slots.SlotSeen.{SlotSeen}}
use Rattle.df_replies.specs.{Answers.{AllAnswered, StoredAreFound, stored_by}, Shown.{ShowsReplies}}
use Rattle.df_recovery.specs.{Finding.{EachOpens, FindsView, IsReadFrom, IsRefusedOpen, IsScannedFrom, Read, damage, lowest_of}, Surveys.{class_there}, Known.{BlamesKnown, IsBaseOf}}

-- ---- the counters

-- the counters of the rings with those of the replies count both
counts_all : (image : Units.Units) (rings seen : Counters) → CountsRings image rings → seen.ring_op ≡ rings.ring_op
    → ((n : ℕ) → (seen.checkpoint ≤ n) ↔ ((rings.checkpoint ≤ n) × RepliesWithin image (λ h. h.checkpoint) n))
    → ((n : ℕ) → (seen.boot ≤ n) ↔ ((rings.boot ≤ n) × RepliesWithin image (λ h. h.boot) n)) → CountsAll image seen
counts_all image rings seen counts ring_op checkpoint boot = record {
  ring_op = λ n. rw (sym ring_op) at (counts.ring_op n);
  checkpoint = λ n. (
    λ le. let all = (checkpoint n).0 le in ((counts.checkpoint n).0 all.0, all.1),
    λ both. (checkpoint n).1 ((counts.checkpoint n).1 both.0, both.1),
  );
  boot = λ n. (
    λ le. let all = (boot n).0 le in ((counts.boot n).0 all.0, all.1),
    λ both. (boot n).1 ((counts.boot n).1 both.0, both.1),
  );
}

-- those of the rings count no reply
counts_replies : (boot : ℕ) (image : Units.Units) (rings seen : Counters) → rings.reply_top ≡ 0
    → ((n : ℕ) → (seen.reply_top ≤ n) ↔ ((rings.reply_top ≤ n) × RepliesWithin image (in_boot boot (λ h. h.op)) n
    × RepliesWithin image (in_boot boot (λ h. h.mark)) n)) → CountsReplies boot image seen
counts_replies boot image rings seen none top n = (
  λ le. let all = (top n).0 le in (all.1, all.2),
  λ both. (top n).1 (omega (arith, none), both.0, both.1),
)

-- the counters of this boot, with the greatest op that binds the head
pub bound_counts : (boot head ring_op : ℕ) (slots : List SlotSeen) (replies : List (Result Header Class)) (rings seen : Counters)
    → ((i : Units.Units) → ShowsTable i slots → CountsBinding boot head i ring_op) → rings.reply_top ≡ 0
    → ((i : Units.Units) (n : ℕ) → ShowsReplies i replies
    → (seen.reply_top ≤ n) ↔ ((rings.reply_top ≤ n) × RepliesWithin i (in_boot boot (λ h. h.op)) n
    × RepliesWithin i (in_boot boot (λ h. h.mark)) n)) → (image : Units.Units) → ShowsTable image slots → ShowsReplies image replies
    → CountsBound boot head image (record seen { ring_op = ring_op })
bound_counts boot head ring_op slots replies rings seen binds none top image table shows = record {
  ring_op = binds image table;
  replies = counts_replies boot image rings seen none (λ n. top image n shows);
}

-- ---- the steps

-- the refusal that names a place
pub at_place : (read : Read) (at : Units.Place) (class : Class) (e : OpenError) → e ≡ damage at class → EachOpens read (Damages at)
    → ((t : Told) → IsScannedFrom t read → class ≡ class_there read.layout read.slots.start.cluster t.shown at) → IsRefusedOpen read e
at_place read at class e is opens class_is =
    subst (IsRefusedOpen read) (sym is) (record { at = at; place_is = refl; opens = opens; class_is = class_is })

-- the slot of an op, by the layout and by the shape
slot_same : (sh : Shape) (layout : Layout) (op slot : ℕ) → slots sh ≡ layout.slots → slot ≡ op % layout.slots → slot ≡ op % slots sh
slot_same sh layout op slot same at = at ∙ ap (λ (n : ℕ). op % n) (sym same)

module _ (sh : Shape) (image : Units.Units) (b : Checkpoint) (read : Read) (is : IsReadFrom sh image b read) where
  -- the content has these fields
  pub content_same : (fields : SuperFields) → fields ≡ read.found.content → b.content ≡ content_of (content_with fields)
  content_same fields same = is.content_is ∙ ap (λ (f : SuperFields). content_of (content_with f)) (sym same)

  pub boot_is : (fields : SuperFields) → fields ≡ read.found.content → b.content.boot ≡ fields.boot
  boot_is fields same = ap (λ (c : Content). c.boot) (content_same fields same)

  -- a boot that isn't the greatest is below it
  pub below_spent : (fields : SuperFields) → fields ≡ read.found.content → fields.boot ≢ 2 ^ 62 → b.content.boot < 2 ^ 62
  below_spent fields same other = let most = is.readable.sound.tests.boot in
      elim (cases_lt b.content.boot (2 ^ 62)) [ inl less ↦ less | inr from ↦ absurd (other (omega (arith, most, from, boot_is fields same))) ]

  pub is_base : (fields : SuperFields) → fields ≡ read.found.content → IsBaseOf sh b read.layout fields read.sessions
  is_base fields same = record { slots_are = is.slots_are; clients_are = is.clients_are; content_is = content_same fields same; sessions_are = is.sessions_are }

  -- the counters are of the image
  pub counted : (rings seen : Counters) → ((i : Units.Units) → ShowsTable i read.slots.slots → CountsRings i rings)
      → seen.ring_op ≡ rings.ring_op → ((i : Units.Units) (n : ℕ) → ShowsReplies i read.replies
      → (seen.checkpoint ≤ n) ↔ ((rings.checkpoint ≤ n) × RepliesWithin i (λ h. h.checkpoint) n))
      → ((i : Units.Units) (n : ℕ) → ShowsReplies i read.replies → (seen.boot ≤ n) ↔ ((rings.boot ≤ n) × RepliesWithin i (λ h. h.boot) n))
      → CountsAll image seen
  counted rings seen counts ring_op checkpoint boot = counts_all image rings seen (counts image is.tells.shows) ring_op
      (λ n. checkpoint image n is.shows) (λ n. boot image n is.shows)

  -- and those of a boot are of the content's
  pub counts_bound : (fields : SuperFields) (head ring_op : ℕ) (rings seen : Counters) → fields ≡ read.found.content
      → ((i : Units.Units) → ShowsTable i read.slots.slots → CountsBinding fields.boot head i ring_op) → rings.reply_top ≡ 0
      → ((i : Units.Units) (n : ℕ) → ShowsReplies i read.replies
      → (seen.reply_top ≤ n) ↔ ((rings.reply_top ≤ n) × RepliesWithin i (in_boot fields.boot (λ h. h.op)) n
      × RepliesWithin i (in_boot fields.boot (λ h. h.mark)) n)) → CountsBound b.content.boot head image (record seen { ring_op = ring_op })
  counts_bound fields head ring_op rings seen same binds none top =
      subst (λ (boot : ℕ). CountsBound boot head image (record seen { ring_op = ring_op })) (sym (boot_is fields same))
      (bound_counts fields.boot head ring_op read.slots.slots read.replies rings seen binds none top image is.tells.shows is.shows)

  pub opens_behind : (NotBehind sh image b.content → ⊥) → Opens sh image (Refused (Damages (CopyPlace (lowest_of read.found.chosen.members))))
  opens_behind behind = Behind b (lowest_of read.found.chosen.members) is.readable behind is.lowest_is

  pub opens_known : (slot : ℕ)
      → NotBehind sh image b.content → BlamesKnown sh image b slot → Opens sh image (Refused (Damages (PreparePlace slot)))
  opens_known slot early (inl (a, at, lacks)) =
      subst (λ (s : ℕ). Opens sh image (Refused (Damages (PreparePlace s)))) (sym at) (Unknown b a is.readable early lacks)
  opens_known slot early (inr (front, at, unfit)) =
      subst (λ (s : ℕ). Opens sh image (Refused (Damages (PreparePlace s)))) (sym at) (Unfit b front is.readable early unfit)

  module _ (reach : Reach) (sessions : List Session) (early : NotBehind sh image b.content) (found : IsReached sh image b reach sessions) where
    abbrev end : Tail
    end = reach.tail

    reaches : ReachesTail sh image b found.tail
    reaches = record { readable = is.readable; not_behind = early; tail_is = found.is }

    kept : NotLost image b.content end.op → NotLost image b.content (b.content.op + length found.tail)
    kept = subst (NotLost image b.content) found.ends.op

    pub opens_lost : (slot : ℕ) → slot ≡ (reach.op + 1) % read.layout.slots
        → (NotLost image b.content end.op → ⊥) → Opens sh image (Refused (Damages (PreparePlace slot)))
    opens_lost slot at lost = let lost_there : NotLost image b.content (b.content.op + length found.tail)
        → ⊥ = λ not. lost (subst (NotLost image b.content) (sym found.ends.op) not) in
        let here : slot ≡ Found.slot_behind sh b found.tail found.more =
        slot_same sh read.layout (reach.op + 1) slot is.slots_are at ∙ ap (λ (o : ℕ). (o + 1) % slots sh) found.op_is in subst (λ (s : ℕ).
        Opens sh image (Refused (Damages (PreparePlace s)))) (sym here) (Lost b found.tail found.more reaches found.goes_on lost_there)

    replied : (n : ℕ) → NotLost image b.content end.op → IsReplies image b.content found.tail n → ReachesReplies sh image b found.tail n
    replied n not_lost replies = record { reaches = reaches; not_lost = kept not_lost; replies = replies }

    pub opens_lacking : (n k : ℕ) → NotLost image b.content end.op → IsReplies image b.content found.tail n
        → LacksReply image b.content (sessions_of sessions) n k → Opens sh image (Refused (Damages (ReplyPlace k)))
    opens_lacking n k not_lost replies lacks = Unanswered b found.tail n k (replied n not_lost replies) (rw found.ends.sessions_are at lacks)

    abbrev pub view_of : ℕ → View
    view_of n = record { checkpoint = b; tail = found.tail; replies = n; stored = λ k. stored_by n (slice_get (sessions_after b.parts.sessions found.tail) k) (image (ReplyPlace k)) }

    pub is_found : (n : ℕ) → StoredAreFound → NotLost image b.content end.op
        → IsReplies image b.content found.tail n → AllAnswered image b.content (sessions_of sessions) n → Found.IsFound sh image (view_of n)
    is_found n law not_lost replies all = record {
      chosen = is.readable.chosen;
      checkpoint = is.readable.sound;
      chain_shown = is.readable.shown;
      not_behind = early;
      tail = found.is;
      not_lost = kept not_lost;
      replies = replies;
      stored = law image (view_of n) (rw found.ends.sessions_are at all) (λ k. refl);
    }

    pub opens_spent : (n : ℕ) → b.content.boot ≡ 2 ^ 62 → StoredAreFound → NotLost image b.content end.op
        → IsReplies image b.content found.tail n → AllAnswered image b.content (sessions_of sessions) n → Opens sh image (Refused NoBoot)
    opens_spent n spent law not_lost replies all = Spent (view_of n) (is_found n law not_lost replies all) spent

    pub finds : (n : ℕ) → b.content.boot < 2 ^ 62 → StoredAreFound
        → NotLost image b.content end.op → IsReplies image b.content found.tail n → AllAnswered image b.content (sessions_of sessions) n
        → FindsView sh image b (record { tail = end; replies = n }) sessions
    finds n unspent law not_lost replies all = record {
      view = view_of n;
      checkpoint = refl;
      ends = found.ends;
      replies = refl;
      found = is_found n law not_lost replies all;
      unspent = unspent;
    }
