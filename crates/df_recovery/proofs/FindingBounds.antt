-- How many prepares wait after a tail that is found: by an image that shows what the tables say.
use Rattle.std.{proofs.{Common.{◌≡◌, ◌≢◌, ◌^◌, inl, inr, ℕ, ◌+◌, ◌<◌, ◌≤◌, List, [], ◌∷◌, length, Option, Some, None, refl, sym, ap, subst, arith}, lemmas.Bool.{cases_lt}, lemmas.Option.{slice_get_past}}, specs.{Prelude.{Result, Ok, Err}, List.{slice_get}}}
use Rattle.{df_layout.specs.declared.{damage.Class.{Class}, layout.Layout.{Layout}}, df_buffers.specs.declared.slots.SlotSeen.{SlotSeen}}
use Rattle.df_format.specs.{Copies.{content_with}, SuperRules.{IsSuper}, declared.header.Header.{Header}, declared.superblock.SuperFields.{SuperFields}}
use Rattle.{df_sessions.specs.{declared.session.Session.{Session}, Requests.{sessions_of}}, df_recovery.specs.Known.{IsBaseOf}}
use Rattle.df_stamps.specs.{declared.counters.Counters.{Counters}, Evidence.{IsComplete}}
use Rattle.df_theory.specs.Units
use Rattle.df_theory.{specs.{Units.{AnyUnit, BlockPlace, CopyPlace, HeaderPlace, HeaderUnit, Message, PreparePlace, PrepareUnit, ReplyPlace, ReplyUnit}, Found.{IsReplies}, Sessions.{MayAsk, Tracks, noted, sessions_after}, Tails.{Chain, last_mark}, Shape.{Shape}, View.{Checkpoint}}, proofs.Laws.{tracks_chain, chain_near}}
use Rattle.{df_rooms.{specs.State.{AreAsked}, proofs.Laws.{asked_noted}}, df_group.specs.declared.{reach.Reach.{Reach}, groups.Tail.{Tail}}}
use Rattle.{df_units.specs.{Format.{shape_of}, Meaning.{content_of, header_of}}, df_replies.specs.Shown.{ShowsReplies, ShowsReply}}
use Rattle.df_journal.{specs.{Shows.{ShowsHeader, ShowsPrepare, ShowsTable}, Counts.{CountsReplies}, Tail.{IsReached}}, proofs.Laws.{own_within}}

-- ---- an image that shows what the tables say

abbrev header_in : Result Header Class → Option AnyUnit
header_in (Ok h) = Some (HeaderUnit (header_of h))
header_in (Err class) = None

abbrev prepare_in : Result Header Class → Option AnyUnit
prepare_in (Ok h) = Some (PrepareUnit (record { header = header_of h; body = [] }))
prepare_in (Err class) = None

abbrev reply_in : Option (Result Header Class) → Option AnyUnit
reply_in (Some (Ok h)) = Some (ReplyUnit (record { header = header_of h; body = [] }))
reply_in (Some (Err class)) = None
reply_in None = None

abbrev header_seen : Option SlotSeen → Option AnyUnit
header_seen (Some seen) = header_in seen.header
header_seen None = None

abbrev prepare_seen : Option SlotSeen → Option AnyUnit
prepare_seen (Some seen) = prepare_in seen.prepare
prepare_seen None = None

abbrev pub image_of : List SlotSeen → List (Result Header Class) → Units.Units
image_of slots replies (CopyPlace n) = None
image_of slots replies (HeaderPlace s) = header_seen (slice_get slots s)
image_of slots replies (PreparePlace s) = prepare_seen (slice_get slots s)
image_of slots replies (ReplyPlace k) = reply_in (slice_get replies k)
image_of slots replies (BlockPlace a) = None

shows_header : (r : Result Header Class) → ShowsHeader (header_in r) r
shows_header (Ok h) = refl
shows_header (Err class) = refl

shows_prepare : (r : Result Header Class) → ShowsPrepare (prepare_in r) r
shows_prepare (Ok h) = (record { header = header_of h; body = [] }, refl, refl)
shows_prepare (Err class) = refl

shows_reply : (r : Result Header Class) → ShowsReply (reply_in (Some r)) r
shows_reply (Ok h) = (record { header = header_of h; body = [] }, refl, refl)
shows_reply (Err class) = refl

pub shows_table : (slots : List SlotSeen) (replies : List (Result Header Class)) → ShowsTable (image_of slots replies) slots
shows_table slots replies = record {
  each = λ s seen at. record {
    header = rw at (shows_header seen.header);
    prepare = rw at (shows_prepare seen.prepare);
  };
  no_header = λ s past. ap header_seen (slice_get_past slots s past);
  no_prepare = λ s past. ap prepare_seen (slice_get_past slots s past);
}

pub shows_replies : (slots : List SlotSeen) (replies : List (Result Header Class)) → ShowsReplies (image_of slots replies) replies
shows_replies slots replies = record {
  each = λ k reply at. rw at (shows_reply reply);
  no_more = λ k past. ap reply_in (slice_get_past replies k past);
}

-- ---- and a file and a checkpoint for it

pub any_shape : Layout → Shape
any_shape layout = shape_of layout 1 (omega arith) (λ op text. None)

abbrev pub any_base : SuperFields → List Session → Checkpoint
any_base f ss = record { content = content_of (content_with f); chain = []; parts = record { root = []; sessions = sessions_of ss; references = λ a. None } }

pub any_is : (layout : Layout) (f : SuperFields) (ss : List Session) → IsBaseOf (any_shape layout) (any_base f ss) layout f ss
unfolding any_shape
any_is layout f ss = record { slots_are = refl; clients_are = refl; content_is = refl; sessions_are = refl }

-- ---- the bounds

mark_below : (clients op parent mark m : ℕ) (ss : List Units.Session) (ps : List Message)
    → Chain clients op parent mark ss ps → m < op → last_mark m ps < op + length ps
mark_below clients op parent mark m ss [] chain small = omega (arith, small)
mark_below clients op parent mark m ss (p ∷ ps) chain small = omega (arith, mark_below clients (op + 1) p.header.checksum p.header.mark p.header.mark (noted p.header ss) ps chain.1 (omega (arith, chain.0.mark_below)))

tail_near : (clients op parent top n : ℕ) (ss : List Units.Session) (ps : List Message)
    → Chain clients (op + 1) parent 0 ss ps → top ≡ op + length ps → last_mark 0 ps ≤ n → op ≤ n + 8 → top ≤ n + 8
tail_near clients op parent top n ss [] chain is mark base = omega (arith, is, base)
tail_near clients op parent top n ss (p ∷ ps) chain is mark base =
    omega (arith, is, mark, chain_near clients (op + 1) parent 0 0 ss (p ∷ ps) chain (omega arith))

-- ---- the sessions after the tail

may_ask_some : (room : ℕ) (h : Units.Header) (ss : List Units.Session) → MayAsk room h ss → 0 < h.request
may_ask_some room h [] may = omega (arith, may.0)
may_ask_some room h (s ∷ ss) (inl same) = omega (arith, same.1)
may_ask_some room h (s ∷ ss) (inr other) = may_ask_some other.1 h ss other.3

asked_chain : (clients op parent mark : ℕ) (ss : List Units.Session) (ps : List Message)
    → Chain clients op parent mark ss ps → AreAsked ss → AreAsked (sessions_after ss ps)
asked_chain clients op parent mark ss [] chain asked = asked
asked_chain clients op parent mark ss (p ∷ ps) chain asked = asked_chain clients (op + 1) p.header.checksum
    p.header.mark (noted p.header ss) ps chain.1 (asked_noted p.header ss asked (may_ask_some clients p.header ss chain.0.asks))

-- a usable superblock's boot that isn't the greatest can be raised
pub boot_unspent : (f : SuperFields) → IsSuper f → f.boot ≢ 2 ^ 62 → f.boot < 2 ^ 62
boot_unspent f is other = elim is.version [
  | inl first ↦ omega (arith, first.boot)
  | inr second ↦ elim (cases_lt f.boot (2 ^ 62)) [ inl less ↦ less | inr from ↦ absurd (other (omega (arith, second.boot, from))) ]
]

module _ (sh : Shape) (image : Units.Units) (f : SuperFields) (ss after : List Session) (reach : Reach) (n : ℕ) (rules : IsSuper f)
    (found : IsReached sh image (any_base f ss) reach after) (replies : IsReplies image (any_base f ss).content found.tail n) where
  abbrev end : Tail
  end = reach.tail

  pub few_wait : end.op ≤ n + 8
  few_wait = tail_near sh.layout.clients f.op (any_base f ss).content.op_checksum end.op n (sessions_of ss)
      found.tail found.is.chain found.ends.op replies.mark (omega (arith, rules.head.0, rules.replies.1, replies.superblock))

  pub not_above : (own : Counters) → CountsReplies f.boot image own → IsComplete own f.head end.op → n ≤ end.op
  not_above own counts kept = elim replies.reached [
    | inl base ↦ omega (arith, base, rules.replies.0, kept.superblock)
    | inr (inl mark) ↦ omega (arith, mark, found.ends.op, mark_below sh.layout.clients (f.op + 1) (any_base f ss).content.op_checksum 0 0 (sessions_of ss) found.tail found.is.chain (omega arith))
    | inr (inr reply) ↦ omega (arith, reply.3, own_within f.boot end.op (λ h. h.op) reply.1.header (((counts end.op).0 kept.reply_top).0 reply.0 reply.1 reply.2) reply.4)
  ]

  -- fewer ops wait where more replies are stored
  fewer : Tracks f.replies f.op (sessions_of ss) → Tracks n f.op (sessions_of ss)
  fewer tracks = record { below = tracks.below; apart = tracks.apart; pending = λ o above to. tracks.pending o (omega (arith, replies.superblock, above)) to }

  pub tracks_on : Tracks f.replies f.op (sessions_of ss) → Tracks n end.op (sessions_of after)
  tracks_on tracks = subst (λ (l : List Units.Session). Tracks n end.op l) (sym found.ends.sessions_are) (rw (sym found.ends.op) at
      (tracks_chain sh.layout.clients
      f.op (any_base f ss).content.op_checksum 0 n n (sessions_of ss) found.tail (fewer tracks) found.is.chain (omega arith) replies.mark))

  pub asked_on : AreAsked (sessions_of ss) → AreAsked (sessions_of after)
  asked_on asked = subst AreAsked (sym found.ends.sessions_are)
      (asked_chain sh.layout.clients (f.op + 1) (any_base f ss).content.op_checksum 0 (sessions_of ss) found.tail found.is.chain asked)
