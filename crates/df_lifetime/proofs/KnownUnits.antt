-- Where an open finds a view, with each block that it references, no unit that is known lacks.
use Rattle.std.{proofs.{Common.{◌≡◌, inl, inr, ℕ, zero, suc, ◌+◌, ◌-◌, ◌%◌, ◌^◌, ◌==◌, ◌<◌, ◌≤◌, Bool, true, false, if◌then◌else◌, List, [], ◌∷◌, drop, length, take, Some, refl, sym, ◌∙◌, ap, arith}, lemmas.Bool.{cases_lt}, lemmas.Bool.Decides.{nat_tests}, lemmas.List.{length-take}, lemmas.Option.{same_Some}}, specs.List.{slice_get}}
use Rattle.{df_format.specs.declared.kind.Kind.{Kind}, df_lifetime.specs.Mirrored.{RecordsReplies}}
use Rattle.df_format.specs.declared.kind.Kind.TheVariants as kinds
use Rattle.df_theory.{specs.{Found.{IsFound}, Holds.{Stands}, Opens.{AreKnown, Found, IsReadable, IsUsableSuperblock, OpenAnswer, Opens, ReadsTo, Refused, BootSpent, Damaged, named_by}, Opens.Opens.{LacksBlock, Opened, Spent, Unknown}, Sessions.{noted, session_of_header, sessions_after}, Shape.{Shape, slots}, Tails.{Chain, In, last_checksum}, Trailer.{InChain, Links, Says}, Units.{Block, BlockPlace, BlockUnit, Content, Header, Message, Parts, Place, PreparePlace, PrepareUnit, ReplyPlace, ReplyUnit, Session, Units}, View.{View, boot_of, sessions}}, proofs.Laws.{chain_ops, in_dropped, known_one, noted_get, one_answer_law, same_says, sessions-drop, take_boot}}
use Rattle.df_mirror.specs.Known.{IsKnownAt, IsNamedPrepare, IsRecordedReply, IsReferencedBlock, IsShownAs, ShowsTrailer}

-- ---- chains

-- two chains that an image shows from one address on are one
one_chain : (image : Units) (room : ℕ) (c : Content) (xs ys : List (ℕ × Block)) (a k : ℕ)
    → Links room c xs a k → Links room c ys a k → ((e : ℕ) (b : Block) → InChain e b xs → image (BlockPlace e) ≡ Some (BlockUnit b))
    → ((e : ℕ) (b : Block) → InChain e b ys → image (BlockPlace e) ≡ Some (BlockUnit b)) → xs ≡ ys
one_chain image room c [] [] a k one two shows also = refl
one_chain image room c [] (y ∷ ys) a k one two shows also = absurd (omega (arith, one, two.0))
one_chain image room c (x ∷ xs) [] a k one two shows also = absurd (omega (arith, two, one.0))
one_chain image room c (x ∷ xs) (y ∷ ys) a k one two shows also = let place : x.0 ≡ y.0 = one.1 ∙ sym two.1 in
    let both : Some (BlockUnit x.1) ≡ Some (BlockUnit y.1) =
    sym (shows x.0 x.1 (inl (refl, refl))) ∙ ap (λ (e : ℕ). image (BlockPlace e)) place ∙ also y.0 y.1 (inl (refl, refl)) in
    let block : x.1 ≡ y.1 = cc in
    let rest : xs ≡ ys = one_chain image room c xs ys x.1.before x.1.before_checksum one.7 (rw (sym block) at two.7) (λ e b at.
    shows e b (inr at)) (λ e b at. also e b (inr at)) in λ i. (place i, block i) ∷ rest i

-- ---- tails

-- the first of a list is named by those after it
named_first : (k clients op mark sum : ℕ) (ss : List Session) (p : Message) (ps : List Message) → Chain clients (op + 1) p.header.checksum
    mark ss ps → k ≤ length ps → last_checksum p.header.checksum (take k ps) ≡ sum → p.header.checksum ≡ named_by sum (take k ps)
named_first zero clients op mark sum ss p ps chain size ends = ends
named_first (suc k) clients op mark sum ss p [] chain size ends = absurd (omega arith)
named_first (suc k) clients op mark sum ss p (q ∷ ps) chain size ends = sym chain.0.parent_is

-- a front of a tail that is shown is shown as it is named
front_known : (n : ℕ) (image : Units) (clients op parent mark sum : ℕ) (ss : List Session) (k : ℕ) (ps : List Message) → Chain
    clients op parent mark ss ps → ((p : Message) → In p ps → image (PreparePlace (p.header.op % n)) ≡ Some (PrepareUnit p)) → k ≤ length ps
    → (0 < k → last_checksum parent (take k ps) ≡ sum) → AreKnown n image op sum (take k ps)
front_known n image clients op parent mark sum ss zero ps chain shown size ends = tt
front_known n image clients op parent mark sum ss (suc k) [] chain shown size ends = absurd (omega arith)
front_known n image clients op parent mark sum ss (suc k) (p ∷ ps) chain shown size ends = (
  ap (λ (o : ℕ). image (PreparePlace (o % n))) (sym chain.0.op_is) ∙ shown p (inl refl),
  named_first k clients op p.header.mark sum (noted p.header ss) p ps chain.1 (omega arith) (ends (omega arith)),
  front_known n image clients (op + 1) p.header.checksum p.header.mark sum (noted p.header ss) k ps chain.1 (λ q at.
      shown q (inr at)) (omega arith) (λ some. ends (omega arith)),
)

-- what is left of a tail comes later
later_ops : (k clients op parent mark : ℕ) (ss : List Session) (ps : List Message) (p : Message)
    → Chain clients op parent mark ss ps → In p (drop k ps) → op + k ≤ p.header.op
later_ops zero clients op parent mark ss ps p chain at = omega (arith, (chain_ops clients op parent mark ss ps p chain at).0)
later_ops (suc k) clients op parent mark ss [] p chain at = absurd at
later_ops (suc k) clients op parent mark ss (q ∷ ps) p chain at =
    omega (arith, later_ops k clients (op + 1) q.header.checksum q.header.mark (noted q.header ss) ps p chain.1 at)

-- ---- sessions

-- another client's request leaves a session
another : (x y : ℕ) → (y ≡ x → ⊥) → (x == y) ≡ false
another x y other = grind (arith, nat_tests)

later_session : (b : Bool) (t x : Session) (ss rest : List Session) (k : ℕ) (s : Session)
    → slice_get ss k ≡ Some s → slice_get rest k ≡ Some s → slice_get (if b then t ∷ ss else x ∷ rest) (suc k) ≡ Some s
later_session true t x ss rest k s one two = one
later_session false t x ss rest k s one two = two

other_noted : (h : Header) (ss : List Session) (k : ℕ) (s : Session)
    → slice_get ss k ≡ Some s → (h.client ≡ s.client → ⊥) → slice_get (noted h ss) k ≡ Some s
other_noted h [] k s at other = absurd (cc)
other_noted h (x ∷ ss) zero s at other = let same : x ≡ s = same_Some x s at in
    ap (λ (b : Bool). slice_get (if b then session_of_header h ∷ ss else x ∷ noted h ss) 0)
    (another x.client h.client (λ is. other (is ∙ ap (λ (t : Session). t.client) same))) ∙ at
other_noted h (x ∷ ss) (suc k) s at other =
    later_session (x.client == h.client) (session_of_header h) x ss (noted h ss) k s at (other_noted h ss k s at other)

others_noted : (ps : List Message) (ss : List Session) (k : ℕ) (s : Session)
    → slice_get ss k ≡ Some s → ((p : Message) → In p ps → p.header.client ≡ s.client → ⊥) → slice_get (sessions_after ss ps) k ≡ Some s
others_noted [] ss k s at others = at
others_noted (p ∷ ps) ss k s at others =
    others_noted ps (noted p.header ss) k s (other_noted p.header ss k s at (others p (inl refl))) (λ q there. others q (inr there))

-- sessions after this many prepares are of ops up to theirs
noted_low : (n clients op parent mark : ℕ) (ss : List Session) (ps : List Message) → Chain clients (op + 1) parent mark ss ps → ((j : ℕ) (x : Session) → slice_get ss j ≡ Some x → x.op ≤ op) → (k : ℕ) (s : Session) → slice_get (sessions_after ss (take n ps)) k ≡ Some s → s.op ≤ op + n
noted_low zero clients op parent mark ss ps chain low k s at = omega (arith, low k s at)
noted_low (suc n) clients op parent mark ss [] chain low k s at = omega (arith, low k s at)
noted_low (suc n) clients op parent mark ss (p ∷ ps) chain low k s at = let next : (j : ℕ) (x : Session)
    → slice_get (noted p.header ss) j ≡ Some x → x.op ≤ op + 1 = λ j x there. elim (noted_get p.header ss j x there) [
      | inl new ↦ omega (arith, ap (λ (t : Session). t.op) new, chain.0.op_is)
      | inr old ↦ omega (arith, low j x old)
    ] in omega (arith, noted_low n clients (op + 1) p.header.checksum p.header.mark (noted p.header ss) ps chain.1 next k s at)

-- ---- what is known

module _ (sh : Shape) (image : Units)
    (v : View) (second : sh.version ≡ 2) (found : IsFound sh image v) (stands : Stands image v) (records : RecordsReplies v) where
  abbrev c : Content
  c = v.checkpoint.content

  -- an open blames no place
  answers : (x : OpenAnswer) × Opens sh image x × ((place : Place) → x ≡ Refused (Damaged place) → ⊥)
  answers = elim (cases_lt (boot_of v) (2 ^ 62)) [
    | inl unspent ↦ (Found v, Opened v found unspent, λ place is. cc)
    | inr not ↦ (Refused BootSpent, Spent v found (omega (arith, found.checkpoint.tests.boot)), λ place is. cc)
  ]

  none_blamed : (place : Place) → Opens sh image (Refused (Damaged place)) → ⊥
  none_blamed place opens = answers.2 place (one_answer_law sh image answers.0 (Refused (Damaged place)) answers.1 opens)

  readable : IsReadable sh image v.checkpoint
  readable = record { chosen = found.chosen; sound = found.checkpoint; shown = found.chain_shown }

  usable : IsUsableSuperblock sh image c
  usable = record { chosen = found.chosen; tests = found.checkpoint.tests; reference = found.checkpoint.trailer.reference }

  trailer_shown : (a sum : ℕ) → ReadsTo sh image c a sum → (IsShownAs image kinds.Trailer (BlockPlace a) sum → ⊥) → ⊥
  trailer_shown a sum reads lacks = none_blamed (BlockPlace a)
      (LacksBlock c a sum usable reads (λ is. lacks (record { unit = BlockUnit is.0; shown = is.1; of_kind = is.3; sum_is = is.2 })))

  prepare_shown : (s sum : ℕ) → IsNamedPrepare sh image c s sum → (IsShownAs image kinds.Prepare (PreparePlace s) sum → ⊥) → ⊥
  prepare_shown s sum is lacks = none_blamed (PreparePlace (is.op % slots sh)) (Unknown v.checkpoint is.op readable found.not_behind (record {
    read = is.later;
    known = is.known;
    count = is.count;
    above = is.above;
    lacks = λ p at names. lacks (record { unit = PrepareUnit p; shown = ap (λ (n : ℕ). image (PreparePlace n)) is.slot_is ∙ at; of_kind = tt; sum_is = names ∙ sym is.sum_is });
  }))

  -- the trailer says one thing
  one_parts : (says : ShowsTrailer sh image c) → says.parts ≡ v.checkpoint.parts
  one_parts says = let chain : says.chain ≡ v.checkpoint.chain = one_chain image (sh.layout.block_size - 256) c says.chain
      v.checkpoint.chain c.trailer c.trailer_checksum says.trailer.links found.checkpoint.trailer.links says.shown found.chain_shown in
      same_says sh c.op v.checkpoint.chain says.parts v.checkpoint.parts (rw chain at says.trailer.says) found.checkpoint.trailer.says

  block_shown : (a sum : ℕ) → IsReferencedBlock sh image c a sum → IsShownAs image kinds.Block (BlockPlace a) sum
  block_shown a sum is = let b = stands a sum (ap (λ (p : Parts). p.references a) (sym (one_parts is.says)) ∙ is.reference) in
      record { unit = BlockUnit b.0; shown = b.1; of_kind = b.3; sum_is = b.2 }

  -- ---- replies

  -- this many prepares of the tail are named
  abbrev count : ℕ
  count = c.pin - c.op

  one_named : (named : List Message)
      → AreKnown (slots sh) image (c.op + 1) c.pin_checksum named → c.op + length named ≡ c.pin → named ≡ take count v.tail
  one_named named known size = let from = found.checkpoint.tests.pin.0 in
      known_one (slots sh) image (c.op + 1) c.pin_checksum named (take count v.tail) known
      (front_known (slots sh) image sh.layout.clients (c.op + 1) c.op_checksum 0 c.pin_checksum v.checkpoint.parts.sessions
      count v.tail found.tail.chain (λ p at. (found.tail.takes p at).shown) (omega (arith, found.tail.reaches)) (λ some. found.tail.pinned))
      (omega (arith, size, length-take count v.tail, found.tail.reaches))

  module _ (k sum : ℕ) (is : IsRecordedReply sh image c k sum) where
    at_pin : slice_get (sessions_after v.checkpoint.parts.sessions (take count v.tail)) k ≡ Some is.session
    at_pin = ap (λ (ss : List Session). slice_get ss k)
        (ap (λ (l : List Message). sessions_after v.checkpoint.parts.sessions l) (sym (one_named is.has.named is.has.known is.has.count))
        ∙ ap (λ (p : Parts). sessions_after p.sessions is.has.named) (sym (one_parts is.has.says)) ∙ sym is.has.sessions_are) ∙ is.at

    -- a later prepare is of another client
    later_other : (p : Message) → In p (drop count v.tail) → p.header.client ≡ is.session.client → ⊥
    later_other p at same = let takes = found.tail.takes p (in_dropped count p v.tail at) in
        let above : c.pin < p.header.op = omega (arith, later_ops count sh.layout.clients (c.op + 1) c.op_checksum 0 v.checkpoint.parts.sessions v.tail p found.tail.chain at, found.checkpoint.tests.pin.0) in
        is.no_prepare (p.header.op % slots sh) p takes.shown (take_boot (slots sh) image c p takes above) above same

    at_head : slice_get (sessions v) k ≡ Some is.session
    at_head = ap (λ (ss : List Session). slice_get ss k) (sym (sessions-drop count v.checkpoint.parts.sessions v.tail))
        ∙ others_noted (drop count v.tail) (sessions_after v.checkpoint.parts.sessions (take count v.tail)) k is.session at_pin later_other

    had_reply : is.session.op ≤ v.replies
    had_reply = elim (records k is.session at_head (omega (arith, is.some, is.sum_is))) [
      | inl low ↦ low
      | inr above ↦
          absurd (omega (arith, above, noted_low count sh.layout.clients c.op c.op_checksum 0 v.checkpoint.parts.sessions v.tail found.tail.chain found.checkpoint.tracks.below k is.session at_pin, found.checkpoint.tests.pin.0))
    ]

    reply_shown : IsShownAs image kinds.Reply (ReplyPlace k) sum
    reply_shown = let r = found.stored.shown k is.session at_head had_reply in
        let answered : c.answered ≡ c.replies + 1 = (found.checkpoint.tests.of.two (found.checkpoint.tests.version ∙ second)).1 in
        elim (cases_lt r.0.header.op c.answered) [
          | inl old ↦ record { unit = ReplyUnit r.0; shown = r.2; of_kind = tt; sum_is = sym (r.4.old old) ∙ sym is.sum_is }
          | inr not ↦
              absurd (let new : c.answered ≤ r.0.header.op = omega arith in omega (arith, new, answered, is.no_reply r.0 r.2 (r.4.new new)))
        ]

  -- ---- all of them

  pub none_lacks : (kind : Kind) (place : Place) (sum : ℕ) → IsKnownAt sh image c kind place sum → (IsShownAs image kind place sum → ⊥) → ⊥
  none_lacks kinds.Trailer (BlockPlace a) sum known lacks = trailer_shown a sum known lacks
  none_lacks kinds.Block (BlockPlace a) sum known lacks = lacks (block_shown a sum known)
  none_lacks kinds.Prepare (PreparePlace s) sum known lacks = prepare_shown s sum known lacks
  none_lacks kinds.Reply (ReplyPlace k) sum known lacks = lacks (reply_shown k sum known)
  none_lacks kind place sum known lacks = known
