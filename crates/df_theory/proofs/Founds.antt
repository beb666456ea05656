-- What opening finds is what the image holds.
use Rattle.std.proofs.{Common.{◌≡◌, ◌⊎◌, inl, inr, ℕ, ◌+◌, ◌-◌, ◌%◌, ◌^◌, ◌<◌, ◌≤◌, List, [], ◌∷◌, length, Option, Some, refl, sym, ◌∙◌, ap, subst, arith}, lemmas.Bool.{cases_eq, cases_lt}}
use Rattle.df_theory.{specs.{Units.{AnyUnit, BlockPlace, BlockUnit, CopyPlace, Header, HeaderPlace, HeaderUnit, Message, Place, PreparePlace, PrepareUnit, ReplyPlace, ReplyUnit, Session, Units}, Sessions.{Tracks, noted, sessions_after}, Tails.{Chain, In, last_checksum, last_mark}, Groups.{IsShort}, Shape.{Shape, clients}, View.{View, boot_of, head, sessions}, Shows.{Agrees, AgreesHeader, AgreesPrepare, AgreesReply, Needs}, Holds.{Holds, Sound}, Cases.{Current, IsEmpty, IsTake, Takes, case, seen, seen_header, seen_prepare}, Found.{AreOfPlaces, IsClean, IsFound, IsOfPlace}, ViewLaws.{SlotLaw}}, proofs.{Tails.{chain_ops}, Sessions.{tracks_chain}, Agreeing.{seen_now, take_same, take_beside, take_boot, below_header, decided_above, empty_cut, near_prepare, old_header, prepare_near, header_agrees, prepare_agrees, reply_agrees, takes_if}}}

-- each op of a chain has a prepare
pub chain_at : (clients op parent mark : ℕ) (ss : List Session) (ps : List Message) (o : ℕ)
    → Chain clients op parent mark ss ps → op ≤ o → o < op + length ps → (p : Message) × In p ps × (p.header.op ≡ o)
chain_at clients op parent mark ss [] o chain from to = absurd (omega arith)
chain_at clients op parent mark ss (p ∷ ps) o chain from to = elim (cases_eq o op) [
  | inl here ↦ (p, inl refl, chain.0.op_is ∙ sym here)
  | inr later ↦
      let rest = chain_at clients (op + 1) p.header.checksum p.header.mark (noted p.header ss) ps o chain.1 (omega arith) (omega arith) in
      (rest.0, inr rest.1, rest.2)
]

-- the mark of the last is near its op
pub chain_near : (clients op parent mark m : ℕ) (ss : List Session) (ps : List Message)
    → Chain clients op parent mark ss ps → 0 < length ps → op + length ps ≤ last_mark m ps + 9
chain_near clients op parent mark m ss [] chain some = absurd (omega arith)
chain_near clients op parent mark m ss (p ∷ []) chain some = omega (arith, chain.0.mark_near)
chain_near clients op parent mark m ss (p ∷ q ∷ ps) chain some = omega
    (arith, chain_near clients (op + 1) p.header.checksum p.header.mark p.header.mark (noted p.header ss) (q ∷ ps) chain.1 (omega arith))

-- ---- from what is found

module _ (sh : Shape) (image : Units) (v : View) (places : AreOfPlaces sh image) (f : IsFound sh image v) where
  tracks : Tracks v.replies (head v) (sessions v)
  tracks = tracks_chain sh.layout.clients v.checkpoint.content.op v.checkpoint.content.op_checksum 0 v.checkpoint.content.replies
      v.replies v.checkpoint.parts.sessions v.tail f.checkpoint.tracks f.tail.chain f.replies.superblock f.replies.mark

  mark_below : (clients op parent mark low : ℕ) (ss : List Session) (ps : List Message)
      → Chain clients op parent mark ss ps → low < op → last_mark low ps < op + length ps
  mark_below clients op parent mark low ss [] chain small = omega arith
  mark_below clients op parent mark low ss (p ∷ ps) chain small =
      omega (arith, mark_below clients (op + 1) p.header.checksum p.header.mark p.header.mark (noted p.header ss) ps chain.1 (omega (arith, chain.0.mark_below)))

  replies_to : v.replies ≤ head v
  replies_to = elim f.replies.reached [
    | inl base ↦ omega (arith, f.checkpoint.tests.replies.0, f.not_lost.superblock)
    | inr (inl mark) ↦ omega (arith, mark_below sh.layout.clients (v.checkpoint.content.op + 1) v.checkpoint.content.op_checksum 0 0 v.checkpoint.parts.sessions v.tail f.tail.chain (omega arith))
    | inr (inr reply) ↦ omega (arith, (f.not_lost.reply reply.0 reply.1 reply.2 reply.4).0, reply.3)
  ]

  -- the prepare of the tail with this op
  tail_at : (o : ℕ) → v.checkpoint.content.op < o → o ≤ head v → (p : Message) × In p v.tail × (p.header.op ≡ o)
  tail_at o above to = chain_at sh.layout.clients (v.checkpoint.content.op
      + 1) v.checkpoint.content.op_checksum 0 v.checkpoint.parts.sessions v.tail o f.tail.chain (omega arith) (omega arith)

  head_to : head v ≤ 2 ^ 62
  head_to = elim (cases_lt 0 (length v.tail)) [
    | inl some ↦ let p = tail_at (head v) (omega arith) (omega arith) in
        let of = places (PreparePlace (p.0.header.op % sh.layout.slots)) (PrepareUnit p.0) (f.tail.takes p.0 p.1).shown in
        let same : of.0 ≡ p.0 = (let e = of.1 in cc) in omega (arith, of.3.op.1, ap (λ (w : Message). w.header.op) same, p.2)
    | inr none ↦ omega (arith, f.checkpoint.tests.head)
  ]

  near_head : head v ≤ v.replies + 8
  near_head = elim (cases_lt 0 (length v.tail)) [
    | inl some ↦ omega (arith, chain_near sh.layout.clients (v.checkpoint.content.op + 1) v.checkpoint.content.op_checksum 0 0 v.checkpoint.parts.sessions v.tail f.tail.chain some, f.replies.mark)
    | inr none ↦ omega (arith, f.checkpoint.tests.head, f.checkpoint.tests.replies, f.not_lost.superblock, f.replies.superblock)
  ]

  pub found_sound : Sound sh v
  found_sound = record {
    chain = f.tail.chain;
    room = f.tail.room;
    checkpoint = f.checkpoint;
    grouped = f.tail.grouped;
    groups = f.tail.groups;
    pin_ends = f.tail.pin_ends;
    head_from = f.not_lost.superblock;
    head_to = head_to;
    pipeline = (replies_to, near_head);
    replies_from = (f.replies.superblock, f.replies.mark);
    answered = λ k r is. let s = f.stored.no_more k r is in let there = f.stored.shown k s.0 s.1 s.2 in
        let same : there.0 ≡ r = (let two : Some there.0 ≡ Some r = sym there.1 ∙ is in cc) in (s.0, s.1, s.2, rw same at there.3);
    stores = λ k s at low. let there = f.stored.shown k s at low in (there.0, there.1);
    records = record {
      pin_to = f.tail.reaches;
      checksum = f.tail.pinned;
      tail = λ p at above. take_boot sh.layout.slots image v.checkpoint.content p (f.tail.takes p at) above;
      stored = λ k r is. let s = f.stored.no_more k r is in let there = f.stored.shown k s.0 s.1 s.2 in
          let same : there.0 ≡ r = (let two : Some there.0 ≡ Some r = sym there.1 ∙ is in cc) in rw same at there.4;
    };
  }

  taken_header : (b : ℕ) (h : Header) (p : Message) → (hd pr : Option AnyUnit) → hd ≡ Some (HeaderUnit h) → pr ≡ Some (PrepareUnit p) → h.op ≡ p.header.op → h.boot ≡ b → p.header.boot ≡ b → IsTake (case (seen_header b p.header.op hd) (seen_prepare b p.header.op pr)) → h.checksum ≡ p.header.checksum
  taken_header b h p hd pr hd_is pr_is same h_of p_of take =
      let at : IsTake (case (seen b p.header.op h) (seen b p.header.op p.header)) = rw hd_is at (rw pr_is at take) in
      let one : IsTake (case (Current h.checksum) (seen b p.header.op p.header)) = rw (seen_now b p.header.op h same h_of) at at in
      take_same h.checksum p.header.checksum (rw (seen_now b p.header.op p.header refl p_of) at one)

  pub header_in_tail : (s : ℕ) (h : Header) → image (HeaderPlace s) ≡ Some (HeaderUnit h) → (0 < h.op → s ≡ h.op % sh.layout.slots) → h.boot
      ≡ boot_of v → v.checkpoint.content.pin < h.op → (p : Message) × In p v.tail × (p.header.op ≡ h.op) × (p.header.checksum ≡ h.checksum)
  header_in_tail s h is slot of above = let p = tail_at h.op (omega (arith, f.checkpoint.tests.pin.0)) (f.not_lost.header s h is of) in
      let takes = f.tail.takes p.0 p.1 in let higher : v.checkpoint.content.pin < p.0.header.op = omega (arith, p.2) in
      let place : image (HeaderPlace (p.0.header.op % sh.layout.slots)) ≡ Some (HeaderUnit h) = ap (λ (o : ℕ).
      image (HeaderPlace (o % sh.layout.slots))) p.2 ∙ ap (λ (n : ℕ). image (HeaderPlace n)) (sym (slot (omega arith))) ∙ is in
      (p.0, p.1, p.2, sym (taken_header (boot_of v) h p.0 _ _ place takes.shown (sym p.2) of (take_boot sh.layout.slots image v.checkpoint.content p.0 takes higher) (takes.take higher)))

  prepare_in_tail : (s : ℕ) (q : Message) → image (PreparePlace s) ≡ Some (PrepareUnit q) → s ≡ q.header.op % sh.layout.slots
      → q.header.boot ≡ boot_of v → v.checkpoint.content.pin < q.header.op → q.header.op ≤ head v → In q v.tail
  prepare_in_tail s q is slot of above to = let p = tail_at q.header.op (omega (arith, f.checkpoint.tests.pin.0)) to in
      let takes = f.tail.takes p.0 p.1 in let place : image (PreparePlace (p.0.header.op % sh.layout.slots)) ≡ Some (PrepareUnit q) =
      ap (λ (o : ℕ). image (PreparePlace (o % sh.layout.slots))) p.2 ∙ ap (λ (n : ℕ). image (PreparePlace n)) (sym slot) ∙ is in
      let one : p.0 ≡ q = (let two : Some (PrepareUnit p.0) ≡ Some (PrepareUnit q) = sym takes.shown ∙ place in cc) in
      subst (λ (w : Message). In w v.tail) one p.1

  pub header_found : (s : ℕ) (h : Header) → image (HeaderPlace s) ≡ Some (HeaderUnit h) → AgreesHeader sh v s h
  header_found s h is = let of = places (HeaderPlace s) (HeaderUnit h) is in
      let slot : 0 < h.op → s ≡ h.op % sh.layout.slots = rw (← (let same : of.0 ≡ h = (let e = of.1 in cc) in same)) (λ some. (of.3 some).0) in
      record { op = f.not_lost.header s h is; ring = (f.not_behind.header s h is).1; checkpoint = (f.not_behind.header s h is).0; boot = (f.not_behind.header s h is).2; slot = slot; in_tail = λ own above. header_in_tail s h is slot own above }

  pub prepare_found : (s : ℕ) (p : Message) → image (PreparePlace s) ≡ Some (PrepareUnit p) → AgreesPrepare sh v s p
  prepare_found s p is = let of = places (PreparePlace s) (PrepareUnit p) is in let same : of.0 ≡ p = (let e = of.1 in cc) in
      let slot : s ≡ p.header.op % sh.layout.slots = rw same at of.2 in record {
        some = rw same at of.3.op.0;
        op = f.not_lost.prepare s p is;
        ring = (f.not_behind.prepare s p is).1;
        checkpoint = (f.not_behind.prepare s p is).0;
        boot = (f.not_behind.prepare s p is).2;
        slot = slot;
        in_tail = λ own above to. prepare_in_tail s p is slot own above to;
      }

  found_agrees : IsClean image v → (place : Place) (x : AnyUnit) → image place ≡ Some x → IsOfPlace sh place x → Agrees sh v place x
  found_agrees clean (CopyPlace n) x is of = (of.0, of.1, clean n of.0 (is ∙ ap Some of.1))
  found_agrees clean (HeaderPlace s) x is of = (of.0, of.1, header_found s of.0 (is ∙ ap Some of.1))
  found_agrees clean (PreparePlace s) x is of = (of.0, of.1, prepare_found s of.0 (is ∙ ap Some of.1))
  found_agrees clean (ReplyPlace k) x is of = let at : image (ReplyPlace k) ≡ Some (ReplyUnit of.0) = is ∙ ap Some of.1 in
      (of.0, of.1, record { op = f.replies.reply k of.0 at; mark = λ own. (f.not_lost.reply k of.0 at own).1; checkpoint = (f.not_behind.reply k of.0 at).0; boot = (f.not_behind.reply k of.0 at).1; alone = of.3 })
  found_agrees clean (BlockPlace a) x is of = tt

  found_needs : (place : Place) (x : AnyUnit) → Needs sh v place x → image place ≡ Some x
  found_needs (CopyPlace n) x need = absurd need
  found_needs (HeaderPlace s) x need = absurd need
  found_needs (PreparePlace s) x need = ap (λ (n : ℕ). image (PreparePlace n)) need.2 ∙ (f.tail.takes need.0 need.1).shown ∙ ap Some (sym need.3)
  found_needs (ReplyPlace k) x need = let s = f.stored.no_more k need.0 need.1 in let there = f.stored.shown k s.0 s.1 s.2 in
      let same : there.0 ≡ need.0 = (let two : Some there.0 ≡ Some need.0 = sym there.1 ∙ need.1 in cc) in
      there.2 ∙ ap (λ (w : Message). Some (ReplyUnit w)) same ∙ ap Some (sym need.2)
  found_needs (BlockPlace a) x need = f.chain_shown a need.0 need.1 ∙ ap Some (sym need.2)

  -- what is shown after the tail would be taken
  found_short : IsShort sh image v
  found_short ps more = f.tail.longest ps (record {
    behind = record { room = more.behind.room; shown = taken; chain = more.behind.chain; grouped = more.behind.grouped };
    some = more.some;
    ends = more.ends;
  })
    where
      taken : (p : Message) → In p ps → Takes sh.layout.slots image v.checkpoint.content p
      taken p at = let own = more.behind.shown p at in
          let ops = chain_ops sh.layout.clients (v.checkpoint.content.op + 1 + length v.tail) (last_checksum v.checkpoint.content.op_checksum v.tail) (last_mark 0 v.tail) (sessions_after v.checkpoint.parts.sessions v.tail) ps p more.behind.chain at in
          let old = old_header (boot_of v) p.header.op (image (HeaderPlace (p.header.op % sh.layout.slots))) (λ x is. below_header sh v p.header.op x (header_found (p.header.op % sh.layout.slots) x is) (omega (arith, ops.0)) (omega (arith, ops.1, more.behind.room))) in
          record {
            shown = own.shown;
            take = λ above. rw own.shown (rw (sym (seen_now (boot_of v) p.header.op p.header refl own.own)) at
                (take_beside (seen_header (boot_of v) p.header.op (image (HeaderPlace (p.header.op % sh.layout.slots)))) p.header.checksum old));
          }

  pub found_holds : IsClean image v → Holds sh image v
  found_holds clean = record {
    bears = record { sound = found_sound; agrees = λ place x is. found_agrees clean place x is (places place x is); needs = found_needs };
    chosen = f.chosen;
    short = found_short;
  }

-- ---- to what is found

module _ (sh : Shape) (image : Units) (v : View) (h : Holds sh image v) where
  abbrev sound : Sound sh v
  sound = h.bears.sound

  agrees_header : (s : ℕ) (x : Header) → image (HeaderPlace s) ≡ Some (HeaderUnit x) → AgreesHeader sh v s x
  agrees_header = header_agrees sh image v h.bears.sound h.bears.agrees

  pub agrees_prepare : (s : ℕ) (x : Message) → image (PreparePlace s) ≡ Some (PrepareUnit x) → AgreesPrepare sh v s x
  agrees_prepare = prepare_agrees sh image v h.bears.sound h.bears.agrees

  agrees_reply : (k : ℕ) (x : Message) → image (ReplyPlace k) ≡ Some (ReplyUnit x) → AgreesReply v x
  agrees_reply = reply_agrees sh image v h.bears.sound h.bears.agrees

  takes : (p : Message) → In p v.tail → Takes sh.layout.slots image v.checkpoint.content p
  takes p at = takes_if sh image
      v h.bears.sound h.bears.agrees p at (h.bears.needs (PreparePlace (p.header.op % sh.layout.slots)) (PrepareUnit p) (p, at, refl, refl))

  stored_shown : (k : ℕ) (r : Message) → v.stored k ≡ Some r → image (ReplyPlace k) ≡ Some (ReplyUnit r)
  stored_shown k r is = h.bears.needs (ReplyPlace k) (ReplyUnit r) (r, is, refl)

  reached : (v.checkpoint.content.replies ≡ v.replies) ⊎ (last_mark 0 v.tail ≡ v.replies) ⊎ ((k : ℕ) × (r : Message)
      × (image (ReplyPlace k) ≡ Some (ReplyUnit r)) × (r.header.op ≡ v.replies) × (r.header.boot ≡ v.checkpoint.content.boot))
  reached = elim (cases_lt v.checkpoint.content.replies v.replies) [
    | inl above ↦ elim (cases_lt (last_mark 0 v.tail) v.replies) [
      | inl higher ↦
          let low = tracks_chain sh.layout.clients v.checkpoint.content.op v.checkpoint.content.op_checksum 0 v.checkpoint.content.replies
          (v.replies - 1) v.checkpoint.parts.sessions v.tail sound.checkpoint.tracks sound.chain (omega arith) (omega arith) in
          let has = low.pending v.replies (omega arith) sound.pipeline.0 in let r = sound.stores has.0 has.1 has.2 (omega (arith, has.3)) in
          let s = sound.answered has.0 r.0 r.1 in let one : s.0 ≡ has.1 = (let two : Some s.0 ≡ Some has.1 = sym s.1 ∙ has.2 in cc) in
          inr (inr (has.0, r.0, stored_shown has.0 r.0 r.1, s.3.op ∙ ap (λ (w : Session). w.op) one ∙ has.3, (sound.records.stored has.0 r.0 r.1).new (omega (arith, sound.checkpoint.tests.answered, s.3.op, ap (λ (w : Session). w.op) one, has.3))))
      | inr not ↦ inr (inl (omega (arith, sound.replies_from.1)))
    ]
    | inr not ↦ inl (omega (arith, sound.replies_from.0))
  ]

  pub holds_found : IsFound sh image v
  holds_found = record {
    chosen = h.chosen;
    checkpoint = sound.checkpoint;
    chain_shown = λ a c is. h.bears.needs (BlockPlace a) (BlockUnit c) (c, is, refl);
    not_behind = record {
      header = λ s x is. let a = agrees_header s x is in (a.checkpoint, a.ring, a.boot);
      prepare = λ s x is. let a = agrees_prepare s x is in (a.checkpoint, a.ring, a.boot);
      reply = λ k x is. let a = agrees_reply k x is in (a.checkpoint, a.boot);
    };
    tail = record {
      chain = sound.chain;
      takes = takes;
      room = sound.room;
      grouped = sound.grouped;
      groups = sound.groups;
      pin_ends = sound.pin_ends;
      reaches = sound.records.pin_to;
      pinned = sound.records.checksum;
      longest = λ ps more. h.short ps (record {
        behind = record {
          room = more.behind.room;
          shown = λ p at. let taken = more.behind.shown p at in
              let ops = chain_ops sh.layout.clients (v.checkpoint.content.op + 1 + length v.tail) (last_checksum v.checkpoint.content.op_checksum v.tail) (last_mark 0 v.tail) (sessions_after v.checkpoint.parts.sessions v.tail) ps p more.behind.chain at in
              record { shown = taken.shown; own = take_boot sh.layout.slots image v.checkpoint.content p taken (omega (arith, ops.0, sound.records.pin_to)) };
          chain = more.behind.chain;
          grouped = more.behind.grouped;
        };
        some = more.some;
        ends = more.ends;
      });
    };
    not_lost = record {
      header = λ s x is. (agrees_header s x is).op;
      prepare = λ s x is. (agrees_prepare s x is).op;
      superblock = sound.head_from;
      reply = λ k x is own. let a = agrees_reply k x is in (omega (arith, a.op own, sound.pipeline.0), a.mark own);
    };
    replies = record {
      superblock = sound.replies_from.0;
      mark = sound.replies_from.1;
      reply = λ k x is. (agrees_reply k x is).op;
      reached = reached;
    };
    stored = record {
      shown = λ k s at low. let r = sound.stores k s at low in let t = sound.answered k r.0 r.1 in
          let same : t.0 ≡ s = (let two : Some t.0 ≡ Some s = sym t.1 ∙ at in cc) in
          (r.0, r.1, stored_shown k r.0 r.1, rw same at t.3, sound.records.stored k r.0 r.1);
      no_more = λ k r is. let t = sound.answered k r is in (t.0, t.1, t.2);
    };
  }

pub slot_law : SlotLaw
slot_law sh image v o places f above within = (
  λ pinned low. let p = chain_at sh.layout.clients (v.checkpoint.content.op
      + 1) v.checkpoint.content.op_checksum 0 v.checkpoint.parts.sessions v.tail o f.tail.chain (omega arith) (omega arith) in
      rw p.2 at ((f.tail.takes p.0 p.1).take (omega (arith, p.2))),
  λ high. subst IsEmpty (sym (decided_above sh.layout.slots (boot_of v) (head v) image o high)) (empty_cut (seen_header
      (boot_of v) o (image (HeaderPlace (o % sh.layout.slots)))) (seen_prepare (boot_of v) o (image (PreparePlace (o % sh.layout.slots))))
      (old_header (boot_of v) o (image (HeaderPlace (o % sh.layout.slots))) (λ x is.
      below_header sh v o x (header_found sh image v places f (o % sh.layout.slots) x is) high within))
      (prepare_near (boot_of v) o (image (PreparePlace (o % sh.layout.slots))) (λ x is.
      near_prepare sh v o x (prepare_found sh image v places f (o % sh.layout.slots) x is) high within))),
)
