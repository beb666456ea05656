-- What damage can do to a file whose log rests on a view.
use Rattle.std.{proofs.{Common.{◌≡◌, ◌⊎◌, inl, inr, ℕ, ◌+◌, ◌-◌, ◌%◌, ◌<◌, ◌≤◌, ◌==◌, Bool, true, false, if◌then◌else◌, zero, suc, List, [], ◌∷◌, ◌++◌, length, take, drop, Some, None, refl, sym, ◌∙◌, ap, subst, arith, length-append}, lemmas.List.{length-take, take_at}, lemmas.Bool.{cases_lt}, lemmas.Bool.Decides.{nat_tests}}, specs.List.{slice_get}}
use Rattle.df_theory.{specs.{Units.{AnyUnit, BlockPlace, BlockUnit, Content, CopyPlace, CopyUnit, Header, HeaderPlace, HeaderUnit, Message, Place, PreparePlace, PrepareUnit, ReplyPlace, ReplyUnit, Session, Units}, Sessions.{noted, session_of_header, sessions_after}, Tails.{AreGroups, Chain, In, last_checksum, last_mark}, Groups.{IsShort, ShowsOwn}, Cases.{Takes}, Shape.{Shape, clients}, Copies.{Agree, IsChosen}, View.{View, head, sessions}, Shows.{Agrees, AgreesCopy, AgreesHeader, AgreesPrepare, AgreesReply}, Holds.{Sound}, UnitLog.{UnitEvent, UnitLog, now, settled}, Chance.{InImages, InPool, InPools, NoChance}, Rests.{RestsOn}, Found.{IsReach, IsTail, NotBehind, NotLost, slot_behind}, HistoryLaws.{FoundWasOfLogLaw}, DamageLaws.{CheckpointStaysLaw, HeadersTellLaw, HurtLaw, IsGroupUnhurt, LostIsHurtLaw, MissingIsHurtLaw, NeverBehindLaw, ReplyIsHurtLaw, ShowsPool, TailIsFrontLaw}}, proofs.{Tails.{chain_last, chain_ops, in_either, in_one, in_single, in_dropped}, Sessions.{sessions-append, last_mark-take, chain_drop, chain_take}, Choices.{chosen_above, one_chosen}, Agreeing.{take_boot, prepare_agrees, header_agrees, reply_agrees, takes_if}, Founds.{chain_at, header_in_tail}, Pinned.{same_named}, OneView.{same_parts}, OneFound.{goes_on, step_on}, Short.{WasOwn, more_by, pool_short}, Grouped.{same_group}, Knowns.{groups_take, in_take}, Once.{same_links}, Had.{found_was_law}}}

-- the pool of a log is among its pools
pub pool_pools : (start : Units) (es : List UnitEvent) (place : Place) (x : AnyUnit)
    → InPool (record { start = start; events = es }) place x → InPools start es place x
pool_pools start [] place x is = is
pool_pools start (e ∷ es) place x is = inl is

module _ (sh : Shape) (log : UnitLog) (v : View) (shown : Units) (rests : RestsOn sh log v) (of : ShowsPool log shown) where
  -- whatever is shown agrees with the view
  pub all_agree : (place : Place) (x : AnyUnit) → shown place ≡ Some x → Agrees sh v place x
  all_agree place x is = elim (of place x is) [
    | inl old ↦ rests.old place x old
    | inr pending ↦ (rests.pending place x pending).1.agrees
  ]

  copy_agrees : (n : ℕ) (d : Content) → shown (CopyPlace n) ≡ Some (CopyUnit d) → AgreesCopy v n d
  copy_agrees n d is = let a = all_agree (CopyPlace n) (CopyUnit d) is in let same : a.0 ≡ d = (let e = a.1 in cc) in
      subst (λ (c : Content). AgreesCopy v n c) same a.2

  pub chosen_still : Agree shown v.checkpoint.content → IsChosen shown v.checkpoint.content
  chosen_still agreed =
      chosen_above shown v.checkpoint.content agreed (λ d a. copy_agrees a.second d a.at_second (λ zero_is. omega (arith, a.apart)))

  abbrev sound : Sound sh v
  sound = rests.holds.bears.sound

  pub header_is : (s : ℕ) (h : Header) → shown (HeaderPlace s) ≡ Some (HeaderUnit h) → AgreesHeader sh v s h
  header_is = header_agrees sh shown v rests.holds.bears.sound all_agree

  pub prepare_is : (s : ℕ) (p : Message) → shown (PreparePlace s) ≡ Some (PrepareUnit p) → AgreesPrepare sh v s p
  prepare_is = prepare_agrees sh shown v rests.holds.bears.sound all_agree

  pub reply_is : (k : ℕ) (r : Message) → shown (ReplyPlace k) ≡ Some (ReplyUnit r) → AgreesReply v r
  reply_is = reply_agrees sh shown v rests.holds.bears.sound all_agree

  pub not_behind : NotBehind sh shown v.checkpoint.content
  not_behind = record {
    header = λ s h is. let a = header_is s h is in (a.checkpoint, a.ring, a.boot);
    prepare = λ s p is. let a = prepare_is s p is in (a.checkpoint, a.ring, a.boot);
    reply = λ k r is. let a = reply_is k r is in (a.checkpoint, a.boot);
  }

  prepare_settled : (s : ℕ) (p : Message)
      → shown (PreparePlace s) ≡ Some (PrepareUnit p) → InImages (settled log) (PreparePlace s) (PrepareUnit p)
  prepare_settled s p is = elim (of (PreparePlace s) (PrepareUnit p) is) [
    | inl old ↦ old
    | inr pending ↦ absurd ((rests.calm (PreparePlace s) (rests.pending (PreparePlace s) (PrepareUnit p) pending).0).no_prepare tt)
  ]

  pub shown_short : IsShort sh shown v
  shown_short ps more = pool_short sh (settled log) v rests.grows ps (more_by sh (ShowsOwn sh.layout.slots shown v.checkpoint.content)
      (WasOwn sh.layout.slots (settled log) v.checkpoint.content) v.checkpoint v.tail ps
      (λ p at own. record { settled = prepare_settled (p.header.op % sh.layout.slots) p own.shown; own = own.own }) more)

  -- ---- the tail that is found

  module _ (tail : List Message) (found : IsTail sh shown v.checkpoint tail) (chance : NoChance log shown) where
    -- one checksum, one prepare
    distinct_here : (p q : Message) → In p tail → In q v.tail → p.header.checksum ≡ q.header.checksum → p ≡ q
    distinct_here p q at there = let here = (found.takes p at).shown in
        let needed = rests.holds.bears.needs (PreparePlace (q.header.op % sh.layout.slots)) (PrepareUnit q) (q, there, refl, refl) in
        chance.distinct
        (PreparePlace (p.header.op % sh.layout.slots)) (PreparePlace (q.header.op % sh.layout.slots)) (PrepareUnit p) (PrepareUnit q)
        (pool_pools log.start log.events (PreparePlace (p.header.op % sh.layout.slots))
        (PrepareUnit p) (chance.pooled (PreparePlace (p.header.op % sh.layout.slots)) (PrepareUnit p) here))
        (pool_pools log.start log.events (PreparePlace (q.header.op % sh.layout.slots))
        (PrepareUnit q) (rests.pooled (PreparePlace (q.header.op % sh.layout.slots)) (PrepareUnit q) needed))

    -- a prepare of the found tail that the file's head reaches is of the file's tail
    front_if : (p : Message) → In p tail → p.header.op ≤ head v → In p v.tail
    front_if p at low = let ops = chain_ops sh.layout.clients
        (v.checkpoint.content.op + 1) v.checkpoint.content.op_checksum 0 v.checkpoint.parts.sessions tail p found.chain at in
        elim (cases_lt v.checkpoint.content.pin p.header.op) [
          | inl above ↦ (prepare_is (p.header.op % sh.layout.slots) p (found.takes p at).shown).in_tail
              (take_boot sh.layout.slots shown v.checkpoint.content p (found.takes p at) above) above low
          | inr not ↦ let from : v.checkpoint.content.op ≤ v.checkpoint.content.pin = rests.holds.bears.sound.checkpoint.tests.pin.0 in
              let q = chain_at sh.layout.clients (v.checkpoint.content.op + 1) v.checkpoint.content.op_checksum 0 v.checkpoint.parts.sessions v.tail p.header.op rests.holds.bears.sound.chain (omega (arith, ops.0)) (omega (arith, rests.holds.bears.sound.records.pin_to)) in
              let one : p ≡ q.0 = same_named sh.layout.clients (v.checkpoint.content.op + 1) v.checkpoint.content.op_checksum 0 0 v.checkpoint.parts.sessions v.checkpoint.parts.sessions tail v.tail (v.checkpoint.content.pin - v.checkpoint.content.op) found.chain rests.holds.bears.sound.chain
              (omega (arith, found.reaches)) (omega (arith, rests.holds.bears.sound.records.pin_to))
              (found.pinned ∙ sym rests.holds.bears.sound.records.checksum) distinct_here
              (v.checkpoint.content.pin - p.header.op) p q.0 at q.1 (sym q.2) (omega (arith, ops.0)) in rw (sym one) at q.1
        ]

    tail_op : (q : Message) → In q v.tail → q.header.op ≤ head v
    tail_op q there = let ops = chain_ops sh.layout.clients (v.checkpoint.content.op
        + 1) v.checkpoint.content.op_checksum 0 v.checkpoint.parts.sessions v.tail q rests.holds.bears.sound.chain there in
        omega (arith, ops.1)

    pub same_prepare : (p q : Message) → In p tail → In q v.tail → p.header.op ≡ q.header.op → p ≡ q
    same_prepare p q at there same = in_one sh.layout.clients (v.checkpoint.content.op + 1) v.checkpoint.content.op_checksum
        0 v.checkpoint.parts.sessions v.tail p q rests.holds.bears.sound.chain (front_if p at (omega (arith, tail_op q there))) there same

    -- it isn't longer: what survived above the head makes up no whole group
    pub tail_short : length tail ≤ length v.tail
    tail_short = elim (cases_lt (length v.tail) (length tail)) [
      | inr not ↦ omega arith
      | inl less ↦ let sound = rests.holds.bears.sound in
          let rest = goes_on sh.layout.clients (v.checkpoint.content.op + 1) v.checkpoint.content.op_checksum
          0 0 v.checkpoint.content.op (head v) v.checkpoint.parts.sessions v.tail tail sound.chain found.chain
          (λ p q at there op. sym (same_prepare q p there at (sym op))) (omega arith) found.grouped (omega arith) (λ p at.
          omega (arith, sound.groups p at)) (omega arith) in absurd (shown_short rest.0 (record {
            behind = record {
              room = omega (arith, rest.1, found.room);
              shown = λ q at.
                  let ops = chain_ops sh.layout.clients (v.checkpoint.content.op + 1 + length v.tail) (last_checksum v.checkpoint.content.op_checksum v.tail) (last_mark 0 v.tail) (sessions_after v.checkpoint.parts.sessions v.tail) rest.0 q rest.3 at in
                  let taken = found.takes q (rest.2 q at) in
                  record { shown = taken.shown; own = take_boot sh.layout.slots shown v.checkpoint.content q taken (omega (arith, ops.0, sound.records.pin_to)) };
              chain = rest.3;
              grouped = rest.4;
            };
            some = omega (arith, rest.1);
            ends = λ q at. omega (arith, found.groups q (rest.2 q at), rest.1);
          }))
    ]

    pub front : (p : Message) → In p tail → In p v.tail
    front p at = let ops = chain_ops sh.layout.clients
        (v.checkpoint.content.op + 1) v.checkpoint.content.op_checksum 0 v.checkpoint.parts.sessions tail p found.chain at in
        front_if p at (omega (arith, ops.1, tail_short))

    -- what the file has after it
    abbrev Behind : Type 0
    Behind = (rest : List Message) × (length tail + length rest ≡ length v.tail) × ((q : Message) → In q rest → In q v.tail)
        × Chain sh.layout.clients (v.checkpoint.content.op + 1 + length tail)
        (last_checksum v.checkpoint.content.op_checksum tail) (last_mark 0 tail) (sessions_after v.checkpoint.parts.sessions tail) rest
        × AreGroups 0 (v.checkpoint.content.op + length tail) (v.checkpoint.content.op + 1 + length tail) rest

    behind : Behind
    behind = let sound = rests.holds.bears.sound in
        goes_on sh.layout.clients (v.checkpoint.content.op + 1) v.checkpoint.content.op_checksum 0 0 v.checkpoint.content.op
        (v.checkpoint.content.op + length tail) v.checkpoint.parts.sessions tail v.tail found.chain sound.chain same_prepare tail_short
        sound.grouped (omega arith) (λ p at. omega (arith, found.groups p at)) (omega arith)

    taken_now : (q : Message) → In q v.tail → shown (PreparePlace (q.header.op % sh.layout.slots))
        ≡ now log (PreparePlace (q.header.op % sh.layout.slots)) → Takes sh.layout.slots shown v.checkpoint.content q
    taken_now q at same = takes_if sh shown v rests.holds.bears.sound
        all_agree q at (same ∙ rests.holds.bears.needs (PreparePlace (q.header.op % sh.layout.slots)) (PrepareUnit q) (q, at, refl, refl))

    -- the slot after all that is reached shows what it should
    module _ (more : List Message) (reach : IsReach sh shown v.checkpoint tail more) (unhurt : shown (PreparePlace
        (slot_behind sh v.checkpoint tail more)) ≡ now log (PreparePlace (slot_behind sh v.checkpoint tail more))) where
      one_more : (p q : Message) → In p more → In q behind.0 → p.header.op ≡ q.header.op → p ≡ q
      one_more p q at there same =
          let ops = chain_ops sh.layout.clients (v.checkpoint.content.op + 1 + length tail) (last_checksum v.checkpoint.content.op_checksum
          tail) (last_mark 0 tail) (sessions_after v.checkpoint.parts.sessions tail) more p reach.behind.chain at in
          let above : v.checkpoint.content.pin < p.header.op = omega (arith, ops.0, found.reaches) in let taken = reach.behind.shown p at in
          let in_tail = (prepare_is (p.header.op % sh.layout.slots) p taken.shown).in_tail
          (take_boot sh.layout.slots shown v.checkpoint.content p taken above) above (omega (arith, tail_op q (behind.2 q there))) in
          in_one sh.layout.clients (v.checkpoint.content.op + 1) v.checkpoint.content.op_checksum
          0 v.checkpoint.parts.sessions v.tail p q rests.holds.bears.sound.chain in_tail (behind.2 q there) same

      -- all that the file has is reached
      far_enough : length more < length behind.0 → ⊥
      far_enough less =
          let next = step_on sh.layout.clients (v.checkpoint.content.op + 1 + length tail) (last_checksum v.checkpoint.content.op_checksum tail) (last_mark 0 tail) 0 (v.checkpoint.content.op + length tail) (sessions_after v.checkpoint.parts.sessions tail) more behind.0 reach.behind.chain behind.3 one_more behind.4 less in
          let op : next.0.header.op ≡ v.checkpoint.content.op + length tail + length more + 1 = omega (arith, next.4) in
          let here = ap (λ (o : ℕ). shown (PreparePlace (o % sh.layout.slots))) op
          ∙ unhurt ∙ ap (λ (o : ℕ). now log (PreparePlace (o % sh.layout.slots))) (sym op) in reach.longest next.0 (record {
            room = omega (arith, behind.1, rests.holds.bears.sound.room, length-append more (next.0 ∷ []));
            shown = λ p at. elim (in_either p more (next.0 ∷ []) at) [
              | inl old ↦ reach.behind.shown p old
              | inr new ↦ rw (sym (in_single p next.0 new)) at (taken_now next.0 (behind.2 next.0 next.1) here)
            ];
            chain = next.2;
            grouped = next.3;
          })

      not_shorter : length tail < length v.tail → ⊥
      not_shorter less = elim (cases_lt (length more) (length behind.0)) [
        | inl near ↦ far_enough near
        | inr far ↦ found.longest behind.0 (record {
          behind = record {
            room = omega (arith, behind.1, rests.holds.bears.sound.room);
            shown = λ q at.
                let ops = chain_ops sh.layout.clients (v.checkpoint.content.op + 1 + length tail) (last_checksum v.checkpoint.content.op_checksum tail) (last_mark 0 tail) (sessions_after v.checkpoint.parts.sessions tail) behind.0 q behind.3 at in
                let p = chain_at sh.layout.clients (v.checkpoint.content.op + 1 + length tail) (last_checksum v.checkpoint.content.op_checksum tail) (last_mark 0 tail) (sessions_after v.checkpoint.parts.sessions tail) more q.header.op reach.behind.chain (omega (arith, ops.0)) (omega (arith, ops.1)) in
                rw (one_more p.0 q p.1 at p.2) at (reach.behind.shown p.0 p.1);
            chain = behind.3;
            grouped = behind.4;
          };
          some = omega (arith, behind.1);
          ends = λ q at. omega (arith, rests.holds.bears.sound.groups q (behind.2 q at), behind.1);
        })
      ]

      pub not_lost : NotLost shown v.checkpoint.content (v.checkpoint.content.op + length tail)
      not_lost = elim (cases_lt (length tail) (length v.tail)) [
        | inl less ↦ absurd (not_shorter less)
        | inr more_is ↦ let top : head v ≡ v.checkpoint.content.op + length tail = omega (arith, tail_short) in record {
          header = λ s h is own. omega (arith, (header_is s h is).op own);
          prepare = λ s p is own. rw top at ((prepare_is s p is).op own);
          superblock = omega (arith, rests.holds.bears.sound.head_from);
          reply = λ k r is own. let a = reply_is k r is in
              (omega (arith, a.op own, rests.holds.bears.sound.pipeline.0), omega (arith, a.mark own));
        }
      ]

    -- of the group of a prepare that the found tail lacks a slot is hurt
    pub missing : NotLost shown v.checkpoint.content (v.checkpoint.content.op + length tail)
        → (p : Message) → In p v.tail → v.checkpoint.content.op + length tail < p.header.op → IsGroupUnhurt sh log v shown p → ⊥
    missing lost p at above unhurt = elim (lost.prepare (p.header.op % sh.layout.slots) p (unhurt p at refl ∙ rests.holds.bears.needs (PreparePlace (p.header.op % sh.layout.slots)) (PrepareUnit p) (p, at, refl, refl)) (sound.records.tail p at (omega (arith, found.reaches)))) [
      | inl low ↦ omega arith
      | inr cut ↦ let last = sound.groups p at in let some = chain_last sh.layout.clients
          (v.checkpoint.content.op + 1) v.checkpoint.content.op_checksum 0 v.checkpoint.parts.sessions v.tail p sound.chain at in
          let k : ℕ = p.header.group_last - (v.checkpoint.content.op + length tail) in
          let size : length (take k behind.0) ≡ k = omega (arith, length-take k behind.0, behind.1, last) in
          let chain = chain_take k sh.layout.clients (v.checkpoint.content.op + 1 + length tail) (last_checksum
          v.checkpoint.content.op_checksum tail) (last_mark 0 tail) (sessions_after v.checkpoint.parts.sessions tail) behind.0 behind.3 in
          let mate : (q : Message)
          → In q (take k behind.0) → (q.header.group ≡ p.header.group) × (q.header.group_last ≡ p.header.group_last) = λ q there.
          let ops = chain_ops sh.layout.clients (v.checkpoint.content.op + 1 + length tail) (last_checksum v.checkpoint.content.op_checksum
          tail) (last_mark 0 tail) (sessions_after v.checkpoint.parts.sessions tail) (take k behind.0) q chain there in
          same_group sh.layout.clients 0 v.checkpoint.content.op (v.checkpoint.content.op + 1) v.checkpoint.content.op_checksum 0 v.checkpoint.parts.sessions v.tail p q sound.chain sound.grouped at (behind.2 q (in_take k q behind.0 there)) (omega (arith, cut.first, ops.0)) (omega (arith, ops.1, size, some, above)) in
          found.longest (take k behind.0) (record {
            behind = record {
              room = omega (arith, size, last, sound.room);
              shown = λ q there. let q_in = behind.2 q (in_take k q behind.0 there) in taken_now q q_in (unhurt q q_in (mate q there).0);
              chain = chain;
              grouped = groups_take k 0 (v.checkpoint.content.op + length tail) (v.checkpoint.content.op + 1 + length tail) behind.0 behind.4;
            };
            some = omega (arith, size, some, above);
            ends = λ q there. omega (arith, (mate q there).1, size, some, above);
          })
    ]

pub hurt_law : HurtLaw
hurt_law sh log v shown rests of agreed needs = record {
  bears = record { sound = rests.holds.bears.sound; agrees = all_agree sh log v shown rests of; needs = needs };
  chosen = chosen_still sh log v shown rests of agreed;
  short = shown_short sh log v shown rests of;
}

pub never_behind_law : NeverBehindLaw
never_behind_law sh log v shown rests of agreed = (chosen_still sh log v shown rests of agreed, not_behind sh log v shown rests of)

pub headers_tell_law : HeadersTellLaw
headers_tell_law sh shown w s h places f is own above = let o = places (HeaderPlace s) (HeaderUnit h) is in
    let same : o.0 ≡ h = (let e = o.1 in cc) in header_in_tail sh shown w places f s h is (rw (← same) (λ some. (o.3 some).0)) own above

pub tail_is_front_law : TailIsFrontLaw
tail_is_front_law sh log v shown tail rests chance found = front sh log v shown rests chance.pooled tail found chance

pub lost_is_hurt_law : LostIsHurtLaw
lost_is_hurt_law sh log v shown tail more rests chance agreed found reach unhurt =
    not_lost sh log v shown rests chance.pooled tail found chance more reach unhurt

pub checkpoint_stays_law : CheckpointStaysLaw
checkpoint_stays_law sh log v w shown rests chance agreed f = λ i. record { content = content i; chain = chain i; parts = parts i }
  where
    content : w.checkpoint.content ≡ v.checkpoint.content
    content = one_chosen shown w.checkpoint.content v.checkpoint.content f.chosen (chosen_still sh log v shown rests chance.pooled agreed)

    pools : (place : Place) (x : AnyUnit) → InPool log place x → InPools log.start log.events place x
    pools place x is = pool_pools log.start log.events place x is

    chain : w.checkpoint.chain ≡ v.checkpoint.chain
    chain = same_links (sh.layout.block_size - 256)
        v.checkpoint.content w.checkpoint.chain v.checkpoint.chain v.checkpoint.content.trailer v.checkpoint.content.trailer_checksum
        (rw content at f.checkpoint.trailer.links) rests.holds.bears.sound.checkpoint.trailer.links
        (λ a e b d at there checksum. chance.distinct (BlockPlace a) (BlockPlace e) (BlockUnit b) (BlockUnit d)
        (pools (BlockPlace a) (BlockUnit b) (chance.pooled (BlockPlace a) (BlockUnit b) (f.chain_shown a b at)))
        (pools (BlockPlace e) (BlockUnit d)
        (rests.pooled (BlockPlace e) (BlockUnit d) (rests.holds.bears.needs (BlockPlace e) (BlockUnit d) (d, there, refl)))) checksum)

    parts : w.checkpoint.parts ≡ v.checkpoint.parts
    parts = same_parts sh w.checkpoint.content v.checkpoint.content w.checkpoint.chain v.checkpoint.chain
        w.checkpoint.parts v.checkpoint.parts content chain f.checkpoint.trailer.says rests.holds.bears.sound.checkpoint.trailer.says

-- ---- what is missing

pub missing_is_hurt_law : MissingIsHurtLaw
missing_is_hurt_law sh log v shown tail rests chance found lost p at above unhurt =
    missing sh log v shown rests chance.pooled tail found chance lost p at above unhurt

noted_past : (h : Header) (s t : Session) (ss rest : List Session) (k : ℕ) (b : Bool)
    → slice_get ss k ≡ Some s → (slice_get rest k ≡ Some s) ⊎ ((h.client ≡ s.client) × (slice_get rest k ≡ Some (session_of_header h)))
    → (slice_get (if b then session_of_header h ∷ ss else t ∷ rest) (suc k) ≡ Some s)
    ⊎ ((h.client ≡ s.client) × (slice_get (if b then session_of_header h ∷ ss else t ∷ rest) (suc k) ≡ Some (session_of_header h)))
noted_past h s t ss rest k true at later = inl at
noted_past h s t ss rest k false at later = later

-- a session stays at its place, or a prepare of its client replaces it
noted_at : (h : Header) (ss : List Session) (k : ℕ) (s : Session) → slice_get ss k ≡ Some s
    → (slice_get (noted h ss) k ≡ Some s) ⊎ ((h.client ≡ s.client) × (slice_get (noted h ss) k ≡ Some (session_of_header h)))
noted_at h [] k s at = absurd (let none : None ≡ Some s = at in cc)
noted_at h (t ∷ ss) zero s at = go (t.client == h.client) refl
  where
    one : t ≡ s
    one = let both : Some t ≡ Some s = at in cc

    go : (b : Bool) → (t.client == h.client) ≡ b → (slice_get (if b then session_of_header h ∷ ss else t ∷ noted h ss) 0 ≡ Some s)
        ⊎ ((h.client ≡ s.client) × (slice_get (if b then session_of_header h ∷ ss else t ∷ noted h ss) 0 ≡ Some (session_of_header h)))
    go true test = inr (sym (same_client test) ∙ ap (λ (x : Session). x.client) one, refl)
      where
        same_client : (t.client == h.client) ≡ true → t.client ≡ h.client
        same_client is = grind (arith, nat_tests)
    go false test = inl at
noted_at h (t ∷ ss) (suc k) s at = noted_past h s t ss (noted h ss) k (t.client == h.client) at (noted_at h ss k s at)

after_at : (ss : List Session) (ps : List Message) (k : ℕ) (s : Session) → slice_get ss k ≡ Some s → (slice_get (sessions_after ss ps) k
    ≡ Some s) ⊎ ((t : Session) × (p : Message) × (slice_get (sessions_after ss ps) k ≡ Some t) × In p ps × (p.header.client ≡ t.client))
after_at ss [] k s at = inl at
after_at ss (p ∷ ps) k s at = elim (noted_at p.header ss k s at) [
  | inl stays ↦ elim (after_at (noted p.header ss) ps k s stays) [ inl is ↦ inl is | inr new ↦ inr (new.0, new.1, new.2, inr new.3, new.4) ]
  | inr new ↦ elim (after_at (noted p.header ss) ps k (session_of_header p.header) new.1) [
    | inl is ↦ inr (session_of_header p.header, p, is, inl refl, refl)
    | inr later ↦ inr (later.0, later.1, later.2, inr later.3, later.4)
  ]
]

-- the front of a chain
front_is : (clients op parent mark : ℕ) (ss : List Session) (ps qs : List Message) → Chain clients op parent mark ss ps → Chain clients op parent mark ss qs → ((p q : Message) → In p ps → In q qs → p.header.op ≡ q.header.op → p ≡ q) → length ps ≤ length qs → qs ≡ ps ++ drop (length ps) qs
front_is clients op parent mark ss [] qs one two same short = refl
front_is clients op parent mark ss (p ∷ ps) [] one two same short = absurd (omega arith)
front_is clients op parent mark ss (p ∷ ps) (q ∷ qs) one two same short =
    let first : p ≡ q = same p q (inl refl) (inl refl) (one.0.op_is ∙ sym two.0.op_is) in
    let chain : Chain clients (op + 1) p.header.checksum p.header.mark (noted p.header ss) qs = rw (sym first) at two.1 in
    let rest = front_is clients (op + 1) p.header.checksum p.header.mark (noted p.header ss) ps qs one.1 chain (λ x y at there.
    same x y (inr at) (inr there)) (omega arith) in λ i. sym first i ∷ rest i

pub reply_is_hurt_law : ReplyIsHurtLaw
reply_is_hurt_law sh log v shown tail n k s rests chance found counted at low unhurt =
    elim (after_at (sessions_after v.checkpoint.parts.sessions tail) rest k s at) [
      | inl stays ↦
          let there : slice_get (sessions v) k ≡ Some s = ap (λ (l : List Session). slice_get l k) (sym same_sessions) ∙ stays ∙ refl in
          let r = sound.stores k s there (omega (arith, low, small)) in let t = sound.answered k r.0 r.1 in
          let one : t.0 ≡ s = (let both : Some t.0 ≡ Some s = sym t.1 ∙ there in cc) in
          inl (r.0, unhurt ∙ rests.holds.bears.needs (ReplyPlace k) (ReplyUnit r.0) (r.0, r.1, refl), rw one at t.3, sound.records.stored k r.0 r.1)
      | inr new ↦ inr (new.0, new.1, ap (λ (l : List Session). slice_get l k) (sym same_sessions) ∙ new.2, in_dropped (length tail) new.1 v.tail new.3, new.4, late new.1 new.3)
    ]
  where
    sound : Sound sh v
    sound = rests.holds.bears.sound

    rest : List Message
    rest = drop (length tail) v.tail

    split : v.tail ≡ tail ++ drop (length tail) v.tail
    split = front_is sh.layout.clients (v.checkpoint.content.op + 1) v.checkpoint.content.op_checksum 0 v.checkpoint.parts.sessions tail v.tail found.chain rests.holds.bears.sound.chain (same_prepare sh log v shown rests chance.pooled tail found chance) (tail_short sh log v shown rests chance.pooled tail found chance)

    same_sessions : sessions_after (sessions_after v.checkpoint.parts.sessions tail) (drop (length tail) v.tail) ≡ sessions v
    same_sessions = sym (sessions-append v.checkpoint.parts.sessions tail (drop (length tail) v.tail))
        ∙ ap (λ (l : List Message). sessions_after v.checkpoint.parts.sessions l) (sym split)

    small : n ≤ v.replies
    small = elim counted.reached [
      | inl is ↦ omega (arith, rests.holds.bears.sound.replies_from.0)
      | inr (inl is) ↦ omega (arith, front_mark)
      | inr (inr is) ↦ omega (arith, (reply_is sh log v shown rests chance.pooled is.0 is.1 is.2).op is.4, is.3)
    ]
      where
        front_mark : last_mark 0 tail ≤ v.replies
        front_mark = let whole : take (length tail) v.tail ≡ tail =
            ap (λ (l : List Message). take (length tail) l) split ∙ take_at tail (drop (length tail) v.tail) (length tail) refl in
            let up = last_mark-take (length tail) sh.layout.clients (v.checkpoint.content.op
            + 1) v.checkpoint.content.op_checksum 0 v.checkpoint.parts.sessions v.tail rests.holds.bears.sound.chain in
            omega (arith, up, ap (λ (l : List Message). last_mark 0 l) whole, rests.holds.bears.sound.replies_from.1)

    late : (p : Message) → In p (drop (length tail) v.tail) → v.checkpoint.content.op + length tail < p.header.op
    late p at =
        let chain = chain_drop (length tail) sh.layout.clients (v.checkpoint.content.op + 1) v.checkpoint.content.op_checksum 0 v.checkpoint.parts.sessions v.tail (tail_short sh log v shown rests chance.pooled tail found chance) rests.holds.bears.sound.chain in
        let ops = chain_ops sh.layout.clients (v.checkpoint.content.op + 1 + length tail) _ 0 _ (drop (length tail) v.tail) p chain at in
        omega (arith, ops.0)

-- ---- of a log

pub found_was_of_log_law : FoundWasOfLogLaw
found_was_of_log_law sh log v grown empty none shown chance w f = found_was_law sh (settled log) v grown.grows empty
    (λ place other x y one two.
    chance.distinct place other x y (pool_pools log.start log.events place x (inl one)) (pool_pools log.start log.events other y (inl two)))
    shown (λ place x is. elim (chance.pooled place x is) [ inl old ↦ old | inr pending ↦ absurd (none place x pending) ]) w f
