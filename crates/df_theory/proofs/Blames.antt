-- At rest a refusal blames what is hurt, and a read gives what was written.
use Rattle.std.{proofs.Common.{◌≡◌, inl, inr, ℕ, ◌+◌, ◌-◌, ◌%◌, ◌<◌, List, [], ◌∷◌, ◌++◌, length, take, Some, refl, sym, ◌∙◌, ap, subst, arith, length-append, append_assoc}, specs.List.{slice_get}}
use Rattle.df_theory.{specs.{Units.{AnyUnit, Block, BlockPlace, BlockUnit, Content, Message, Place, PreparePlace, PrepareUnit, ReplyPlace, Session, Units}, Tails.{In}, Shape.{Shape}, Copies.{Agree}, Trailer.{InChain, Links}, View.{Checkpoint, View, sessions}, UnitLog.{UnitLog, now}, Chance.{Distinct, NoChance}, Rests.{RestsOn}, Found.{IsTail, NotLost, slot_behind}, Opens.{AreFitting, BootSpent, named_by, Damaged, Found, IsReadable, IsShown, ReadsTo, Refusal, Refused}, DamageLaws.{BlameLaw, IsGroupUnhurt, IsHurt, ReadLaw, RefusalBlamesHurt}}, proofs.{Knowns.{IsNamedTail, fitting_front, known_at, known_same, named_tail}, Choices.{one_chosen}, OneView.{same_parts}, Once.{same_links}, Fields.{front_of}, Layers.{Answers, AnswersFields, AnswersKnown, AnswersReplies, AnswersTail, AnswersTraces, AnswersTrailer, answers_of}, OneAnswer.{count_one, in_behind}, BadFields.{all_shown}, Hurts.{pool_pools, chosen_still, not_behind, lost_is_hurt_law, missing_is_hurt_law, reply_is_hurt_law}}}

module _ (sh : Shape) (log : UnitLog) (v : View) (shown : Units) (rests : RestsOn sh log v) (chance : NoChance log shown) where
  -- what is shown and what stands are of the pools
  pub distinct_now : (place other : Place) (x y : AnyUnit) → now log place ≡ Some x → shown other ≡ Some y → Distinct x y
  distinct_now place other x y one two = chance.distinct place other x y (pool_pools
      log.start log.events place x (rests.pooled place x one)) (pool_pools log.start log.events other y (chance.pooled other y two))

  chain_now : (a : ℕ) (b : Block) → InChain a b v.checkpoint.chain → now log (BlockPlace a) ≡ Some (BlockUnit b)
  chain_now a b at = rests.holds.bears.needs (BlockPlace a) (BlockUnit b) (b, at, refl)

  pub same_block : (e : ℕ) (b d : Block)
      → InChain e b v.checkpoint.chain → shown (BlockPlace e) ≡ Some (BlockUnit d) → b.checksum ≡ d.checksum → b ≡ d
  same_block e b d at is checksum = distinct_now (BlockPlace e) (BlockPlace e) (BlockUnit b) (BlockUnit d) (chain_now e b at) is checksum

  -- the block that is wanted next is one of the file's trailer
  wanted_now : (read rest : List (ℕ × Block)) (a k : ℕ) → v.checkpoint.chain ≡ read ++ rest
      → Links (sh.layout.block_size - 256) v.checkpoint.content rest a k → length read < length v.checkpoint.chain → IsShown (now log) a k
  wanted_now read [] a k split links more = absurd (omega (arith, ap length split, length-append read []))
  wanted_now read (d ∷ ds) a k split links more = (
    d.1,
    ap (λ (e : ℕ). now log (BlockPlace e)) (sym links.1)
        ∙ chain_now d.0 d.1 (rw (sym split) at (in_behind d.0 d.1 read (d ∷ ds) (inl (refl, refl)))),
    links.2,
    links.6,
  )

  -- a block of the trailer that is not shown is hurt
  wanted_hurt : (a k : ℕ) → ReadsTo sh shown v.checkpoint.content a k → (IsShown shown a k → ⊥) → IsHurt log shown (BlockPlace a)
  wanted_hurt a k reads none unhurt =
      let front = front_of (sh.layout.block_size - 256) v.checkpoint.content shown v.checkpoint.chain reads.read v.checkpoint.content.trailer v.checkpoint.content.trailer_checksum a k rests.holds.bears.sound.checkpoint.trailer.links reads.arrives same_block in
      let count = count_one (sh.layout.block_size - 256) v.checkpoint.content.trailer_size
      reads.count (length v.checkpoint.chain) reads.counts rests.holds.bears.sound.checkpoint.trailer.count in
      let there = wanted_now reads.read front.0 a k front.1 front.2 (omega (arith, reads.more, count)) in
      none (there.0, unhurt ∙ there.1, there.2, there.3)

  -- a checkpoint that can be read is the file's
  readable_is : Agree shown v.checkpoint.content → (b : Checkpoint) → IsReadable sh shown b → b ≡ v.checkpoint
  readable_is agreed b readable = λ i. record { content = content i; chain = chain i; parts = parts i }
    where
      content : b.content ≡ v.checkpoint.content
      content = one_chosen shown b.content v.checkpoint.content readable.chosen (chosen_still sh log v shown rests chance.pooled agreed)

      chain : b.chain ≡ v.checkpoint.chain
      chain = same_links (sh.layout.block_size - 256)
          v.checkpoint.content b.chain v.checkpoint.chain v.checkpoint.content.trailer v.checkpoint.content.trailer_checksum
          (rw content at readable.sound.trailer.links) rests.holds.bears.sound.checkpoint.trailer.links
          (λ a e x y at there checksum. sym (distinct_now
          (BlockPlace e) (BlockPlace a) (BlockUnit y) (BlockUnit x) (chain_now e y there) (readable.shown a x at) (sym checksum)))

      parts : b.parts ≡ v.checkpoint.parts
      parts = same_parts sh b.content v.checkpoint.content b.chain v.checkpoint.chain
          b.parts v.checkpoint.parts content chain readable.sound.trailer.says rests.holds.bears.sound.checkpoint.trailer.says

pub read_law : ReadLaw
read_law log shown place other x y chance at is =
    chance.distinct place other x y at (pool_pools log.start log.events other y (chance.pooled other y is))

-- ---- step by step

module _ (sh : Shape) (log : UnitLog) (v : View)
    (shown : Units) (rests : RestsOn sh log v) (chance : NoChance log shown) (agreed : Agree shown v.checkpoint.content) (r : Refusal) where
  blame_replies : (tail : List Message) → IsTail sh shown v.checkpoint tail → NotLost shown v.checkpoint.content
      (v.checkpoint.content.op + length tail) → AnswersReplies shown v.checkpoint tail (Refused r) → RefusalBlamesHurt sh log v shown r
  blame_replies tail is_tail not_lost (n, counted, inl p) = rw (← (let both : Refused r ≡ Refused (Damaged
      (ReplyPlace p.0)) = p.2 in let one : Damaged (ReplyPlace p.0) ≡ r = cc in one)) (λ unhurt. blamed unhurt)
    where
      blamed : shown (ReplyPlace p.0) ≡ now log (ReplyPlace p.0) → (s : Session) × (q : Message) × (found : List Message) × (slice_get (sessions v) p.0 ≡ Some s) × In q v.tail × (q.header.client ≡ s.client) × IsTail sh shown v.checkpoint found × (v.checkpoint.content.op + length found < q.header.op) × (IsGroupUnhurt sh log v shown q → ⊥)
      blamed unhurt = elim (reply_is_hurt_law sh log v shown tail n p.0 p.1.session rests chance is_tail counted p.1.at p.1.stored unhurt) [
        | inl answered ↦ absurd (p.1.lacks answered)
        | inr later ↦ (later.0, later.1, tail, later.2, later.3, later.4, is_tail, later.5, missing_is_hurt_law sh log v shown tail rests chance is_tail not_lost later.1 later.3 later.5)
      ]
  blame_replies tail is_tail not_lost (n, counted, inr p) = elim p.5 [
    | inl q ↦ absurd (let both : Refused r ≡ Found p.0 = q.1 in cc)
    | inr q ↦ rw (← (let both : Refused r ≡ Refused BootSpent = q.1 in let one : BootSpent ≡ r = cc in one))
        (omega (arith, q.0, ap (λ (b : Checkpoint). b.content.boot) p.1))
  ]

  blame_tail : AnswersTail sh shown v.checkpoint (Refused r) → RefusalBlamesHurt sh log v shown r
  blame_tail (tail, is_tail, inl p) = subst (λ (x : Refusal). RefusalBlamesHurt sh log v shown x)
      (let both : Refused r ≡ Refused (Damaged (PreparePlace (slot_behind sh v.checkpoint tail p.1.0))) = p.1.2 in
      let one : Damaged (PreparePlace (slot_behind sh v.checkpoint tail p.1.0)) ≡ r = cc in one)
      (λ unhurt. p.0 (lost_is_hurt_law sh log v shown tail p.1.0 rests chance agreed is_tail p.1.1 unhurt))
  blame_tail (tail, is_tail, inr p) = blame_replies tail is_tail p.0 p.1

  -- what the superblock names, as the file shows it
  named : IsNamedTail sh (now log) v.checkpoint (take (v.checkpoint.content.pin - v.checkpoint.content.op) v.tail)
  named = let sound = rests.holds.bears.sound in
      named_tail sh (now log) v.checkpoint v.tail sound.chain sound.grouped sound.pin_ends (λ p at. rests.holds.bears.needs (PreparePlace (p.header.op % sh.layout.slots)) (PrepareUnit p) (p, at, refl, refl)) sound.checkpoint.tests.pin.0 sound.records.pin_to sound.records.checksum

  one_named : (s : ℕ) (p q : Message) → shown (PreparePlace s) ≡ Some (PrepareUnit p)
      → now log (PreparePlace s) ≡ Some (PrepareUnit q) → p.header.checksum ≡ q.header.checksum → p ≡ q
  one_named s p q at there checksum = chance.distinct (PreparePlace s) (PreparePlace s) (PrepareUnit p) (PrepareUnit q)
      (pool_pools log.start log.events (PreparePlace s) (PrepareUnit p) (chance.pooled (PreparePlace s) (PrepareUnit p) at))
      (pool_pools log.start log.events (PreparePlace s) (PrepareUnit q) (rests.pooled (PreparePlace s) (PrepareUnit q) there)) checksum

  blame_known : AnswersKnown sh shown v.checkpoint (Refused r) → RefusalBlamesHurt sh log v shown r
  blame_known (inl p) = subst (λ (x : Refusal). RefusalBlamesHurt sh log v shown x) (let both : Refused r ≡ Refused (Damaged
      (PreparePlace (p.0 % sh.layout.slots))) = p.2 in let one : Damaged (PreparePlace (p.0 % sh.layout.slots)) ≡ r = cc in one) (λ unhurt.
      let lack = p.1 in let ks : List Message = take (v.checkpoint.content.pin - v.checkpoint.content.op) v.tail in
      let at = known_at sh.layout.slots (now log) (v.checkpoint.content.op + 1) v.checkpoint.content.pin_checksum p.0 v.checkpoint.content.pin ks (named.known (omega (arith, named.count, lack.count, lack.above))) (omega (arith, lack.above)) (omega (arith, named.count, lack.count)) (omega (arith, named.count)) in
      let same : lack.read ≡ at.rest = known_same sh.layout.slots shown (now log)
      (p.0 + 1) v.checkpoint.content.pin_checksum lack.read at.rest lack.known at.known (omega (arith, lack.count, at.count)) one_named in
      lack.lacks at.here (unhurt ∙ at.shown) (at.names ∙ ap (λ (l : List Message). named_by v.checkpoint.content.pin_checksum l) (sym same)))
  blame_known (inr (inl p)) = let unfit = p.1 in let ks : List Message = take (v.checkpoint.content.pin - v.checkpoint.content.op) v.tail in
      let some : 0 < length ks = omega (arith, named.count, unfit.count, length-append p.0 (unfit.next ∷ unfit.rest)) in
      let same : p.0 ++ unfit.next ∷ unfit.rest ≡ ks = known_same sh.layout.slots shown (now log) (v.checkpoint.content.op + 1) v.checkpoint.content.pin_checksum (p.0 ++ unfit.next ∷ unfit.rest) ks unfit.known (named.known some) (omega (arith, named.count, unfit.count)) one_named in
      let split : (p.0 ++ unfit.next ∷ []) ++ unfit.rest ≡ ks = append_assoc p.0 (unfit.next ∷ []) unfit.rest ∙ same in
      absurd (unfit.fails (fitting_front sh v.checkpoint (p.0 ++ unfit.next ∷ []) unfit.rest (rw (sym split) at named.fits)))
  blame_known (inr (inr p)) = blame_tail p

  blame_traces : AnswersTraces sh shown v.checkpoint (Refused r) → RefusalBlamesHurt sh log v shown r
  blame_traces (inl p) = absurd (p.1 (not_behind sh log v shown rests chance.pooled))
  blame_traces (inr p) = blame_known p.1

  blame_trailer : AnswersTrailer sh shown v.checkpoint.content (Refused r) → RefusalBlamesHurt sh log v shown r
  blame_trailer (inl p) = subst (λ (x : Refusal). RefusalBlamesHurt sh log v shown x) (let both : Refused r ≡ Refused (Damaged (BlockPlace
      p.0)) = p.4 in let one : Damaged (BlockPlace p.0) ≡ r = cc in one) (wanted_hurt sh log v shown rests chance p.0 p.1 p.2 p.3)
  blame_trailer (inr (inl p)) = absurd (p.1 v.checkpoint refl (record {
    chosen = chosen_still sh log v shown rests chance.pooled agreed;
    sound = rests.holds.bears.sound.checkpoint;
    shown = all_shown sh shown v.checkpoint rests.holds.bears.sound.checkpoint p.0 (same_block sh log v shown rests chance);
  }))
  blame_trailer (inr (inr p)) = blame_traces (rw (readable_is sh log v shown rests chance agreed p.0 p.2) at p.3)

  blame_fields : AnswersFields sh shown v.checkpoint.content (Refused r) → RefusalBlamesHurt sh log v shown r
  blame_fields (inl p) = absurd (p.0 rests.holds.bears.sound.checkpoint.tests rests.holds.bears.sound.checkpoint.trailer.reference)
  blame_fields (inr p) = blame_trailer p.2

  pub blame : Answers sh shown (Refused r) → RefusalBlamesHurt sh log v shown r
  blame (inl p) = absurd (p.0 v.checkpoint.content agreed)
  blame (inr p) =
      blame_fields (rw (one_chosen shown p.0 v.checkpoint.content p.1 (chosen_still sh log v shown rests chance.pooled agreed)) at p.2)

pub blame_law : BlameLaw
blame_law sh log v shown r rests chance agreed opens = blame sh log v shown rests chance agreed r (answers_of sh shown (Refused r) opens)
