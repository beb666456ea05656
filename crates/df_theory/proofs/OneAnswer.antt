-- An open gives one answer, and a state exactly where no step refuses.
use Rattle.std.{proofs.{Common.{◌≡◌, ◌⊎◌, inl, inr, ℕ, ◌+◌, ◌-◌, ◌*◌, ◌%◌, ◌^◌, ◌<◌, ◌≤◌, List, [], ◌∷◌, ◌++◌, length, take, Some, refl, sym, ◌∙◌, ap, subst, arith, length-append}, lemmas.Bool.{cases_lt}, Math.Nat.{mul-le-mul_left}}, specs.List.{slice_get}}
use Rattle.df_theory.{specs.{Units.{Block, BlockPlace, BlockUnit, Content, CopyPlace, Message, PreparePlace, ReplyPlace, Session, Units}, Sessions.{sessions_after}, Shape.{Shape}, Copies.{IsChosen}, Trailer.{InChain, IsCount, Links}, View.{Checkpoint, IsSoundCheckpoint, View, boot_of, sessions}, Holds.{IsNamed}, Found.{IsFound, IsReach, IsReplies, IsStored, IsTail, NotBehind, NotLost, slot_behind}, Opens.{OpenAnswer, Arrives, BadField, BootSpent, Spent, Damaged, Found, IsLowest, IsReadable, IsShown, LacksReply, NoQuorum, Opened, ReadsTo, Refused}, ViewLaws.{FoundAnswerLaw, OneAnswerLaw, SpentAnswerLaw}}, proofs.{Choices.{one_chosen}, OneView.{same_chain, same_parts}, OneFound.{one_reach, one_tail, not_more, one_stored}, Knowns.{named_all, named_fit, none_lacking, not_further, one_lacking, tail_named}, Fields.{front_of}, Layers.{Answers, AnswersFields, AnswersKnown, AnswersLast, AnswersReplies, AnswersTail, AnswersTraces, AnswersTrailer, answers_of}}}

-- ---- one number of pieces, one checkpoint

not_fewer : (room size n m : ℕ) → IsCount room size n → IsCount room size m → n < m → ⊥
not_fewer room size n m one two less = let le : room * n ≤ room * (m - 1) = mul-le-mul_left room (omega arith) in
    omega (arith, one.holds, two.needed (omega arith))

pub count_one : (room size n m : ℕ) → IsCount room size n → IsCount room size m → n ≡ m
count_one room size n m one two = elim (cases_lt n m) [
  | inl less ↦ absurd (not_fewer room size n m one two less)
  | inr more ↦ elim (cases_lt m n) [
    | inl less ↦ absurd (not_fewer room size m n two one less)
    | inr same ↦ omega arith
  ]
]

pub readable_one : (sh : Shape) (image : Units) (b d : Checkpoint) → IsReadable sh image b → IsReadable sh image d → b ≡ d
readable_one sh image b d one two = λ i. record { content = content i; chain = chain i; parts = parts i }
  where
    content : b.content ≡ d.content
    content = one_chosen image b.content d.content one.chosen two.chosen

    chain : b.chain ≡ d.chain
    chain = same_chain
        (sh.layout.block_size - 256) b.content image b.chain d.chain b.content.trailer b.content.trailer_checksum one.sound.trailer.links
        (rw (sym content) at two.sound.trailer.links) one.shown two.shown

    parts : b.parts ≡ d.parts
    parts = same_parts sh b.content d.content b.chain d.chain b.parts d.parts content chain one.sound.trailer.says two.sound.trailer.says

-- ---- the trailer

pub in_behind : (a : ℕ) (x : Block) (bs ds : List (ℕ × Block)) → InChain a x ds → InChain a x (bs ++ ds)
in_behind a x [] ds at = at
in_behind a x (b ∷ bs) ds at = inr (in_behind a x bs ds at)

-- what is wanted next
next_shown : (image : Units) (room : ℕ) (c : Content) (chain read rest : List (ℕ × Block)) (a k : ℕ) → ((e : ℕ) (x : Block) → InChain e x chain → image (BlockPlace e) ≡ Some (BlockUnit x)) → chain ≡ read ++ rest → Links room c rest a k → length read < length chain → IsShown image a k
next_shown image room c chain read [] a k shown split links more = absurd (omega (arith, ap length split, length-append read []))
next_shown image room c chain read (d ∷ ds) a k shown split links more = (
  d.1,
  ap (λ (e : ℕ). image (BlockPlace e)) (sym links.1) ∙ shown d.0 d.1 (rw (sym split) at (in_behind d.0 d.1 read (d ∷ ds) (inl (refl, refl)))),
  links.2,
  links.6,
)

-- a checkpoint that can be read has every block that is wanted
readable_reads : (sh : Shape) (image : Units) (b : Checkpoint) (a k : ℕ)
    → IsReadable sh image b → ReadsTo sh image b.content a k → IsShown image a k
readable_reads sh image b a k readable reads = let front = front_of (sh.layout.block_size - 256)
    b.content image b.chain reads.read b.content.trailer b.content.trailer_checksum a k readable.sound.trailer.links reads.arrives
    (λ e x y at is checksum. let both : Some (BlockUnit x) ≡ Some (BlockUnit y) = sym (readable.shown e x at) ∙ is in cc) in let count =
    count_one (sh.layout.block_size - 256) b.content.trailer_size reads.count (length b.chain) reads.counts readable.sound.trailer.count in
    next_shown image
    (sh.layout.block_size - 256) b.content b.chain reads.read front.0 a k readable.shown front.1 front.2 (omega (arith, reads.more, count))

-- two blocks that are wanted and not shown are one
same_wanted : (image : Units) (bs ds : List (ℕ × Block)) (address checksum a k e m : ℕ) → Arrives image bs address checksum a k
    → Arrives image ds address checksum e m → (IsShown image a k → ⊥) → (IsShown image e m → ⊥) → a ≡ e
same_wanted image [] [] address checksum a k e m one two none no_more = one.0 ∙ sym two.0
same_wanted image [] (d ∷ ds) address checksum a k e m one two none no_more =
    absurd (none (d.1, ap (λ (x : ℕ). image (BlockPlace x)) one.0 ∙ two.3, two.2 ∙ sym one.1, two.4))
same_wanted image (b ∷ bs) [] address checksum a k e m one two none no_more =
    absurd (no_more (b.1, ap (λ (x : ℕ). image (BlockPlace x)) two.0 ∙ one.3, one.2 ∙ sym two.1, one.4))
same_wanted image (b ∷ bs) (d ∷ ds) address checksum a k e m one two none no_more =
    let block : d.1 ≡ b.1 = (let both : Some (BlockUnit d.1) ≡ Some (BlockUnit b.1) = sym two.3 ∙ one.3 in cc) in
    same_wanted image bs ds b.1.before b.1.before_checksum a k e m one.5 (rw block at two.5) none no_more

-- ---- step by step

not_first : (image : Units) (c : Content) (ss : List Session) (n j k : ℕ) → LacksReply image c ss n j → LacksReply image c ss n k → j < k → ⊥
not_first image c ss n j k one two less = one.lacks (two.first j one.session less one.at one.stored)

same_first : (image : Units) (c : Content) (ss : List Session) (n j k : ℕ) → LacksReply image c ss n j → LacksReply image c ss n k → j ≡ k
same_first image c ss n j k one two = elim (cases_lt j k) [
  | inl less ↦ absurd (not_first image c ss n j k one two less)
  | inr more ↦ elim (cases_lt k j) [ inl less ↦ absurd (not_first image c ss n k j two one less) | inr same ↦ omega arith ]
]

-- a state with this checkpoint, tail and number of replies lacks none
none_lacks : (image : Units) (b : Checkpoint) (tail : List Message) (n k : ℕ) (v : View) → LacksReply
    image b.content (sessions_after b.parts.sessions tail) n k → v.checkpoint ≡ b → v.tail ≡ tail → v.replies ≡ n → IsStored image v → ⊥
none_lacks image b tail n k v lack base same count stored =
    let sessions_are : sessions v ≡ sessions_after b.parts.sessions tail = λ i. sessions_after (base i).parts.sessions (same i) in
    let there = stored.shown k lack.session (ap (λ (l : List Session). slice_get l k) sessions_are ∙ lack.at) (omega (arith, lack.stored)) in
    lack.lacks (there.0, there.2, there.3, subst (λ (d : Checkpoint). IsNamed d.content k there.0) base there.4)

same_state : (image : Units) (b : Checkpoint) (tail : List Message) (n : ℕ) (v w : View) → v.checkpoint ≡ b
    → w.checkpoint ≡ b → v.tail ≡ tail → w.tail ≡ tail → v.replies ≡ n → w.replies ≡ n → IsStored image v → IsStored image w → v ≡ w
same_state image b tail n v w base_v base_w tail_v tail_w count_v count_w stored_v stored_w =
    λ i. record { checkpoint = base i; tail = same i; replies = count i; stored = λ k. stored k i }
  where
    base : v.checkpoint ≡ w.checkpoint
    base = base_v ∙ sym base_w

    same : v.tail ≡ w.tail
    same = tail_v ∙ sym tail_w

    count : v.replies ≡ w.replies
    count = count_v ∙ sym count_w

    sessions_are : sessions v ≡ sessions w
    sessions_are = λ i. sessions_after (base i).parts.sessions (same i)

    stored : (k : ℕ) → v.stored k ≡ w.stored k
    stored k = one_stored image v w stored_v stored_w sessions_are count k (v.stored k) (w.stored k) refl refl

last_one : (v w : View) (x y : OpenAnswer) → v ≡ w → AnswersLast v x → AnswersLast w y → x ≡ y
last_one v w x y same (inl p) (inl q) = p.1 ∙ ap Found same ∙ sym q.1
last_one v w x y same (inl p) (inr q) = absurd (omega (arith, p.0, q.0, ap boot_of same))
last_one v w x y same (inr p) (inl q) = absurd (omega (arith, p.0, q.0, ap boot_of same))
last_one v w x y same (inr p) (inr q) = p.1 ∙ sym q.1

replies_one : (image : Units) (b : Checkpoint) (tail : List Message) (x y : OpenAnswer)
    → AnswersReplies image b tail x → AnswersReplies image b tail y → x ≡ y
replies_one image b tail x y one two = go one.2 two.2
  where
    same : two.0 ≡ one.0
    same = let up = not_more image b.content tail one.0 two.0 one.1 two.1 in
        let down = not_more image b.content tail two.0 one.0 two.1 one.1 in omega arith

    go : (((k : ℕ) × LacksReply image b.content (sessions_after b.parts.sessions tail) one.0 k × (x ≡ Refused (Damaged (ReplyPlace k))))
        ⊎ ((v : View) × (v.checkpoint ≡ b) × (v.tail ≡ tail) × (v.replies ≡ one.0) × IsStored image v × AnswersLast v x))
        → (((k : ℕ) × LacksReply image b.content (sessions_after b.parts.sessions tail) two.0 k × (y ≡ Refused (Damaged (ReplyPlace k))))
        ⊎ ((v : View) × (v.checkpoint ≡ b) × (v.tail ≡ tail) × (v.replies ≡ two.0) × IsStored image v × AnswersLast v y)) → x ≡ y
    go (inl p) (inl q) = let k = same_first image b.content (sessions_after b.parts.sessions tail) one.0 p.0 q.0 p.1 (rw same at q.1) in
        p.2 ∙ ap (λ (n : ℕ). Refused (Damaged (ReplyPlace n))) k ∙ sym q.2
    go (inl p) (inr q) = absurd (none_lacks image b tail one.0 p.0 q.0 p.1 q.1 q.2 (q.3 ∙ same) q.4)
    go (inr p) (inl q) = absurd (none_lacks image b tail two.0 q.0 p.0 q.1 p.1 p.2 (p.3 ∙ sym same) p.4)
    go (inr p) (inr q) = last_one p.0 q.0 x y (same_state image b tail one.0 p.0 q.0 p.1 q.1 p.2 q.2 p.3 (q.3 ∙ same) p.4 q.4) p.5 q.5

tail_one : (sh : Shape) (image : Units) (b : Checkpoint) (x y : OpenAnswer) → AnswersTail sh image b x → AnswersTail sh image b y → x ≡ y
tail_one sh image b x y one two = go one.2 (rw same at two.2)
  where
    same : two.0 ≡ one.0
    same = one_tail sh image b two.0 one.0 two.1 one.1

    reach : (ps qs : List Message) → IsReach sh image b one.0 ps → IsReach sh image b one.0 qs → length ps ≡ length qs
    reach ps qs a c = elim (cases_lt (length ps) (length qs)) [
      | inl less ↦ absurd (one_reach sh image b one.0 ps qs a c less)
      | inr more ↦
          elim (cases_lt (length qs) (length ps)) [ inl less ↦ absurd (one_reach sh image b one.0 qs ps c a less) | inr is ↦ omega arith ]
    ]

    go : ((NotLost image b.content (b.content.op + length one.0) → ⊥) × ((more : List Message) × IsReach sh image b one.0 more × (x ≡ Refused (Damaged (PreparePlace (slot_behind sh b one.0 more)))))) ⊎ (NotLost image b.content (b.content.op + length one.0) × AnswersReplies image b one.0 x)
        → ((NotLost image b.content (b.content.op + length one.0) → ⊥) × ((more : List Message) × IsReach sh image b one.0 more × (y ≡ Refused (Damaged (PreparePlace (slot_behind sh b one.0 more)))))) ⊎ (NotLost image b.content (b.content.op + length one.0) × AnswersReplies image b one.0 y) → x ≡ y
    go (inl p) (inl q) = p.1.2 ∙ ap (λ (n : ℕ). Refused (Damaged (PreparePlace ((b.content.op + length one.0 + n + 1) % sh.layout.slots))))
        (reach p.1.0 q.1.0 p.1.1 q.1.1) ∙ sym q.1.2
    go (inl p) (inr q) = absurd (p.0 q.0)
    go (inr p) (inl q) = absurd (q.0 p.0)
    go (inr p) (inr q) = replies_one image b one.0 x y p.1 q.1

-- the prepares that the superblock names
known_one : (sh : Shape) (image : Units) (b : Checkpoint) (x y : OpenAnswer)
    → b.content.op ≤ b.content.pin → AnswersKnown sh image b x → AnswersKnown sh image b y → x ≡ y
known_one sh image b x y from (inl p) (inl q) =
    p.2 ∙ ap (λ (n : ℕ). Refused (Damaged (PreparePlace (n % sh.layout.slots)))) (one_lacking sh image b.content p.0 q.0 p.1 q.1) ∙ sym q.2
known_one sh image b x y from (inl p) (inr (inl q)) =
    absurd (none_lacking sh image b.content.op (q.0 ++ q.1.next ∷ q.1.rest) b.content p.0 q.1.known q.1.count p.1.above p.1)
known_one sh image b x y from (inl p) (inr (inr q)) =
    absurd (named_all sh image b (take (b.content.pin - b.content.op) q.0) (tail_named sh image b q.0 q.1 from) p.0 p.1)
known_one sh image b x y from (inr (inl p)) (inl q) =
    absurd (none_lacking sh image b.content.op (p.0 ++ p.1.next ∷ p.1.rest) b.content q.0 p.1.known p.1.count q.1.above q.1)
known_one sh image b x y from (inr (inl p)) (inr (inl q)) = let size : length p.0 ≡ length q.0 = elim (cases_lt (length p.0) (length q.0)) [
  | inl less ↦ absurd (not_further sh image b p.0 q.0 p.1 q.1 less)
  | inr more ↦
      elim (cases_lt (length q.0) (length p.0)) [ inl less ↦ absurd (not_further sh image b q.0 p.0 q.1 p.1 less) | inr same ↦ omega arith ]
] in p.2 ∙ ap (λ (n : ℕ). Refused (Damaged (PreparePlace ((b.content.op + n + 1) % sh.layout.slots)))) size ∙ sym q.2
known_one sh image b x y from (inr (inl p)) (inr (inr q)) =
    absurd (named_fit sh image b (take (b.content.pin - b.content.op) q.0) p.0 (tail_named sh image b q.0 q.1 from) p.1)
known_one sh image b x y from (inr (inr p)) (inl q) =
    absurd (named_all sh image b (take (b.content.pin - b.content.op) p.0) (tail_named sh image b p.0 p.1 from) q.0 q.1)
known_one sh image b x y from (inr (inr p)) (inr (inl q)) =
    absurd (named_fit sh image b (take (b.content.pin - b.content.op) p.0) q.0 (tail_named sh image b p.0 p.1 from) q.1)
known_one sh image b x y from (inr (inr p)) (inr (inr q)) = tail_one sh image b x y p q

same_lowest : (image : Units) (c : Content) (n m : ℕ) → IsLowest image c n → IsLowest image c m → n ≡ m
same_lowest image c n m one two = elim (cases_lt n m) [
  | inl less ↦ absurd (two.lowest n less one.shows)
  | inr more ↦ elim (cases_lt m n) [ inl less ↦ absurd (one.lowest m less two.shows) | inr same ↦ omega arith ]
]

traces_one : (sh : Shape) (image : Units) (b : Checkpoint) (x y : OpenAnswer)
    → b.content.op ≤ b.content.pin → AnswersTraces sh image b x → AnswersTraces sh image b y → x ≡ y
traces_one sh image b x y from (inl p) (inl q) =
    p.3 ∙ ap (λ (n : ℕ). Refused (Damaged (CopyPlace n))) (same_lowest image b.content p.0 q.0 p.2 q.2) ∙ sym q.3
traces_one sh image b x y from (inl p) (inr q) = absurd (p.1 q.0)
traces_one sh image b x y from (inr p) (inl q) = absurd (q.1 p.0)
traces_one sh image b x y from (inr p) (inr q) = known_one sh image b x y from p.1 q.1

trailer_one : (sh : Shape) (image : Units) (c : Content) (x y : OpenAnswer) → AnswersTrailer sh image c x → AnswersTrailer sh image c y → x ≡ y
trailer_one sh image c x y (inl p) (inl q) = p.4 ∙ ap (λ (n : ℕ). Refused (Damaged (BlockPlace n)))
    (same_wanted image p.2.read q.2.read c.trailer c.trailer_checksum p.0 p.1 q.0 q.1 p.2.arrives q.2.arrives p.3 q.3) ∙ sym q.4
trailer_one sh image c x y (inl p) (inr (inl q)) = absurd (p.3 (q.0 p.0 p.1 p.2))
trailer_one sh image c x y (inl p) (inr (inr q)) = absurd (p.3 (readable_reads sh image q.0 p.0 p.1 q.2 (rw (sym q.1) at p.2)))
trailer_one sh image c x y (inr (inl p)) (inl q) = absurd (q.3 (p.0 q.0 q.1 q.2))
trailer_one sh image c x y (inr (inl p)) (inr (inl q)) = p.2 ∙ sym q.2
trailer_one sh image c x y (inr (inl p)) (inr (inr q)) = absurd (p.1 q.0 q.1 q.2)
trailer_one sh image c x y (inr (inr p)) (inl q) = absurd (q.3 (readable_reads sh image p.0 q.0 q.1 p.2 (rw (sym p.1) at q.2)))
trailer_one sh image c x y (inr (inr p)) (inr (inl q)) = absurd (q.1 p.0 p.1 p.2)
trailer_one sh image c x y (inr (inr p)) (inr (inr q)) =
    traces_one sh image p.0 x y p.2.sound.tests.pin.0 p.3 (rw (readable_one sh image q.0 p.0 q.2 p.2) at q.3)

fields_one : (sh : Shape) (image : Units) (c : Content) (x y : OpenAnswer) → AnswersFields sh image c x → AnswersFields sh image c y → x ≡ y
fields_one sh image c x y (inl p) (inl q) = p.1 ∙ sym q.1
fields_one sh image c x y (inl p) (inr q) = absurd (p.0 q.0 q.1)
fields_one sh image c x y (inr p) (inl q) = absurd (q.0 p.0 p.1)
fields_one sh image c x y (inr p) (inr q) = trailer_one sh image c x y p.2 q.2

answers_one : (sh : Shape) (image : Units) (x y : OpenAnswer) → Answers sh image x → Answers sh image y → x ≡ y
answers_one sh image x y (inl p) (inl q) = p.1 ∙ sym q.1
answers_one sh image x y (inl p) (inr q) = absurd (p.0 q.0 q.1.agreed)
answers_one sh image x y (inr p) (inl q) = absurd (q.0 p.0 p.1.agreed)
answers_one sh image x y (inr p) (inr q) = fields_one sh image p.0 x y p.2 (rw (one_chosen image q.0 p.0 q.1 p.1) at q.2)

pub one_answer_law : OneAnswerLaw
one_answer_law sh image x y one two = answers_one sh image x y (answers_of sh image x one) (answers_of sh image y two)

-- ---- a state

-- what is read up to the last step is found
to_state : (sh : Shape) (image : Units) (b : Checkpoint) (tail : List Message) (n : ℕ) (w : View) → IsReadable sh image b → NotBehind sh image b.content → IsTail sh image b tail → NotLost image b.content (b.content.op + length tail) → IsReplies image b.content tail n → w.checkpoint ≡ b → w.tail ≡ tail → w.replies ≡ n → IsStored image w → IsFound sh image w
to_state sh image b tail n w readable not_behind is_tail not_lost counted base same count stored = record {
  chosen = rw (sym base) at readable.chosen;
  checkpoint = rw (sym base) at readable.sound;
  chain_shown = rw (sym base) at readable.shown;
  not_behind = rw (sym base) at not_behind;
  tail = rw (sym base) at (rw (sym same) at is_tail);
  not_lost = rw (sym base) at (rw (sym same) at not_lost);
  replies = rw (sym base) at (rw (sym same) at (rw (sym count) at counted));
  stored = stored;
}

to_found : (sh : Shape) (image : Units) (v : View) → Answers sh image (Found v) → IsFound sh image v × (boot_of v < 2 ^ 62)
to_found sh image v (inl p) = absurd (let both : Found v ≡ Refused NoQuorum = p.1 in cc)
to_found sh image v (inr (c, chosen, inl p)) = absurd (let both : Found v ≡ Refused BadField = p.1 in cc)
to_found sh image v (inr (c, chosen, inr (tests, reference, inl p))) =
    absurd (let both : Found v ≡ Refused (Damaged (BlockPlace p.0)) = p.4 in cc)
to_found sh image v (inr (c, chosen, inr (tests, reference, inr (inl p)))) = absurd (let both : Found v ≡ Refused BadField = p.2 in cc)
to_found sh image v (inr (c, chosen, inr (tests, reference, inr (inr (b, content, readable, inl p))))) =
    absurd (let both : Found v ≡ Refused (Damaged (CopyPlace p.0)) = p.3 in cc)
to_found sh image v (inr (c, chosen, inr (tests, reference, inr (inr (b, content, readable, inr (not_behind, inl p)))))) =
    absurd (let both : Found v ≡ Refused (Damaged (PreparePlace (p.0 % sh.layout.slots))) = p.2 in cc)
to_found sh image v (inr (c, chosen, inr (tests, reference, inr (inr (b, content, readable, inr (not_behind, inr (inl p))))))) =
    absurd (let both : Found v ≡ Refused (Damaged (PreparePlace ((b.content.op + length p.0 + 1) % sh.layout.slots))) = p.2 in cc)
to_found sh image v (inr (c, chosen, inr (tests, reference, inr (inr (b, content, readable, inr (not_behind, inr (inr (tail, is_tail, inl p)))))))) = absurd (let both : Found v ≡ Refused (Damaged (PreparePlace (slot_behind sh b tail p.1.0))) = p.1.2 in cc)
to_found sh image v (inr (c, chosen, inr (tests, reference, inr (inr (b, content, readable, inr (not_behind, inr (inr (tail, is_tail, inr (not_lost, (n, counted, inl p)))))))))) = absurd (let both : Found v ≡ Refused (Damaged (ReplyPlace p.0)) = p.2 in cc)
to_found sh image v (inr (c, chosen, inr (tests, reference, inr (inr (b, content, readable, inr (not_behind, inr (inr (tail, is_tail, inr (not_lost, (n, counted, inr (w, base, same, count, stored, is)))))))))))
    = elim is [
      | inl p ↦ let one : w ≡ v = (let both : Found v ≡ Found w = p.1 in let back : w ≡ v = cc in back) in
          rw (← one) (to_state sh image b tail n w readable not_behind is_tail not_lost counted base same count stored, p.0)
      | inr p ↦ absurd (let both : Found v ≡ Refused BootSpent = p.1 in cc)
    ]

pub found_answer_law : FoundAnswerLaw
found_answer_law sh image v = (λ opens. to_found sh image v (answers_of sh image (Found v) opens), λ found. Opened v found.0 found.1)

to_spent : (sh : Shape) (image : Units) → Answers sh image (Refused BootSpent) → (v : View) × IsFound sh image v × (boot_of v ≡ 2 ^ 62)
to_spent sh image (inl p) = absurd (let both : Refused BootSpent ≡ Refused NoQuorum = p.1 in cc)
to_spent sh image (inr (c, chosen, inl p)) = absurd (let both : Refused BootSpent ≡ Refused BadField = p.1 in cc)
to_spent sh image (inr (c, chosen, inr (tests, reference, inl p))) =
    absurd (let both : Refused BootSpent ≡ Refused (Damaged (BlockPlace p.0)) = p.4 in cc)
to_spent sh image (inr (c, chosen, inr (tests, reference, inr (inl p)))) = absurd (let both : Refused BootSpent ≡ Refused BadField = p.2 in cc)
to_spent sh image (inr (c, chosen, inr (tests, reference, inr (inr (b, content, readable, inl p))))) =
    absurd (let both : Refused BootSpent ≡ Refused (Damaged (CopyPlace p.0)) = p.3 in cc)
to_spent sh image (inr (c, chosen, inr (tests, reference, inr (inr (b, content, readable, inr (not_behind, inl p)))))) =
    absurd (let both : Refused BootSpent ≡ Refused (Damaged (PreparePlace (p.0 % sh.layout.slots))) = p.2 in cc)
to_spent sh image (inr (c, chosen, inr (tests, reference, inr (inr (b, content, readable, inr (not_behind, inr (inl p))))))) =
    absurd (let both : Refused BootSpent ≡ Refused (Damaged (PreparePlace ((b.content.op + length p.0 + 1) % sh.layout.slots))) = p.2 in cc)
to_spent sh image (inr (c, chosen, inr (tests, reference, inr (inr (b, content, readable, inr (not_behind, inr (inr (tail, is_tail, inl p)))))))) = absurd (let both : Refused BootSpent ≡ Refused (Damaged (PreparePlace (slot_behind sh b tail p.1.0))) = p.1.2 in cc)
to_spent sh image (inr (c, chosen, inr (tests, reference, inr (inr (b, content, readable, inr (not_behind, inr (inr (tail, is_tail, inr (not_lost, (n, counted, inl p)))))))))) = absurd (let both : Refused BootSpent ≡ Refused (Damaged (ReplyPlace p.0)) = p.2 in cc)
to_spent sh image (inr (c, chosen, inr (tests, reference, inr (inr (b, content, readable, inr (not_behind, inr (inr (tail, is_tail, inr (not_lost, (n, counted, inr (w, base, same, count, stored, is)))))))))))
    = elim is [
      | inl p ↦ absurd (let both : Refused BootSpent ≡ Found w = p.1 in cc)
      | inr p ↦ (w, to_state sh image b tail n w readable not_behind is_tail not_lost counted base same count stored, p.0)
    ]

pub spent_answer_law : SpentAnswerLaw
spent_answer_law sh image = (λ opens. to_spent sh image (answers_of sh image (Refused BootSpent) opens), λ found. Spent found.0 found.1 found.2)
