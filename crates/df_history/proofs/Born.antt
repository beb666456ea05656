-- Each settled prepare and reply of a boot of the history was made by a step of an awake log, and was of its view then; or it is a prepare
-- that survived, of whose group one was never settled.
use Rattle.std.proofs.Common.{◌≡◌, ◌⊎◌, inl, inr, ℕ, ◌%◌, ◌<◌, ◌≤◌, List, [], ◌∷◌, Some, refl, sym, ◌∙◌, ap, arith}
use Rattle.df_theory.{specs.{Units.{Content, CopyPlace, CopyUnit, Message, PreparePlace, PrepareUnit, ReplyPlace, ReplyUnit, Units}, Tails.{In}, Shape.{Shape}, Copies.{rank_of}, View.{Checkpoint, View, boot_of, head, sequence}, Chance.{InImages}, Grown.{IsClear, IsLeftGroup}}, proofs.Laws.{gap_left, HasGap, IsNew, appended_clear, next_in, same_slot, append_here, reply_here, base_here}}
use Rattle.df_history.{specs.Lives.{Asleep, Awake, Lived, Lives, Steps, Turn, TurnFollows, first_view_of}, proofs.Steps.{lived_self}}

-- ---- prepares

-- it was appended: this is the view just after, with its stamps
abbrev pub Appended : (sh : Shape) (images : List Units) (v : View) (t : Turn) → Lives sh images v t → Message → Type 0
Appended sh images v t lives p = (b : View) × Lived sh images v t lives b Awake × In p b.tail
    × (head b ≡ p.header.group_last) × (b.replies ≡ p.header.mark) × (sequence b ≡ p.header.checkpoint) × (boot_of b ≡ p.header.boot)

tail_shown : (sh : Shape) (images : List Units) (u : View) (s : Turn)
    → Lives sh images u s → (p : Message) → In p u.tail → InImages images (PreparePlace (p.header.op % sh.layout.slots)) (PrepareUnit p)
tail_shown sh [] u s lives p at = absurd lives
tail_shown sh (image ∷ images) u s lives p at =
    inl (lives.0.bears.needs (PreparePlace (p.header.op % sh.layout.slots)) (PrepareUnit p) (p, at, refl, refl))

-- it was appended in this step, and nothing of its boot was settled above the head before
record IsMade (images : List Units) (u : View) (v : View) (t : Turn) (p : Message) : Type 0 where
  pub new : IsNew u v p
  pub clear : IsClear images u
  pub turn : t ≡ Awake
  pub head : head v ≡ p.header.group_last
  pub replies : v.replies ≡ p.header.mark
  pub sequence : sequence v ≡ p.header.checkpoint
  pub boot : boot_of v ≡ p.header.boot

follow_tail : (images : List Units) (u : View) (s : Turn) (v : View) (t : Turn)
    → TurnFollows images u s v t → (p : Message) → In p v.tail → In p u.tail ⊎ IsMade images u v t p
follow_tail images u Awake v Awake goes p at = elim (next_in u v p goes.next at) [
  | inl old ↦ inl old
  | inr new ↦ elim (append_here u v p goes.next at) [
    | inl old ↦ inl old
    | inr stamps ↦ inr (record { new = new; clear = appended_clear images u v p goes new; turn = refl; head = stamps.0; replies = stamps.1; sequence = stamps.2; boot = stamps.3 })
  ]
]
follow_tail images u Awake v Asleep none p at = absurd none
follow_tail images u Asleep v Asleep same p at = inl (rw same at at)
follow_tail images u Asleep v Awake (d, is, same) p at = inl (rw same at at)

-- where a prepare that an image shows comes from: it was settled before, it was appended in this step, or it survived
abbrev ComesFrom : List Units → Units → View → View → Turn → Message → Type 0
ComesFrom images image u v t p =
    ((k : ℕ) × InImages images (PreparePlace k) (PrepareUnit p)) ⊎ (In p v.tail × IsMade images u v t p) ⊎ IsLeftGroup images image v p

comes : (sh : Shape) (images : List Units) (image : Units) (u : View) (s : Turn) (v : View) (t : Turn) → Steps images image u s v t
    → Lives sh images u s → (k : ℕ) (p : Message) → image (PreparePlace k) ≡ Some (PrepareUnit p) → ComesFrom images image u v t p
comes sh images image u s v t (inr anew) lives k p here = inl (k, anew.0 (PreparePlace k) (PrepareUnit p) here)
comes sh images image u s v t (inl goes) lives k p here = elim (goes.0 (PreparePlace k) (PrepareUnit p) here) [
  | inl (inl old) ↦ inl (k, old)
  | inl (inr of) ↦ let same : of.0 ≡ p = (let e = of.1 in cc) in let inside : In p v.tail = rw same at of.2 in
      elim (follow_tail images u s v t goes.1 p inside) [
        | inl old ↦ inl (p.header.op % sh.layout.slots, tail_shown sh images u s lives p old)
        | inr new ↦ inr (inl (inside, new))
      ]
  | inr survivor ↦ let same : survivor.0 ≡ p = (let e = survivor.1 in cc) in inr (inr (rw same at survivor.2))
]

-- ---- one prepare an op and a boot

one_later : (sh : Shape) (images : List Units) (image : Units) (u : View) (s : Turn) (v : View) (t : Turn)
    → Steps images image u s v t → Lives sh images u s → (i j : ℕ) (p q : Message) → image (PreparePlace i) ≡ Some (PrepareUnit p)
    → InImages images (PreparePlace j) (PrepareUnit q) → p.header.op ≡ q.header.op → p.header.boot ≡ q.header.boot
    → ((a b : ℕ) → InImages images (PreparePlace a) (PrepareUnit p) → InImages images (PreparePlace b) (PrepareUnit q) → p ≡ q) → p ≡ q
one_later sh images image u s v t step lives i j p q here there op boot before = elim (comes sh images image u s v t step lives i p here) [
  | inl old ↦ before old.0 j old.1 there
  | inr (inl new) ↦ absurd (omega (arith, new.1.clear j q there (sym boot ∙ new.1.new.boot), new.1.new.above))
  | inr (inr left) ↦ absurd (omega (arith, left.clear j q there (sym boot ∙ left.own), left.cut.above))
]

-- the settled prepares of one op and boot are one
pub settled_one : (sh : Shape) (images : List Units) (v : View) (t : Turn) (lives : Lives sh images v t) (i j : ℕ) (p q : Message)
    → InImages images (PreparePlace i) (PrepareUnit p) → InImages images (PreparePlace j) (PrepareUnit q)
    → boot_of (first_view_of sh images v t lives) ≤ p.header.boot → p.header.op ≡ q.header.op → p.header.boot ≡ q.header.boot → p ≡ q
settled_one sh [] v t lives i j p q at there young op boot = absurd at
settled_one sh (image ∷ images) v t (holds, inl starts) i j p q at there young op boot = absurd (omega (arith, starts.1.prepares i p at))
settled_one sh (image ∷ images) v t (holds, inr (u, s, step, lives)) i j p q (inl here) (inl there) young op boot =
    same_slot sh image v holds i j p q here there op
settled_one sh (image ∷ images) v t (holds, inr (u, s, step, lives)) i j p q (inl here) (inr there) young op boot =
    one_later sh images image u s v t step lives i j p q here there op boot (λ a b old other.
    settled_one sh images u s lives a b p q old other young op boot)
settled_one sh (image ∷ images) v t (holds, inr (u, s, step, lives)) i j p q (inr here) (inl there) young op boot =
    sym (one_later sh images image u s v t step lives j i q p there here (sym op) (sym boot) (λ a b old other.
    settled_one sh images u s lives a b q p old other (omega (arith, young, boot)) (sym op) (sym boot)))
settled_one sh (image ∷ images) v t (holds, inr (u, s, step, lives)) i j p q (inr here) (inr there) young op boot =
    settled_one sh images u s lives i j p q here there young op boot

-- ---- a settled prepare was appended, or of its group one was never settled

gap_stays : (sh : Shape) (images : List Units) (image : Units) (u : View) (s : Turn) (v : View) (t : Turn) → Steps images image u s v t → Lives sh images u s → (k : ℕ) (p : Message) → InImages images (PreparePlace k) (PrepareUnit p) → p.header.group ≤ p.header.op → HasGap images p → HasGap (image ∷ images) p
gap_stays sh images image u s v t step lives k p at holds gap = record { missing = gap.missing; from = gap.from; to = gap.to; lacks = lacks }
  where
    lacks : (i : ℕ) (q : Message) → InImages (image ∷ images) (PreparePlace i) (PrepareUnit q)
        → q.header.op ≡ gap.missing → q.header.boot ≡ p.header.boot → q.header.group ≡ p.header.group → ⊥
    lacks i q (inr there) op boot group = gap.lacks i q there op boot group
    lacks i q (inl here) op boot group = elim (comes sh images image u s v t step lives i q here) [
      | inl old ↦ gap.lacks old.0 q old.1 op boot group
      | inr (inl new) ↦ omega (arith, new.1.clear k p at (sym boot ∙ new.1.new.boot), new.1.new.group)
      | inr (inr left) ↦ omega (arith, left.clear k p at (sym boot ∙ left.own), left.cut.first)
    ]

pub born_prepare : (sh : Shape) (images : List Units) (v : View) (t : Turn) (lives : Lives sh images v t) (k : ℕ) (p : Message)
    → InImages images (PreparePlace k) (PrepareUnit p) → p.header.group ≤ p.header.op
    → (p.header.boot < boot_of (first_view_of sh images v t lives)) ⊎ Appended sh images v t lives p ⊎ HasGap images p
born_prepare sh [] v t lives k p at group = absurd at
born_prepare sh (image ∷ images) v t (holds, inl starts) k p at group = inl (starts.1.prepares k p at)
born_prepare sh (image ∷ images) v t (holds, inr (u, s, step, lives)) k p (inr there) group =
    elim (born_prepare sh images u s lives k p there group) [
      | inl older ↦ inl older
      | inr (inl b) ↦ inr (inl (b.0, inr b.1, b.2, b.3, b.4, b.5, b.6))
      | inr (inr gap) ↦ inr (inr (gap_stays sh images image u s v t step lives k p there group gap))
    ]
born_prepare sh (image ∷ images) v t (holds, inr (u, s, step, lives)) k p (inl here) group =
    elim (comes sh images image u s v t step lives k p here) [
      | inl old ↦ elim (born_prepare sh images u s lives old.0 p old.1 group) [
        | inl older ↦ inl older
        | inr (inl b) ↦ inr (inl (b.0, inr b.1, b.2, b.3, b.4, b.5, b.6))
        | inr (inr gap) ↦ inr (inr (gap_stays sh images image u s v t step lives old.0 p old.1 group gap))
      ]
      | inr (inl new) ↦ inr (inl (v, inl (refl, sym new.1.turn), new.0, new.1.head, new.1.replies, new.1.sequence, new.1.boot))
      | inr (inr left) ↦ inr (inr (gap_left images image v p left))
    ]

-- ---- replies

-- it was stored: this is the view just after, with its stamps
abbrev pub Stored : (sh : Shape) (images : List Units) (v : View) (t : Turn) → Lives sh images v t → ℕ → Message → Type 0
Stored sh images v t lives k r = (b : View) × Lived sh images v t lives b Awake × (b.stored k ≡ Some r)
    × (b.replies ≡ r.header.op) × (head b ≡ r.header.mark) × (sequence b ≡ r.header.checkpoint) × (boot_of b ≡ r.header.boot)

stored_shown : (sh : Shape) (images : List Units) (u : View) (s : Turn)
    → Lives sh images u s → (k : ℕ) (r : Message) → u.stored k ≡ Some r → InImages images (ReplyPlace k) (ReplyUnit r)
stored_shown sh [] u s lives k r at = absurd lives
stored_shown sh (image ∷ images) u s lives k r at = inl (lives.0.bears.needs (ReplyPlace k) (ReplyUnit r) (r, at, refl))

follow_stored : (images : List Units) (u : View) (s : Turn) (v : View) (t : Turn) → TurnFollows images u s v t → (k : ℕ) (r : Message) → v.stored k ≡ Some r → (u.stored k ≡ Some r) ⊎ ((t ≡ Awake) × (v.replies ≡ r.header.op) × (head v ≡ r.header.mark) × (sequence v ≡ r.header.checkpoint) × (boot_of v ≡ r.header.boot))
follow_stored images u Awake v Awake next k r at =
    elim (reply_here u v k r next.next at) [ inl old ↦ inl old | inr new ↦ inr (refl, new.0, new.1, new.2, new.3) ]
follow_stored images u Awake v Asleep none k r at = absurd none
follow_stored images u Asleep v Asleep same k r at = inl (ap (λ (x : View). x.stored k) (sym same) ∙ at)
follow_stored images u Asleep v Awake (d, is, same) k r at = inl (ap (λ (x : View). x.stored k) (sym same) ∙ at)

pub born_reply : (sh : Shape) (images : List Units) (v : View) (t : Turn) (lives : Lives sh images v t) (k : ℕ) (r : Message) → InImages
    images (ReplyPlace k) (ReplyUnit r) → (r.header.boot < boot_of (first_view_of sh images v t lives)) ⊎ Stored sh images v t lives k r
born_reply sh [] v t lives k r at = absurd at
born_reply sh (image ∷ images) v t (holds, inl starts) k r at = inl (starts.1.replies k r at)
born_reply sh (image ∷ images) v t (holds, inr (u, s, step, lives)) k r (inr there) = elim (born_reply sh images u s lives k r there) [
  | inl older ↦ inl older
  | inr b ↦ inr (b.0, inr b.1, b.2, b.3, b.4, b.5, b.6)
]
born_reply sh (image ∷ images) v t (holds, inr (u, s, inr anew, lives)) k r (inl here) =
    elim (born_reply sh images u s lives k r (anew.0 (ReplyPlace k) (ReplyUnit r) here)) [
      | inl older ↦ inl older
      | inr b ↦ inr (b.0, inr b.1, b.2, b.3, b.4, b.5, b.6)
    ]
born_reply sh (image ∷ images) v t (holds, inr (u, s, inl goes, lives)) k r (inl here) = elim (goes.0 (ReplyPlace k) (ReplyUnit r) here) [
  | inl (inl old) ↦ elim (born_reply sh images u s lives k r old) [
    | inl older ↦ inl older
    | inr b ↦ inr (b.0, inr b.1, b.2, b.3, b.4, b.5, b.6)
  ]
  | inr none ↦ absurd none
  | inl (inr of) ↦ let same : of.0 ≡ r = (let e = of.1 in cc) in let inside : v.stored k ≡ Some r = of.2 ∙ ap Some same in
      elim (follow_stored images u s v t goes.1 k r inside) [
        | inl old ↦ elim (born_reply sh images u s lives k r (stored_shown sh images u s lives k r old)) [
          | inl older ↦ inl older
          | inr b ↦ inr (b.0, inr b.1, b.2, b.3, b.4, b.5, b.6)
        ]
        | inr new ↦ inr (v, inl (refl, sym new.0), inside, new.1, new.2, new.3, new.4)
      ]
]

-- ---- superblocks

-- what copies 1 to 3 ever showed is the content of a view, or older than each
pub settled_content : (sh : Shape) (images : List Units) (v : View) (t : Turn) (lives : Lives sh images v t) (n : ℕ) (c : Content)
    → (n ≡ 0 → ⊥) → InImages images (CopyPlace n) (CopyUnit c)
    → ((w : View) × (a : Turn) × Lived sh images v t lives w a × (c ≡ w.checkpoint.content))
    ⊎ (rank_of c < rank_of (first_view_of sh images v t lives).checkpoint.content)
settled_content sh [] v t lives n c away at = absurd at
settled_content sh (image ∷ images) v t (holds, inl starts) n c away at =
    elim (starts.1.copies n c away at) [ inl same ↦ inl (v, t, (refl, refl), same) | inr older ↦ inr older ]
settled_content sh (image ∷ images) v t (holds, inr (u, s, step, lives)) n c away (inr there) =
    elim (settled_content sh images u s lives n c away there) [
      | inl w ↦ inl (w.0, w.1, inr w.2, w.3)
      | inr older ↦ inr older
    ]
settled_content sh (image ∷ images) v t (holds, inr (u, s, inr anew, lives)) n c away (inl here) =
    elim (settled_content sh images u s lives n c away (anew.0 (CopyPlace n) (CopyUnit c) here)) [
      | inl w ↦ inl (w.0, w.1, inr w.2, w.3)
      | inr older ↦ inr older
    ]
settled_content sh (image ∷ images) v t (holds, inr (u, s, inl goes, lives)) n c away (inl here) =
    elim (goes.0 (CopyPlace n) (CopyUnit c) here) [
      | inl (inl old) ↦ elim (settled_content sh images u s lives n c away old) [
        | inl w ↦ inl (w.0, w.1, inr w.2, w.3)
        | inr older ↦ inr older
      ]
      | inr none ↦ absurd none
      | inl (inr of) ↦ let same : of.0 ≡ c = (let e = of.1 in cc) in elim of.2 [
        | inl base ↦ inl (v, t, inl (refl, refl), sym same ∙ base)
        | inr first ↦ absurd (away first.0)
      ]
    ]

-- an awake view had this content
pub awake_content : (sh : Shape) (images : List Units) (v : View) (t : Turn) (lives : Lives sh images v t) (w : View) (a : Turn)
    → Lived sh images v t lives w a → (b : View) × Lived sh images v t lives b Awake × (b.checkpoint.content ≡ w.checkpoint.content)
awake_content sh [] v t lives w a lived = absurd lived
awake_content sh (image ∷ images) v t (holds, inl starts) w a lived =
    (v, (refl, sym starts.0), ap (λ (x : View). x.checkpoint.content) (sym lived.0))
awake_content sh (image ∷ images) v t (holds, inr (u, s, step, lives)) w a (inr lived) =
    let b = awake_content sh images u s lives w a lived in (b.0, inr b.1, b.2)
awake_content sh (image ∷ images) v Awake (holds, inr (u, s, step, lives)) w a (inl is) =
    (v, inl (refl, refl), ap (λ (x : View). x.checkpoint.content) (sym is.0))
awake_content sh (image ∷ images) v Asleep (holds, inr (u, s, inr anew, lives)) w a (inl is) =
    let b = awake_content sh images u s lives u s (lived_self sh images u s lives) in
    (b.0, inr b.1, b.2 ∙ sym anew.2 ∙ ap (λ (x : View). x.checkpoint.content) (sym is.0))
awake_content sh (image ∷ images) v Asleep (holds, inr (u, Asleep, inl goes, lives)) w a (inl is) =
    let b = awake_content sh images u Asleep lives u Asleep (lived_self sh images u Asleep lives) in
    (b.0, inr b.1, b.2 ∙ ap (λ (x : View). x.checkpoint.content) (sym goes.1) ∙ ap (λ (x : View). x.checkpoint.content) (sym is.0))
awake_content sh (image ∷ images) v Asleep (holds, inr (u, Awake, inl goes, lives)) w a (inl is) = absurd goes.1

follow_base : (images : List Units) (u : View) (s : Turn) (v : View) → TurnFollows images u s v Awake → ((s ≡ Awake)
    × (u.checkpoint.content ≡ v.checkpoint.content)) ⊎ ((head v ≡ v.checkpoint.content.head) × (v.replies ≡ v.checkpoint.content.replies))
follow_base images u Awake v next =
    elim (base_here u v next.next) [ inl same ↦ inl (refl, ap (λ (b : Checkpoint). b.content) (sym same)) | inr new ↦ inr new ]
follow_base images u Asleep v (d, is, same) =
    inr (omega (arith, is.head, is.same.op.0, ap head same, ap (λ (x : View). x.checkpoint.content.head) same), omega (arith, is.replies, ap (λ (x : View). x.replies) same, ap (λ (x : View). x.checkpoint.content.replies) same))

-- the awake view just after the content of an awake view came: it has the counters that the content records
pub after_base : (sh : Shape) (images : List Units) (v : View) (t : Turn) (lives : Lives sh images v t) (w : View)
    → Lived sh images v t lives w Awake → (a : View) × Lived sh images v t lives a Awake
    × (a.checkpoint.content ≡ w.checkpoint.content) × (head a ≡ a.checkpoint.content.head) × (a.replies ≡ a.checkpoint.content.replies)
after_base sh [] v t lives w lived = absurd lived
after_base sh (image ∷ images) v t (holds, inl starts) w lived =
    (v, (refl, sym starts.0), ap (λ (x : View). x.checkpoint.content) (sym lived.0), starts.1.counted.0, starts.1.counted.1)
after_base sh (image ∷ images) v t (holds, inr (u, s, step, lives)) w (inr lived) = let a = after_base sh images u s lives w lived in
    (a.0, inr a.1, a.2, a.3, a.4)
after_base sh (image ∷ images) v Asleep (holds, inr (u, s, step, lives)) w (inl is) = absurd (let both : Awake ≡ Asleep = is.1 in cc)
after_base sh (image ∷ images) v Awake (holds, inr (u, s, inr anew, lives)) w (inl is) = absurd (let both : Awake ≡ Asleep = anew.1 in cc)
after_base sh (image ∷ images) v Awake (holds, inr (u, s, inl goes, lives)) w (inl is) = elim (follow_base images u s v goes.1) [
  | inl old ↦ let a = after_base sh images u s lives u (rw (← old.0) (lived_self sh images u s lives)) in
      (a.0, inr a.1, a.2 ∙ old.1 ∙ ap (λ (x : View). x.checkpoint.content) (sym is.0), a.3, a.4)
  | inr new ↦ (v, inl (refl, refl), ap (λ (x : View). x.checkpoint.content) (sym is.0), new.0, new.1)
]
