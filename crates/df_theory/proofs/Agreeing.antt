-- The recovery table over an image whose units agree with a view.
use Rattle.std.proofs.{Common.{◌≡◌, ◌⊎◌, inl, inr, ℕ, ◌==◌, nat_lt, Bool, true, false, if◌then◌else◌, ◌+◌, ◌%◌, ◌<◌, ◌≤◌, Option, Some, None, refl, sym, ◌∙◌, ap, subst, arith}, lemmas.Bool.{cases_eq, cases_lt, eq-eqb}, lemmas.Bool.Decides.{nat_tests}}
use Rattle.df_theory.{specs.{Units.{AnyUnit, BlockUnit, Content, CopyUnit, Header, HeaderPlace, HeaderUnit, Message, Place, PreparePlace, PrepareUnit, ReplyPlace, ReplyUnit, Units}, Tails.{In}, Shape.{Shape}, View.{View, boot_of, head}, Shows.{Agrees, AgreesHeader, AgreesPrepare, AgreesReply}, Holds.{Sound}, Cases.{Current, Far, IsEmpty, IsTake, Lost, Nothing, Old, Seen, Take, Takes, case, cut, decided, decision, seen, seen_header, seen_prepare}}, proofs.{Tails.{chain_ops, in_one}, Slots.{mod_apart}}}

-- ---- the table

pub seen_now : (b o : ℕ) (h : Header) → h.op ≡ o → h.boot ≡ b → seen b o h ≡ Current h.checksum
seen_now b o h is of = grind (arith, nat_tests)

pub seen_old : (b o : ℕ) (h : Header) → h.op < o → seen b o h ≡ Old
seen_old b o h is = grind (arith, nat_tests)

pub seen_past : (b o : ℕ) (h : Header) → h.op ≡ o → (h.boot ≡ b → ⊥) → seen b o h ≡ Old
seen_past b o h is not = grind (arith, nat_tests)

-- a lower op, or this one of another boot
abbrev pub IsBelow : ℕ → ℕ → Header → Type 0
IsBelow b o h = (h.op < o) ⊎ ((h.op ≡ o) × (h.boot ≡ b → ⊥))

seen_below : (b o : ℕ) (h : Header) → IsBelow b o h → seen b o h ≡ Old
seen_below b o h (inl less) = seen_old b o h less
seen_below b o h (inr past) = seen_past b o h past.0 past.1

-- no old prepare is taken
pub take_old : (x : Seen) → IsTake (case x Old) → ⊥
take_old Nothing take = take
take_old Old take = take
take_old (Current a) take = take
take_old Far take = take

pub same_take : (a b : ℕ) → a ≡ b → IsTake (case (Current a) (Current b))
same_take a b is = go (a == b) (eq-eqb a b is)
  where
    go : (t : Bool) → t ≡ true → IsTake (if t then Take false else Lost)
    go true yes_true = tt
    go false no_true = absurd (cc)

pub take_same : (a b : ℕ) → IsTake (case (Current a) (Current b)) → a ≡ b
take_same a b is = elim (cases_eq a b) [
  | inl same ↦ same
  | inr differs ↦ absurd (go (a == b) (eq_false a b differs) is)
]
  where
    go : (t : Bool) → t ≡ false → IsTake (if t then Take false else Lost) → ⊥
    go true no_false is = cc
    go false yes_false is = is

    eq_false : (a b : ℕ) → (a ≡ b → ⊥) → (a == b) ≡ false
    eq_false a b e = grind (arith, nat_tests)

-- ---- the slots

-- what a ring shows at the slot of an op above the head is old, or nothing
pub old_header : (b o : ℕ) (x : Option AnyUnit)
    → ((h : Header) → x ≡ Some (HeaderUnit h) → IsBelow b o h) → (seen_header b o x ≡ Old) ⊎ (seen_header b o x ≡ Nothing)
old_header b o None low = inr refl
old_header b o (Some (HeaderUnit h)) low = inl (seen_below b o h (low h refl))
old_header b o (Some (CopyUnit c)) low = inr refl
old_header b o (Some (PrepareUnit p)) low = inr refl
old_header b o (Some (ReplyUnit r)) low = inr refl
old_header b o (Some (BlockUnit d)) low = inr refl

pub old_prepare : (b o : ℕ) (x : Option AnyUnit)
    → ((p : Message) → x ≡ Some (PrepareUnit p) → IsBelow b o p.header) → (seen_prepare b o x ≡ Old) ⊎ (seen_prepare b o x ≡ Nothing)
old_prepare b o None low = inr refl
old_prepare b o (Some (PrepareUnit p)) low = inl (seen_below b o p.header (low p refl))
old_prepare b o (Some (CopyUnit c)) low = inr refl
old_prepare b o (Some (HeaderUnit h)) low = inr refl
old_prepare b o (Some (ReplyUnit r)) low = inr refl
old_prepare b o (Some (BlockUnit d)) low = inr refl

-- a prepare that is taken above the pin is of the content's boot
pub take_boot : (n : ℕ) (image : Units) (c : Content) (p : Message) → Takes n image c p → c.pin < p.header.op → p.header.boot ≡ c.boot
take_boot n image c p takes above = elim (cases_eq p.header.boot c.boot) [
  | inl same ↦ same
  | inr differs ↦
      let at : IsTake (case (seen_header c.boot p.header.op (image (HeaderPlace (p.header.op % n)))) (seen c.boot p.header.op p.header)) =
      rw takes.shown at (takes.take above) in absurd (take_old (seen_header c.boot p.header.op (image (HeaderPlace (p.header.op % n))))
      (rw (seen_past c.boot p.header.op p.header refl differs) at at))
]

pub empty_case : (a b : Seen) → (a ≡ Old) ⊎ (a ≡ Nothing) → (b ≡ Old) ⊎ (b ≡ Nothing) → IsEmpty (case a b)
empty_case a b (inl is) (inl at) = subst (λ (s : Seen). IsEmpty (case s b)) (sym is) (rw at tt)
empty_case a b (inl is) (inr at) = subst (λ (s : Seen). IsEmpty (case s b)) (sym is) (rw at tt)
empty_case a b (inr is) (inl at) = subst (λ (s : Seen). IsEmpty (case s b)) (sym is) (rw at tt)
empty_case a b (inr is) (inr at) = subst (λ (s : Seen). IsEmpty (case s b)) (sym is) (rw at tt)

-- ---- an image whose units agree with a view

module _ (sh : Shape)
    (image : Units) (v : View) (sound : Sound sh v) (all : (place : Place) (x : AnyUnit) → image place ≡ Some x → Agrees sh v place x) where
  pub header_agrees : (s : ℕ) (x : Header) → image (HeaderPlace s) ≡ Some (HeaderUnit x) → AgreesHeader sh v s x
  header_agrees s x is = let a = all (HeaderPlace s) (HeaderUnit x) is in let same : a.0 ≡ x = (let e = a.1 in cc) in
      subst (λ (y : Header). AgreesHeader sh v s y) same a.2

  pub prepare_agrees : (s : ℕ) (x : Message) → image (PreparePlace s) ≡ Some (PrepareUnit x) → AgreesPrepare sh v s x
  prepare_agrees s x is = let a = all (PreparePlace s) (PrepareUnit x) is in let same : a.0 ≡ x = (let e = a.1 in cc) in
      subst (λ (y : Message). AgreesPrepare sh v s y) same a.2

  pub reply_agrees : (k : ℕ) (x : Message) → image (ReplyPlace k) ≡ Some (ReplyUnit x) → AgreesReply v x
  reply_agrees k x is = let a = all (ReplyPlace k) (ReplyUnit x) is in let same : a.0 ≡ x = (let e = a.1 in cc) in
      subst (λ (y : Message). AgreesReply v y) same a.2

  -- the header beside a prepare of the tail
  take_at : (p : Message) → In p v.tail → v.checkpoint.content.pin < p.header.op → (o : Option AnyUnit) → image
      (HeaderPlace (p.header.op % sh.layout.slots)) ≡ o → IsTake (case (seen_header (boot_of v) p.header.op o) (Current p.header.checksum))
  take_at p at above None is = tt
  take_at p at above (Some (CopyUnit c)) is = tt
  take_at p at above (Some (PrepareUnit q)) is = tt
  take_at p at above (Some (ReplyUnit r)) is = tt
  take_at p at above (Some (BlockUnit c)) is = tt
  take_at p at above (Some (HeaderUnit x)) is = let a = header_agrees (p.header.op % sh.layout.slots) x is in
      let ops = chain_ops sh.layout.clients
      (v.checkpoint.content.op + 1) v.checkpoint.content.op_checksum 0 v.checkpoint.parts.sessions v.tail p sound.chain at in
      elim (cases_eq x.op p.header.op) [
        | inl same ↦ elim (cases_eq x.boot (boot_of v)) [
          | inl of ↦ let q = a.in_tail of (omega arith) in let one : q.0 ≡ p = in_one sh.layout.clients (v.checkpoint.content.op
              + 1) v.checkpoint.content.op_checksum 0 v.checkpoint.parts.sessions v.tail q.0 p sound.chain q.1 at (q.2 ∙ same) in
              let checksum : x.checksum ≡ p.header.checksum = sym q.3 ∙ ap (λ (w : Message). w.header.checksum) one in
              rw ((seen_now (boot_of v) p.header.op x same of)) (same_take x.checksum p.header.checksum checksum)
          | inr past ↦ rw ((seen_past (boot_of v) p.header.op x same past)) tt
        ]
        | inr differs ↦ elim (cases_lt x.op p.header.op) [
          | inl less ↦ rw ((seen_old (boot_of v) p.header.op x less)) tt
          | inr more ↦ absurd (mod_apart sh.layout.slots p.header.op x.op sh.some (omega arith) (omega (arith, a.ring, ops.0)) (a.slot (omega arith)))
        ]
      ]

  pub takes_if : (p : Message) → In p v.tail
      → image (PreparePlace (p.header.op % sh.layout.slots)) ≡ Some (PrepareUnit p) → Takes sh.layout.slots image v.checkpoint.content p
  takes_if p at shown = record {
    shown = shown;
    take = λ above. rw shown (rw (sym (seen_now (boot_of v) p.header.op p.header refl (sound.records.tail p at above))) at
        (take_at p at above (image (HeaderPlace (p.header.op % sh.layout.slots))) refl));
  }
  -- above the head nothing of this boot is shown

-- what agrees with a view is below the ops above its head
pub below_header : (sh : Shape) (v : View) (o : ℕ) (x : Header)
    → AgreesHeader sh v (o % sh.layout.slots) x → head v < o → o ≤ v.checkpoint.content.op + sh.layout.slots → IsBelow (boot_of v) o x
below_header sh v o x a above within = elim (cases_lt x.op o) [
  | inl less ↦ inl less
  | inr not ↦ elim (cases_eq x.op o) [
    | inl same ↦ inr (same, λ of. omega (arith, a.op of))
    | inr differs ↦ absurd (mod_apart sh.layout.slots o x.op sh.some (omega arith) (omega (arith, a.ring)) (a.slot (omega arith)))
  ]
]

-- a prepare there is no newer
pub near_prepare : (sh : Shape) (v : View) (o : ℕ) (x : Message)
    → AgreesPrepare sh v (o % sh.layout.slots) x → head v < o → o ≤ v.checkpoint.content.op + sh.layout.slots → x.header.op ≤ o
near_prepare sh v o x a above within = elim (cases_lt o x.header.op) [
  | inl more ↦ absurd (mod_apart sh.layout.slots o x.header.op sh.some more (omega (arith, a.ring)) a.slot)
  | inr not ↦ omega arith
]

-- neither is what its ring shows
abbrev pub IsNear : Seen → Type 0
IsNear Far = ⊥
IsNear Nothing = Unit {0}
IsNear Old = Unit {0}
IsNear (Current a) = Unit {0}

seen_near : (b o : ℕ) (h : Header) → h.op ≤ o → IsNear (seen b o h)
seen_near b o h low = elim (cases_eq h.op o) [
  | inl same ↦ elim (cases_eq h.boot b) [
    | inl of ↦ subst IsNear (sym (seen_now b o h same of)) tt
    | inr past ↦ subst IsNear (sym (seen_past b o h same past)) tt
  ]
  | inr differs ↦ subst IsNear (sym (seen_old b o h (omega arith))) tt
]

pub prepare_near : (b o : ℕ) (x : Option AnyUnit) → ((p : Message) → x ≡ Some (PrepareUnit p) → p.header.op ≤ o) → IsNear (seen_prepare b o x)
prepare_near b o None low = tt
prepare_near b o (Some (PrepareUnit p)) low = seen_near b o p.header (low p refl)
prepare_near b o (Some (CopyUnit c)) low = tt
prepare_near b o (Some (HeaderUnit h)) low = tt
prepare_near b o (Some (ReplyUnit r)) low = tt
prepare_near b o (Some (BlockUnit d)) low = tt

-- beside an old header, or none, a prepare is taken, and once it is cut its slot is empty
pub take_beside : (a : Seen) (c : ℕ) → (a ≡ Old) ⊎ (a ≡ Nothing) → IsTake (case a (Current c))
take_beside a c (inl is) = subst (λ (s : Seen). IsTake (case s (Current c))) (sym is) tt
take_beside a c (inr is) = subst (λ (s : Seen). IsTake (case s (Current c))) (sym is) tt

cut_old : (b : Seen) → IsNear b → IsEmpty (cut Old (case Old b))
cut_old Nothing near = tt
cut_old Old near = tt
cut_old (Current c) near = tt
cut_old Far near = absurd near

cut_nothing : (b : Seen) → IsNear b → IsEmpty (cut Nothing (case Nothing b))
cut_nothing Nothing near = tt
cut_nothing Old near = tt
cut_nothing (Current c) near = tt
cut_nothing Far near = absurd near

pub empty_cut : (a b : Seen) → (a ≡ Old) ⊎ (a ≡ Nothing) → IsNear b → IsEmpty (cut a (case a b))
empty_cut a b (inl is) near = subst (λ (s : Seen). IsEmpty (cut s (case s b))) (sym is) (cut_old b near)
empty_cut a b (inr is) near = subst (λ (s : Seen). IsEmpty (cut s (case s b))) (sym is) (cut_nothing b near)

pub decided_above : (n b top : ℕ) (image : Units) (o : ℕ)
    → top < o → decided n b top image o ≡ cut (seen_header b o (image (HeaderPlace (o % n)))) (decision n b image o)
decided_above n b top image o above = go (nat_lt top o) (lt_true top o above)
  where
    go : (t : Bool) → t ≡ true → (if t then cut (seen_header b o (image (HeaderPlace (o % n))))
        (decision n b image o) else decision n b image o) ≡ cut (seen_header b o (image (HeaderPlace (o % n)))) (decision n b image o)
    go true yes_true = refl
    go false no_true = absurd (cc)

    lt_true : (a b : ℕ) → a < b → nat_lt a b ≡ true
    lt_true a b e = grind (arith, nat_tests)
