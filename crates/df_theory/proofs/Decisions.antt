-- What the decision on a slot says of it.
use Rattle.std.{proofs.{Common.{◌≡◌, inl, inr, ℕ, ◌<◌, ◌%◌, ◌==◌, Bool, true, false, if◌then◌else◌, Option, Some, None, refl, sym, ◌∙◌, ap, arith}, lemmas.Bool.Decides.{nat_tests}}, specs.Prelude.{nat_lt}}
use Rattle.df_theory.specs.{Units.{AnyUnit, BlockUnit, CopyUnit, Header, HeaderPlace, HeaderUnit, Message, PreparePlace, PrepareUnit, ReplyUnit}, Cases.{Current, Far, IsNow, Lost, Nothing, Old, SaysOfSlot, Seen, Take, case, seen, seen_header, seen_prepare}, ViewLaws.{DecisionLaw}}

-- what one ring shows, where these are the headers that it may show
abbrev IsSeen : ℕ → ℕ → (Header → Type 0) → Seen → Type 0
IsSeen b o Shown Nothing = (h : Header) → Shown h → ⊥
IsSeen b o Shown Old = ((h : Header) × Shown h) × ((h : Header) → Shown h → IsNow b o h → ⊥)
IsSeen b o Shown (Current k) = (h : Header) × Shown h × IsNow b o h × (h.checksum ≡ k)
IsSeen b o Shown Far = (h : Header) × Shown h × (o < h.op)

-- of one header
seen_is : (b o : ℕ) (Shown : Header → Type 0) (h : Header) → Shown h → ((g : Header) → Shown g → g ≡ h) → IsSeen b o Shown (seen b o h)
seen_is b o Shown h shown one = go (h.op == o) refl (h.boot == b) refl (nat_lt h.op o) refl
  where
    op_is : (h.op == o) ≡ true → h.op ≡ o
    op_is test = grind (arith, nat_tests)

    op_not : (h.op == o) ≡ false → h.op ≡ o → ⊥
    op_not test same = grind (arith, nat_tests)

    boot_is : (h.boot == b) ≡ true → h.boot ≡ b
    boot_is test = grind (arith, nat_tests)

    boot_not : (h.boot == b) ≡ false → h.boot ≡ b → ⊥
    boot_not test same = grind (arith, nat_tests)

    above : (h.op == o) ≡ false → nat_lt h.op o ≡ false → o < h.op
    above differs less = grind (arith, nat_tests)

    go : (x : Bool) → (h.op == o) ≡ x → (y : Bool) → (h.boot == b) ≡ y → (z : Bool)
        → nat_lt h.op o ≡ z → IsSeen b o Shown (if x then (if y then Current h.checksum else Old) else (if z then Old else Far))
    go true same true of z less = (h, shown, (op_is same, boot_is of), refl)
    go true same false of z less = ((h, shown), λ g there now. boot_not of (ap (λ (x : Header). x.boot) (sym (one g there)) ∙ now.1))
    go false differs y of true less = ((h, shown), λ g there now. op_not differs (ap (λ (x : Header). x.op) (sym (one g there)) ∙ now.0))
    go false differs y of false less = (h, shown, above differs less)

abbrev HeaderOf : Option AnyUnit → Header → Type 0
HeaderOf x h = x ≡ Some (HeaderUnit h)

abbrev PrepareOf : Option AnyUnit → Header → Type 0
PrepareOf x h = (p : Message) × (x ≡ Some (PrepareUnit p)) × (p.header ≡ h)

header_is : (b o : ℕ) (x : Option AnyUnit) → IsSeen b o (HeaderOf x) (seen_header b o x)
header_is b o (Some (HeaderUnit h)) = seen_is b o (HeaderOf (Some (HeaderUnit h))) h refl (λ g same. cc (same))
header_is b o None = λ h none. cc (none)
header_is b o (Some (CopyUnit c)) = λ h other. cc (other)
header_is b o (Some (PrepareUnit p)) = λ h other. cc (other)
header_is b o (Some (ReplyUnit r)) = λ h other. cc (other)
header_is b o (Some (BlockUnit c)) = λ h other. cc (other)

prepare_is : (b o : ℕ) (x : Option AnyUnit) → IsSeen b o (PrepareOf x) (seen_prepare b o x)
prepare_is b o (Some (PrepareUnit p)) = seen_is b o (PrepareOf (Some (PrepareUnit p))) p.header (p, refl, refl) (λ g of.
    sym of.2 ∙ (let same : p ≡ of.0 = (let both = of.1 in cc) in ap (λ (q : Message). q.header) (sym same)))
prepare_is b o None = λ h none. (let both = none.1 in cc)
prepare_is b o (Some (CopyUnit c)) = λ h other. (let both = other.1 in cc)
prepare_is b o (Some (HeaderUnit g)) = λ h other. (let both = other.1 in cc)
prepare_is b o (Some (ReplyUnit r)) = λ h other. (let both = other.1 in cc)
prepare_is b o (Some (BlockUnit c)) = λ h other. (let both = other.1 in cc)

-- the prepare that is shown, of a header
shown_prepare : (b o : ℕ) (y : Option AnyUnit) (h : Header)
    → PrepareOf y h → IsNow b o h → (p : Message) × (y ≡ Some (PrepareUnit p)) × IsNow b o p.header × (p.header ≡ h)
shown_prepare b o y h of now = (of.0, of.1, rw (sym of.2) at now, of.2)

same_message : (y : Option AnyUnit) (p q : Message) → y ≡ Some (PrepareUnit p) → y ≡ Some (PrepareUnit q) → p ≡ q
same_message y p q one two = let both : Some (PrepareUnit p) ≡ Some (PrepareUnit q) = sym one ∙ two in cc

both_now : (b o : ℕ) (x y : Option AnyUnit) (m n : ℕ) → IsSeen b o (HeaderOf x) (Current m)
    → IsSeen b o (PrepareOf y) (Current n) → (t : Bool) → (m == n) ≡ t → SaysOfSlot b o x y (if t then Take false else Lost)
both_now b o x y m n header prepare true same = let p = shown_prepare b o y prepare.0 prepare.1 prepare.2 in
    (p.0, p.1, p.2, inl (refl, (header.0, header.1, header.2, header.3 ∙ equal same ∙ sym prepare.3 ∙ ap (λ (h : Header). h.checksum) (sym p.3))))
  where
    equal : (m == n) ≡ true → m ≡ n
    equal test = grind (arith, nat_tests)
both_now b o x y m n header prepare false differs = let p = shown_prepare b o y prepare.0 prepare.1 prepare.2 in
    (header.0, header.1, header.2, λ q shown now same. unequal differs (sym header.3 ∙ same ∙ ap (λ (w : Message). w.header.checksum) (same_message y q p.0 shown p.1) ∙ ap (λ (h : Header). h.checksum) p.3 ∙ prepare.3))
  where
    unequal : (m == n) ≡ false → m ≡ n → ⊥
    unequal test same = grind (arith, nat_tests)

decided : (b o : ℕ) (x y : Option AnyUnit) (s t : Seen)
    → IsSeen b o (HeaderOf x) s → IsSeen b o (PrepareOf y) t → SaysOfSlot b o x y (case s t)
decided b o x y Far t header prepare = inl (header.0, header.1, header.2)
decided b o x y (Current m) Far header prepare = inr (prepare.1.0, prepare.1.1, omega (arith, prepare.2, ap (λ (h : Header). h.op) prepare.1.2))
decided b o x y (Current m) (Current n) header prepare = both_now b o x y m n header prepare (m == n) refl
decided b o x y (Current m) Old header prepare = (header.0, header.1, header.2, λ p shown now same. prepare.1 p.header (p, shown, refl) now)
decided b o x y (Current m) Nothing header prepare = (header.0, header.1, header.2, λ p shown now same. prepare p.header (p, shown, refl))
decided b o x y Old Far header prepare = inr (prepare.1.0, prepare.1.1, omega (arith, prepare.2, ap (λ (h : Header). h.op) prepare.1.2))
decided b o x y Old (Current n) header prepare = let p = shown_prepare b o y prepare.0 prepare.1 prepare.2 in
    (p.0, p.1, p.2, inr (refl, header.1))
decided b o x y Old Old header prepare = (header.1, λ p shown now. prepare.1 p.header (p, shown, refl) now, inl (refl, header.0))
decided b o x y Old Nothing header prepare = (header.1, λ p shown now. prepare p.header (p, shown, refl), inl (refl, header.0))
decided b o x y Nothing Far header prepare = inr (prepare.1.0, prepare.1.1, omega (arith, prepare.2, ap (λ (h : Header). h.op) prepare.1.2))
decided b o x y Nothing (Current n) header prepare = let p = shown_prepare b o y prepare.0 prepare.1 prepare.2 in
    (p.0, p.1, p.2, inr (refl, λ h shown now. header h shown))
decided b o x y Nothing Old header prepare =
    (λ h shown now. header h shown, λ p shown now. prepare.1 p.header (p, shown, refl) now, inr (refl, header))
decided b o x y Nothing Nothing header prepare =
    (λ h shown now. header h shown, λ p shown now. prepare p.header (p, shown, refl), inr (refl, header))

pub decision_law : DecisionLaw
decision_law n b o image = decided b o (image (HeaderPlace (o % n))) (image (PreparePlace (o % n))) (seen_header b o (image (HeaderPlace (o % n)))) (seen_prepare b o (image (PreparePlace (o % n)))) (header_is b o (image (HeaderPlace (o % n)))) (prepare_is b o (image (PreparePlace (o % n))))
