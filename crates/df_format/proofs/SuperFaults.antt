-- A superblock has no fault exactly where it obeys the rules: each test decides one of them.
use Rattle.std.{proofs.{Common.{inl, inr, ◌≡◌, ◌≢◌, ◌⊎◌, ◌<◌, ◌≤◌, ◌+◌, ◌%◌, ◌^◌, ◌==◌, ◌||◌, ℕ, Bool, true, false, not, List, Option, Some, None, refl, sym, ◌∙◌, ap, arith, cond}, lemmas.Bool.{or_cases, or_left, or_right, both_ways, not-true, not_from_false, eqb-true, eq-eqb, ne_eqb, cases_eq, cond-true, cond-false}, lemmas.Bool.Decides.{Decides-and, Decides-or, Decides-eqb, Decides-ltb}}, specs.{Prelude.{drop}, Bool.{Decides}}}
use Rattle.df_format.{specs.{declared.superblock.SuperFields.{SuperFields}, declared.superblock.SuperFault.{SuperFault}, Spelling.{no_checksum}, Super.{AreNone, NamesNone}, SuperRules.{IsFirstSuper, IsSecondSuper, IsSuper, Test, greatest_trailer, is_between, is_whole_between, has_trailer_size, first_tests, second_tests, first_failing, fault_of, FaultsAreBrokenRules}}, proofs.{Named.{nameless, no_number, none_spare}, Tests.{at_most, same_where, told}}}

-- what holds exactly where there is no fault
abbrev Clears : Option SuperFault → Type 0 → Type 0
Clears fault P = (fault ≡ None → P) × (P → fault ≡ None)

cleared : {P Q : Type 0} (fault : Option SuperFault) → Clears fault P → (P → Q) → (Q → P) → Clears fault Q
cleared fault is to from = (λ none. to (is.0 none), λ holds. is.1 (from holds))

-- one test and those after it
passed : (b : Bool) (fault : SuperFault) (later : Option SuperFault) → cond b later (Some fault) ≡ None → (b ≡ true) × (later ≡ None)
passed true fault later is = (refl, is)
passed false fault later is = absurd (cc)

passes : (b : Bool) (fault : SuperFault) (later : Option SuperFault) → b ≡ true → later ≡ None → cond b later (Some fault) ≡ None
passes true fault later is none = none
passes false fault later is none = absurd (cc)

tested : {P Q : Type 0} {b : Bool} {later : Option SuperFault} (fault : SuperFault)
    → Decides b P → Clears later Q → Clears (cond b later (Some fault)) (P × Q)
tested fault one others = (λ none. let p = passed _ _ _ none in (one.0 p.0, others.0 p.1), λ is. passes _ _ _ (one.1 is.0) (others.1 is.1))

last : Clears None (Unit {0})
last = (λ _. tt, λ _. refl)

-- tests that are chosen by a number
chosen : {P Q : Type 0} (n m : ℕ) (one two : List Test) → Clears (first_failing one) P
    → Clears (first_failing two) Q → Clears (first_failing (cond (n == m) one two)) ((n ≡ m → P) × (n ≢ m → Q))
chosen n m one two first second = elim (cases_eq n m) [
  | inl same ↦ let here = ap first_failing (cond-true (n == m) one two (eq-eqb n m same)) in
      (λ none. (λ _. first.0 (sym here ∙ none), λ other. absurd (other same)), λ is. here ∙ first.1 (is.0 same))
  | inr other ↦ let here = ap first_failing (cond-false (n == m) one two (ne_eqb n m other)) in
      (λ none. (λ same. absurd (other same), λ _. second.0 (sym here ∙ none)), λ is. here ∙ second.1 (is.1 other))
]

between : (low high n : ℕ) → Decides (is_between low high n) ((low ≤ n) × (n ≤ high))
between low high n = Decides-and _ _ (at_most low n) (at_most n high)

whole_between : (step low high n : ℕ) → Decides (is_whole_between step low high n) ((low ≤ n) × (n ≤ high) × (n % step ≡ 0))
whole_between step low high n = told _ (Decides-and _ _ (between low high n) (Decides-eqb (n % step) 0)) (λ t. assumption) (λ t. assumption)

-- a trailer where there is a checkpoint
trailer_where : (op address : ℕ) → Decides ((op == 0) || not (address == 0)) (op ≢ 0 → address ≢ 0)
trailer_where op address = (
  λ is some none. elim (or_cases _ _ is) [
    | inl no_op ↦ some (eqb-true op 0 no_op)
    | inr other ↦ both_ways _ (not-true _ other) (eq-eqb address 0 none)
  ],
  λ has. elim (cases_eq op 0) [
    | inl none ↦ or_left _ _ (eq-eqb op 0 none)
    | inr some ↦ or_right _ _ (not_from_false _ (ne_eqb address 0 (has some)))
  ],
)

-- the size of a trailer that is there, and none of one that isn't
record IsTrailerSize (f : SuperFields) : Type 0 where
  without : f.trailer_address ≡ 0 → f.trailer_size ≡ 0
  within : f.trailer_address ≢ 0 → (0 < f.trailer_size) × (f.trailer_size ≤ greatest_trailer f)

trailer_size : (f : SuperFields) → Decides (has_trailer_size f) (IsTrailerSize f)
trailer_size f = let address : ℕ = f.trailer_address in let size : ℕ = f.trailer_size in
    let least : Bool = is_between 1 (greatest_trailer f) size in elim (cases_eq address 0) [
      | inl none ↦ let here : has_trailer_size f ≡ (size == 0) = cond-true (address == 0) (size == 0) least (eq-eqb address 0 none) in (
        λ is. record { without = λ _. eqb-true size 0 (sym here ∙ is); within = λ some. absurd (some none) },
        λ is. here ∙ eq-eqb size 0 (is.without none),
      )
      | inr some ↦ let here : has_trailer_size f ≡ least = cond-false (address == 0) (size == 0) least (ne_eqb address 0 some) in
          let range = between 1 (greatest_trailer f) size in (
            λ is. let r = range.0 (sym here ∙ is) in record { without = λ none. absurd (some none); within = λ _. (r.0, r.1) },
            λ is. let r = is.within some in here ∙ range.1 (r.0, r.1),
          )
    ]

module _ (f : SuperFields) where
  -- what the tests of each version tell
  abbrev SaysFirst : Type 0
  SaysFirst = (f.boot ≡ 0) × (((f.first_nonzero ≡ None) × NamesNone f) × Unit {0})

  abbrev SaysSecond : Type 0
  SaysSecond = (f.boot ≤ 2 ^ 62) × (((f.head ≡ 0 → f.head_checksum ≡ no_checksum) × (f.head ≡ f.op → f.head_checksum ≡ f.op_checksum))
      × (AreNone (drop f.clients f.reply_checksums) × ((f.first_nonzero ≡ None) × Unit {0})))

  first : Clears (first_failing (first_tests f)) SaysFirst
  first = tested _ (Decides-eqb f.boot 0) (tested _ (Decides-and _ _ (no_number f.first_nonzero) (nameless f)) last)

  second : Clears (first_failing (second_tests f)) SaysSecond
  second = tested _ (at_most f.boot (2 ^ 62))
      (tested _ (Decides-and _ _ (same_where f.head 0 f.head_checksum no_checksum) (same_where f.head f.op f.head_checksum f.op_checksum))
      (tested _ (none_spare f) (tested _ (no_number f.first_nonzero) last)))

  by_version : (f.version ≡ 1) ⊎ (f.version ≡ 2)
      → (f.version ≡ 1 → SaysFirst) → (f.version ≢ 1 → SaysSecond) → (IsFirstSuper f ⊎ IsSecondSuper f) × (f.first_nonzero ≡ None)
  by_version known is_first is_second = elim known [
    | inl one ↦ let says = is_first one in let is : IsFirstSuper f = assumption in (inl is, says.1.0.0)
    | inr two ↦ let says = is_second (λ one. omega arith) in let is : IsSecondSuper f = assumption in (inr is, says.1.1.1.0)
  ]

  known_of : IsFirstSuper f ⊎ IsSecondSuper f → (f.version ≡ 1) ⊎ (f.version ≡ 2)
  known_of is = elim is [ inl one ↦ inl one.version | inr two ↦ inr two.version ]

  first_of : IsFirstSuper f ⊎ IsSecondSuper f → f.first_nonzero ≡ None → f.version ≡ 1 → SaysFirst
  first_of is zero version = elim is [ inl one ↦ assumption | inr two ↦ absurd (omega (arith, two.version)) ]

  second_of : IsFirstSuper f ⊎ IsSecondSuper f → f.first_nonzero ≡ None → f.version ≢ 1 → SaysSecond
  second_of is zero other = elim is [ inl one ↦ absurd (other one.version) | inr two ↦ assumption ]

-- fields have no fault exactly where they obey the rules
pub faults : FaultsAreBrokenRules
unfolding fault_of
faults f = cleared (fault_of f) (tested _ (Decides-or _ _ (Decides-eqb f.version 1) (Decides-eqb f.version 2))
    (tested _ (whole_between 16 16 1024 f.slots) (tested _ (whole_between 4096 4096 1048576 f.message_size)
    (tested _ (between 1 64 f.clients) (tested _ (whole_between 4096 4096 524288 f.block_size) (tested _ (between 8 16384 f.blocks)
    (tested _ (Decides-ltb 0 f.cluster) (tested _ (between 1 (2 ^ 62) f.sequence) (tested _ (at_most f.op (2 ^ 62))
    (tested _ (same_where f.op 0 f.op_checksum no_checksum)
    (tested _ (Decides-and _ _ (between f.op (f.op + f.slots) f.head) (at_most f.head (2 ^ 62)))
    (tested _ (Decides-and _ _ (at_most f.replies f.head) (at_most f.head (f.replies + 8)))
    (tested _ (Decides-and _ _ (at_most f.trailer_address f.blocks) (trailer_where f.op f.trailer_address))
    (tested _ (same_where f.trailer_address 0 f.trailer_checksum no_checksum) (tested _ (trailer_size f)
    (chosen f.version 1 (first_tests f) (second_tests f) (first f) (second f))))))))))))))))) (λ t.
    let known : (f.version ≡ 1) ⊎ (f.version ≡ 2) = assumption in let one : f.version ≡ 1 → SaysFirst f = assumption in
    let two : f.version ≢ 1 → SaysSecond f = assumption in assumption (by_version f known one two))
    (λ is. assumption (known_of f is.version, first_of f is.version is.zero, second_of f is.version is.zero, is.no_trailer, is.trailer_size))

pub obeys : (f : SuperFields) → fault_of f ≡ None → IsSuper f
obeys f none = (faults f).0 none
