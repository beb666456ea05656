-- What stands in a text stays where more comes after it.
use Rattle.std.{proofs.{Common.{◌≡◌, ℕ, ◌+◌, ◌-◌, ◌*◌, ◌/◌, ◌<◌, ◌≤◌, true, false, nat_lt, inl, inr, List, [], ◌∷◌, ◌++◌, length, take, get_or, refl, sym, ap, ◌∙◌, arith, append_assoc, append-nil, length-append}, lemmas.Bool.{both_ways, cases_lt, lt-ltb, le-ltb, leb-true, leb-false, or_parts, or_cases}, lemmas.List.{take_more}}, specs.Prelude.{nat_le, min}}
use Rattle.{df_base.{specs.Fields.{field_at}, proofs.Laws.{field_front}}, df_model.specs.Refusals.{first_refusal}}
use Rattle.df_trailer.{proofs.Sessions.{sessions_front}, specs.Text.{bits_at, count, count_at, head_end, head_tests, is_whole, read_sessions, root_size, sessions_at}}

pub root_front : (xs ys : List ℕ) → 4 ≤ length xs → root_size (xs ++ ys) ≡ root_size xs
root_front xs ys fits = field_front 4 0 xs ys fits

pub count_front : (xs ys : List ℕ) → 4 ≤ length xs → sessions_at xs ≤ length xs → count (xs ++ ys) ≡ count xs
count_front xs ys four fits = ap (λ (r : ℕ). field_at 4 (4 + r) (xs ++ ys)) (root_front xs ys four) ∙ field_front 4 (count_at xs) xs ys fits

-- ---- the end of a head

-- where a head ends, by how much of it is there
pub head_end_is : (h : List ℕ) → (length h < 4 → head_end h ≡ 4) × (4 ≤ length h → length h < sessions_at h → head_end h ≡ sessions_at h)
    × (4 ≤ length h → sessions_at h ≤ length h → head_end h ≡ bits_at h)
head_end_is h = (first, second, third)
  where
    first : length h < 4 → head_end h ≡ 4
    first a = let t : nat_lt (length h) 4 ≡ true = lt-ltb (length h) 4 a in rw t refl

    second : 4 ≤ length h → length h < sessions_at h → head_end h ≡ sessions_at h
    second a b = let t : nat_lt (length h) 4 ≡ false = le-ltb (length h) 4 a in
        let u : nat_lt (length h) (sessions_at h) ≡ true = lt-ltb (length h) (sessions_at h) b in rw (t, u) refl

    third : 4 ≤ length h → sessions_at h ≤ length h → head_end h ≡ bits_at h
    third a b = let t : nat_lt (length h) 4 ≡ false = le-ltb (length h) 4 a in
        let u : nat_lt (length h) (sessions_at h) ≡ false = le-ltb (length h) (sessions_at h) b in rw (t, u) refl

le_by : {a b c : ℕ} → a ≤ b → c ≡ b → a ≤ c
le_by h e = omega arith

-- the last byte of a head that has sessions is no further than the end of these
last_inside : (h ys : List ℕ) → length ys ≡ 1
    → length h < head_end h → 4 ≤ length (h ++ ys) → sessions_at (h ++ ys) ≤ length (h ++ ys) → length (h ++ ys) ≤ bits_at (h ++ ys)
last_inside h ys one more four behind = let size = length-append h ys in elim (cases_lt (length h) 4) [
  | inl short ↦ absurd (omega arith)
  | inr had ↦ let root = root_front h ys had in elim (cases_lt (length h) (sessions_at h)) [
    | inl inside ↦ omega arith
    | inr past ↦ let all = count_front h ys had past in let ends = (head_end_is h).2 had past in omega (arith, root, all, ends)
  ]
]

-- a head that isn't whole is no longer than a head with one byte more
pub pushed_fits : (h ys : List ℕ) → length ys ≡ 1 → length h < head_end h → length (h ++ ys) ≤ head_end (h ++ ys)
pushed_fits h ys one more = elim (cases_lt (length (h ++ ys)) 4) [
  | inl short ↦ le_by (omega arith) ((head_end_is (h ++ ys)).0 short)
  | inr four ↦ elim (cases_lt (length (h ++ ys)) (sessions_at (h ++ ys))) [
    | inl inside ↦ le_by (omega arith) ((head_end_is (h ++ ys)).1 four inside)
    | inr behind ↦ le_by (last_inside h ys one more four behind) ((head_end_is (h ++ ys)).2 four behind)
  ]
]

pub not_whole : (h : List ℕ) → is_whole h ≡ false → (length h < 3080) × (length h < head_end h)
not_whole h is = let p = or_parts (nat_le 3080 (length h)) (nat_le (head_end h) (length h)) is in
    (leb-false 3080 (length h) p.0, leb-false (head_end h) (length h) p.1)

-- ---- the tests of a head, where more comes after it

-- what a whole head has
pub record IsWhole (clients : ℕ) (h : List ℕ) : Type 0 where
  pub four : 4 ≤ length h
  pub sessions : root_size h ≤ 1024 → sessions_at h ≤ length h
  pub bits : root_size h ≤ 1024 → count h ≤ clients → bits_at h ≤ length h

reaches : (h : List ℕ) → head_end h ≤ length h → (4 ≤ length h) × (sessions_at h ≤ length h) × (bits_at h ≤ length h)
reaches h ends = elim (cases_lt (length h) 4) [
  | inl short ↦ let e = (head_end_is h).0 short in absurd (omega arith)
  | inr four ↦ elim (cases_lt (length h) (sessions_at h)) [
    | inl inside ↦ let e = (head_end_is h).1 four inside in absurd (omega arith)
    | inr behind ↦ let e = (head_end_is h).2 four behind in (four, behind, omega arith)
  ]
]

pub whole_has : (clients : ℕ) (h : List ℕ) → clients ≤ 64 → is_whole h ≡ true → IsWhole clients h
whole_has clients h few is = elim (or_cases (nat_le 3080 (length h)) (nat_le (head_end h) (length h)) is) [
  | inl long ↦ let l : 3080 ≤ length h = leb-true 3080 (length h) long in
      record { four = omega arith; sessions = λ r. omega arith; bits = λ r c. omega arith }
  | inr ends ↦ let e = reaches h (leb-true (head_end h) (length h) ends) in record { four = e.0; sessions = λ r. e.1; bits = λ r c. e.2 }
]

pub same_tests : (clients op : ℕ) (h ys : List ℕ)
    → IsWhole clients h → first_refusal (head_tests clients op (h ++ ys)) ≡ first_refusal (head_tests clients op h)
same_tests clients op h ys w = let size = length-append h ys in let four = w.four in
    let root : root_size (h ++ ys) ≡ root_size h = root_front h ys four in
    let a0 : nat_lt (length (h ++ ys)) 4 ≡ false = le-ltb (length (h ++ ys)) 4 (omega arith) in
    let b0 : nat_lt (length h) 4 ≡ false = le-ltb (length h) 4 (omega arith) in elim (cases_lt 1024 (root_size h)) [
      | inl long ↦ let t : nat_lt 1024 (root_size h) ≡ true = lt-ltb 1024 (root_size h) long in rw (a0, b0, root, t) refl
      | inr short ↦ let t : nat_lt 1024 (root_size h) ≡ false = le-ltb 1024 (root_size h) short in
          let reach : sessions_at h ≤ length h = w.sessions short in
          let a2 : nat_lt (length (h ++ ys)) (4 + root_size h) ≡ false = le-ltb (length (h ++ ys)) (4 + root_size h) (omega arith) in
          let b2 : nat_lt (length h) (4 + root_size h) ≡ false = le-ltb (length h) (4 + root_size h) (omega arith) in
          let a3 : nat_lt (length (h ++ ys)) (4 + root_size h + 4) ≡ false = le-ltb (length (h ++ ys)) (4 + root_size h + 4) (omega arith) in
          let b3 : nat_lt (length h) (4 + root_size h + 4) ≡ false = le-ltb (length h) (4 + root_size h + 4) (omega arith) in
          let all : field_at 4 (4 + root_size h) (h ++ ys) ≡ count h = field_front 4 (4 + root_size h) h ys reach in
          elim (cases_lt clients (count h)) [
            | inl many ↦ let u : nat_lt clients (count h) ≡ true = lt-ltb clients (count h) many in
                rw (a0, b0, root, t, a2, b2, a3, b3, all, u) refl
            | inr few ↦ let u : nat_lt clients (count h) ≡ false = le-ltb clients (count h) few in
                let ends : bits_at h ≤ length h = w.bits short few in
                let wa : min (count h) ((length (h ++ ys) - (4 + root_size h + 4)) / 32) ≡ count h = omega arith in
                let wb : min (count h) ((length h - (4 + root_size h + 4)) / 32) ≡ count h = omega arith in
                let ss : read_sessions (count h) (4 + root_size h + 4) (h ++ ys) ≡ read_sessions (count h) (4 + root_size h + 4) h =
                sessions_front (count h) (4 + root_size h + 4) h ys ends in
                let a6 : nat_lt (length (h ++ ys)) (4 + root_size h + 4 + 32 * count h) ≡ false =
                le-ltb (length (h ++ ys)) (4 + root_size h + 4 + 32 * count h) (omega arith) in
                let b6 : nat_lt (length h) (4 + root_size h + 4 + 32 * count h) ≡ false =
                le-ltb (length h) (4 + root_size h + 4 + 32 * count h) (omega arith) in
                rw (a0, b0, root, t, a2, b2, a3, b3, all, u, wa, wb, ss, a6, b6) refl
          ]
    ]

pub taken_more : (first h g piece : List ℕ) (i : ℕ)
    → h ≡ first ++ take i piece → i < length piece → g ≡ h ++ get_or piece i 0 ∷ [] → g ≡ first ++ take (i + 1) piece
taken_more first h g piece i before within now =
    now ∙ ap (λ (xs : List ℕ). xs ++ get_or piece i 0 ∷ []) before ∙ append_assoc first (take i piece) (get_or piece i 0 ∷ [])
    ∙ ap (λ (xs : List ℕ). first ++ xs) (sym (take_more piece i 0 within))

pub not_both : (first h piece : List ℕ) (i : ℕ) → h ≡ first ++ take i piece → i ≡ 0 → is_whole first ≡ true → is_whole h ≡ false → ⊥
not_both first h piece i is none was now = let e : h ≡ first = is ∙ ap (λ (n : ℕ). first ++ take n piece) none ∙ append-nil first in
    both_ways (is_whole h) now (ap (λ (xs : List ℕ). is_whole xs) e ∙ was)
