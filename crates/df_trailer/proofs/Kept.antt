-- What fails in a text is told by what a reader keeps of it.
use Rattle.std.{proofs.{Common.{◌≡◌, ℕ, ◌+◌, ◌-◌, ◌*◌, ◌/◌, ◌<◌, ◌≤◌, ◌==◌, Bool, true, false, nat_lt, inl, inr, Option, Some, None, List, [], ◌∷◌, ◌++◌, length, take, drop, refl, sym, ap, ◌∙◌, arith, append_assoc, length-append, length-drop, append-nil}, lemmas.{Bool.{cases_eq, cases_lt, eq-eqb, ne_eqb, lt-ltb, le-ltb, ltb-false}, List.{drop_at, ext_get_or, get_or-take, get_or_append_left, get_or-append-add, length-take-le, take-append-drop}}}, specs.Prelude.{if◌then◌else◌, slice_index}}
use Rattle.{df_base.{specs.Fields.{field_at}, proofs.Laws.{field_front}}, df_theory.specs.Units.{Layout}}
use Rattle.df_model.{specs.Refusals.{first_refusal}, proofs.Laws.{all_pass}}
use Rattle.df_trailer.{specs.{declared.fault.Failing.{Failing}, Reading.{AreChecksKept, IsTextFront, failing_of, rest_tests}, Text.{bits, bits_at, bits_in, bits_of, head_end, head_tests, is_whole, ones, sessions_at, tests}}, proofs.Longer.{count_front, head_end_is, root_front, same_tests, whole_has}}

abbrev pub or_first : Option Failing → Option Failing → Option Failing
or_first None g = g
or_first (Some f) g = Some f

pub first_none : (o g : Option Failing) → or_first o g ≡ None → o ≡ None
first_none None g is = refl
first_none (Some f) g is = absurd (cc)

pub append_first : (a b : List (Bool × Failing)) → first_refusal (a ++ b) ≡ or_first (first_refusal a) (first_refusal b)
append_first [] b = refl
append_first (t ∷ a) b = pick t.0 (append_first a b)
  where
    pick : (c : Bool) → first_refusal (a ++ b) ≡ or_first (first_refusal a) (first_refusal b)
        → (if c then Some t.1 else first_refusal (a ++ b)) ≡ or_first (if c then Some t.1 else first_refusal a) (first_refusal b)
    pick true e = refl
    pick false e = e

-- the tests after the head, of as many bits as are kept
abbrev kept_tests : (blocks head : ℕ) → List ℕ → ℕ → List (Bool × Failing)
kept_tests blocks head bits behind = rest_tests blocks head (length bits) (bits_in bits) behind

-- the head fails in the text as it does by itself
pub head_same : (l : Layout) (op : ℕ) (h rest : List ℕ) → l.clients ≤ 64 → (0 < length rest → is_whole h ≡ true)
    → first_refusal (head_tests l.clients op (h ++ rest)) ≡ first_refusal (head_tests l.clients op h)
head_same l op h [] few whole = ap (λ (xs : List ℕ). first_refusal (head_tests l.clients op xs)) (append-nil h)
head_same l op h (x ∷ rest) few whole = same_tests l.clients op h (x ∷ rest) (whole_has l.clients h few (whole (omega arith)))

-- where the head ends
pub record IsEnd (h : List ℕ) : Type 0 where
  pub four : 4 ≤ length h
  pub sessions : sessions_at h ≤ length h
  pub ends : length h ≡ bits_at h

pub head_ends : (clients op : ℕ) (h : List ℕ) → length h ≤ head_end h → first_refusal (head_tests clients op h) ≡ None → IsEnd h
head_ends clients op h fits none = let t = all_pass (head_tests clients op h) none in
    let t1 = t.1 in let t2 = t1.1 in let t3 = t2.1 in let t4 = t3.1 in let t5 = t4.1 in let t6 = t5.1 in
    let four : 4 ≤ length h = ltb-false (length h) 4 t.0 in
    let reach : sessions_at h ≤ length h = ltb-false (length h) (sessions_at h) t3.0 in
    let all : bits_at h ≤ length h = ltb-false (length h) (bits_at h) t6.0 in let e = (head_end_is h).2 four reach in
    record { four = four; sessions = reach; ends = omega arith }

pub bits_at_front : (h rest : List ℕ) → IsEnd h → bits_at (h ++ rest) ≡ length h
bits_at_front h rest e = let r = root_front h rest e.four in let c = count_front h rest e.four e.sessions in omega (arith, e.ends)

-- the bits that were kept are those of the text
pub bits_kept : (n : ℕ) (h rest bs : List ℕ)
    → length bs ≡ n → n ≤ length rest → ((i : ℕ) → i < length rest → i < length bs → slice_index bs i ≡ slice_index rest i)
    → field_at n (length h) (h ++ rest) ≡ bits_in bs
unfolding field_at
bits_kept n h rest bs size enough are = let same : bs ≡ take n rest =
    ext_get_or 0 bs (take n rest) (size ∙ sym (length-take-le n rest enough)) (λ i within.
    are i (omega arith) within ∙ sym (get_or-take n rest i 0 (omega arith))) in
    let front : field_at n 0 (take n rest ++ drop n rest) ≡ field_at n 0 (take n rest) =
    field_front n 0 (take n rest) (drop n rest) (omega (arith, length-take-le n rest enough)) in
    ap (λ (xs : List ℕ). field_at n 0 xs) (drop_at h rest (length h) refl)
    ∙ ap (λ (xs : List ℕ). field_at n 0 xs) (sym (take-append-drop n rest)) ∙ front ∙ ap (λ (xs : List ℕ). field_at n 0 xs) (sym same)
    ∙ ap (λ (m : ℕ). field_at m 0 bs) (sym size)

same_lt : (h a b : ℕ) → nat_lt (h + a) (h + b) ≡ nat_lt a b
same_lt h a b = elim (cases_lt a b) [
  | inl less ↦ lt-ltb (h + a) (h + b) (omega arith) ∙ sym (lt-ltb a b less)
  | inr more ↦ le-ltb (h + a) (h + b) (omega arith) ∙ sym (le-ltb a b more)
]

same_eq : (h a b : ℕ) → (h + a == h + b) ≡ (a == b)
same_eq h a b = elim (cases_eq a b) [
  | inl e ↦ eq-eqb (h + a) (h + b) (omega arith) ∙ sym (eq-eqb a b e)
  | inr n ↦ ne_eqb (h + a) (h + b) (λ e. n (omega arith)) ∙ sym (ne_eqb a b n)
]

tail_same : (l : Layout) (op : ℕ) (h rest bs : List ℕ)
    → IsEnd h → length bs ≡ (l.blocks + 7) / 8 → ((i : ℕ) → i < length rest → i < length bs → slice_index bs i ≡ slice_index rest i)
    → first_refusal (drop 7 (tests l op (h ++ rest))) ≡ first_refusal (kept_tests l.blocks (length h) bs (length rest))
tail_same l op h rest bs e room are = let size : length (h ++ rest) ≡ length h + length rest = length-append h rest in
    let start : bits_at (h ++ rest) ≡ length h = bits_at_front h rest e in
    let t0 : nat_lt (length h + length rest) (length h + length bs) ≡ nat_lt (length rest) (length bs) =
    same_lt (length h) (length rest) (length bs) in elim (cases_lt (length rest) (length bs)) [
      | inl short ↦ let s : nat_lt (length rest) (length bs) ≡ true = lt-ltb (length rest) (length bs) short in
          rw (size, start, sym room, t0, s) refl
      | inr enough ↦ let s : nat_lt (length rest) (length bs) ≡ false = le-ltb (length rest) (length bs) enough in
          let kept : field_at (length bs) (length h) (h ++ rest) ≡ bits_in bs = bits_kept (length bs) h rest bs refl enough are in
          let n : ℕ = 16 * ones (bits_of l.blocks (bits_in bs)) in
          let sum : length h + length bs + n ≡ length h + (length bs + n) = omega arith in
          let t2 : (length h + length rest == length h + (length bs + n)) ≡ (length rest == length bs + n) =
          same_eq (length h) (length rest) (length bs + n) in rw (size, start, sym room, t0, s, kept, sum, t2) refl
    ]

pub fails_as_kept : (l : Layout) (op : ℕ) (text head bs : List ℕ) (behind : ℕ)
    → l.clients ≤ 64 → IsTextFront l text head bs behind → failing_of l op head bs behind ≡ first_refusal (tests l op text)
fails_as_kept l op text head bs behind few k = let same = head_same l op head k.rest few k.whole in
    let left = append_first (head_tests l.clients op head) (kept_tests l.blocks (length head) bs behind) in
    let sized : failing_of l op head bs behind ≡ first_refusal (head_tests l.clients op head ++ kept_tests l.blocks (length head) bs behind) =
    ap (λ (n : ℕ). first_refusal (head_tests l.clients op head ++ rest_tests l.blocks (length head) n (bits_in bs) behind)) (sym k.room) in
    let right = append_first (head_tests l.clients op (head ++ k.rest)) (drop 7 (tests l op (head ++ k.rest))) in
    sized ∙ left ∙ joined (first_refusal (head_tests l.clients op head)) refl ∙ ap (λ (o : Option Failing). or_first o (first_refusal
    (drop 7 (tests l op (head ++ k.rest))))) (sym same) ∙ sym right ∙ ap (λ (t : List ℕ). first_refusal (tests l op t)) (sym k.is)
  where
    joined : (o : Option Failing) → first_refusal (head_tests l.clients op head) ≡ o
        → or_first o (first_refusal (kept_tests l.blocks (length head) bs behind))
        ≡ or_first o (first_refusal (drop 7 (tests l op (head ++ k.rest))))
    joined (Some f) is = refl
    joined None is = ap (λ (b : ℕ). first_refusal (kept_tests l.blocks (length head) bs b)) k.size
        ∙ sym (tail_same l op head k.rest bs (head_ends l.clients op head k.fits is) k.room k.bits_are)

-- ---- nothing yet

pub nothing_kept : (l : Layout) (head bs : List ℕ) → head ≡ [] → length bs ≡ (l.blocks + 7) / 8 → IsTextFront l [] head bs 0
nothing_kept l head bs none room = record {
  rest = [];
  is = ap (λ (h : List ℕ). h ++ []) (sym none);
  size = refl;
  fits = rw none (omega arith);
  whole = λ some. absurd (omega arith);
  room = room;
  bits_are = λ i within inside. absurd (omega arith);
}

-- ---- a piece more

-- what a piece adds to what is kept
pub record IsAdded (head bs : List ℕ) (behind : ℕ) (piece : List ℕ) (n : ℕ) (head' bs' : List ℕ) (behind' : ℕ) : Type 0 where
  pub within : n ≤ length piece
  pub head_is : head' ≡ head ++ take n piece
  pub fits : length head ≤ head_end head → length head' ≤ head_end head'
  pub stays : is_whole head ≡ true → n ≡ 0
  pub whole : n < length piece → is_whole head' ≡ true
  pub size : behind' ≡ behind + (length piece - n)
  pub room : length bs' ≡ length bs
  pub before : (i : ℕ) → i < behind → i < length bs → slice_index bs' i ≡ slice_index bs i
  pub here : (i : ℕ) → i < length piece - n → behind + i < length bs → slice_index bs' (behind + i) ≡ slice_index (drop n piece) i

split_text : (head rest piece : List ℕ) (n : ℕ)
    → (0 < length rest → n ≡ 0) → (head ++ rest) ++ piece ≡ (head ++ take n piece) ++ (rest ++ drop n piece)
split_text head [] piece n none = ap (λ (xs : List ℕ). xs ++ piece) (append-nil head)
    ∙ ap (λ (xs : List ℕ). head ++ xs) (sym (take-append-drop n piece)) ∙ sym (append_assoc head (take n piece) (drop n piece))
split_text head (x ∷ rest) piece n none = append_assoc head (x ∷ rest) piece
    ∙ ap (λ (xs : List ℕ). xs ++ ((x ∷ rest) ++ piece)) (sym (append-nil head))
    ∙ ap (λ (m : ℕ). (head ++ take m piece) ++ ((x ∷ rest) ++ drop m piece)) (sym (none (omega arith)))

pub added_is_kept : (l : Layout) (text head bs : List ℕ) (behind : ℕ) (piece : List ℕ) (n : ℕ) (head' bs' : List ℕ) (behind' : ℕ)
    → IsTextFront l text head bs behind → IsAdded head bs behind piece n head' bs' behind' → IsTextFront l (text ++ piece) head' bs' behind'
added_is_kept l text head bs behind piece n head' bs' behind' k a = record {
  rest = k.rest ++ drop n piece;
  is = ap (λ (xs : List ℕ). xs ++ piece) k.is ∙ split_text head k.rest piece n (λ some. a.stays (k.whole some))
      ∙ ap (λ (xs : List ℕ). xs ++ (k.rest ++ drop n piece)) (sym a.head_is);
  size = let b = length-append k.rest (drop n piece) in let d = length-drop n piece in omega (arith, a.size, k.size);
  fits = a.fits k.fits;
  whole = whole_now;
  room = a.room ∙ k.room;
  bits_are = bits_now;
}
  where
    whole_now : 0 < length (k.rest ++ drop n piece) → is_whole head' ≡ true
    whole_now some = elim (cases_lt n (length piece)) [
      | inl less ↦ a.whole less
      | inr all ↦ let b = length-append k.rest (drop n piece) in let d = length-drop n piece in
          let w : is_whole head ≡ true = k.whole (omega arith) in
          ap (λ (xs : List ℕ). is_whole xs) (a.head_is ∙ ap (λ (m : ℕ). head ++ take m piece) (a.stays w) ∙ append-nil head) ∙ w
    ]

    bits_now : (i : ℕ) → i < length (k.rest ++ drop n piece) → i < length bs' → slice_index bs' i ≡ slice_index (k.rest ++ drop n piece) i
    bits_now i within inside = elim (cases_lt i (length k.rest)) [
      | inl old ↦ a.before i (omega (arith, k.size)) (omega (arith, a.room))
          ∙ k.bits_are i old (omega (arith, a.room)) ∙ sym (get_or_append_left k.rest (drop n piece) 0 i old)
      | inr new ↦ let b = length-append k.rest (drop n piece) in let d = length-drop n piece in let j : ℕ = i - length k.rest in
          let at : behind + j ≡ i = omega (arith, k.size) in let there : length k.rest + j ≡ i = omega arith in
          ap (λ (m : ℕ). slice_index bs' m) (sym at) ∙ a.here j (omega arith) (omega (arith, a.room))
          ∙ sym (get_or-append-add k.rest (drop n piece) j 0) ∙ ap (λ (m : ℕ). slice_index (k.rest ++ drop n piece) m) there
    ]

at_rest : (text head rest : List ℕ) (m x : ℕ) → text ≡ head ++ rest → m ≡ length head + x → slice_index text m ≡ slice_index rest x
at_rest text head rest m x is at =
    ap (λ (xs : List ℕ). slice_index xs m) is ∙ ap (λ (j : ℕ). slice_index (head ++ rest) j) at ∙ get_or-append-add head rest x 0

pub checks_added : (l : Layout)
    (text head bs : List ℕ) (behind : ℕ) (piece : List ℕ) (n : ℕ) (head' bs' : List ℕ) (behind' : ℕ) (cs cs' : List ℕ)
    → IsTextFront l text head bs behind → IsAdded head bs behind piece n head' bs' behind' → length cs' ≡ length cs
    → ((i : ℕ) → i < length cs → length bs + i < behind → slice_index cs' i ≡ slice_index cs i)
    → ((i j : ℕ) → j < length piece - n → length bs + i ≡ behind + j → i < length cs → slice_index cs' i ≡ slice_index (drop n piece) j)
    → AreChecksKept text (length head + length bs) cs → AreChecksKept (text ++ piece) (length head' + length bs') cs'
unfolding added_is_kept
checks_added l text head bs behind piece n head' bs' behind' cs cs' k a room before here were i inside within =
    let new = added_is_kept l text head bs behind piece n head' bs' behind' k a in let rest : List ℕ = k.rest ++ drop n piece in
    let is : text ++ piece ≡ head' ++ rest = new.is in
    let size : length (text ++ piece) ≡ length head' + length rest = ap (λ (xs : List ℕ). length xs) is ∙ length-append head' rest in
    let b = length-append k.rest (drop n piece) in let d = length-drop n piece in
    let there : slice_index (text ++ piece) (length head' + length bs' + i) ≡ slice_index rest (length bs + i) =
    at_rest (text ++ piece) head' rest (length head' + length bs' + i) (length bs + i) is (omega (arith, a.room)) in
    elim (cases_lt (length bs + i) (length k.rest)) [
      | inl old ↦
          let text_size : length text ≡ length head + length k.rest = ap (λ (xs : List ℕ). length xs) k.is ∙ length-append head k.rest in
          before i (omega arith) (omega (arith, k.size)) ∙ were i (omega arith) (omega arith)
          ∙ at_rest text head k.rest (length head + length bs + i) (length bs + i) k.is (omega arith)
          ∙ sym (get_or_append_left k.rest (drop n piece) 0 (length bs + i) old) ∙ sym there
      | inr late ↦ let j : ℕ = length bs + i - length k.rest in let at : length k.rest + j ≡ length bs + i = omega arith in
          here i j (omega (arith, a.room)) (omega (arith, k.size)) (omega arith) ∙ sym (get_or-append-add k.rest (drop n piece) j 0)
          ∙ ap (λ (m : ℕ). slice_index rest m) at ∙ sym there
    ]
