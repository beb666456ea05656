-- The bytes of a row: what stands where in them, and that they are one row.
use Rattle.std.proofs.{Common.{◌≡◌, ℕ, ◌+◌, ◌-◌, ◌^◌, ◌<◌, ◌≤◌, List, [], ◌∷◌, ◌++◌, length, get_or, take, drop, replicate, sym, ap, ◌∙◌, arith, length-append, length-drop}, lemmas.List.{append-nil, take-append-drop, take_rest, length-replicate, length-take-le, drop-drop}}
use Rattle.df_base.{specs.{Fields.{AreBytes, field_at, spelled}, Text.{total}}, proofs.Laws.{length-spelled, field_spelled, spelled_back, same_front}}
use Rattle.df_rows.specs.Rows.{Entry, IsEntry, row_of, row_pieces}

-- ---- two texts of fronts that are as long

pub same_entry : (e f : Entry) → e.0 ≡ f.0 → e.1 ≡ f.1 → e ≡ f
same_entry e f keys values = λ i. (keys i, values i)

-- ---- keys

read_key : (k : ℕ) → k < 2 ^ 128 → field_at 16 0 (spelled 16 k) ≡ k
read_key k fits = field_spelled 16 0 k (spelled 16 k) [] (sym (append-nil (spelled 16 k))) fits

pub one_key : (m n : ℕ) → m < 2 ^ 128 → n < 2 ^ 128 → spelled 16 m ≡ spelled 16 n → m ≡ n
one_key m n fits fits' same = sym (read_key m fits) ∙ ap (λ (l : List ℕ). field_at 16 0 l) same ∙ read_key n fits'

same_length : (m n : ℕ) → length (spelled 16 m) ≡ length (spelled 16 n)
same_length m n = length-spelled 16 m ∙ sym (length-spelled 16 n)

-- a key with something after it
pub key_split : (m n : ℕ) (x y : List ℕ) → m < 2 ^ 128 → n < 2 ^ 128 → spelled 16 m ++ x ≡ spelled 16 n ++ y → (m ≡ n) × (x ≡ y)
key_split m n x y fits fits' same = let parts = same_front (spelled 16 m) (spelled 16 n) x y (same_length m n) same in
    (one_key m n fits fits' parts.0, parts.1)

-- ---- what stands in a row

-- the value and the zeros after it
abbrev pub padded : List ℕ → List ℕ
padded value = value ++ replicate (47 - length value) 0

pub length-padded : (value : List ℕ) → length value ≤ 47 → length (padded value) ≡ 47
length-padded value fits = omega (arith, length-append value (replicate (47 - length value) 0), length-replicate {A = ℕ} (47 - length value) 0)

pub length-row_of : (e : Entry) → IsEntry e → length (row_of e) ≡ 64
length-row_of e is = omega (arith, length-append (spelled 16 e.0) (length e.1 ∷ padded e.1), length-spelled 16 e.0, length-padded e.1 is.value)

-- ---- one row

-- rows with something after them
pub row_split : (e f : Entry) (x y : List ℕ) → IsEntry e → IsEntry f → row_of e ++ x ≡ row_of f ++ y → (e ≡ f) × (x ≡ y)
row_split e f x y is other same = let rows = same_front (row_of e) (row_of f) x y (length-row_of e is ∙ sym (length-row_of f other)) same in
    let parts = key_split e.0 f.0 (length e.1 ∷ padded e.1) (length f.1 ∷ padded f.1) is.key other.key rows.0 in
    let sizes : length e.1 ≡ length f.1 = cc (parts.1) in let paddings : padded e.1 ≡ padded f.1 = cc (parts.1) in
    let values = same_front e.1 f.1 (replicate (47 - length e.1) 0) (replicate (47 - length f.1) 0) sizes paddings in
    (same_entry e f parts.0 values.0, rows.1)

pub one_row : (e f : Entry) → IsEntry e → IsEntry f → row_of e ≡ row_of f → e ≡ f
one_row e f is other same = (row_split e f [] [] is other (ap (λ (l : List ℕ). l ++ []) same)).0

-- ---- a row that is read

module _ (bytes tail value rest : List ℕ) (n : ℕ) (whole : length bytes ≡ 64)
    (tail_is : tail ≡ take (length bytes - 17) (drop 17 bytes)) (value_is : value ≡ take n tail) (rest_is : rest ≡ drop n tail) where
  tail_from : tail ≡ drop 17 bytes
  tail_from = tail_is ∙ take_rest bytes 17

  length_tail : length tail ≡ 47
  length_tail = ap length tail_from ∙ omega (arith, length-drop {A = ℕ} 17 bytes)

  tail_parts : tail ≡ value ++ rest
  tail_parts = sym (take-append-drop n tail) ∙ (λ i. sym value_is i ++ sym rest_is i)

  -- bytes whose value is short enough, with zeros after it, are a row
  pub row_read : AreBytes bytes → n ≡ get_or bytes 16 0 → n ≤ 47 → rest ≡ replicate (length rest) 0 → bytes ≡ row_of (field_at 16 0 bytes, value)
  row_read are said fits zeros = let size : length value ≡ n = ap length value_is ∙ length-take-le n tail (omega (arith, length_tail)) in
      let here : get_or bytes 16 0 ≡ length value = sym said ∙ sym size in
      let there : take (length value) (drop 17 bytes) ≡ value = (λ i. take (size i) (sym tail_from i)) ∙ sym value_is in
      let left : length rest ≡ 47 - length value = omega (arith, length_tail, ap length tail_parts, length-append value rest) in
      let behind : drop (17 + n) bytes ≡ replicate (47 - length value) 0 =
      sym (drop-drop n 17 bytes) ∙ ap (drop n) (sym tail_from) ∙ sym rest_is ∙ zeros ∙ ap (λ (m : ℕ). replicate m 0) left in
      let ends : 0 + total (row_pieces (length value)) ≡ 17 + n = omega (arith, size) in
      spelled_back (row_pieces (length value)) 0 bytes (replicate (47 - length value) 0)
      (field_at 16 0 bytes, value) are (omega arith) (assumption) (ap (λ (m : ℕ). drop m bytes) ends ∙ behind)
