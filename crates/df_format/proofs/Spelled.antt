-- A header is read from its spelling, and what is read as a header is its spelling.
use Rattle.std.{proofs.{Common.{◌≡◌, ℕ, ◌<◌, ◌&&◌, true, List, [], ◌++◌, length, take, drop, replicate, Option, Some, None, refl, sym, ◌∙◌, ap, subst, arith}, lemmas.Bool.{cond-true, and_parts, and_from}, lemmas.List.{take_at, take_all, drop_at, drop_all, length-drop}, lemmas.Slice.Eq.{bytes_eq-Decides}, lemmas.Option.{cond_some}}, specs.Prelude.{slice_index}}
use Rattle.df_base.{specs.{Fields.{AreBytes, spelled, check_of}, Text.{AreSo, Fit, AreRead}}, proofs.Laws.{so_none, so_many_zeros, so_check, so_both, so_text, spelled_back, fit_back, piece}}
use Rattle.df_format.{specs.{declared.header.Header.{Header}, declared.kind.Kind.{Kind}, declared.kind.Kind.TheVariants.{Reserved}, Spelling.{code_of, tail, tail_of, fields, spelling, spelling_rest}, Rules.{FitsFields, IsSealed}, Reading.{kind_of, fields_of, has_numbers, is_spelled, header_of_kind, header_in}, UnitLaws.{FirstVersionEndsInZeros, HeadersHaveOneSpelling}}, proofs.{Codes.{kind_of-code, code_of-kind}, Parts.{AreBothRead, read_both}, Ranges.{AreInRange, in_range, passes, same_bytes}}}

-- eight bytes of the number 0 are zeros
no_number : spelled 8 0 ≡ replicate 8 0
unfolding spelled
no_number = refl

pub first_ends : FirstVersionEndsInZeros
unfolding tail_of
first_ends h is =
    (λ i. spelled 2 (is.version i) ++ (spelled 8 (is.boot i) ++ (spelled 8 (is.group i) ++ (spelled 8 (is.group_last i) ++ replicate 108 0))))
    ∙ (λ i. spelled 2 1 ++ (no_number i ++ (no_number i ++ (no_number i ++ replicate 108 0))))

-- ---- what fits

code-small : (kind : Kind) → code_of kind < 256
code-small Reserved = omega arith
code-small _ = omega arith

fields_fit : (h : Header) → FitsFields h → Fit fields h
fields_fit h fits = assumption (code-small h.kind)

tail_fit : (h : Header) → FitsFields h → Fit tail h
tail_fit h fits = assumption (so_many_zeros 108)

rest_size : (h : Header) → FitsFields h → AreSo 240 (spelling_rest h)
unfolding spelling_rest tail_of
rest_size h fits = let all = fields_fit h fits in so_text fields h (assumption) (so_text tail h (assumption (so_many_zeros 108)) so_none)

checksum_size : (h : Header) → IsSealed h → AreSo 16 h.checksum
checksum_size h is = subst (λ (l : List ℕ). AreSo 16 l) (sym is.checksum) (so_check (spelling_rest h))

pub spelling_size : (h : Header) → IsSealed h → AreSo 256 (spelling h)
spelling_size h is = so_both (checksum_size h is) (rest_size h is.rules.fits)

pub length-spelling : (h : Header) → IsSealed h → length (spelling h) ≡ 256
length-spelling h is = (spelling_size h is).size

-- ---- a header is read from its spelling

-- fields that are read are all that is read
same_fields : (bytes : List ℕ) (h : Header)
    → take 16 bytes ≡ h.checksum → AreRead fields 16 bytes h → AreRead tail 122 bytes h → fields_of h.kind bytes ≡ h
unfolding fields_of
same_fields bytes h checksum fields_read tail_read = let all : fields_of h.kind bytes ≡ record h { kind = h.kind } = cc in all

module _ (h : Header) (sealed : IsSealed h) where
  abbrev bytes : List ℕ
  bytes = spelling h

  abbrev fits : FitsFields h
  fits = sealed.rules.fits

  f_checksum : take 16 bytes ≡ h.checksum
  f_checksum = take_at h.checksum (spelling_rest h) 16 (checksum_size h sealed).size

  e16 : drop 16 bytes ≡ spelling_rest h
  e16 = drop_at h.checksum (spelling_rest h) 16 (checksum_size h sealed).size

  read : AreBothRead fields tail 16 bytes [] h
  unfolding spelling_rest tail_of
  read = read_both fields tail 16 bytes [] h (fields_fit h fits) (tail_fit h fits) e16

  is_fields : fields_of h.kind bytes ≡ h
  is_fields = same_fields bytes h f_checksum read.first read.second

  fixed_ok : is_spelled bytes ≡ true
  unfolding is_spelled
  fixed_ok = let rest : take 240 (drop 16 bytes) ≡ spelling_rest h =
      ap (λ (l : List ℕ). take 240 l) e16 ∙ take_all 240 (spelling_rest h) (omega (arith, (rest_size h fits).size)) in
      and_from _ _ (same_bytes _ _ (f_checksum ∙ sealed.checksum ∙ ap check_of (sym rest))) (same_bytes _ _ read.second.1.1.1.1.0)

  header_ok : (is_spelled bytes && has_numbers (fields_of h.kind bytes)) ≡ true
  header_ok = and_from _ _ fixed_ok (ap has_numbers is_fields ∙ passes h (assumption))

  pub reads : header_in bytes ≡ Some h
  unfolding header_in
  reads = ap (λ (o : Option Kind). header_of_kind bytes o) (ap kind_of read.first.1.1.1.1.1.1.1.1.1.1.0 ∙ kind_of-code h.kind)
      ∙ cond-true (is_spelled bytes && has_numbers (fields_of h.kind bytes)) (Some (fields_of h.kind bytes)) None header_ok
      ∙ ap Some is_fields

-- ---- what is read as a header is its spelling

kind_of-fields : (kind : Kind) (bytes : List ℕ) (h : Header) → fields_of kind bytes ≡ h → kind ≡ h.kind
unfolding fields_of
kind_of-fields kind from h is = ap (λ (x : Header). x.kind) is

-- what the parts of a header's test say
pub record IsRead (bytes : List ℕ) (h : Header) : Type 0 where
  pub sum : take 16 bytes ≡ check_of (take 240 (drop 16 bytes))
  pub zeros : take 108 (drop 148 bytes) ≡ replicate 108 0
  pub code : slice_index bytes 120 ≡ code_of h.kind
  pub fields : fields_of h.kind bytes ≡ h
  pub ranges : AreInRange h

read_of_kind : (bytes : List ℕ) (h : Header) (o : Option Kind)
    → header_of_kind bytes o ≡ Some h → kind_of (slice_index bytes 120) ≡ o → IsRead bytes h
unfolding is_spelled
read_of_kind bytes h None is from = absurd (cc)
read_of_kind bytes h (Some kind) is from = let parts = cond_some _ _ h is in let tests = and_parts _ _ parts.0 in
    let fixed = and_parts _ _ tests.0 in let same : kind ≡ h.kind = kind_of-fields kind bytes h parts.1 in record {
      sum = (bytes_eq-Decides _ _).0 fixed.0;
      zeros = (bytes_eq-Decides _ _).0 fixed.1;
      code = code_of-kind _ _ from ∙ ap code_of same;
      fields = ap (λ (k : Kind). fields_of k bytes) (sym same) ∙ parts.1;
      ranges = rw (← parts.1) (in_range _ tests.1);
    }

pub read_as : (bytes : List ℕ) (h : Header) → header_in bytes ≡ Some h → IsRead bytes h
unfolding header_in
read_as bytes h is = read_of_kind bytes h (kind_of (slice_index bytes 120)) is refl

-- fields that fit where they are read
all_fit : (h : Header) → Fit fields h → Fit tail h → FitsFields h
all_fit h fields_fits tail_fits = assumption

module _ (bytes : List ℕ) (size : length bytes ≡ 256) (are : AreBytes bytes)
    (kind : Kind) (code : slice_index bytes 120 ≡ code_of kind) (zeros : take 108 (drop 148 bytes) ≡ replicate 108 0) where
  abbrev found : Header
  found = fields_of kind bytes

  fields_found : AreRead fields 16 bytes found
  unfolding fields_of
  fields_found = assumption

  tail_found : AreRead tail 122 bytes found
  unfolding fields_of
  tail_found = assumption

  is_tail : drop 122 bytes ≡ tail_of found
  unfolding tail_of
  is_tail = spelled_back tail 122 bytes [] found are (omega arith) tail_found (drop_all 256 bytes (omega arith))

  is_rest : drop 16 bytes ≡ spelling_rest found
  unfolding spelling_rest
  is_rest = spelled_back fields 16 bytes (tail_of found) found are (omega arith) fields_found is_tail

  all_spelled : take 16 bytes ≡ check_of (take 240 (drop 16 bytes)) → AreInRange found → IsSealed found × (bytes ≡ spelling found)
  all_spelled sum range = let front : take 16 bytes ≡ found.checksum = unfold fields_of in refl in let fits = all_fit
      found (fit_back fields 16 bytes found are (omega arith) fields_found) (fit_back tail 122 bytes found are (omega arith) tail_found) in
      let checksum = sym front ∙ sum ∙ ap check_of (take_all 240 (drop 16 bytes) (omega (arith, length-drop 16 bytes)) ∙ is_rest) in (
        assumption (fits, checksum),
        piece 0 16 bytes found.checksum _ (sym front) is_rest,
      )

pub was_spelled : (bytes : List ℕ) (h : Header) → length bytes ≡ 256 → AreBytes bytes → IsRead bytes h → IsSealed h × (bytes ≡ spelling h)
was_spelled bytes h size are is = let here = all_spelled bytes size are h.kind is.code is.zeros is.sum (rw (sym is.fields) at is.ranges) in
    subst (λ (x : Header). IsSealed x × (bytes ≡ spelling x)) is.fields here

-- 256 bytes are read as a header exactly where they are its spelling
pub one_spelling : HeadersHaveOneSpelling
one_spelling bytes h size are = (
  λ is. was_spelled bytes h size are (read_as bytes h is),
  λ is. ap header_in is.1 ∙ reads h is.0,
)
