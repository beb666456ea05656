-- A copy of the superblock is read from its spelling, and a sector that is read as a copy is its spelling.
use Rattle.std.{proofs.{Common.{inl, inr, ◌≡◌, ◌≢◌, ◌≤◌, ℕ, ◌<◌, ◌+◌, ◌^◌, ◌==◌, true, List, [], ◌++◌, take, drop, replicate, Option, Some, None, refl, sym, ◌∙◌, ap, subst, arith}, lemmas.Bool.{cond-true, cond-false, cases_eq, eq-eqb, ne_eqb, and_parts, and_from, ltb-true, lt-ltb}, lemmas.List.{take_all, drop_all, length-drop, length-replicate}, lemmas.Slice.Eq.{bytes_eq-Decides}, lemmas.Option.{cond_some}}, specs.{Prelude.{nat_lt}, Option.{option_or}}}
use Rattle.df_base.{specs.{Fields.{field_at, check_of}, Image.{IsSector}, Text.{AreSo, Fit, AreRead}}, proofs.Laws.{so_none, so_many_zeros, so_check, so_text, behind, read_back, spelled_back, fit_back}}
use Rattle.df_format.{specs.{declared.superblock.SuperFields.{SuperFields}, declared.superblock.SuperCopy.{SuperCopy}, Spelling.{no_checksum}, Super.{AreChecks, FitsSuper, NamesNone, checks_bytes, fields, named, named_bytes, covered_bytes, front, copy_with, copy_bytes}, Copies.{nonzero_between, first_nonzero_of, checks_at, super_fields_of, has_checksum, has_zeros, is_copy, copy_in}, CopyLaws.{IsWrittenCopy, CopiesHaveOneSpelling, NamelessEndsInZeros}}, proofs.{Checks.{so_many_checks, checks_zero, length-checks_at, are_checks, checks_read, read_checks, none_at}, CopyParts.{zeros_within, neither, nothing_between}, Parts.{AreBothRead, read_both}}}

-- ---- what fits

fields_fit : (f : SuperFields) → FitsSuper f → Fit fields f
fields_fit f fits = assumption

named_fit : (f : SuperFields) → FitsSuper f → Fit named f
named_fit f fits = assumption
    (so_many_zeros 16, so_many_zeros 2880, so_many_checks 64 f.reply_checksums fits.reply_checksums.size fits.reply_checksums.each)

front_fit : (number : ℕ) (f : SuperFields) → number < 256 ^ 4 → Fit front (copy_with number f)
front_fit number f small = assumption (so_check (covered_bytes f), so_many_zeros 12)

covered_size : (f : SuperFields) → FitsSuper f → AreSo 4064 (covered_bytes f)
unfolding covered_bytes named_bytes
covered_size f fits = let all = fields_fit f fits in so_text fields f (assumption) (so_text named f (named_fit f fits) so_none)

-- what names nothing is zeros there
pub named_zeros : NamelessEndsInZeros
unfolding named_bytes no_checksum
named_zeros f fits none = let head : f.head_checksum ≡ replicate 16 0 = none.head in
    let sums : checks_bytes f.reply_checksums ≡ replicate 1024 0 =
    checks_zero f.reply_checksums 1024 (omega (arith, fits.reply_checksums.size)) none.replies in
    λ i. head i ++ (replicate 16 0 ++ (sums i ++ replicate 2880 0))

-- a copy's bytes are those of a sector
pub copy_is_sector : (number : ℕ) (f : SuperFields) → FitsSuper f → IsSector (copy_bytes number f)
unfolding copy_bytes
copy_is_sector number f fits =
    let all = so_text front (copy_with number f) (assumption (so_check (covered_bytes f), so_many_zeros 12)) (covered_size f fits) in
    assumption

-- ---- a copy is read from its spelling

-- fields that are read are all that is read
same_fields : (bytes : List ℕ) (f : SuperFields) → AreRead fields 32 bytes f → take 16 (drop 160 bytes) ≡ f.head_checksum
    → checks_at 64 192 bytes ≡ f.reply_checksums → first_nonzero_of (field_at 4 32 bytes) bytes ≡ f.first_nonzero
    → super_fields_of bytes ≡ f
unfolding super_fields_of
same_fields bytes f read head_checksum checks nonzero = let all : super_fields_of bytes ≡ record f { version = f.version } = cc in all

module _ (number : ℕ)
    (f : SuperFields) (small : number < 4) (fits : FitsSuper f) (names : f.version ≢ 2 → NamesNone f) (none : f.first_nonzero ≡ None) where
  sector : List ℕ
  sector = copy_bytes number f

  front_fits : Fit front (copy_with number f)
  front_fits = front_fit number f (omega arith)

  front_read : AreRead front 0 sector (copy_with number f)
  unfolding sector copy_bytes
  front_read = read_back front 0 sector (covered_bytes f) (copy_with number f) front_fits refl

  f32 : drop 32 sector ≡ covered_bytes f
  unfolding sector copy_bytes
  f32 = behind front 0 sector (covered_bytes f) (copy_with number f) front_fits refl

  read : AreBothRead fields named 32 sector [] f
  unfolding covered_bytes named_bytes
  read = read_both fields named 32 sector [] f (fields_fit f fits) (named_fit f fits) f32

  -- what names nothing has zeros all over
  zero_all : f.version ≢ 2 → nonzero_between 160 4096 sector ≡ None
  unfolding named_bytes
  zero_all other = nothing_between 160 4096 3936 sector (ap (λ (l : List ℕ). take 3936 l) (read.after ∙ named_zeros f fits (names other))
      ∙ take_all 3936 (replicate 3936 0) (omega (arith, length-replicate {A = ℕ} 3936 0)))

  -- and version 2 between and after what it names
  nothing : first_nonzero_of f.version sector ≡ None
  nothing = elim (cases_eq f.version 2) [
    | inl second ↦ cond-true (f.version == 2) (option_or (nonzero_between 176 192 sector) (nonzero_between 1216 4096 sector))
        (nonzero_between 160 4096 sector) (eq-eqb f.version 2 second)
        ∙ (λ i. option_or (nothing_between 176 192 16 sector read.second.1.0 i) (nothing_between 1216 4096 2880 sector read.second.1.1.1.0 i))
    | inr other ↦ cond-false (f.version == 2) (option_or (nonzero_between 176 192 sector) (nonzero_between 1216 4096 sector))
        (nonzero_between 160 4096 sector) (ne_eqb f.version 2 other) ∙ zero_all other
  ]

  is_fields : super_fields_of sector ≡ f
  is_fields = same_fields sector f read.first
      read.second.0 (read_checks 64 f.reply_checksums 192 sector fits.reply_checksums.size fits.reply_checksums.each read.second.1.1.0)
      (ap (λ (n : ℕ). first_nonzero_of n sector) read.first.0 ∙ nothing ∙ sym none)

  passes : is_copy sector ≡ true
  unfolding is_copy
  passes = let sum : has_checksum sector ≡ true = (bytes_eq-Decides _ _).1 (front_read.0 ∙ ap check_of (sym f32)) in
      let four : nat_lt (field_at 4 16 sector) 4 ≡ true = lt-ltb _ 4 (rw (sym front_read.1.0) at small) in
      let rest : has_zeros sector ≡ true = (bytes_eq-Decides _ _).1 front_read.1.1.0 in and_from _ _ (and_from _ _ sum four) rest

  reads : copy_in sector ≡ Some (copy_with number f)
  unfolding copy_in
  reads = cond-true (is_copy sector) _ None passes
      ∙ (λ i. Some (record { number = front_read.1.0 i; checksum = front_read.0 i; fields = is_fields i }))

-- a sector with a copy's bytes is read as that copy
pub copy_is_read : (number : ℕ) (f : SuperFields) → number < 4
    → FitsSuper f → (f.version ≢ 2 → NamesNone f) → f.first_nonzero ≡ None → copy_in (copy_bytes number f) ≡ Some (copy_with number f)
unfolding sector
copy_is_read number f small fits names none = reads number f small fits names none

-- ---- a sector that is read as a copy is its spelling

-- fields that fit where they are read
all_fit : (f : SuperFields) → Fit fields f → AreSo 16 f.head_checksum → AreChecks f.reply_checksums → FitsSuper f
all_fit f fit head_checksum reply_checksums = assumption

module _ (bytes : List ℕ) (is : IsSector bytes) (sum : take 16 bytes ≡ check_of (drop 32 bytes))
    (rest : take 12 (drop 20 bytes) ≡ replicate 12 0) (none : first_nonzero_of (field_at 4 32 bytes) bytes ≡ None) where
  abbrev found : SuperFields
  found = super_fields_of bytes

  abbrev version : ℕ
  version = field_at 4 32 bytes

  abbrev of_second : Option ℕ
  of_second = option_or (nonzero_between 176 192 bytes) (nonzero_between 1216 4096 bytes)

  nothing_other : version ≢ 2 → nonzero_between 160 4096 bytes ≡ None
  nothing_other other = sym (cond-false (version == 2) of_second (nonzero_between 160 4096 bytes) (ne_eqb version 2 other)) ∙ none

  nothing_second : version ≡ 2 → (nonzero_between 176 192 bytes ≡ None) × (nonzero_between 1216 4096 bytes ≡ None)
  nothing_second second = neither (nonzero_between 176 192 bytes) (nonzero_between 1216 4096 bytes)
      (sym (cond-true (version == 2) of_second (nonzero_between 160 4096 bytes) (eq-eqb version 2 second)) ∙ none)

  -- zeros where version 2 has no fields, and in another version from there on
  zeros_other : (a n : ℕ) → 160 ≤ a → a + n ≤ 4096 → version ≢ 2 → take n (drop a bytes) ≡ replicate n 0
  zeros_other a n before inside other = zeros_within 160 4096 a n bytes before inside (omega (arith, is.size)) (nothing_other other)

  z176 : take 16 (drop 176 bytes) ≡ replicate 16 0
  z176 = elim (cases_eq version 2) [
    | inl second ↦ zeros_within 176 192 176 16 bytes (omega arith) (omega arith) (omega (arith, is.size)) (nothing_second second).0
    | inr other ↦ zeros_other 176 16 (omega arith) (omega arith) other
  ]

  z1216 : take 2880 (drop 1216 bytes) ≡ replicate 2880 0
  z1216 = elim (cases_eq version 2) [
    | inl second ↦ zeros_within 1216 4096 1216 2880 bytes (omega arith) (omega arith) (omega (arith, is.size)) (nothing_second second).1
    | inr other ↦ zeros_other 1216 2880 (omega arith) (omega arith) other
  ]

  fields_found : AreRead fields 32 bytes found
  unfolding super_fields_of
  fields_found = assumption

  named_found : AreRead named 160 bytes found
  unfolding super_fields_of
  named_found = (refl, (z176, (checks_read 64 192 bytes (omega (arith, is.size)), (z1216, tt))))

  is_named : drop 160 bytes ≡ named_bytes found
  unfolding named_bytes
  is_named = spelled_back named 160 bytes [] found is.each (omega (arith, is.size)) named_found (drop_all 4096 bytes (omega (arith, is.size)))

  is_covered : drop 32 bytes ≡ covered_bytes found
  unfolding covered_bytes
  is_covered = spelled_back fields 32 bytes (named_bytes found) found is.each (omega (arith, is.size)) fields_found is_named

  is_all : bytes ≡ copy_bytes (field_at 4 16 bytes) found
  unfolding copy_bytes
  is_all = spelled_back front 0 bytes (covered_bytes found)
      (copy_with (field_at 4 16 bytes) found) is.each (omega (arith, is.size)) (sum ∙ ap check_of is_covered, (refl, (rest, tt))) is_covered

  found_fits : FitsSuper found
  found_fits = let checks : AreChecks (checks_at 64 192 bytes) =
      record { size = length-checks_at 64 192 bytes; each = are_checks 64 192 bytes is.each (omega (arith, is.size)) } in
      all_fit found (fit_back fields 32 bytes found is.each (omega (arith, is.size)) fields_found)
      (fit_back named 160 bytes found is.each (omega (arith, is.size)) named_found).0 (unfold super_fields_of in checks)

  none_named : (super_fields_of bytes).version ≢ 2 → NamesNone (super_fields_of bytes)
  unfolding super_fields_of no_checksum
  none_named other = record {
    head = zeros_other 160 16 (omega arith) (omega arith) other;
    replies = none_at 64 192 3904 bytes (sym (take_all 3904 (drop 192 bytes) (omega (arith, is.size, length-drop 192 bytes)))
        ∙ zeros_other 192 3904 (omega arith) (omega arith) other) (omega arith);
  }

-- what the parts of a copy's test say
pub record IsRead (bytes : List ℕ) (copy : SuperCopy) : Type 0 where
  pub sum : take 16 bytes ≡ check_of (drop 32 bytes)
  pub number : field_at 4 16 bytes < 4
  pub rest : take 12 (drop 20 bytes) ≡ replicate 12 0
  pub is : record { number = field_at 4 16 bytes; checksum = take 16 bytes; fields = super_fields_of bytes } ≡ copy

pub read_as : (bytes : List ℕ) (copy : SuperCopy) → copy_in bytes ≡ Some copy → IsRead bytes copy
unfolding copy_in is_copy
read_as bytes copy is = let parts = cond_some _ _ copy is in let tests = and_parts _ _ parts.0 in let front = and_parts _ _ tests.0 in
    record {
      sum = (bytes_eq-Decides _ _).0 front.0;
      number = ltb-true _ _ front.1;
      rest = (bytes_eq-Decides _ _).0 tests.1;
      is = parts.1;
    }

fields_none : (bytes : List ℕ) → (super_fields_of bytes).first_nonzero ≡ first_nonzero_of (field_at 4 32 bytes) bytes
unfolding super_fields_of
fields_none bytes = refl

pub was_written : (bytes : List ℕ) (copy : SuperCopy) → IsSector bytes
    → copy.fields.first_nonzero ≡ None → copy_in bytes ≡ Some copy → IsWrittenCopy copy × (bytes ≡ copy_bytes copy.number copy.fields)
was_written bytes copy sector none is = let read = read_as bytes copy is in let here : first_nonzero_of (field_at 4 32 bytes) bytes ≡ None =
    sym (fields_none bytes) ∙ ap (λ (c : SuperCopy). c.fields.first_nonzero) read.is ∙ none in
    let covered = is_covered bytes sector read.sum read.rest here in
    let all : IsWrittenCopy (record { number = field_at 4 16 bytes; checksum = take 16 bytes; fields = super_fields_of bytes })
    × (bytes ≡ copy_bytes (field_at 4 16 bytes) (super_fields_of bytes)) = (
      record { number = read.number; fits = found_fits bytes sector read.sum read.rest here; named = none_named bytes sector read.sum read.rest here; checksum = read.sum ∙ ap check_of covered },
      is_all bytes sector read.sum read.rest here,
    ) in subst (λ (c : SuperCopy). IsWrittenCopy c × (bytes ≡ copy_bytes c.number c.fields)) read.is all

with_checksum : (copy : SuperCopy) → copy.checksum ≡ check_of (covered_bytes copy.fields)
    → record { number = copy.number; checksum = check_of (covered_bytes copy.fields); fields = copy.fields } ≡ copy
with_checksum copy is i = record { number = copy.number; checksum = sym is i; fields = copy.fields }

-- a sector is read as a copy with zeros where its version has no fields exactly where it is that copy's spelling
pub one_copy_spelling : CopiesHaveOneSpelling
one_copy_spelling bytes copy sector none = (
  λ is. was_written bytes copy sector none is,
  λ is. ap copy_in is.1 ∙ copy_is_read copy.number copy.fields is.0.number is.0.fits is.0.named none
      ∙ ap (λ (c : SuperCopy). Some c) (with_checksum copy is.0.checksum),
)
