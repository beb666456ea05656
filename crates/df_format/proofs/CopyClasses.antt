-- A copy of the superblock isn't blank, since the checksum of zeros isn't zero; so one that is valid is stale.
use Rattle.std.{proofs.{Common.{inl, inr, ◌≡◌, ◌≢◌, ℕ, ◌==◌, Bool, true, false, List, take, drop, replicate, Option, Some, None, cond, refl, sym, ◌∙◌, ap, subst, arith}, lemmas.Bool.{cond-true, cond-false, cases_Bool, both_ways, false_from_ne_true, eqb-true, eq-eqb, ne_eqb}, lemmas.List.{take-replicate, drop-replicate}, lemmas.Slice.Eq.{bytes_eq-Decides}}, specs.Prelude.{slice_index, Ok, Err}}
use Rattle.df_base.{specs.{Fields.{check_of}, Image.{blank}}, proofs.Laws.{no_some}}
use Rattle.df_layout.specs.{declared.damage.Class.{Class}, declared.damage.Class.TheVariants.{Blank, Elsewhere, Stale}, declared.places.Zone.TheVariants.{Superblock}}
use Rattle.df_format.{specs.{Own.{place_in}, declared.superblock.SuperCopy.{SuperCopy}, Copies.{copy_in, has_checksum, if_here, copy_at, content_in_copy, is_blank_copy, class_of_sound, class_of_copy, copy_or_class, own_copy}, CopyLaws.{ValidCopyIsStale, StaleIsCopy, BlankShowsNoCopy}}, proofs.{Digest.{check_of-zeros}, CopySpelled.{read_as}, Wholes.{unless_blank}}}

zeros_have_a_sum : (bytes : List ℕ) → bytes ≡ replicate 4096 0 → take 16 bytes ≡ check_of (drop 32 bytes) → ⊥
zeros_have_a_sum bytes zeros sum =
    let front : take 16 bytes ≡ replicate 16 0 = ap (λ (l : List ℕ). take 16 l) zeros ∙ take-replicate 16 4096 0 (omega arith) in
    let rest : drop 32 bytes ≡ replicate 4064 0 = ap (λ (l : List ℕ). drop 32 l) zeros ∙ drop-replicate 32 4096 0 in
    let first = ap (λ (l : List ℕ). slice_index l 0) (sym front ∙ sum ∙ ap check_of rest ∙ check_of-zeros) in cc

-- a sector that is a copy isn't blank
pub copy_is_not_blank : (bytes : List ℕ) (copy : SuperCopy) → copy_in bytes ≡ Some copy → is_blank_copy bytes ≡ false
unfolding is_blank_copy
copy_is_not_blank bytes copy is =
    false_from_ne_true _ (λ zeros. zeros_have_a_sum bytes ((bytes_eq-Decides _ _).0 zeros) (read_as bytes copy is).sum)

abbrev pub number_of : Option SuperCopy → ℕ
number_of None = 0
number_of (Some copy) = copy.number

-- a copy that is here was read, with this number
pub is_here : (number : ℕ) (o : Option SuperCopy) (copy : SuperCopy) → if_here number o ≡ Some copy → (o ≡ Some copy) × (copy.number ≡ number)
is_here number None copy is = absurd (cc)
is_here number (Some found) copy is = elim (cases_Bool (found.number == number)) [
  | inl here ↦ let same : Some found ≡ Some copy = sym (cond-true (found.number == number) (Some found) None here) ∙ is in
      (same, subst (λ (o : Option SuperCopy). number_of o ≡ number) same (eqb-true found.number number here))
  | inr there ↦ absurd (let none = sym (cond-false (found.number == number) (Some found) None there) ∙ is in cc)
]

-- and its checksum is right
pub own_has_checksum : (number : ℕ) (bytes : List ℕ) (copy : SuperCopy) → own_copy number bytes ≡ Ok copy → has_checksum bytes ≡ true
own_has_checksum number bytes copy is =
    let here = is_here number (copy_in bytes) copy (valid_of _ _ copy is) in (bytes_eq-Decides _ _).1 (read_as bytes copy here.0).sum
  where
    valid_of : (o : Option SuperCopy) (class : Class) (copy : SuperCopy) → copy_or_class o class ≡ Ok copy → o ≡ Some copy
    valid_of None class copy is = absurd (cc)
    valid_of (Some found) class copy is = cc

-- the class of a sector that is a copy
class_of_found : (number : ℕ) (bytes : List ℕ) (copy : SuperCopy)
    → copy_in bytes ≡ Some copy → class_of_copy number bytes ≡ class_of_sound number (Some copy)
unfolding class_of_copy
class_of_found number bytes copy is =
    cond-false (is_blank_copy bytes) Blank (class_of_sound number (copy_in bytes)) (copy_is_not_blank bytes copy is)
    ∙ ap (λ (o : Option SuperCopy). class_of_sound number o) is

pub valid_is_stale : ValidCopyIsStale
unfolding copy_at
valid_is_stale image number copy is = let found = is_here number (copy_in (image number)) copy is in
    class_of_found number (image number) copy found.0
    ∙ cond-true (copy.number == number) Stale (Elsewhere (place_in Superblock copy.number)) (eq-eqb copy.number number found.1)

here_by : (b : Bool) (other : Class) → other ≢ Stale → cond b Stale other ≡ Stale → b ≡ true
here_by true other differs is = refl
here_by false other differs is = absurd (differs is)

sound_stale : (number : ℕ) (o : Option SuperCopy) → class_of_sound number o ≡ Stale → (copy : SuperCopy) × (if_here number o ≡ Some copy)
sound_stale number None is = absurd (cc)
sound_stale number (Some copy) is =
    (copy, cond-true (copy.number == number) (Some copy) None (here_by (copy.number == number) (Elsewhere (place_in Superblock copy.number)) (λ same. cc) is))

pub stale_copy : StaleIsCopy
unfolding class_of_copy copy_at
stale_copy image number is = sound_stale
    number (copy_in (image number)) (unless_blank (is_blank_copy (image number)) (class_of_sound number (copy_in (image number))) is)

blank_is_blank : (number : ℕ) → is_blank_copy (blank number) ≡ true
unfolding is_blank_copy blank
blank_is_blank number = (bytes_eq-Decides (replicate 4096 0) (replicate 4096 0)).1 refl

pub blank_copy_none : BlankShowsNoCopy
unfolding copy_at
blank_copy_none number = let none : copy_in (blank number) ≡ None =
    no_some _ (λ copy is. both_ways _ (copy_is_not_blank (blank number) copy is) (blank_is_blank number)) in
    ap (λ (o : Option SuperCopy). content_in_copy (if_here number o)) none

-- what a sector shows at a copy's place that is another copy
pub copy_elsewhere : (number : ℕ) (bytes : List ℕ) (copy : SuperCopy) (class : Class)
    → Some copy ≡ copy_in bytes → copy.number ≢ number → class ≡ Elsewhere (place_in Superblock copy.number)
    → Err class ≡ own_copy number bytes
copy_elsewhere number bytes copy class read other is = let there : (copy.number == number) ≡ false = ne_eqb copy.number number other in
    let none : if_here number (copy_in bytes) ≡ None =
    ap (λ (o : Option SuperCopy). if_here number o) (sym read) ∙ cond-false (copy.number == number) (Some copy) None there in
    let beside : class_of_copy number bytes ≡ class =
    class_of_found number bytes copy (sym read)
    ∙ cond-false (copy.number == number) Stale (Elsewhere (place_in Superblock copy.number)) there ∙ sym is in
    (λ i. copy_or_class (sym none i) (sym beside i))
