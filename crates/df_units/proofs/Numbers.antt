-- Checksums are numbers.
use Rattle.std.proofs.{Common.{◌≡◌, ℕ, ◌<◌, List, take, drop, refl, sym, ◌∙◌, ◌^◌, ap, arith, subst}, lemmas.List.{take_all}}
use Rattle.df_base.{specs.Fields.{field_at, spelled}, proofs.Laws.{AreBytes-check_of, field_at-lt, length-check_of, spelled-field_at}}
use Rattle.df_format.specs.{declared.header.Header.{Header}, Rules.{IsSealed}, Spelling.{IsCheck, no_checksum, spelling_rest}}
use Rattle.df_units.specs.{Meaning.{number_of}, Tells.{ChecksumsAreNumbers, FirstByteIsLowest, NoChecksumIsZero}}

-- one number, one checksum
pub one_number : (a b : List ℕ) → IsCheck a → IsCheck b → number_of a ≡ number_of b → a ≡ b
one_number a b fits other same = let whole_a : take 16 (drop 0 a) ≡ a = take_all 16 a (omega (arith, fits.size)) in
    let whole_b : take 16 (drop 0 b) ≡ b = take_all 16 b (omega (arith, other.size)) in
    sym whole_a ∙ sym (spelled-field_at 16 0 a fits.each (omega (arith, fits.size)))
    ∙ ap (spelled 16) same ∙ spelled-field_at 16 0 b other.each (omega (arith, other.size)) ∙ whole_b

pub checksums_numbers : ChecksumsAreNumbers
checksums_numbers a b one two = (one_number a b one two, λ same. ap number_of same)

-- and it is below 2^128
pub check_small : (check : List ℕ) → IsCheck check → number_of check < 2 ^ 128
check_small check is = omega (arith, field_at-lt 16 0 check is.each)

-- a sealed header's checksum has sixteen bytes
pub sealed_check : (h : Header) → IsSealed h → IsCheck h.checksum
sealed_check h is =
    subst IsCheck (sym is.checksum) (record { size = length-check_of (spelling_rest h); each = AreBytes-check_of (spelling_rest h) })

-- and is spelled as it was read
pub whole_check : (check : List ℕ) → IsCheck check → spelled 16 (number_of check) ≡ check
whole_check check is = spelled-field_at 16 0 check is.each (omega (arith, is.size)) ∙ take_all 16 check (omega (arith, is.size))

pub no_number : NoChecksumIsZero
unfolding no_checksum field_at
no_number = refl

pub first_lowest : FirstByteIsLowest
unfolding field_at
first_lowest byte small = omega arith
