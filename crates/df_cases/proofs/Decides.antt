-- Two checksums that a slot shows decide as their numbers do.
use Rattle.std.{proofs.{Common.{◌≡◌, ℕ, ◌==◌, false, List, sym, ◌∙◌, subst}, lemmas.Bool.{both_ways, cond-false, ne_eqb}, lemmas.Slice.Eq.{bytes_eq-Decides}}, specs.Str.{bytes_eq}}
use Rattle.{df_format.specs.Spelling.{IsCheck}, df_units.{specs.Meaning.{number_of}, proofs.Laws.{one_number}}}
use Rattle.df_theory.specs.Cases
use Rattle.df_cases.specs.{declared.seen.Seen.{Seen}, declared.seen.Seen.TheVariants.{Now}, Cases.{HasCheck, seen_of}}

other_number : (a b : List ℕ)
    → bytes_eq a b ≡ false → IsCheck a → IsCheck b → Cases.case (Cases.Current (number_of a)) (Cases.Current (number_of b)) ≡ Cases.Lost
other_number a b other one two = cond-false (number_of a == number_of b) (Cases.Take false) Cases.Lost
    (ne_eqb (number_of a) (number_of b) (λ same. both_ways (bytes_eq a b) other ((bytes_eq-Decides a b).1 (one_number a b one two same))))

-- the prepare of another checksum isn't the header's
pub other_is_lost : (header prepare : Seen) (a b : List ℕ) → header ≡ Now a → prepare ≡ Now b
    → bytes_eq a b ≡ false → HasCheck header → HasCheck prepare → Cases.Lost ≡ Cases.case (seen_of header) (seen_of prepare)
other_is_lost header prepare a b is_a is_b other one two = sym (other_number a b other (subst HasCheck is_a one) (subst HasCheck is_b two))
    ∙ sym (λ i. Cases.case (seen_of (is_a i)) (seen_of (is_b i)))
