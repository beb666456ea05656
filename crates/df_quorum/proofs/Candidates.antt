-- The best of the first copies, one copy further.
use Rattle.std.proofs.{Common.{◌≡◌, inl, inr, ℕ, ◌+◌, ◌≤◌, ◌<◌, Bool, true, false, nat_lt, if◌then◌else◌, Option, Some, None, refl, sym, ◌∙◌, ap, subst, arith}, lemmas.Bool.{cases_lt, cases_eq}}
use Rattle.df_format.specs.Copies.{Content, rank_of_copy}
use Rattle.df_quorum.{specs.{Quorum.{Copies, CopiesAgree, IfChosen}, Best.{IsCandidate, Votes, better_of, RanksBelow, BestAt, Best}}, proofs.Choices.{same_content, same_rank, agree_at}}

-- a candidate at this copy is the content that this copy shows
at_last : (copies : Copies) (n i : ℕ) (c d : Content)
    → i ≡ n → IsCandidate copies n c → IsCandidate copies i d → rank_of_copy d ≡ rank_of_copy c
at_last copies n i c d here is_c is_d = same_rank d c (same_content copies n d c (ap copies (sym here) ∙ is_d.0) is_c.0)

-- the best so far, where the next copy's candidate doesn't outrank it
stays : (copies : Copies) (n : ℕ) (c : Content) (k : ℕ)
    → BestAt copies n c k → ((d : Content) → IsCandidate copies n d → rank_of_copy d ≤ rank_of_copy c) → BestAt copies (n + 1) c k
stays copies n c k best low = let within : k < n = best.within in record {
  within = omega arith;
  candidate = best.candidate;
  best = λ i d below is. elim (cases_lt i n) [
    | inl earlier ↦ best.best i d earlier is
    | inr later ↦ let here : i ≡ n = omega arith in
        let up : rank_of_copy d ≤ rank_of_copy c = low d (subst (λ (m : ℕ). IsCandidate copies m d) here is) in
        elim (cases_lt (rank_of_copy d) (rank_of_copy c)) [ inl lower ↦ inl lower | inr tie ↦ inr (omega arith, omega arith) ]
  ];
}

-- the next copy's candidate, where it outranks all before it
rises : (copies : Copies) (n : ℕ) (c : Content) → IsCandidate copies n c
    → ((i : ℕ) (d : Content) → i < n → IsCandidate copies i d → rank_of_copy d < rank_of_copy c) → BestAt copies (n + 1) c n
rises copies n c is low = record {
  within = omega arith;
  candidate = is;
  best = λ i d below is_d. elim (cases_lt i n) [
    | inl earlier ↦ inl (low i d earlier is_d)
    | inr later ↦ let here : i ≡ n = omega arith in inr (at_last copies n i c d here is is_d, omega arith)
  ];
}

behind_rank : (d : Content) (i : ℕ) (c : Content) (k : ℕ) → RanksBelow d i c k → rank_of_copy d ≤ rank_of_copy c
behind_rank d i c k behind = elim behind [ inl lower ↦ omega arith | inr tie ↦ omega (arith, tie.0) ]

-- the pick of `better_of`, by its test
picked : (copies : Copies) (n : ℕ) (c d : Content) → Best copies n (Some c) → IsCandidate copies n d
    → (t : Bool) → nat_lt (rank_of_copy c) (rank_of_copy d) ≡ t → Best copies (n + 1) (if t then Some d else Some c)
picked copies n c d best is true test = let less : rank_of_copy c < rank_of_copy d = grind arith in
    (n, rises copies n d is (λ i e below is_e. let up : rank_of_copy e ≤ rank_of_copy c = behind_rank e i c best.0 (best.1.best i e below is_e) in omega arith))
picked copies n c d best is false test = let low : rank_of_copy d ≤ rank_of_copy c = grind arith in
    (best.0, stays copies n c best.0 best.1 (λ e is_e. let same : rank_of_copy e ≡ rank_of_copy d = at_last copies n n d e refl is is_e in omega arith))

pub best_next : (copies : Copies) (n : ℕ) (best next : Option Content)
    → Best copies n best → Votes copies n next → Best copies (n + 1) (better_of best next)
best_next copies n None None best none = λ i d below is. elim (cases_lt i n) [
  | inl earlier ↦ best i d earlier is
  | inr later ↦ let here : i ≡ n = omega arith in none d (subst (λ (m : ℕ). IsCandidate copies m d) here is)
]
best_next copies n None (Some d) best is = (n, rises copies n d is (λ i e below is_e. absurd (best i e below is_e)))
best_next copies n (Some c) None best none = (best.0, stays copies n c best.0 best.1 (λ d is. absurd (none d is)))
best_next copies n (Some c) (Some d) best is = picked copies n c d best is _ refl

-- a candidate is a content on which two agree, and every copy of such a content is a candidate
candidate_agrees : (copies : Copies) (n : ℕ) (c : Content) → n < 4 → IsCandidate copies n c → CopiesAgree copies c
candidate_agrees copies n c inside is = agree_at copies c is.1.other n is.1.inside inside is.1.apart is.1.shown is.0

agreed_is_candidate : (copies : Copies) (n : ℕ) (c : Content) → CopiesAgree copies c → copies n ≡ Some c → IsCandidate copies n c
agreed_is_candidate copies n c a at_n = let apart : a.first < a.second = a.apart in let inside : a.second < 4 = a.inside in
    elim (cases_eq a.first n) [
      | inl here ↦ (at_n, record { other = a.second; inside = inside; apart = λ e. omega arith; shown = a.at_second })
      | inr there ↦ (at_n, record { other = a.first; inside = omega arith; apart = there; shown = a.at_first })
    ]

first_is_candidate : (copies : Copies) (c : Content) (a : CopiesAgree copies c) → IsCandidate copies a.first c
first_is_candidate copies c a = agreed_is_candidate copies a.first c a a.at_first

pub best_is_chosen : (copies : Copies) (best : Option Content) → Best copies 4 best → IfChosen copies best
best_is_chosen copies None best = λ d a. best a.first d (omega (arith, a.apart, a.inside)) (first_is_candidate copies d a)
best_is_chosen copies (Some c) best = record {
  agreed = candidate_agrees copies best.0 c best.1.within best.1.candidate;
  greatest = λ d a. behind_rank d a.first c best.0 (best.1.best a.first d (omega (arith, a.apart, a.inside)) (first_is_candidate copies d a));
  lowest = λ d a tie n inside at_n. elim (best.1.best n d inside (agreed_is_candidate copies n d a at_n)) [
    | inl lower ↦ absurd (omega arith)
    | inr same ↦ (best.0, same.1, best.1.candidate.0)
  ];
}
