-- The laws of the choice.
use Rattle.std.proofs.{Common.{◌≡◌, inl, inr, ℕ, zero, suc, ◌≤◌, ◌<◌, ◌⊎◌, Option, Some, sym, ◌∙◌, ap, arith}, lemmas.Bool.{cases_lt, cases_eq}}
use Rattle.df_format.specs.Copies.{Content, rank_of_copy}
use Rattle.df_quorum.specs.{Quorum.{Copies, CopiesAgree, IsChosenContent}, Laws.{OneLaw, ThreeLaw, TwoLaw, SameLaw}}

-- one place shows one content
pub same_content : (copies : Copies) (n : ℕ) (c d : Content) → copies n ≡ Some c → copies n ≡ Some d → c ≡ d
same_content copies n c d at_c at_d = let e : Some c ≡ Some d = sym at_c ∙ at_d in cc

pub same_rank : (c d : Content) → c ≡ d → rank_of_copy c ≡ rank_of_copy d
same_rank c d e = ap (λ (x : Content). rank_of_copy x) e

-- of two places that show a content, in any order
pub agree_at : (copies : Copies) (c : Content) (a b : ℕ)
    → a < 4 → b < 4 → (a ≡ b → ⊥) → copies a ≡ Some c → copies b ≡ Some c → CopiesAgree copies c
agree_at copies c a b a_in b_in apart at_a at_b = elim (cases_lt a b) [
  | inl less ↦ record { first = a; second = b; apart = less; inside = b_in; at_first = at_a; at_second = at_b }
  | inr more ↦ elim (cases_eq a b) [
    | inl e ↦ absurd (apart e)
    | inr differ ↦ record { first = b; second = a; apart = omega arith; inside = a_in; at_first = at_b; at_second = at_a }
  ]
]

-- a content that two copies show, where whatever else two copies show ranks below it
pub chosen_above : (copies : Copies) (c : Content)
    → CopiesAgree copies c → ((d : Content) → CopiesAgree copies d → (d ≡ c) ⊎ (rank_of_copy d < rank_of_copy c)) → IsChosenContent copies c
chosen_above copies c agreed above = record {
  agreed = agreed;
  greatest = λ d a. elim (above
      d a) [ inl same ↦ (let e : rank_of_copy d ≡ rank_of_copy c = same_rank d c same in omega arith) | inr below ↦ omega arith ];
  lowest = λ d a tie n inside at_n. elim (above d a) [
    | inl same ↦ (n, omega arith, at_n ∙ ap (λ (x : Content). let o : Option Content = Some x in o) same)
    | inr below ↦ absurd (omega arith)
  ];
}

pub two_law : TwoLaw
two_law copies c a b a_in b_in apart at_a at_b above = chosen_above copies c (agree_at copies c a b a_in b_in apart at_a at_b) above

-- two places that aren't this one
three_agree : (copies : Copies) (c : Content) (odd : ℕ) → ((n : ℕ) → n < 4 → (n ≡ odd → ⊥) → copies n ≡ Some c) → CopiesAgree copies c
three_agree copies c odd shown = elim (cases_eq 0 odd) [
  | inl zeroth ↦ agree_at copies c 1 2 (omega arith) (omega arith) (λ e.
      omega arith) (shown 1 (omega arith) (λ e. omega arith)) (shown 2 (omega arith) (λ e. omega arith))
  | inr not_zeroth ↦ elim (cases_eq 1 odd) [
    | inl first ↦ agree_at copies c 0 2 (omega arith) (omega arith) (λ e.
        omega arith) (shown 0 (omega arith) not_zeroth) (shown 2 (omega arith) (λ e. omega arith))
    | inr not_first ↦ agree_at copies c 0 1 (omega arith) (omega arith) (λ e.
        omega arith) (shown 0 (omega arith) not_zeroth) (shown 1 (omega arith) not_first)
  ]
]

-- of two places one isn't the odd one
three_same : (copies : Copies) (c d : Content) (odd : ℕ) → ((n : ℕ) → n < 4 → (n ≡ odd → ⊥) → copies n ≡ Some c) → CopiesAgree copies d → d ≡ c
three_same copies c d odd shown a = let apart : a.first < a.second = a.apart in let inside : a.second < 4 = a.inside in
    elim (cases_eq a.first odd) [
      | inl here ↦ same_content copies a.second d c a.at_second (shown a.second inside (λ e. omega arith))
      | inr there ↦ same_content copies a.first d c a.at_first (shown a.first (omega arith) there)
    ]

pub three_law : ThreeLaw
three_law copies c odd shown = chosen_above copies c (three_agree copies c odd shown) (λ d a. inl (three_same copies c d odd shown a))

-- what the four places show decides whether two agree
same_agree : (one two : Copies) (c : Content) → ((n : ℕ) → n < 4 → one n ≡ two n) → CopiesAgree two c → CopiesAgree one c
same_agree one two c same a = let apart : a.first < a.second = a.apart in let inside : a.second < 4 = a.inside in record {
  first = a.first;
  second = a.second;
  apart = apart;
  inside = inside;
  at_first = same a.first (omega arith) ∙ a.at_first;
  at_second = same a.second inside ∙ a.at_second;
}

pub same_law : SameLaw
same_law one two c same is = record {
  agreed = same_agree two one c (λ n inside. sym (same n inside)) is.agreed;
  greatest = λ d a. is.greatest d (same_agree one two d same a);
  lowest = λ d a tie n inside at_n. let k = is.lowest d (same_agree one two d same a) tie n inside (same n inside ∙ at_n) in
      let up : k.0 ≤ n = k.1 in (k.0, up, sym (same k.0 (omega arith)) ∙ k.2);
}

-- two contents that each have a copy no lower than any copy of the other
descend : (copies : Copies) (c d : Content) → ((n : ℕ) → n < 4 → copies n ≡ Some d → (k : ℕ) × (k ≤ n) × (copies k ≡ Some c))
    → ((n : ℕ) → n < 4 → copies n ≡ Some c → (k : ℕ) × (k ≤ n) × (copies k ≡ Some d))
    → (bound n : ℕ) → n < bound → n < 4 → copies n ≡ Some c → c ≡ d
descend copies c d under_d under_c zero n below inside at_n = absurd (omega arith)
descend copies c d under_d under_c (suc bound) n below inside at_n = let k = under_c n inside at_n in let k_up : k.0 ≤ n = k.1 in
    let m = under_d k.0 (omega arith) k.2 in let m_up : m.0 ≤ k.0 = m.1 in elim (cases_eq k.0 n) [
      | inl here ↦ same_content copies n c d at_n (ap copies (sym here) ∙ k.2)
      | inr lower ↦ descend copies c d under_d under_c bound m.0 (omega arith) (omega arith) m.2
    ]

pub one_law : OneLaw
one_law copies c d is_c is_d = let up : rank_of_copy c ≤ rank_of_copy d = is_d.greatest c is_c.agreed in
    let down : rank_of_copy d ≤ rank_of_copy c = is_c.greatest d is_d.agreed in let tie : rank_of_copy d ≡ rank_of_copy c = omega arith in
    let apart : is_c.agreed.first < is_c.agreed.second = is_c.agreed.apart in let inside : is_c.agreed.second < 4 = is_c.agreed.inside in
    descend copies c d (is_c.lowest d is_d.agreed tie)
    (is_d.lowest c is_c.agreed (sym tie)) 4 is_c.agreed.first (omega arith) (omega arith) is_c.agreed.at_first
