-- What four copies choose while an update goes on.
use Rattle.std.proofs.{Common.{◌≡◌, ◌⊎◌, inl, inr, ℕ, ◌<◌, Some, sym, ◌∙◌, ap, arith}, lemmas.Bool.{cases_eq, cases_lt}}
use Rattle.df_theory.{specs.{Units.{Content, CopyPlace, CopyUnit, Units}, Copies.{Agree, IsChosen, rank_of}, Rests.{AgreeBeside}}, proofs.Choices.{same_copy, chosen_above}}

-- copies below k show the new content, those above the old one
pub record IsStage (image : Units) (old new : Content) (k : ℕ) : Type 0 where
  pub low : (n : ℕ) → n < k → image (CopyPlace n) ≡ Some (CopyUnit new)
  pub high : (n : ℕ) → k < n → n < 4 → image (CopyPlace n) ≡ Some (CopyUnit old)

-- a copy other than number k shows one of the two
one_of : (image : Units) (old new d : Content) (k n : ℕ) → IsStage image old new k
    → n < 4 → (n ≡ k → ⊥) → image (CopyPlace n) ≡ Some (CopyUnit d) → ((n < k) × (d ≡ new)) ⊎ ((k < n) × (d ≡ old))
one_of image old new d k n stage below apart shown = elim (cases_lt n k) [
  | inl less ↦ inl (less, same_copy image n d new shown (stage.low n less))
  | inr more ↦ let above : k < n = omega arith in inr (above, same_copy image n d old shown (stage.high n above below))
]

-- of two copies that agree one is not number k
votes_of : (image : Units) (old new d : Content) (k : ℕ) → IsStage image old new k → Agree image d → (d ≡ new) ⊎ (d ≡ old)
votes_of image old new d k stage a = elim (cases_eq a.first k) [
  | inl here ↦ elim (one_of image old new d k a.second stage a.inside (λ same.
      omega (arith, a.apart)) a.at_second) [ inl x ↦ inl x.1 | inr x ↦ inr x.1 ]
  | inr apart ↦ elim (one_of image old new d k a.first stage (omega (arith, a.apart, a.inside)) apart a.at_first) [ inl x ↦ inl x.1 | inr x ↦ inr x.1 ]
]

pub agree_at : (image : Units) (c : Content) (m n : ℕ)
    → m < n → n < 4 → image (CopyPlace m) ≡ Some (CopyUnit c) → image (CopyPlace n) ≡ Some (CopyUnit c) → Agree image c
agree_at image c m n apart inside one two = record { first = m; second = n; apart = apart; inside = inside; at_first = one; at_second = two }

pub agree_beside : (image : Units) (c : Content) (m n k : ℕ) → m < n → n < 4
    → (m ≡ k → ⊥) → (n ≡ k → ⊥) → image (CopyPlace m) ≡ Some (CopyUnit c) → image (CopyPlace n) ≡ Some (CopyUnit c) → AgreeBeside image c k
agree_beside image c m n k apart inside no_first no_second one two = record { agreed = record { first = m; second = n; apart = apart; inside = inside; at_first = one; at_second = two }; no_first = no_first; no_second = no_second }

module _ (image : Units) (old new : Content) (more : rank_of old < rank_of new) where
  apart : new ≡ old → ⊥
  apart same = omega (arith, ap rank_of same)

  -- while copy 0 is written
  pub chosen_first : IsStage image old new 0 → IsChosen image old
  chosen_first stage = chosen_above image old (agree_at
      image old 1 2 (omega arith) (omega arith) (stage.high 1 (omega arith) (omega arith)) (stage.high 2 (omega arith) (omega arith)))
      (λ d a. elim (one_of image old new d 0 a.second stage a.inside (λ same.
      omega (arith, a.apart)) a.at_second) [ inl x ↦ absurd (omega (arith, x.0)) | inr x ↦ inl x.1 ])

  lower_new : (k : ℕ) → IsStage image old new k → (d : Content) → Agree image d → (d ≡ new) ⊎ (rank_of d < rank_of new)
  lower_new k stage d a = elim (votes_of image old new d k stage a) [
    | inl is ↦ inl is
    | inr is ↦ inr (omega (arith, ap rank_of is))
  ]

  -- while copy 1 is written, once it is there
  pub chosen_second : IsStage image old new 1 → image (CopyPlace 1) ≡ Some (CopyUnit new) → IsChosen image new
  chosen_second stage shown =
      chosen_above image new (agree_at image new 0 1 (omega arith) (omega arith) (stage.low 0 (omega arith)) shown) (lower_new 1 stage)

  two_of : (d : Content) → IsStage image old new 1 → (image (CopyPlace 1) ≡ Some (CopyUnit new) → ⊥) → Agree image d → d ≡ new → ⊥
  two_of d stage none a is = elim (cases_eq a.second 1) [
    | inl here ↦ none (ap (λ (k : ℕ). image (CopyPlace k)) (sym here) ∙ a.at_second ∙ ap (λ (c : Content). Some (CopyUnit c)) is)
    | inr other ↦ elim (one_of image old new d 1 a.second stage a.inside other a.at_second) [
      | inl x ↦ absurd (omega (arith, x.0, a.apart))
      | inr x ↦ apart (sym is ∙ x.1)
    ]
  ]

  -- and before
  pub chosen_not_yet : IsStage image old new 1 → (image (CopyPlace 1) ≡ Some (CopyUnit new) → ⊥) → IsChosen image old
  chosen_not_yet stage none = chosen_above image old (agree_at
      image old 2 3 (omega arith) (omega arith) (stage.high 2 (omega arith) (omega arith)) (stage.high 3 (omega arith) (omega arith)))
      (λ d a. elim (votes_of image old new d 1 stage a) [
        | inl is ↦ absurd (two_of d stage none a is)
        | inr is ↦ inl is
      ])

  -- while copy 2 or 3 is written
  pub chosen_last : (k : ℕ) → 1 < k → IsStage image old new k → IsChosen image new
  chosen_last k above stage = chosen_above
      image new (agree_at image new 0 1 (omega arith) (omega arith) (stage.low 0 (omega arith)) (stage.low 1 above)) (lower_new k stage)
