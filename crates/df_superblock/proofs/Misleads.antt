-- A repair with no word on the history.
use Rattle.std.proofs.{Common.{◌≡◌, ◌⊎◌, inl, inr, ℕ, ◌<◌, ◌≤◌, ◌+◌, Bool, true, false, List, [], ◌∷◌, length, Some, refl, sym, ◌∙◌, ap, arith}, lemmas.Bool.{cases_lt, cases_eq, cases_Bool}}
use Rattle.df_base.{specs.{Image.{Image, written}, Log.{Write, Sync, Log, add, loose, now}}, proofs.Laws.{AtEach}}
use Rattle.df_format.specs.{Super.{copy_bytes}, Copies.{Content, content_at, rank_of_copy}, declared.superblock.SuperFields.{SuperFields}}
use Rattle.df_quorum.{specs.Quorum.{Copies, CopiesAgree, IsChosenContent}, proofs.Laws.{same_content as same_copy, agree_at as agree_of}}
use Rattle.df_superblock.{specs.{Copies.{IsMisled}, Events.{repair_events}}, proofs.{Choices.{same_content, shows_content, partner}, Sights.{Keeps, PutsCopy, firm_shows, loose_wrote, seen_apart}}}

-- how far the copies may have come from those before the call
pub record IsUnder (before : Copies) (log : Log) (c : Content) : Type 0 where
  pub shown : (n : ℕ) → n < 4 → (content_at (now log) n ≡ Some c) ⊎ (content_at (now log) n ≡ before n)
  pub firm : (n : ℕ) → n < 4 → before n ≡ Some c → loose log n ≡ false

under_wrote : (before : Copies) (log : Log) (c : Content) (k : ℕ) (bytes : List ℕ)
    → PutsCopy k bytes c → IsUnder before log c → (before k ≡ Some c → ⊥) → IsUnder before (add (Write k bytes) log) c
under_wrote before log c k bytes put u outside = record {
  shown = λ n below. elim (cases_eq n k) [
    | inl e ↦ inl (ap (λ (i : ℕ). content_at (written k bytes (now log)) i) e ∙ put.shows (now log))
    | inr away ↦ elim (u.shown n below) [
      | inl same ↦ inl (seen_apart k bytes (now log) n (put.alone n away) ∙ same)
      | inr old ↦ inr (seen_apart k bytes (now log) n (put.alone n away) ∙ old)
    ]
  ];
  firm = λ n below is. loose_wrote log k n bytes c put (λ e. outside (ap before (sym e) ∙ is)) (u.firm n below is);
}

under_synced : (before : Copies) (log : Log) (c : Content) → IsUnder before log c → IsUnder before (add Sync log) c
under_synced before log c u = record { shown = u.shown; firm = λ n below is. refl }

module _ (before : Copies) (log : Log)
    (c : Content) (image : Image) (u : IsUnder before log c) (keeps : Keeps log image) (not : IsMisled before log c image → ⊥) where
  member_stays : (n : ℕ) → n < 4 → before n ≡ Some c → content_at image n ≡ Some c
  member_stays n below is = firm_shows log image n keeps (u.firm n below is) ∙ go (u.shown n below)
    where
      go : (content_at (now log) n ≡ Some c) ⊎ (content_at (now log) n ≡ before n) → content_at (now log) n ≡ Some c
      go (inl same) = same
      go (inr old) = old ∙ is

  firm_showed : (d : Content) (n : ℕ) → n < 4 → loose log n ≡ false → (d ≡ c → ⊥) → content_at image n ≡ Some d → before n ≡ Some d
  firm_showed d n below firm differs is = elim (u.shown n below) [
    | inl same ↦ absurd (differs (same_copy (content_at image) n d c is (firm_shows log image n keeps firm ∙ same)))
    | inr old ↦ sym old ∙ sym (firm_shows log image n keeps firm) ∙ is
  ]

  -- a pair that a loose copy makes was a pair before
  loose_pair : (d : Content) (i j : ℕ) → i < 4 → j < 4 → (i ≡ j → ⊥) → loose log i ≡ true → content_at image i ≡ Some d
      → content_at image j ≡ Some d → (d ≡ c → ⊥) → rank_of_copy c ≤ rank_of_copy d → (before i ≡ Some d) × (before j ≡ Some d)
  loose_pair d i j below_i below_j apart wet is_i is_j differs high = elim (shows_content (before i) d) [
    | inl was_i ↦ elim (shows_content (before j) d) [
      | inl was_j ↦ (was_i, was_j)
      | inr none ↦ absurd (not (record { place = i; other = j; content = d; inside = below_i; other_inside = below_j; apart = apart; loose = wet; at_place = is_i; at_other = is_j; differs = differs; not_below = high; new = λ a b. none b }))
    ]
    | inr none ↦ absurd (not (record { place = i; other = j; content = d; inside = below_i; other_inside = below_j; apart = apart; loose = wet; at_place = is_i; at_other = is_j; differs = differs; not_below = high; new = λ a b. none a }))
  ]

  pair_before : (d : Content) (i j : ℕ) → i < 4 → j < 4 → (i ≡ j → ⊥) → content_at image i ≡ Some d
      → content_at image j ≡ Some d → (d ≡ c → ⊥) → rank_of_copy c ≤ rank_of_copy d → (before i ≡ Some d) × (before j ≡ Some d)
  pair_before d i j below_i below_j apart is_i is_j differs high = elim (cases_Bool (loose log i)) [
    | inl wet ↦ loose_pair d i j below_i below_j apart wet is_i is_j differs high
    | inr firm_i ↦ elim (cases_Bool (loose log j)) [
      | inl wet ↦ let w = loose_pair d j i below_j below_i (λ e. apart (sym e)) wet is_j is_i differs high in (w.1, w.0)
      | inr firm_j ↦ (firm_showed d i below_i firm_i differs is_i, firm_showed d j below_j firm_j differs is_j)
    ]
  ]

  greatest : IsChosenContent before c → (d : Content) → CopiesAgree (content_at image) d → rank_of_copy d ≤ rank_of_copy c
  greatest chosen d a = elim (cases_lt (rank_of_copy c) (rank_of_copy d)) [
    | inl high ↦ let below : a.first < 4 = omega (arith, a.apart, a.inside) in
        let apart : a.first ≡ a.second → ⊥ = λ e. omega (arith, a.apart) in let w =
        pair_before d a.first a.second below a.inside apart a.at_first a.at_second (λ e. omega (arith, ap rank_of_copy e)) (omega arith) in
        chosen.greatest d (agree_of before d a.first a.second below a.inside apart w.0 w.1)
    | inr low ↦ omega arith
  ]

  lowest : IsChosenContent before c → (d : Content) → CopiesAgree (content_at image) d
      → rank_of_copy d ≡ rank_of_copy c → (n : ℕ) → n < 4 → content_at image n ≡ Some d → (k : ℕ) × (k ≤ n) × (content_at image k ≡ Some c)
  lowest chosen d a tie n below is = elim (same_content d c) [
    | inl same ↦ (n, omega arith, is ∙ ap (λ (x : Content). Some x) same)
    | inr differs ↦ let j = partner (content_at image) d a n in let w = pair_before d n j.0 below j.1 j.2 is j.3 differs (omega arith) in
        let k = chosen.lowest d (agree_of before d n j.0 below j.1 j.2 w.0 w.1) tie n below w.0 in let kb : k.0 ≤ n = k.1 in
        (k.0, kb, member_stays k.0 (omega arith) k.2)
  ]

  stays : IsChosenContent before c → IsChosenContent (content_at image) c
  stays chosen = record {
    agreed = let a : CopiesAgree before c = chosen.agreed in record {
      first = a.first;
      second = a.second;
      apart = a.apart;
      inside = a.inside;
      at_first = member_stays a.first (omega (arith, a.apart, a.inside)) a.at_first;
      at_second = member_stays a.second a.inside a.at_second;
    };
    greatest = greatest chosen;
    lowest = lowest chosen;
  }

-- at a moment each image that keeps the rest and isn't misled has the choice
abbrev pub KeepsChoice : Copies → Content → Log → Type 0
KeepsChoice before c log = (image : Image) → Keeps log image → (IsMisled before log c image → ⊥) → IsChosenContent (content_at image) c

-- those that are written, from a number on, didn't show the content
abbrev pub AreOutside : Copies → Content → ℕ → List Bool → Type 0
AreOutside before c number [] = Unit {0}
AreOutside before c number (true ∷ members) = AreOutside before c (number + 1) members
AreOutside before c number (false ∷ members) = (before number ≡ Some c → ⊥) × AreOutside before c (number + 1) members

module _ (f : SuperFields)
    (c : Content) (puts : (n : ℕ) → n < 4 → PutsCopy n (copy_bytes n f) c) (before : Copies) (chosen : IsChosenContent before c) where
  pub each_stays : (number : ℕ) (members : List Bool) (log : Log) → number + length members ≤ 4
      → IsUnder before log c → AreOutside before c number members → AtEach (KeepsChoice before c) log (repair_events f number members)
  each_stays number [] log fits u outside = λ image keeps not. stays before log c image u keeps not chosen
  each_stays number (true ∷ members) log fits u outside = each_stays (number + 1) members log (omega arith) u outside
  each_stays number (false ∷ members) log fits u outside = let bytes : List ℕ = copy_bytes number f in
      let w : IsUnder before (add (Write number bytes) log) c =
      under_wrote before log c number bytes (puts number (omega arith)) u outside.0 in (
        λ image keeps not. stays before log c image u keeps not chosen,
        (
          λ image keeps not. stays before (add (Write number bytes) log) c image w keeps not chosen,
          each_stays (number + 1) members
              (add Sync (add (Write number bytes) log)) (omega arith) (under_synced before (add (Write number bytes) log) c w) outside.1,
        ),
      )
