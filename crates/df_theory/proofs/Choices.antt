-- One content is chosen, and how it is shown to be.
use Rattle.std.proofs.{Common.{◌≡◌, ◌⊎◌, inl, inr, ℕ, zero, suc, ◌≤◌, ◌<◌, Some, sym, ◌∙◌, ap, arith}, lemmas.Bool.{cases_eq}}
use Rattle.df_theory.specs.{Units.{Content, CopyPlace, CopyUnit, Units}, Copies.{Agree, IsChosen, IsNextContent, rank_of}, View.{Checkpoint, View}, Next.{IsBoot, IsFinish}}

pub same_copy : (image : Units) (n : ℕ) (c d : Content)
    → image (CopyPlace n) ≡ Some (CopyUnit c) → image (CopyPlace n) ≡ Some (CopyUnit d) → c ≡ d
same_copy image n c d one two = let both : Some (CopyUnit c) ≡ Some (CopyUnit d) = sym one ∙ two in cc

-- a content that two copies show, where whatever else two copies show is lower
pub chosen_above : (image : Units) (c : Content)
    → Agree image c → ((d : Content) → Agree image d → (d ≡ c) ⊎ (rank_of d < rank_of c)) → IsChosen image c
chosen_above image c agreed other = record {
  agreed = agreed;
  greatest = λ d a. elim (other d a) [ inl same ↦ omega (arith, ap rank_of same) | inr low ↦ omega arith ];
  lowest = λ d a tie n below is.
      elim (other d a) [ inl same ↦ (n, omega arith, is ∙ ap (λ (x : Content). Some (CopyUnit x)) same) | inr low ↦ absurd (omega arith) ];
}

-- going down from copy to copy, each of two contents standing no higher than the other
meet : (fuel : ℕ) (image : Units) (c d : Content)
    → ((n : ℕ) → n < 4 → image (CopyPlace n) ≡ Some (CopyUnit d) → (k : ℕ) × (k ≤ n) × (image (CopyPlace k) ≡ Some (CopyUnit c)))
    → ((n : ℕ) → n < 4 → image (CopyPlace n) ≡ Some (CopyUnit c) → (k : ℕ) × (k ≤ n) × (image (CopyPlace k) ≡ Some (CopyUnit d)))
    → (n : ℕ) → n < fuel → n < 4 → image (CopyPlace n) ≡ Some (CopyUnit c) → c ≡ d
meet zero image c d down_c down_d n below inside is = absurd (omega arith)
meet (suc fuel) image c d down_c down_d n below inside is = let k = down_d n inside is in let kb : k.0 ≤ n = k.1 in
    let m = down_c k.0 (omega arith) k.2 in let mb : m.0 ≤ k.0 = m.1 in elim (cases_eq k.0 n) [
      | inl e ↦ same_copy image n c d is (ap (λ (i : ℕ). image (CopyPlace i)) (sym e) ∙ k.2)
      | inr differ ↦ meet fuel image c d down_c down_d m.0 (omega arith) (omega arith) m.2
    ]

pub one_chosen : (image : Units) (c d : Content) → IsChosen image c → IsChosen image d → c ≡ d
one_chosen image c d x y = let cd : rank_of c ≤ rank_of d = y.greatest c x.agreed in
    let dc : rank_of d ≤ rank_of c = x.greatest d y.agreed in let same : rank_of d ≡ rank_of c = omega arith in
    let inside : x.agreed.first < 4 = omega (arith, x.agreed.apart, x.agreed.inside) in
    meet 4 image c d (x.lowest d y.agreed same) (y.lowest c x.agreed (sym same)) x.agreed.first inside inside x.agreed.at_first

-- the next content is a higher one, and a finished checkpoint has the next one: where the order of contents changes, these change
pub next_higher : (c d : Content) → IsNextContent c d → rank_of c < rank_of d
next_higher c d (inl next) = omega (arith, next)
next_higher c d (inr next) = omega (arith, next)

pub finish_next : (v : View) (c : Checkpoint) → IsFinish v c → IsNextContent v.checkpoint.content c.content
finish_next v c is = inl (is.sequence, is.boot)

pub finish_higher : (v : View) (c : Checkpoint) → IsFinish v c → rank_of v.checkpoint.content < rank_of c.content
finish_higher v c is = next_higher v.checkpoint.content c.content (finish_next v c is)

pub boot_next : (v : View) (d : Content) → IsBoot v d → IsNextContent v.checkpoint.content d
boot_next v d is = inr (is.same.sequence, is.boot)

pub boot_higher : (v : View) (d : Content) → IsBoot v d → rank_of v.checkpoint.content < rank_of d
boot_higher v d is = next_higher v.checkpoint.content d (boot_next v d is)

pub rank_low : (c d : Content) → c.sequence ≤ d.sequence → c.boot ≤ d.boot → rank_of c ≤ rank_of d
rank_low c d one two = omega arith
