-- A history begins at the image that an upgrade left.
use Rattle.std.proofs.Common.{◌≡◌, ◌⊎◌, inl, inr, ℕ, ◌<◌, [], Some, sym, subst, arith}
use Rattle.df_theory.{specs.{Units.{Content, CopyPlace, CopyUnit, Units}, Shape.{Shape}, Copies.{rank_of}, View.{View}, Holds.{Holds}, Next.{MayBoot, booted}, Chance.{EachLeft}, Rests.{RestsOn}, Upgrades.{IsRaised, as_version, of_version, raise_steps, restarted_at}}, proofs.Laws.{anew_law, each_weaker, rests_safe, raise_anew_law, raise_ends_law}}
use Rattle.df_history.{specs.{Lives.{Starts}, Histories.{IsLivedMoment}, Upgraded.{StoppedUpgradeLaw, UpgradedLaw}}, proofs.Moments.{first_lived_law}}

raised_starts : (sh : Shape) (n : ℕ) (image : Units) (v : View) (d : Content)
    → MayBoot (as_version n v) d → IsRaised sh image (booted v d) → Starts image [] (booted v d)
raised_starts sh n image v d may raised = record {
  prepares = λ s p at. elim at [ inl is ↦ raised.prepares s p is | inr none ↦ absurd none ];
  replies = λ k r at. elim at [ inl is ↦ raised.replies k r is | inr none ↦ absurd none ];
  copies = λ m c differs at. elim at [ inl is ↦ low m c differs is | inr none ↦ absurd none ];
  counted = (omega (arith, may.is.head, may.is.same.op.0), sym may.is.replies);
}
  where
    low : (m : ℕ) (c : Content) → (m ≡ 0 → ⊥) → image (CopyPlace m) ≡ Some (CopyUnit c) → (c ≡ d) ⊎ (rank_of c < rank_of d)
    low m c differs is = let a = raised.holds.bears.agrees (CopyPlace m) (CopyUnit c) is in let same : a.0 ≡ c = (let e = a.1 in cc) in
        subst (λ (x : Content). (x ≡ d) ⊎ (rank_of x < rank_of d)) same (a.2 differs)

raised_begins : (sh : Shape) (n : ℕ) (image : Units) (v : View) (d : Content) → MayBoot (as_version n v) d
    → IsRaised sh image (booted v d) → IsLivedMoment sh [] (restarted_at image) × RestsOn sh (restarted_at image) (booted v d)
raised_begins sh n image v d may raised =
    let rests : RestsOn sh (restarted_at image) (booted v d) = anew_law sh image (booted v d) raised.holds in
    (first_lived_law sh (restarted_at image) (rests_safe sh (restarted_at image) (booted v d) rests) (inr (booted v d, raised.holds, raised_starts sh n image v d may raised)), rests)

pub upgraded_law : UpgradedLaw
upgraded_law sh n image v table headers copies d puts may beyond =
    raised_begins (of_version n sh) n _ v d may.boot ((raise_ends_law sh n image v table headers copies d puts may).1 beyond).raised

pub stopped_upgrade_law : StoppedUpgradeLaw
stopped_upgrade_law sh n image v table headers copies d puts may clean = each_weaker
    (λ log. EachLeft log (λ left. Holds sh left v ⊎ IsRaised (of_version n sh) left (booted v d)))
    (λ log. EachLeft log (λ left. Holds sh left v
    ⊎ (IsLivedMoment (of_version n sh) [] (restarted_at left) × RestsOn (of_version n sh) (restarted_at left) (booted v d))))
    (λ log each left is chance.
    elim (each left is chance) [ inl old ↦ inl old | inr new ↦ inr (raised_begins (of_version n sh) n left v d may.boot new) ])
    (raise_steps headers copies puts) (restarted_at image) (raise_anew_law sh n image v table headers copies d puts may clean)
