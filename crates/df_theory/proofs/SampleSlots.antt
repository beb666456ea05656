-- The header ring of the sample, as an open tells it: slot 1 has the header of the only prepare.
use Rattle.std.proofs.Common.{◌≡◌, inl, inr, ℕ, ◌%◌, ◌==◌, Bool, true, false, if◌then◌else◌, Some, None, refl, sym, ◌∙◌, ap, subst}
use Rattle.df_theory.{specs.{Units.{Header, HeaderPlace, HeaderUnit, Message, Units, or_else}, Tails.{In}, UnitLog.{now}, MendLaws.{IsSlotHeader}}, proofs.{SampleFiles.{reserved}, Samples.{log4, prepare1, shape, view2}}}

abbrev pub table : ℕ → Header
table s = if 1 == s then prepare1.header else reserved

pub header_shown : (s : ℕ) → now log4 (HeaderPlace s) ≡ Some (HeaderUnit (table s))
header_shown s = go (1 == s)
  where
    go : (b : Bool) → or_else (if b then Some (HeaderUnit prepare1.header) else None) (Some (HeaderUnit reserved))
        ≡ Some (HeaderUnit (if b then prepare1.header else reserved))
    go true = refl
    go false = refl

-- in each image that shows this ring
pub slot : (image : Units) (s : ℕ) → image (HeaderPlace s) ≡ Some (HeaderUnit (table s)) → IsSlotHeader shape image view2 s (table s)
slot image s shown = record { from = inl shown; tail = λ p at mine. own p at mine }
  where
    own : (p : Message) → In p view2.tail → s ≡ p.header.op % 16 → p.header ≡ table s
    own p (inl is) mine = let one : s ≡ 1 = mine ∙ ap (λ (q : Message). q.header.op % 16) is in
        ap (λ (q : Message). q.header) is ∙ subst (λ (k : ℕ). prepare1.header ≡ table k) (sym one) refl
    own p (inr none) mine = absurd none
