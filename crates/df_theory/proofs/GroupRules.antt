-- The group rule: by what is over so far, and by the prepare before.
use Rattle.std.proofs.{Common.{◌≡◌, inl, inr, ℕ, ◌+◌, ◌<◌, ◌≤◌, List, [], ◌∷◌, Some, refl, sym, ◌∙◌, ap, arith}, lemmas.Bool.{cases_eq}}
use Rattle.df_theory.specs.{Units.{Header, Message, Session}, Sessions.{noted}, Tails.{AreGroups, Chain, In}, GroupLaws.{FollowGroups, GroupRuleLaw}}

-- after a prepare
module _ (clients base pin : ℕ) (low : base ≤ pin) where
  to_paper : (op parent mark : ℕ) (ss : List Session) (q : Header) (ps : List Message)
      → Chain clients op parent mark ss ps → q.op + 1 ≡ op → base < q.op → q.op ≤ q.group_last → (q.op ≡ pin → q.group_last ≤ pin)
      → AreGroups q.group q.group_last op ps
      → ((p : Message) → In p ps → p.header.op ≡ pin → p.header.group_last ≤ pin) → FollowGroups base pin (Some q) ps
  to_paper op parent mark ss q [] chain here above holds ends groups pinned = tt
  to_paper op parent mark ss q (p ∷ ps) chain here above holds ends groups pinned = (
    elim groups.0 [
      | inl new ↦ inl (record { first = omega (arith, new.1, chain.0.op_is); behind = inr (inr (omega (arith, new.0))) })
      | inr old ↦ inr (record { inside = (λ e. omega (arith, chain.0.op_is), λ e. omega (arith, chain.0.op_is, old.0, ends (omega (arith, chain.0.op_is)))); prepare = q; is = refl; same = (old.1, old.2); open_yet = λ e. omega (arith, old.0) })
    ],
    λ e. omega (arith, pinned p (inl refl) e, chain.0.group, chain.0.op_is),
    to_paper (op + 1) p.header.checksum p.header.mark (noted p.header ss) p.header ps chain.1 (omega (arith, chain.0.op_is)) (omega
        (arith, chain.0.op_is)) (omega (arith, chain.0.op_is, chain.0.group)) (λ e. pinned p (inl refl) e) groups.1 (λ r at. pinned r (inr at)),
  )

  from_paper : (op parent mark : ℕ) (ss : List Session) (q : Header) (ps : List Message)
      → Chain clients op parent mark ss ps → q.op + 1 ≡ op → base < q.op → q.op ≤ q.group_last → (q.op ≡ pin → q.group_last ≤ pin)
      → FollowGroups base pin (Some q) ps
      → AreGroups q.group q.group_last op ps × ((p : Message) → In p ps → p.header.op ≡ pin → p.header.group_last ≤ pin)
  from_paper op parent mark ss q [] chain here above holds ends follow = (tt, λ p none. absurd none)
  from_paper op parent mark ss q (p ∷ ps) chain here above holds ends follow =
      let rest = from_paper (op + 1) p.header.checksum p.header.mark (noted p.header ss) p.header ps chain.1 (omega (arith, chain.0.op_is))
      (omega (arith, chain.0.op_is)) (omega (arith, chain.0.op_is, chain.0.group)) (λ e. omega (arith, follow.1 e)) follow.2 in (
        (
          elim follow.0 [
            | inl first ↦ inl (
              elim first.behind [
                | inl base_is ↦ absurd (omega (arith, chain.0.op_is))
                | inr (inl pin_is) ↦ omega (arith, ends (omega (arith, chain.0.op_is)), chain.0.op_is)
                | inr (inr over) ↦ omega (arith, over)
              ],
              first.first ∙ chain.0.op_is,
              omega (arith, chain.0.group),
            )
            | inr next ↦ let same : q ≡ next.prepare = (let both : Some q ≡ Some next.prepare = next.is in cc) in inr (
              open_at q op here holds (rw (sym same) at next.open_yet),
              next.same.0 ∙ ap (λ (x : Header). x.group) (sym same),
              next.same.1 ∙ ap (λ (x : Header). x.group_last) (sym same),
            )
          ],
          rest.0,
        ),
        λ r at e. elim at [ inl is ↦ pinned_first r p is follow.1 e | inr there ↦ rest.1 r there e ],
      )
    where
      open_at : (q : Header) (op : ℕ) → q.op + 1 ≡ op → q.op ≤ q.group_last → (q.group_last ≡ q.op → ⊥) → op ≤ q.group_last
      open_at q op here holds not = elim (cases_eq q.group_last q.op) [ inl is ↦ absurd (not is) | inr differs ↦ omega arith ]

      pinned_first : (r p : Message)
          → r ≡ p → (p.header.op ≡ pin → p.header.group_last ≡ p.header.op) → r.header.op ≡ pin → r.header.group_last ≤ pin
      pinned_first r p is ends e = let op : p.header.op ≡ pin = ap (λ (w : Message). w.header.op) (sym is) ∙ e in
          omega (arith, ends op, ap (λ (w : Message). w.header.group_last) is)

pub group_rule_law : GroupRuleLaw
group_rule_law clients op parent mark pin ss [] low chain = (λ follow. (tt, λ p none. absurd none), λ groups. tt)
group_rule_law clients op parent mark pin ss (p ∷ ps) low chain = (
  λ follow.
      let rest = from_paper clients op pin low (op + 1 + 1) p.header.checksum p.header.mark (noted p.header ss) p.header ps chain.1 (omega (arith, chain.0.op_is)) (omega (arith, chain.0.op_is)) (omega (arith, chain.0.op_is, chain.0.group)) (λ e. omega (arith, follow.1 e)) follow.2 in (
        (
          elim follow.0 [
            | inl first ↦ inl (omega arith, first.first ∙ chain.0.op_is, omega (arith, chain.0.group))
            | inr next ↦ absurd (next.inside.0 (omega (arith, chain.0.op_is)))
          ],
          rest.0,
        ),
        λ r at e. elim at [ inl is ↦ (let op_is : p.header.op ≡ pin = ap (λ (w : Message). w.header.op) (sym is) ∙ e in omega (arith, follow.1 op_is, ap (λ (w : Message). w.header.group_last) is)) | inr there ↦ rest.1 r there e ],
      ),
  λ both. (
    elim both.0.0 [
      | inl new ↦ inl (record { first = omega (arith, new.1, chain.0.op_is); behind = inl (omega (arith, chain.0.op_is)) })
      | inr old ↦ absurd (omega (arith, old.0))
    ],
    λ e. omega (arith, both.1 p (inl refl) e, chain.0.group, chain.0.op_is),
    to_paper clients op pin low (op + 1 + 1) p.header.checksum p.header.mark (noted p.header ss) p.header ps chain.1 (omega (arith, chain.0.op_is)) (omega (arith, chain.0.op_is)) (omega (arith, chain.0.op_is, chain.0.group)) (λ e. both.1 p (inl refl) e) both.0.1 (λ r at. both.1 r (inr at)),
  ),
)
