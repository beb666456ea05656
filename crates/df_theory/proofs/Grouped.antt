-- Groups of prepares in a list.
use Rattle.std.proofs.Common.{◌≡◌, inl, inr, ℕ, zero, suc, ◌+◌, ◌<◌, ◌≤◌, List, [], ◌∷◌, ◌++◌, length, drop, refl, sym, ◌∙◌, ap, subst, arith}
use Rattle.df_theory.{specs.{Units.{Header, Message, Session}, Sessions.{noted}, Tails.{AreGroups, Chain, FitsGroup, In}, Shape.{clients}}, proofs.Tails.{chain_ops}}

-- after a group that is over it doesn't matter which one it was
pub fits_closed : (f g l m op : ℕ) (h : Header) → l < op → m < op → FitsGroup f l op h → FitsGroup g m op h
fits_closed f g l m op h below low (inl fits) = inl (low, fits.1, fits.2)
fits_closed f g l m op h below low (inr fits) = absurd (omega (arith, fits.0))

pub groups_closed : (f g l m op : ℕ) (ps : List Message) → l < op → m < op → AreGroups f l op ps → AreGroups g m op ps
groups_closed f g l m op [] below low groups = tt
groups_closed f g l m op (p ∷ ps) below low groups = (fits_closed f g l m op p.header below low groups.0, groups.1)

pub groups_append : (f l op : ℕ) (ps qs : List Message) (low : ℕ) → AreGroups f l op ps → l < op + length ps → ((p : Message) → In p ps
    → p.header.group_last < op + length ps) → low < op + length ps → AreGroups 0 low (op + length ps) qs → AreGroups f l op (ps ++ qs)
groups_append f l op [] qs low groups ends each below more = let same : op + 0 ≡ op = omega arith in
    groups_closed 0 f low l op qs (omega arith) (omega arith) (rw same at more)
groups_append f l op (p ∷ ps) qs low groups ends each below more = let same : op + suc (length ps) ≡ op + 1 + length ps = omega arith in
    (groups.0, groups_append p.header.group p.header.group_last (op + 1) ps qs low groups.1 (omega (arith, each p (inl refl))) (λ q at. omega (arith, each q (inr at))) (omega arith) (rw same at more))

-- those after an op where a group ends
pub groups_drop : (n f l op low : ℕ) (ps : List Message) → AreGroups f l op ps → l < op + n → n ≤ length ps → ((p : Message) → In p ps → p.header.op < op + n → p.header.group_last < op + n) → (clients parent mark : ℕ) (ss : List Session) → Chain clients op parent mark ss ps → low < op + n → AreGroups 0 low (op + n) (drop n ps)
groups_drop zero f l op low ps groups ends short each clients parent mark ss chain below = let same : op ≡ op + 0 = omega arith in
    subst (λ (k : ℕ). AreGroups 0 low k ps) same (groups_closed f 0 l low op ps (omega arith) (omega arith) groups)
groups_drop (suc n) f l op low [] groups ends short each clients parent mark ss chain below = tt
groups_drop (suc n) f l op low (p ∷ ps) groups ends short each clients parent mark ss chain below =
    let same : op + 1 + n ≡ op + suc n = omega arith in subst (λ (k : ℕ). AreGroups 0 low k (drop n ps)) same
    (groups_drop n p.header.group p.header.group_last (op + 1) low ps groups.1 (omega (arith, each p (inl refl) (omega (arith, chain.0.op_is)))) (omega arith) (λ q at less. omega (arith, each q (inr at) (omega arith))) clients p.header.checksum p.header.mark (noted p.header ss) chain.1 (omega arith))

-- a prepare up to the last op of the group before the list is of that group
pub group_at : (clients f l op parent mark : ℕ) (ss : List Session) (ps : List Message) (q : Message) → Chain clients op parent mark ss ps
    → AreGroups f l op ps → In q ps → q.header.op ≤ l → (q.header.group ≡ f) × (q.header.group_last ≡ l)
group_at clients f l op parent mark ss [] q chain groups none low = absurd none
group_at clients f l op parent mark ss (p ∷ ps) q chain groups (inl here) low =
    let is : q.header.op ≡ p.header.op = ap (λ (w : Message). w.header.op) here in elim groups.0 [
      | inl new ↦ absurd (omega (arith, new.0, chain.0.op_is))
      | inr old ↦ (ap (λ (w : Message). w.header.group) here ∙ old.1, ap (λ (w : Message). w.header.group_last) here ∙ old.2)
    ]
group_at clients f l op parent mark ss (p ∷ ps) q chain groups (inr there) low =
    let ops = chain_ops clients (op + 1) p.header.checksum p.header.mark (noted p.header ss) ps q chain.1 there in elim groups.0 [
      | inl new ↦ absurd (omega (arith, new.0, ops.0))
      | inr old ↦ let rest = group_at clients p.header.group p.header.group_last
          (op + 1) p.header.checksum p.header.mark (noted p.header ss) ps q chain.1 groups.1 there (omega (arith, old.2)) in
          (rest.0 ∙ old.1, rest.1 ∙ old.2)
    ]

-- a prepare whose group began before the list is of the group before it
pub group_from : (clients f l op parent mark : ℕ) (ss : List Session) (ps : List Message) (q : Message) → Chain clients op parent mark ss ps
    → AreGroups f l op ps → In q ps → q.header.group < op → (q.header.group ≡ f) × (q.header.group_last ≡ l) × (op ≤ l)
group_from clients f l op parent mark ss [] q chain groups none low = absurd none
group_from clients f l op parent mark ss (p ∷ ps) q chain groups (inl here) low =
    let is : q.header.group ≡ p.header.group = ap (λ (w : Message). w.header.group) here in elim groups.0 [
      | inl new ↦ absurd (omega (arith, new.1))
      | inr old ↦ (is ∙ old.1, ap (λ (w : Message). w.header.group_last) here ∙ old.2, old.0)
    ]
group_from clients f l op parent mark ss (p ∷ ps) q chain groups (inr there) low = let rest = group_from clients p.header.group
    p.header.group_last (op + 1) p.header.checksum p.header.mark (noted p.header ss) ps q chain.1 groups.1 there (omega arith) in
    elim groups.0 [
      | inl new ↦ absurd (omega (arith, new.1, rest.0))
      | inr old ↦ (rest.0 ∙ old.1, rest.1 ∙ old.2, old.0)
    ]

-- a prepare's group holds its op
pub group_holds : (clients f l op parent mark : ℕ) (ss : List Session) (ps : List Message) (q : Message)
    → Chain clients op parent mark ss ps → AreGroups f l op ps → f < op → In q ps → q.header.group ≤ q.header.op
group_holds clients f l op parent mark ss [] q chain groups begins none = absurd none
group_holds clients f l op parent mark ss (p ∷ ps) q chain groups begins (inl here) =
    let is : q.header.group ≡ p.header.group = ap (λ (w : Message). w.header.group) here in
    let op_is : q.header.op ≡ p.header.op = ap (λ (w : Message). w.header.op) here in elim groups.0 [
      | inl new ↦ omega (arith, new.1, chain.0.op_is)
      | inr old ↦ omega (arith, old.1, chain.0.op_is)
    ]
group_holds clients f l op parent mark ss (p ∷ ps) q chain groups begins (inr there) =
    group_holds clients p.header.group p.header.group_last (op + 1) p.header.checksum p.header.mark (noted p.header ss) ps q chain.1 groups.1
    (elim groups.0 [ inl new ↦ omega (arith, new.1) | inr old ↦ omega (arith, old.1) ]) there

-- an op between the ends of a prepare's group is of that group
pub same_group : (clients f l op parent mark : ℕ) (ss : List Session) (ps : List Message) (p q : Message) → Chain clients op parent mark ss ps → AreGroups f l op ps → In p ps → In q ps → p.header.group ≤ q.header.op → q.header.op ≤ p.header.group_last → (q.header.group ≡ p.header.group) × (q.header.group_last ≡ p.header.group_last)
same_group clients f l op parent mark ss [] p q chain groups none there low high = absurd none
same_group clients f l op parent mark ss (x ∷ ps) p q chain groups (inl a) (inl b) low high =
    (ap (λ (w : Message). w.header.group) (b ∙ sym a), ap (λ (w : Message). w.header.group_last) (b ∙ sym a))
same_group clients f l op parent mark ss (x ∷ ps) p q chain groups (inl a) (inr b) low high =
    let last : p.header.group_last ≡ x.header.group_last = ap (λ (w : Message). w.header.group_last) a in let rest = group_at clients
    x.header.group x.header.group_last (op + 1) x.header.checksum x.header.mark (noted x.header ss) ps q chain.1 groups.1 b (omega arith) in
    (rest.0 ∙ ap (λ (w : Message). w.header.group) (sym a), rest.1 ∙ sym last)
same_group clients f l op parent mark ss (x ∷ ps) p q chain groups (inr a) (inl b) low high =
    let is : q.header.op ≡ x.header.op = ap (λ (w : Message). w.header.op) b in
    let rest = group_from clients x.header.group x.header.group_last
    (op + 1) x.header.checksum x.header.mark (noted x.header ss) ps p chain.1 groups.1 a (omega (arith, chain.0.op_is)) in
    (ap (λ (w : Message). w.header.group) b ∙ sym rest.0, ap (λ (w : Message). w.header.group_last) b ∙ sym rest.1)
same_group clients f l op parent mark ss (x ∷ ps) p q chain groups (inr a) (inr b) low high = same_group clients
    x.header.group x.header.group_last (op + 1) x.header.checksum x.header.mark (noted x.header ss) ps p q chain.1 groups.1 a b low high

-- prepares in turn that carry the same two numbers are a group
in_group : (first last op : ℕ) (ps : List Message) → ((p : Message) → In p ps → (p.header.group ≡ first) × (p.header.group_last ≡ last))
    → op + length ps ≤ last + 1 → AreGroups first last op ps
in_group first last op [] each end = tt
in_group first last op (p ∷ ps) each end = let here = each p (inl refl) in (
  inr (omega arith, here.0, here.1),
  rw (sym here.0) at (rw (sym here.1) at (in_group first last (op + 1) ps (λ q at. each q (inr at)) (omega arith))),
)

pub turn_groups : (op last low : ℕ) (ps : List Message) → ((p : Message) → In p ps → (p.header.group ≡ op) × (p.header.group_last ≡ last))
    → op + length ps ≤ last + 1 → low < op → AreGroups 0 low op ps
turn_groups op last low [] each end below = tt
turn_groups op last low (p ∷ ps) each end below = let here = each p (inl refl) in (
  inl (omega arith, here.0, omega (arith, here.1)),
  rw here.0 (rw here.1 (in_group op last (op + 1) ps (λ q at. each q (inr at)) (omega arith))),
)
