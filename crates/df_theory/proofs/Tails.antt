-- Prepares in a tail.
use Rattle.std.proofs.Common.{◌≡◌, ◌⊎◌, inl, inr, ℕ, zero, suc, ◌+◌, ◌<◌, ◌≤◌, List, [], ◌∷◌, ◌++◌, length, drop, refl, sym, ◌∙◌, ap, arith}
use Rattle.df_theory.specs.{Units.{Message, Session}, Sessions.{noted}, Tails.{Chain, In}, Shape.{clients}, Next.{AreInTurn, MayAskInTurn}}

pub in_front : (p : Message) (ps qs : List Message) → In p ps → In p (ps ++ qs)
in_front p [] qs at = absurd at
in_front p (x ∷ ps) qs (inl here) = inl here
in_front p (x ∷ ps) qs (inr there) = inr (in_front p ps qs there)

pub in_back : (p : Message) (ps qs : List Message) → In p qs → In p (ps ++ qs)
in_back p [] qs at = at
in_back p (x ∷ ps) qs at = inr (in_back p ps qs at)

pub in_either : (p : Message) (ps qs : List Message) → In p (ps ++ qs) → In p ps ⊎ In p qs
in_either p [] qs at = inr at
in_either p (x ∷ ps) qs (inl here) = inl (inl here)
in_either p (x ∷ ps) qs (inr there) = elim (in_either p ps qs there) [ inl old ↦ inl (inr old) | inr new ↦ inr new ]

-- of a list of one
pub in_single : (p q : Message) → In p (q ∷ []) → p ≡ q
in_single p q (inl here) = here
in_single p q (inr none) = absurd none

pub in_dropped : (n : ℕ) (p : Message) (ps : List Message) → In p (drop n ps) → In p ps
in_dropped zero p ps at = at
in_dropped (suc n) p [] at = at
in_dropped (suc n) p (x ∷ ps) at = inr (in_dropped n p ps at)

-- the ops of a chain
pub chain_ops : (clients op parent mark : ℕ) (ss : List Session) (ps : List Message) (p : Message)
    → Chain clients op parent mark ss ps → In p ps → (op ≤ p.header.op) × (p.header.op < op + length ps)
chain_ops clients op parent mark ss [] p chain at = absurd at
chain_ops clients op parent mark ss (x ∷ ps) p chain (inl here) =
    let is : p.header.op ≡ x.header.op = ap (λ (w : Message). w.header.op) here in
    (omega (arith, chain.0.op_is), omega (arith, chain.0.op_is))
chain_ops clients op parent mark ss (x ∷ ps) p chain (inr there) =
    let rest = chain_ops clients (op + 1) x.header.checksum x.header.mark (noted x.header ss) ps p chain.1 there in
    (omega (arith, rest.0), omega (arith, rest.1))

-- and each is at most the last of its group
pub chain_last : (clients op parent mark : ℕ) (ss : List Session) (ps : List Message) (p : Message)
    → Chain clients op parent mark ss ps → In p ps → p.header.op ≤ p.header.group_last
chain_last clients op parent mark ss [] p chain at = absurd at
chain_last clients op parent mark ss (x ∷ ps) p chain (inl here) =
    let is : p.header.op ≡ x.header.op = ap (λ (w : Message). w.header.op) here in
    let last : p.header.group_last ≡ x.header.group_last = ap (λ (w : Message). w.header.group_last) here in
    omega (arith, chain.0.op_is, chain.0.group)
chain_last clients op parent mark ss (x ∷ ps) p chain (inr there) =
    chain_last clients (op + 1) x.header.checksum x.header.mark (noted x.header ss) ps p chain.1 there

-- those from an op on
pub in_drop : (n clients op parent mark : ℕ) (ss : List Session) (ps : List Message) (p : Message)
    → Chain clients op parent mark ss ps → In p ps → op + n ≤ p.header.op → In p (drop n ps)
in_drop zero clients op parent mark ss ps p chain at high = at
in_drop (suc n) clients op parent mark ss [] p chain at high = at
in_drop (suc n) clients op parent mark ss (x ∷ ps) p chain (inl here) high =
    let is : p.header.op ≡ x.header.op = ap (λ (w : Message). w.header.op) here in absurd (omega (arith, chain.0.op_is))
in_drop (suc n) clients op parent mark ss (x ∷ ps) p chain (inr there) high =
    in_drop n clients (op + 1) x.header.checksum x.header.mark (noted x.header ss) ps p chain.1 there (omega arith)

-- an op has one prepare
pub in_one : (clients op parent mark : ℕ) (ss : List Session) (ps : List Message) (p q : Message)
    → Chain clients op parent mark ss ps → In p ps → In q ps → p.header.op ≡ q.header.op → p ≡ q
in_one clients op parent mark ss [] p q chain at other same = absurd at
in_one clients op parent mark ss (x ∷ ps) p q chain (inl here) (inl there) same = here ∙ sym there
in_one clients op parent mark ss (x ∷ ps) p q chain (inl here) (inr there) same =
    let is : p.header.op ≡ x.header.op = ap (λ (w : Message). w.header.op) here in
    let above = chain_ops clients (op + 1) x.header.checksum x.header.mark (noted x.header ss) ps q chain.1 there in
    absurd (omega (arith, chain.0.op_is, above.0))
in_one clients op parent mark ss (x ∷ ps) p q chain (inr there) (inl here) same =
    let is : q.header.op ≡ x.header.op = ap (λ (w : Message). w.header.op) here in
    let above = chain_ops clients (op + 1) x.header.checksum x.header.mark (noted x.header ss) ps p chain.1 there in
    absurd (omega (arith, chain.0.op_is, above.0))
in_one clients op parent mark ss (x ∷ ps) p q chain (inr one) (inr two) same =
    in_one clients (op + 1) x.header.checksum x.header.mark (noted x.header ss) ps p q chain.1 one two same

-- ---- a group

-- the ops of a group
pub turn_ops : (op parent : ℕ) (ps : List Message) (p : Message)
    → AreInTurn op parent ps → In p ps → (op ≤ p.header.op) × (p.header.op < op + length ps)
turn_ops op parent [] p turn at = absurd at
turn_ops op parent (x ∷ ps) p turn (inl here) = let is : p.header.op ≡ x.header.op = ap (λ (w : Message). w.header.op) here in
    (omega (arith, turn.0), omega (arith, turn.0))
turn_ops op parent (x ∷ ps) p turn (inr there) = let rest = turn_ops (op + 1) x.header.checksum ps p turn.2 there in
    (omega (arith, rest.0), omega (arith, rest.1))

-- a group fits where its clients may ask, few enough wait, and each carries this mark
pub turn_chain : (clients op parent mark m last : ℕ) (ss : List Session) (ps : List Message)
    → AreInTurn op parent ps → ((p : Message) → In p ps → (p.header.mark ≡ m) × (p.header.group_last ≡ last))
    → mark ≤ m → m < op → op + length ps ≤ m + 9 → op + length ps ≤ last + 1 → MayAskInTurn clients ss ps → Chain clients op parent mark ss ps
turn_chain clients op parent mark m last ss [] turn each low below near end asks = tt
turn_chain clients op parent mark m last ss (p ∷ ps) turn each low below near end asks = let here = each p (inl refl) in (
  record { op_is = turn.0; parent_is = turn.1; mark_from = omega (arith, here.0); mark_below = omega (arith, here.0); mark_near = omega (arith, here.0); group = omega (arith, here.1); asks = asks.0 },
  turn_chain clients (op + 1) p.header.checksum p.header.mark m last (noted p.header ss) ps turn.2 (λ q at.
      each q (inr at)) (omega (arith, here.0)) (omega arith) (omega arith) (omega arith) asks.1,
)
