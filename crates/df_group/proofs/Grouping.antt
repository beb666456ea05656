-- Groups of prepares, one prepare longer, and of lists that follow one another.
use Rattle.std.proofs.Common.{◌≡◌, ◌↔◌, inl, inr, ℕ, suc, ◌+◌, ◌<◌, List, [], ◌∷◌, ◌++◌, length, refl, sym, subst, arith}
use Rattle.df_theory.{specs.{Units.{Header, Message, Session}, Sessions.{noted, sessions_after}, Tails.{AreGroups, Chain, Fits, FitsGroup, In, last_checksum, last_mark}}, proofs.Laws.{groups_closed}}

-- groups after whole groups
pub groups_join : (f l op low : ℕ) (ps qs : List Message) → l < op + length ps → ((p : Message) → In p ps → p.header.group_last
    < op + length ps) → low < op + length ps → AreGroups f l op ps → AreGroups 0 low (op + length ps) qs → AreGroups f l op (ps ++ qs)
groups_join f l op low [] qs ends each below groups more = let same : op + 0 ≡ op = omega arith in
    groups_closed 0 f low l op qs (omega arith) (omega arith) (rw same at more)
groups_join f l op low (p ∷ ps) qs ends each below groups more = let same : op + suc (length ps) ≡ op + 1 + length ps = omega arith in
    (groups.0, groups_join p.header.group p.header.group_last (op + 1) low ps qs (omega (arith, each p (inl refl))) (λ q at. omega (arith, each q (inr at))) (omega arith) groups.1 (rw same at more))

-- and what stands after these
pub groups_split : (f l op low : ℕ) (ps qs : List Message) → l < op + length ps → ((p : Message) → In p ps
    → p.header.group_last < op + length ps) → low < op + length ps → AreGroups f l op (ps ++ qs) → AreGroups 0 low (op + length ps) qs
groups_split f l op low [] qs ends each below groups = let same : op ≡ op + 0 = omega arith in
    subst (λ (n : ℕ). AreGroups 0 low n qs) same (groups_closed f 0 l low op qs (omega arith) (omega arith) groups)
groups_split f l op low (p ∷ ps) qs ends each below groups = let same : op + 1 + length ps ≡ op + suc (length ps) = omega arith in
    subst (λ (n : ℕ). AreGroups 0 low n qs) same (groups_split p.header.group p.header.group_last
    (op + 1) low ps qs (omega (arith, each p (inl refl))) (λ q at. omega (arith, each q (inr at))) (omega arith) groups.1)

-- the next prepare's group is told by the last one
pub groups_next : (f l op : ℕ) (xs : List Message) (p q : Message) → AreGroups f l op (xs ++ p ∷ [])
    → FitsGroup p.header.group p.header.group_last (op + length xs + 1) q.header ↔ AreGroups f l op ((xs ++ p ∷ []) ++ q ∷ [])
groups_next f l op [] p q groups = let same : op + 0 + 1 ≡ op + 1 = omega arith in (
  λ fits. (groups.0, (rw same at fits, tt)),
  λ all. rw (sym same) at all.1.0,
)
groups_next f l op (x ∷ xs) p q groups = let same : op + suc (length xs) + 1 ≡ op + 1 + length xs + 1 = omega arith in
    let rest = groups_next x.header.group x.header.group_last (op + 1) xs p q groups.1 in (
      λ fits. (groups.0, rest.0 (rw same at fits)),
      λ all. rw (sym same) at (rest.1 all.1),
    )

-- the last of a chain fits what precedes it
pub chain_end : (clients op parent mark : ℕ) (ss : List Session) (xs : List Message) (q : Message) → Chain clients op parent
    mark ss (xs ++ q ∷ []) → Fits clients (op + length xs) (last_checksum parent xs) (last_mark mark xs) (sessions_after ss xs) q.header
chain_end clients op parent mark ss [] q chain = let same : op ≡ op + 0 = omega arith in
    subst (λ (n : ℕ). Fits clients n parent mark ss q.header) same chain.0
chain_end clients op parent mark ss (x ∷ xs) q chain = let same : op + 1 + length xs ≡ op + suc (length xs) = omega arith in
    subst (λ (n : ℕ). Fits clients n (last_checksum x.header.checksum xs) (last_mark x.header.mark xs) (sessions_after
    (noted x.header ss) xs) q.header) same (chain_end clients (op + 1) x.header.checksum x.header.mark (noted x.header ss) xs q chain.1)

-- what fits fits by other words for the same
pub fits_same : (clients o i c d m k : ℕ) (ss ts : List Session) (h : Header)
    → o ≡ i → c ≡ d → m ≡ k → ss ≡ ts → Fits clients o c m ss h → Fits clients i d k ts h
fits_same clients o i c d m k ss ts h op checksum mark sessions fits =
    subst (λ (n : ℕ). Fits clients n d k ts h) op (rw checksum at (rw mark at (rw sessions at fits)))

-- the first of a chain
pub first_in : (clients op parent mark : ℕ) (ss : List Session) (ps : List Message)
    → Chain clients op parent mark ss ps → 0 < length ps → (p : Message) × In p ps × (p.header.op ≡ op)
first_in clients op parent mark ss [] chain some = absurd (omega arith)
first_in clients op parent mark ss (p ∷ ps) chain some = (p, inl refl, chain.0.op_is)

-- ---- lists

pub in_some : (p : Message) (ps : List Message) → In p ps → 0 < length ps
in_some p [] at = absurd at
in_some p (q ∷ ps) at = omega arith

pub in_last : (xs : List Message) (q : Message) → In q (xs ++ q ∷ [])
in_last [] q = inl refl
in_last (x ∷ xs) q = inr (in_last xs q)
