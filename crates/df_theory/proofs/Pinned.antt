-- Prepares up to a named one: a chain is known by the checksum of its last.
use Rattle.std.proofs.Common.{◌≡◌, inl, inr, ℕ, zero, suc, ◌+◌, ◌≤◌, List, [], ◌∷◌, length, take, sym, ◌∙◌, ap, arith}
use Rattle.df_theory.{specs.{Units.{Message, Session}, Sessions.{noted}, Tails.{Chain, In, last_checksum}, Shape.{clients}}, proofs.{Tails.{chain_ops}, Founds.{chain_at}}}

-- the first of a chain names what precedes it
head_parent : (clients op parent mark : ℕ) (ss : List Session) (ps : List Message) (y : Message)
    → Chain clients op parent mark ss ps → In y ps → y.header.op ≡ op → y.header.parent ≡ parent
head_parent clients op parent mark ss [] y chain at is = absurd at
head_parent clients op parent mark ss (z ∷ zs) y chain (inl here) is = ap (λ (w : Message). w.header.parent) here ∙ chain.0.parent_is
head_parent clients op parent mark ss (z ∷ zs) y chain (inr there) is =
    let ops = chain_ops clients (op + 1) z.header.checksum z.header.mark (noted z.header ss) zs y chain.1 there in
    absurd (omega (arith, ops.0))

-- each names the one before it
pub chain_parent : (clients op parent mark : ℕ) (ss : List Session) (ps : List Message) (x y : Message)
    → Chain clients op parent mark ss ps → In x ps → In y ps → y.header.op ≡ x.header.op + 1 → y.header.parent ≡ x.header.checksum
chain_parent clients op parent mark ss [] x y chain at there is = absurd at
chain_parent clients op parent mark ss (z ∷ zs) x y chain (inl here) (inl there) is =
    absurd (omega (arith, ap (λ (w : Message). w.header.op) here, ap (λ (w : Message). w.header.op) there))
chain_parent clients op parent mark ss (z ∷ zs) x y chain (inl here) (inr there) is =
    head_parent clients (op + 1) z.header.checksum z.header.mark (noted z.header ss) zs y chain.1
    there (omega (arith, chain.0.op_is, ap (λ (w : Message). w.header.op) here)) ∙ ap (λ (w : Message). w.header.checksum) (sym here)
chain_parent clients op parent mark ss (z ∷ zs) x y chain (inr at) (inl there) is =
    let ops = chain_ops clients (op + 1) z.header.checksum z.header.mark (noted z.header ss) zs x chain.1 at in
    absurd (omega (arith, ops.0, chain.0.op_is, ap (λ (w : Message). w.header.op) there))
chain_parent clients op parent mark ss (z ∷ zs) x y chain (inr at) (inr there) is =
    chain_parent clients (op + 1) z.header.checksum z.header.mark (noted z.header ss) zs x y chain.1 at there is

-- the checksum of the first n is that of the last of them
pub last_of_take : (clients op parent mark : ℕ) (ss : List Session) (ps : List Message) (n : ℕ) (x : Message)
    → Chain clients op parent mark ss ps → In x ps → x.header.op + 1 ≡ op + n → last_checksum parent (take n ps) ≡ x.header.checksum
last_of_take clients op parent mark ss [] n x chain at is = absurd at
last_of_take clients op parent mark ss (z ∷ zs) zero x chain at is = let ops = chain_ops clients op parent mark ss (z ∷ zs) x chain at in
    absurd (omega (arith, ops.0))
last_of_take clients op parent mark ss (z ∷ zs) (suc m) x chain (inl here) is =
    let none : m ≡ 0 = omega (arith, chain.0.op_is, ap (λ (w : Message). w.header.op) here) in
    ap (λ (k : ℕ). last_checksum z.header.checksum (take k zs)) none ∙ ap (λ (w : Message). w.header.checksum) (sym here)
last_of_take clients op parent mark ss (z ∷ zs) (suc m) x chain (inr there) is =
    last_of_take clients (op + 1) z.header.checksum z.header.mark (noted z.header ss) zs m x chain.1 there (omega arith)

-- two chains whose first n end with one checksum have the same prepares up to there, where one checksum has one prepare
pub same_named : (clients op parent m1 m2 : ℕ) (s1 s2 : List Session) (ps qs : List Message) (n : ℕ)
    → Chain clients op parent m1 s1 ps → Chain clients op parent m2 s2 qs → n ≤ length ps → n ≤ length qs
    → last_checksum parent (take n ps) ≡ last_checksum parent (take n qs)
    → ((p q : Message) → In p ps → In q qs → p.header.checksum ≡ q.header.checksum → p ≡ q)
    → (k : ℕ) (p q : Message) → In p ps → In q qs → p.header.op ≡ q.header.op → p.header.op + 1 + k ≡ op + n → p ≡ q
same_named clients op parent m1 m2 s1 s2 ps qs n one two in_ps in_qs ends distinct zero p q at there same top =
    distinct p q at there (sym (last_of_take clients op parent m1 s1 ps n p one at (omega arith))
    ∙ ends ∙ last_of_take clients op parent m2 s2 qs n q two there (omega arith))
same_named clients op parent m1 m2 s1 s2 ps qs n one two in_ps in_qs ends distinct (suc k) p q at there same top =
    let low = chain_ops clients op parent m1 s1 ps p one at in
    let x = chain_at clients op parent m1 s1 ps (p.header.op + 1) one (omega (arith, low.0)) (omega arith) in
    let y = chain_at clients op parent m2 s2 qs (p.header.op + 1) two (omega (arith, low.0)) (omega arith) in
    let next : x.0 ≡ y.0 = same_named
    clients op parent m1 m2 s1 s2 ps qs n one two in_ps in_qs ends distinct k x.0 y.0 x.1 y.1 (x.2 ∙ sym y.2) (omega (arith, x.2)) in
    distinct p q at there (sym (chain_parent clients op parent m1 s1 ps p x.0 one at x.1 x.2)
    ∙ ap (λ (w : Message). w.header.parent) next ∙ chain_parent clients op parent m2 s2 qs q y.0 two there y.1 (omega (arith, y.2)))
