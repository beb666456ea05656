-- Lists that an image shows are one.
use Rattle.std.proofs.Common.{◌≡◌, inl, inr, ℕ, ◌+◌, ◌%◌, List, [], ◌∷◌, length, Some, refl, sym, ◌∙◌, ap, arith}
use Rattle.df_theory.specs.{Units.{Block, BlockPlace, BlockUnit, Content, Message, Parts, PreparePlace, PrepareUnit, Session, Units}, Tails.{Chain, In}, Shape.{Shape, clients}, Trailer.{InChain, Links, Says}}

-- chains from one op on that show the same at each op are one
pub same_tail : (n : ℕ) (image : Units) (clients op p1 p2 m1 m2 : ℕ) (s1 s2 : List Session) (ps qs : List Message)
    → Chain clients op p1 m1 s1 ps → Chain clients op p2 m2 s2 qs → length ps ≡ length qs
    → ((p : Message) → In p ps → image (PreparePlace (p.header.op % n)) ≡ Some (PrepareUnit p))
    → ((q : Message) → In q qs → image (PreparePlace (q.header.op % n)) ≡ Some (PrepareUnit q)) → ps ≡ qs
same_tail n image clients op p1 p2 m1 m2 s1 s2 [] [] one two same shown there = refl
same_tail n image clients op p1 p2 m1 m2 s1 s2 [] (q ∷ qs) one two same shown there = absurd (omega arith)
same_tail n image clients op p1 p2 m1 m2 s1 s2 (p ∷ ps) [] one two same shown there = absurd (omega arith)
same_tail n image clients op p1 p2 m1 m2 s1 s2 (p ∷ ps) (q ∷ qs) one two same shown there =
    let op_is : p.header.op ≡ q.header.op = one.0.op_is ∙ sym two.0.op_is in
    let first : p ≡ q = (let both : Some (PrepareUnit p) ≡ Some (PrepareUnit q) = sym (shown p (inl refl)) ∙ ap (λ (o : ℕ).
    image (PreparePlace (o % n))) op_is ∙ there q (inl refl) in cc) in let rest : ps ≡ qs =
    same_tail n image clients (op + 1) _ _ _ _ _ _ ps qs one.1 two.1 (omega arith) (λ r at. shown r (inr at)) (λ r at. there r (inr at)) in
    λ i. first i ∷ rest i

pub same_chain : (room : ℕ) (content : Content) (image : Units) (cs ds : List (ℕ × Block)) (address checksum : ℕ)
    → Links room content cs address checksum → Links room content ds address checksum
    → ((a : ℕ) (b : Block) → InChain a b cs → image (BlockPlace a) ≡ Some (BlockUnit b))
    → ((a : ℕ) (b : Block) → InChain a b ds → image (BlockPlace a) ≡ Some (BlockUnit b)) → cs ≡ ds
same_chain room content image [] [] address checksum one two shown there = refl
same_chain room content image [] (d ∷ ds) address checksum one two shown there = absurd (omega (arith, two.0))
same_chain room content image (c ∷ cs) [] address checksum one two shown there = absurd (omega (arith, one.0))
same_chain room content image (c ∷ cs) (d ∷ ds) address checksum one two shown there = let place : c.0 ≡ d.0 = one.1 ∙ sym two.1 in
    let block : c.1 ≡ d.1 = (let both : Some (BlockUnit c.1) ≡ Some (BlockUnit
    d.1) = sym (shown c.0 c.1 (inl (refl, refl))) ∙ ap (λ (a : ℕ). image (BlockPlace a)) place ∙ there d.0 d.1 (inl (refl, refl)) in cc) in
    let rest : cs ≡ ds = same_chain room content image cs ds c.1.before c.1.before_checksum one.7 (rw (sym block) at two.7) (λ a b at.
    shown a b (inr at)) (λ a b at. there a b (inr at)) in λ i. (place i, block i) ∷ rest i

-- one chain says one thing
pub same_says : (sh : Shape) (op : ℕ) (cs : List (ℕ × Block)) (p q : Parts) → Says sh op cs p → Says sh op cs q → p ≡ q
same_says sh op [] p q one two = one ∙ sym two
same_says sh op (c ∷ cs) p q one two = let both : Some p ≡ Some q = sym one ∙ two in cc

pub same_parts : (sh : Shape) (c d : Content) (cs ds : List (ℕ × Block)) (p q : Parts)
    → c ≡ d → cs ≡ ds → Says sh c.op cs p → Says sh d.op ds q → p ≡ q
same_parts sh c d cs ds p q content chain one two =
    same_says sh d.op ds p q (rw (ap (λ (x : Content). x.op) content) at (rw chain at one)) two
