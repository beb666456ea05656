-- One checkpoint a rank, one reply an op, and lists that show the same.
use Rattle.std.proofs.Common.{◌≡◌, inl, inr, ℕ, ◌+◌, ◌<◌, ◌≤◌, List, [], ◌∷◌, length, Some, refl, sym, ◌∙◌, ap, subst, arith}
use Rattle.df_theory.{specs.{Units.{Block, BlockPlace, BlockUnit, Content, Message, Session, Units}, Sessions.{noted}, Tails.{Chain, In, last_mark}, Shape.{Shape, clients}, Copies.{rank_of}, Trailer.{InChain, Links}, View.{Checkpoint, View}, Holds.{Sound}, Chance.{InImages}, Grown.{Grows}, Past.{Was}}, proofs.{Grew.{next_grew}, Steps.{grows_sound}, Sounds.{tracks}, Past.{was_low, was_self}, Settled.{reply_here}}}

-- ---- one base a sequence, one reply an op

pub was_base : (sh : Shape) (images : List Units) (v : View) (grows : Grows sh images v) (a b : View) → Was sh images v grows a
    → Was sh images v grows b → rank_of a.checkpoint.content ≡ rank_of b.checkpoint.content → a.checkpoint ≡ b.checkpoint
was_base sh [] v grows a b was_a was_b same = absurd was_a
was_base sh (image ∷ images) v (holds, inl begins) a b is_a is_b same = ap (λ (x : View). x.checkpoint) (is_a ∙ sym is_b)
was_base sh (image ∷ images) v (holds, inr (history, (u, next, grows))) a b (inl is_a) (inl is_b) same =
    ap (λ (x : View). x.checkpoint) (is_a ∙ sym is_b)
was_base sh (image ∷ images) v (holds, inr (history, (u, next, grows))) a b (inl is_a) (inr was_b) same =
    elim (next_grew sh u v (grows_sound sh images u grows) next.next).checkpoint [
      | inl base ↦ ap (λ (x : View). x.checkpoint) is_a ∙ sym base ∙ was_base sh images u grows u b (was_self sh images u grows)
          was_b (ap (λ (x : Checkpoint). rank_of x.content) base ∙ ap (λ (x : View). rank_of x.checkpoint.content) (sym is_a) ∙ same)
      | inr less ↦ absurd (omega (arith, was_low sh images u grows b was_b, ap (λ (x : View). rank_of x.checkpoint.content) is_a))
    ]
was_base sh (image ∷ images) v (holds, inr (history, (u, next, grows))) a b (inr was_a) (inl is_b) same =
    elim (next_grew sh u v (grows_sound sh images u grows) next.next).checkpoint [
      | inl base ↦ was_base sh images u grows a u was_a (was_self sh images u grows) (same ∙ ap (λ (x : View). rank_of x.checkpoint.content)
          is_b ∙ ap (λ (x : Checkpoint). rank_of x.content) (sym base)) ∙ base ∙ ap (λ (x : View). x.checkpoint) (sym is_b)
      | inr less ↦ absurd (omega (arith, was_low sh images u grows a was_a, ap (λ (x : View). rank_of x.checkpoint.content) is_b))
    ]
was_base sh (image ∷ images) v (holds, inr (history, (u, next, grows))) a b (inr was_a) (inr was_b) same =
    was_base sh images u grows a b was_a was_b same

pub stored_op : (sh : Shape) (v : View) → Sound sh v → (k : ℕ) (r : Message) → v.stored k ≡ Some r → r.header.op ≤ v.replies
stored_op sh v sound k r at = let s = sound.answered k r at in omega (arith, s.2, s.3.op)

pub was_sound : (sh : Shape) (images : List Units) (v : View) (grows : Grows sh images v) (w : View) → Was sh images v grows w → Sound sh w
was_sound sh [] v grows w was = absurd was
was_sound sh (image ∷ images) v (holds, inl begins) w is = subst (λ (x : View). Sound sh x) (sym is) holds.bears.sound
was_sound sh (image ∷ images) v (holds, inr (history, (u, next, grows))) w (inl is) = subst (λ (x : View). Sound sh x) (sym is) holds.bears.sound
was_sound sh (image ∷ images) v (holds, inr (history, (u, next, grows))) w (inr was) = was_sound sh images u grows w was

pub one_stored : (sh : Shape) (v : View)
    → Sound sh v → (k j : ℕ) (r q : Message) → v.stored k ≡ Some r → v.stored j ≡ Some q → r.header.op ≡ q.header.op → r ≡ q
one_stored sh v sound k j r q one two same = let s = sound.answered k r one in let t = sound.answered j q two in
    let place : k ≡ j = (tracks sh v sound).apart k j s.0 t.0 s.1 t.1 (sym s.3.op ∙ same ∙ t.3.op) in
    let both : Some r ≡ Some q = sym one ∙ ap v.stored place ∙ two in cc

pub was_reply : (sh : Shape) (images : List Units) (v : View) (grows : Grows sh images v) (a b : View) (k j : ℕ) (r q : Message)
    → Was sh images v grows a → a.stored k ≡ Some r → Was sh images v grows b → b.stored j ≡ Some q → r.header.op ≡ q.header.op → r ≡ q
was_reply sh [] v grows a b k j r q was_a at_a was_b at_b same = absurd was_a
was_reply sh (image ∷ images) v (holds, inl begins) a b k j r q is_a at_a is_b at_b same = one_stored
    sh v holds.bears.sound k j r q (ap (λ (x : View). x.stored k) (sym is_a) ∙ at_a) (ap (λ (x : View). x.stored j) (sym is_b) ∙ at_b) same
was_reply sh (image ∷ images) v (holds, inr (history, (u, next, grows))) a b k j r q (inl is_a) at_a (inl is_b) at_b same = one_stored
    sh v holds.bears.sound k j r q (ap (λ (x : View). x.stored k) (sym is_a) ∙ at_a) (ap (λ (x : View). x.stored j) (sym is_b) ∙ at_b) same
was_reply sh (image ∷ images) v (holds, inr (history, (u, next, grows))) a b k j r q (inl is_a) at_a (inr was_b) at_b same =
    elim (reply_here u v k r next.next (ap (λ (x : View). x.stored k) (sym is_a) ∙ at_a)) [
      | inl old ↦ was_reply sh images u grows u b k j r q (was_self sh images u grows) old was_b at_b same
      | inr new ↦ absurd (omega (arith, new.3, stored_op sh b (was_sound sh images u grows b was_b) j q at_b, was_low sh images u grows b was_b))
    ]
was_reply sh (image ∷ images) v (holds, inr (history, (u, next, grows))) a b k j r q (inr was_a) at_a (inl is_b) at_b same =
    elim (reply_here u v j q next.next (ap (λ (x : View). x.stored j) (sym is_b) ∙ at_b)) [
      | inl old ↦ was_reply sh images u grows a u k j r q was_a at_a (was_self sh images u grows) old same
      | inr new ↦ absurd (omega (arith, new.3, stored_op sh a (was_sound sh images u grows a was_a) k r at_a, was_low sh images u grows a was_a))
    ]
was_reply sh (image ∷ images) v (holds, inr (history, (u, next, grows))) a b k j r q (inr was_a) at_a (inr was_b) at_b same =
    was_reply sh images u grows a b k j r q was_a at_a was_b at_b same

-- the blocks of a view's trailer were settled
pub was_chain : (sh : Shape) (images : List Units) (v : View) (grows : Grows sh images v) (w : View)
    → Was sh images v grows w → (a : ℕ) (b : Block) → InChain a b w.checkpoint.chain → InImages images (BlockPlace a) (BlockUnit b)
was_chain sh [] v grows w was a b at = absurd was
was_chain sh (image ∷ images) v (holds, inl begins) w is a b at = inl (holds.bears.needs (BlockPlace a) (BlockUnit b) (b, rw is at at, refl))
was_chain sh (image ∷ images) v (holds, inr (history, (u, next, grows))) w (inl is) a b at =
    inl (holds.bears.needs (BlockPlace a) (BlockUnit b) (b, rw is at at, refl))
was_chain sh (image ∷ images) v (holds, inr (history, (u, next, grows))) w (inr was) a b at = inr (was_chain sh images u grows w was a b at)

pub same_links : (room : ℕ) (content : Content) (cs ds : List (ℕ × Block)) (address checksum : ℕ)
    → Links room content cs address checksum → Links room content ds address checksum
    → ((a e : ℕ) (b d : Block) → InChain a b cs → InChain e d ds → b.checksum ≡ d.checksum → b ≡ d) → cs ≡ ds
same_links room content [] [] address checksum one two same = refl
same_links room content [] (d ∷ ds) address checksum one two same = absurd (omega (arith, two.0))
same_links room content (c ∷ cs) [] address checksum one two same = absurd (omega (arith, one.0))
same_links room content (c ∷ cs) (d ∷ ds) address checksum one two same = let place : c.0 ≡ d.0 = one.1 ∙ sym two.1 in
    let block : c.1 ≡ d.1 = same c.0 d.0 c.1 d.1 (inl (refl, refl)) (inl (refl, refl)) (one.2 ∙ sym two.2) in
    let rest : cs ≡ ds = same_links room content cs ds c.1.before c.1.before_checksum one.7 (rw (sym block) at two.7) (λ a e b d at there.
    same a e b d (inr at) (inr there)) in λ i. (place i, block i) ∷ rest i

pub same_chains : (clients op p1 p2 m1 m2 : ℕ) (s1 s2 : List Session) (ps qs : List Message)
    → Chain clients op p1 m1 s1 ps → Chain clients op p2 m2 s2 qs → length ps ≡ length qs
    → ((p q : Message) → In p ps → In q qs → p.header.op ≡ q.header.op → p ≡ q) → ps ≡ qs
same_chains clients op p1 p2 m1 m2 s1 s2 [] [] one two size same = refl
same_chains clients op p1 p2 m1 m2 s1 s2 [] (q ∷ qs) one two size same = absurd (omega arith)
same_chains clients op p1 p2 m1 m2 s1 s2 (p ∷ ps) [] one two size same = absurd (omega arith)
same_chains clients op p1 p2 m1 m2 s1 s2 (p ∷ ps) (q ∷ qs) one two size same =
    let first : p ≡ q = same p q (inl refl) (inl refl) (one.0.op_is ∙ sym two.0.op_is) in let rest : ps ≡ qs =
    same_chains clients (op + 1) _ _ _ _ _ _ ps qs one.1 two.1 (omega arith) (λ a b at there. same a b (inr at) (inr there)) in
    λ i. first i ∷ rest i

-- the last of a chain
pub last_of : (clients op parent mark m : ℕ) (ss : List Session) (ps : List Message) → Chain clients op parent mark ss ps → 0 < length ps
    → (p : Message) × In p ps × (p.header.op + 1 ≡ op + length ps) × (p.header.mark ≡ last_mark m ps) × (p.header.op ≤ p.header.group_last)
last_of clients op parent mark m ss [] chain some = absurd (omega arith)
last_of clients op parent mark m ss (p ∷ []) chain some =
    (p, inl refl, omega (arith, chain.0.op_is), refl, omega (arith, chain.0.op_is, chain.0.group))
last_of clients op parent mark m ss (p ∷ q ∷ ps) chain some =
    let rest = last_of clients (op + 1) p.header.checksum p.header.mark p.header.mark (noted p.header ss) (q ∷ ps) chain.1 (omega arith) in
    (rest.0, inr rest.1, omega (arith, rest.2), rest.3, rest.4)

pub no_mark : (ps : List Message) → length ps ≡ 0 → last_mark 0 ps ≡ 0
no_mark [] is = refl
no_mark (p ∷ ps) is = absurd (omega arith)
