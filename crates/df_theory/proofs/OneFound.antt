-- An open finds one state.
use Rattle.std.{proofs.{Common.{◌≡◌, inl, inr, ℕ, suc, ◌+◌, ◌-◌, ◌%◌, ◌<◌, ◌≤◌, List, [], ◌∷◌, ◌++◌, length, Option, Some, None, refl, sym, ◌∙◌, ap, arith, length-append}, lemmas.Bool.{cases_lt}}, specs.List.{slice_get}}
use Rattle.df_theory.{specs.{Units.{Content, Message, PreparePlace, PrepareUnit, ReplyUnit, Session, Units}, Sessions.{noted, sessions_after}, Tails.{AreGroups, Chain, In, last_checksum, last_mark}, Shape.{Shape, clients}, View.{Checkpoint, View, sessions}, Cases.{Takes}, Holds.{Holds}, Found.{IsReach, IsReplies, IsStored, IsTail}, ViewLaws.{FoundLaw, OneChosenLaw, OneFoundLaw, OneViewLaw}}, proofs.{Tails.{in_either, in_single}, Choices.{one_chosen}, Founds.{holds_found, found_holds}, OneView.{same_tail, same_chain, same_parts}, Grouped.{groups_closed}}}

-- of two chains that show the same, the longer one goes on from the shorter one, with whole groups
pub goes_on : (clients op parent mark f l low : ℕ) (ss : List Session) (ps qs : List Message) → Chain clients op parent mark ss ps
    → Chain clients op parent mark ss qs → ((p q : Message) → In p ps → In q qs → p.header.op ≡ q.header.op → p ≡ q) → length ps ≤ length qs
    → AreGroups f l op qs → l < op + length ps → ((p : Message) → In p ps → p.header.group_last < op + length ps) → low < op + length ps
    → (rest : List Message) × (length ps + length rest ≡ length qs) × ((q : Message) → In q rest → In q qs) × Chain clients
    (op + length ps) (last_checksum parent ps) (last_mark mark ps) (sessions_after ss ps) rest × AreGroups 0 low (op + length ps) rest
goes_on clients op parent mark f l low ss [] qs one two same less groups ends each below = let zero_more : op ≡ op + 0 = omega arith in
    (qs, omega arith, λ q at. at, rw zero_more at two, rw zero_more at (groups_closed f 0 l low op qs (omega arith) (omega arith) groups))
goes_on clients op parent mark f l low ss (p ∷ ps) [] one two same less groups ends each below = absurd (omega arith)
goes_on clients op parent mark f l low ss (p ∷ ps) (q ∷ qs) one two same less groups ends each below =
    let first : p ≡ q = same p q (inl refl) (inl refl) (one.0.op_is ∙ sym two.0.op_is) in
    let chain : Chain clients (op + 1) p.header.checksum p.header.mark (noted p.header ss) qs = rw (sym first) at two.1 in
    let grouped : AreGroups p.header.group p.header.group_last (op + 1) qs = rw (sym first) at groups.1 in
    let rest = goes_on clients (op + 1) p.header.checksum p.header.mark p.header.group
    p.header.group_last low (noted p.header ss) ps qs one.1 chain (λ x y at there. same x y (inr at) (inr there)) (omega arith)
    grouped (omega (arith, each p (inl refl))) (λ x at. omega (arith, each x (inr at))) (omega arith) in
    let more : op + 1 + length ps ≡ op + suc (length ps) = omega arith in (
      rest.0,
      omega (arith, rest.1),
      λ x at. inr (rest.2 x at),
      rw more at rest.3,
      rw more at rest.4,
    )

-- and so does its next prepare
pub step_on : (clients op parent mark f l : ℕ) (ss : List Session) (ps qs : List Message) → Chain clients op parent mark ss ps → Chain clients op parent mark ss qs → ((p q : Message) → In p ps → In q qs → p.header.op ≡ q.header.op → p ≡ q) → AreGroups f l op qs → length ps < length qs
    → (q : Message)
    × In q qs × Chain clients op parent mark ss (ps ++ q ∷ []) × AreGroups f l op (ps ++ q ∷ []) × (q.header.op ≡ op + length ps)
step_on clients op parent mark f l ss [] [] one two same groups less = absurd (omega arith)
step_on clients op parent mark f l ss [] (q ∷ qs) one two same groups less =
    (q, inl refl, (two.0, tt), (groups.0, tt), omega (arith, two.0.op_is))
step_on clients op parent mark f l ss (p ∷ ps) [] one two same groups less = absurd (omega arith)
step_on clients op parent mark f l ss (p ∷ ps) (q ∷ qs) one two same groups less =
    let first : p ≡ q = same p q (inl refl) (inl refl) (one.0.op_is ∙ sym two.0.op_is) in
    let chain : Chain clients (op + 1) p.header.checksum p.header.mark (noted p.header ss) qs = rw (sym first) at two.1 in
    let grouped : AreGroups p.header.group p.header.group_last (op + 1) qs = rw (sym first) at groups.1 in
    let rest = step_on clients (op + 1) p.header.checksum p.header.mark p.header.group
    p.header.group_last (noted p.header ss) ps qs one.1 chain (λ x y at there. same x y (inr at) (inr there)) grouped (omega arith) in
    (rest.0, inr rest.1, (one.0, rest.2), (rw (sym first) at groups.0, rest.3), omega (arith, rest.4))

-- prepares of one op that are taken are one
same_taken : (n : ℕ) (image : Units) (c : Content) (p q : Message) → Takes n image c p → Takes n image c q → p.header.op ≡ q.header.op → p ≡ q
same_taken n image c p q one two op = let both : Some (PrepareUnit p) ≡ Some (PrepareUnit q) =
    sym one.shown ∙ ap (λ (o : ℕ). image (PreparePlace (o % n))) op ∙ two.shown in cc

not_longer : (sh : Shape) (image : Units) (b : Checkpoint) (ps qs : List Message)
    → IsTail sh image b ps → IsTail sh image b qs → length ps < length qs → ⊥
not_longer sh image b ps qs one two less =
    let more = goes_on sh.layout.clients (b.content.op + 1) b.content.op_checksum 0 0 b.content.op (b.content.op + length ps) b.parts.sessions ps qs one.chain two.chain (λ p q at there op. same_taken sh.layout.slots image b.content p q (one.takes p at) (two.takes q there) op) (omega arith)
    two.grouped (omega arith) (λ p at. omega (arith, one.groups p at)) (omega arith) in one.longest more.0 (record {
      behind = record { room = omega (arith, more.1, two.room); shown = λ p at. two.takes p (more.2 p at); chain = more.3; grouped = more.4 };
      some = omega (arith, more.1);
      ends = λ p at. let low = two.groups p (more.2 p at) in omega (arith, more.1);
    })

-- prepares that are reached from one tail go as far
pub one_reach : (sh : Shape) (image : Units) (b : Checkpoint) (tail ps qs : List Message)
    → IsReach sh image b tail ps → IsReach sh image b tail qs → length ps < length qs → ⊥
one_reach sh image b tail ps qs one two less =
    let next = step_on sh.layout.clients (b.content.op + 1 + length tail) (last_checksum b.content.op_checksum tail)
    (last_mark 0 tail) 0 (b.content.op + length tail) (sessions_after b.parts.sessions tail) ps qs one.behind.chain two.behind.chain
    (λ p q at there op.
    same_taken sh.layout.slots image b.content p q (one.behind.shown p at) (two.behind.shown q there) op) two.behind.grouped less in
    one.longest next.0 (record {
      room = omega (arith, two.behind.room, length-append ps (next.0 ∷ []));
      shown = λ p at. elim (in_either p ps (next.0
          ∷ []) at) [ inl old ↦ one.behind.shown p old | inr new ↦ rw (sym (in_single p next.0 new)) at (two.behind.shown next.0 next.1) ];
      chain = next.2;
      grouped = next.3;
    })

pub one_tail : (sh : Shape) (image : Units) (b : Checkpoint) (ps qs : List Message) → IsTail sh image b ps → IsTail sh image b qs → ps ≡ qs
one_tail sh image b ps qs one two = let size : length ps ≡ length qs = elim (cases_lt (length ps) (length qs)) [
  | inl less ↦ absurd (not_longer sh image b ps qs one two less)
  | inr more ↦ elim (cases_lt (length qs) (length ps)) [
    | inl less ↦ absurd (not_longer sh image b qs ps two one less)
    | inr same ↦ omega arith
  ]
] in same_tail sh.layout.slots image sh.layout.clients (b.content.op + 1) b.content.op_checksum b.content.op_checksum
    0 0 b.parts.sessions b.parts.sessions ps qs one.chain two.chain size (λ p at. (one.takes p at).shown) (λ q at. (two.takes q at).shown)

pub not_more : (image : Units) (c : Content) (tail : List Message) (n m : ℕ) → IsReplies image c tail n → IsReplies image c tail m → n ≤ m
not_more image c tail n m one two = elim one.reached [
  | inl is ↦ omega (arith, two.superblock)
  | inr (inl is) ↦ omega (arith, two.mark)
  | inr (inr is) ↦ omega (arith, two.reply is.0 is.1 is.2 is.4, is.3)
]

pub one_stored : (image : Units) (v u : View) → IsStored image v → IsStored image u
    → sessions v ≡ sessions u → v.replies ≡ u.replies → (k : ℕ) (o p : Option Message) → v.stored k ≡ o → u.stored k ≡ p → o ≡ p
one_stored image v u one two ss rs k None None is at = refl
one_stored image v u one two ss rs k (Some r) (Some q) is at = let s = one.no_more k r is in let a = one.shown k s.0 s.1 s.2 in
    let t = two.no_more k q at in let b = two.shown k t.0 t.1 t.2 in
    let first : a.0 ≡ r = (let both : Some a.0 ≡ Some r = sym a.1 ∙ is in cc) in
    let second : b.0 ≡ q = (let both : Some b.0 ≡ Some q = sym b.1 ∙ at in cc) in
    let same : a.0 ≡ b.0 = (let both : Some (ReplyUnit a.0) ≡ Some (ReplyUnit b.0) = sym a.2 ∙ b.2 in cc) in
    ap Some (sym first ∙ same ∙ second)
one_stored image v u one two ss rs k (Some r) None is at = let s = one.no_more k r is in
    let b = two.shown k s.0 (ap (λ (l : List Session). slice_get l k) (sym ss) ∙ s.1) (omega (arith, s.2)) in
    absurd (let both : Some b.0 ≡ None = sym b.1 ∙ at in cc)
one_stored image v u one two ss rs k None (Some q) is at = let t = two.no_more k q at in
    let a = one.shown k t.0 (ap (λ (l : List Session). slice_get l k) ss ∙ t.1) (omega (arith, t.2)) in
    absurd (let both : Some a.0 ≡ None = sym a.1 ∙ is in cc)

pub one_found_law : OneFoundLaw
one_found_law sh image v u one two = λ i. record { checkpoint = base i; tail = tail i; replies = replies i; stored = λ k. stored k i }
  where
    content : v.checkpoint.content ≡ u.checkpoint.content
    content = one_chosen image v.checkpoint.content u.checkpoint.content one.chosen two.chosen

    chain : v.checkpoint.chain ≡ u.checkpoint.chain
    chain = same_chain (sh.layout.block_size - 256) v.checkpoint.content image v.checkpoint.chain
        u.checkpoint.chain v.checkpoint.content.trailer v.checkpoint.content.trailer_checksum one.checkpoint.trailer.links
        (rw (sym content) at two.checkpoint.trailer.links) one.chain_shown two.chain_shown

    parts : v.checkpoint.parts ≡ u.checkpoint.parts
    parts = same_parts sh v.checkpoint.content u.checkpoint.content v.checkpoint.chain
        u.checkpoint.chain v.checkpoint.parts u.checkpoint.parts content chain one.checkpoint.trailer.says two.checkpoint.trailer.says

    base : v.checkpoint ≡ u.checkpoint
    base = λ i. record { content = content i; chain = chain i; parts = parts i }

    tail : v.tail ≡ u.tail
    tail = one_tail sh image v.checkpoint v.tail u.tail one.tail (rw (sym base) at two.tail)

    replies : v.replies ≡ u.replies
    replies = let moved : IsReplies image v.checkpoint.content v.tail u.replies = rw (sym tail) at (rw (sym content) at two.replies) in
        let up = not_more image v.checkpoint.content v.tail v.replies u.replies one.replies moved in
        let down = not_more image v.checkpoint.content v.tail u.replies v.replies moved one.replies in omega arith

    ss : sessions v ≡ sessions u
    ss = λ i. sessions_after (parts i).sessions (tail i)

    stored : (k : ℕ) → v.stored k ≡ u.stored k
    stored k = one_stored image v u one.stored two.stored ss replies k (v.stored k) (u.stored k) refl refl

-- an image has one view: what it holds is what is found
pub one_view : (sh : Shape) (image : Units) (v u : View) → Holds sh image v → Holds sh image u → v ≡ u
one_view sh image v u one two = one_found_law sh image v u (holds_found sh image v one) (holds_found sh image u two)

pub one_view_law : OneViewLaw
one_view_law = one_view

pub found_law : FoundLaw
found_law sh image v = (holds_found sh image v, λ places f clean. found_holds sh image v places f clean)

pub one_chosen_law : OneChosenLaw
one_chosen_law = one_chosen
