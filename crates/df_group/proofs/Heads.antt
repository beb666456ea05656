-- The head and what is lost after it, told by the prepare that is reached last, and by where the last whole group ends.
use Rattle.std.proofs.Common.{◌≡◌, ◌↔◌, inl, inr, ℕ, ◌+◌, ◌<◌, ◌≤◌, List, [], ◌∷◌, ◌++◌, length, Option, Some, None, refl, sym, ◌∙◌, ap, subst, arith, length-append}
use Rattle.df_theory.{specs.{Units.{Content, Message, Session, Units}, Sessions.{noted}, Shape.{Shape, clients}, Tails.{AreGroups, Chain, In}, View.{Checkpoint}, Found.{NotLost}, GroupLaws.{HaveGroups, ShowsGroup, Walks}}, proofs.Laws.{chain_append, in_either, lost_law}}
use Rattle.df_group.{specs.Words.{HeadLaw, IsHeadBy, IsOpenGroup, IsTornAt, NoneLostBy, SurvivorLaw, last_prepare}, proofs.Grouping.{in_some}}

pub survivor_law : SurvivorLaw
survivor_law image c top s p have low shown above = (
  λ left. record { boot = have.prepare s p shown left.several; first = left.first; several = left.several; above = above },
  λ cut. record { first = cut.first; several = cut.several; untold = λ shows. omega (arith, low shows.0 shows.1 shows.2 shows.3, have.header shows.0 shows.1 shows.2, shows.4) },
)

-- the last of a chain is one of it, with the op of its end
last_chain : (places op parent mark : ℕ) (ss : List Session) (p : Message) (ps : List Message) → Chain places op parent mark ss (p ∷ ps)
    → (q : Message)
    × (last_prepare (Some p) ps ≡ Some q) × In q (p ∷ ps) × (q.header.op + 1 ≡ op + length (p ∷ ps)) × (q.header.op ≤ q.header.group_last)
last_chain places op parent mark ss p [] chain = (p, refl, inl refl, omega (arith, chain.0.op_is), omega (arith, chain.0.op_is, chain.0.group))
last_chain places op parent mark ss p (r ∷ rs) chain =
    let last = last_chain places (op + 1) p.header.checksum p.header.mark (noted p.header ss) r rs chain.1 in
    (last.0, last.1, inr last.2, omega (arith, last.3), last.4)

-- inside a group that goes on past all of these each is of that group
same_group : (first last op reach : ℕ) (ps : List Message) → AreGroups first last op ps → op + length ps ≤ reach + 1
    → op ≤ last → ((q : Message) → In q ps → reach < q.header.group_last) → (q : Message) → In q ps → q.header.group ≡ first
same_group first last op reach [] groups within inside each q at = absurd at
same_group first last op reach (p ∷ ps) groups within inside each q at = elim groups.0 [
  | inl new ↦ absurd (omega (arith, new.0, inside))
  | inr on ↦ elim at [
    | inl here ↦ ap (λ (m : Message). m.header.group) here ∙ on.1
    | inr later ↦ same_group p.header.group p.header.group_last (op + 1)
        reach ps groups.1 (omega (arith, within)) (omega (arith, within, each p (inl refl))) (λ r there. each r (inr there)) q later ∙ on.1
  ]
]

-- so after whole groups all are of the one that begins there
one_group : (top op reach : ℕ) (ps : List Message) → AreGroups 0 top op ps → op ≡ top + 1 → op + length ps ≤ reach + 1
    → ((q : Message) → In q ps → reach < q.header.group_last) → (q : Message) → In q ps → q.header.group ≡ top + 1
one_group top op reach [] groups next within each q at = absurd at
one_group top op reach (p ∷ ps) groups next within each q at = elim groups.0 [
  | inr on ↦ absurd (omega (arith, on.0, next))
  | inl new ↦ elim at [
    | inl here ↦ ap (λ (m : Message). m.header.group) here ∙ new.1 ∙ next
    | inr later ↦ same_group p.header.group p.header.group_last (op + 1) reach ps
        groups.1 (omega (arith, within)) (omega (arith, within, each p (inl refl))) (λ r there. each r (inr there)) q later ∙ new.1 ∙ next
  ]
]

-- the cases, where the head is the end of the last whole group
by_cases : (image : Units) (c : Content) (top reach : ℕ) (more : List Message) (last : Option Message)
    → HaveGroups image → (IsTornAt c reach top last → ⊥) → (0 < length more → ShowsGroup image c (top + 1) → ⊥)
    → NoneLostBy image c reach top last ↔ (NotLost image c top × (top ≡ top))
by_cases image c top reach more last have whole untold = (
  λ none. ((lost_law image c top more have).0 (record { open_group = untold; header = none.header; prepare = none.prepare; superblock = none.superblock; reply = none.reply }), refl),
  λ both. let none = (lost_law image c top more have).1 both.0 in
      record { torn = whole; header = none.header; prepare = none.prepare; superblock = none.superblock; reply = none.reply },
)

at_same : (image : Units) (c : Content) (top end reach : ℕ) (last : Option Message) → top ≡ end → NoneLostBy
    image c reach end last ↔ (NotLost image c end × (end ≡ end)) → NoneLostBy image c reach top last ↔ (NotLost image c end × (top ≡ end))
at_same image c top end reach last same is =
    subst (λ (t : ℕ). NoneLostBy image c reach t last ↔ (NotLost image c end × (t ≡ end))) (sym same) is

-- where a prepare is reached last
reached : (sh : Shape) (image : Units) (b : Checkpoint) (tail more : List Message) (top : ℕ) (q : Message) → HaveGroups image → Walks
    sh image b tail more → In q (tail ++ more) → q.header.op ≡ b.content.op + length tail + length more → q.header.op ≤ q.header.group_last
    → IsHeadBy image b.content (b.content.op + length tail + length more) (Some q) top → NoneLostBy image b.content (b.content.op
    + length tail + length more) top (Some q) ↔ (NotLost image b.content (b.content.op + length tail) × (top ≡ b.content.op + length tail))
reached sh image b tail more top q have walks at op from by = let end : ℕ = b.content.op + length tail in
    let reach : ℕ = b.content.op + length tail + length more in elim (in_either q tail more at) [
      | inl old ↦ let over : q.header.group_last ≡ q.header.op = omega (arith, walks.groups q old, op, from) in
          let none : length more ≡ 0 = omega (arith, walks.groups q old, op, from) in
          let same : top ≡ end = elim by [ inl cut ↦ absurd (cut.0.is_open.open_yet over) | inr stays ↦ omega (arith, stays.1, none) ] in
          at_same image b.content top end reach (Some q) same (by_cases image b.content end reach more (Some q) have (λ torn.
          torn.0.open_yet over) (λ some. absurd (omega (arith, some, none))))
      | inr new ↦ let some : 0 < length more = in_some q more new in let group : q.header.group ≡ end + 1 = one_group
          end (b.content.op + 1 + length tail) reach more walks.reach.behind.grouped (omega arith) (omega arith) walks.goes_on q new in
          let goes : IsOpenGroup b.content q =
          record { above = omega (arith, walks.reaches, op, some); open_yet = λ over. omega (arith, over, op, walks.goes_on q new) } in
          elim by [
            | inl cut ↦ let same : top ≡ end = omega (arith, cut.1, group) in
                at_same image b.content top end reach (Some q) same (by_cases image b.content end reach more (Some q) have (λ torn.
                omega (arith, torn.1, some)) (λ more_too. rw group at cut.0.untold))
            | inr stays ↦ (λ none. absurd (none.torn (goes, stays.1)), λ both. absurd (omega (arith, both.1, stays.1, some)))
          ]
    ]

some_reached : (sh : Shape) (image : Units) (b : Checkpoint) (tail more : List Message) (top : ℕ) (p : Message) (rest : List Message)
    → tail ++ more ≡ p ∷ rest → HaveGroups image → Walks sh image b tail more
    → IsHeadBy image b.content (b.content.op + length tail + length more) (last_prepare None (tail ++ more)) top
    → NoneLostBy image b.content (b.content.op + length tail + length more)
    top (last_prepare None (tail ++ more)) ↔ (NotLost image b.content (b.content.op + length tail) × (top ≡ b.content.op + length tail))
some_reached sh image b tail more top p rest are have walks by = let all =
    chain_append (clients sh) (b.content.op + 1) b.content.op_checksum 0 b.parts.sessions tail more walks.chain walks.reach.behind.chain in
    let last = last_chain (clients sh) (b.content.op + 1) b.content.op_checksum 0 b.parts.sessions p rest (rw are at all) in
    let is : last_prepare None (tail ++ more) ≡ Some last.0 = ap (λ (l : List Message). last_prepare None l) are ∙ last.1 in
    let size : length (p ∷ rest) ≡ length tail + length more = sym (ap (λ (l : List Message). length l) are) ∙ length-append tail more in
    let told = reached
    sh image b tail more top last.0 have walks (subst (λ (l : List Message). In last.0 l) (sym are) last.2) (omega (arith, last.3, size))
    last.4 (subst (λ (x : Option Message). IsHeadBy image b.content (b.content.op + length tail + length more) x top) is by) in
    subst (λ (x : Option Message). NoneLostBy image b.content (b.content.op + length tail
    + length more) top x ↔ (NotLost image b.content (b.content.op + length tail) × (top ≡ b.content.op + length tail))) (sym is) told

pub head_law : HeadLaw
head_law sh image b [] [] top have walks by = at_same image b.content top (b.content.op + 0) (b.content.op + 0 + 0) None (omega (arith, by))
    (by_cases image b.content (b.content.op + 0) (b.content.op + 0 + 0) [] None have (λ torn. torn) (λ some. absurd (omega (arith, some))))
head_law sh image b [] (p ∷ ps) top have walks by = some_reached sh image b [] (p ∷ ps) top p ps refl have walks by
head_law sh image b (p ∷ ts) more top have walks by = some_reached sh image b (p ∷ ts) more top p (ts ++ more) refl have walks by
