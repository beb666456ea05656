-- Where the walk of an open ends, and what is lost.
use Rattle.std.proofs.{Common.{◌≡◌, inl, inr, ℕ, ◌+◌, ◌%◌, ◌<◌, List, [], ◌∷◌, length, Some, refl, sym, ◌∙◌, ap, arith, length-append}, lemmas.Bool.{cases_eq, cases_lt}}
use Rattle.df_theory.{specs.{Units.{HeaderPlace, IsAlone, Message, PreparePlace, PrepareUnit, Session, Units}, Sessions.{noted, sessions_after}, Tails.{AreGroups, Chain, In, last_checksum, last_mark}, Shape.{Shape, clients}, View.{Checkpoint, boot_of}, Shows.{AgreesPrepare}, Cases.{Takes, seen_header, seen_prepare}, Groups.{AreMore}, Found.{IsReach}, GroupLaws.{AloneLaw, ClearSlotLaw, LostLaw, ShowsGroup, WalkLaw}}, proofs.{Tails.{chain_ops, in_either, in_single}, Agreeing.{IsBelow, below_header, empty_case, near_prepare, old_header, old_prepare}, Founds.{chain_at, header_found, prepare_found}, OneFound.{step_on}}}

same_taken : (n : ℕ) (image : Units) (b : Checkpoint) (p q : Message)
    → Takes n image b.content p → Takes n image b.content q → p.header.op ≡ q.header.op → p ≡ q
same_taken n image b p q one two op = let both : Some (PrepareUnit p) ≡ Some (PrepareUnit q) =
    sym one.shown ∙ ap (λ (o : ℕ). image (PreparePlace (o % n))) op ∙ two.shown in cc

-- what is reached goes on past each list that ends a group
no_longer : (sh : Shape) (image : Units) (b : Checkpoint) (tail more ps : List Message) → IsReach sh image b tail more → ((p : Message) → In p more → b.content.op + length tail + length more < p.header.group_last) → AreMore sh (Takes sh.layout.slots image b.content) b tail ps → ⊥
no_longer sh image b tail more [] reach goes is = omega (arith, is.some)
no_longer sh image b tail more (p ∷ ps) reach goes is = elim (cases_lt (length more) (length (p ∷ ps))) [
  | inl further ↦
      let next = step_on sh.layout.clients (b.content.op + 1 + length tail) (last_checksum b.content.op_checksum tail) (last_mark 0 tail)
      0 (b.content.op + length tail) (sessions_after b.parts.sessions tail) more (p ∷ ps) reach.behind.chain is.behind.chain
      (λ x y at there op.
      same_taken sh.layout.slots image b x y (reach.behind.shown x at) (is.behind.shown y there) op) is.behind.grouped further in
      reach.longest next.0 (record {
        room = omega (arith, is.behind.room, length-append more (next.0 ∷ []));
        shown = λ x at. elim (in_either x more (next.0 ∷ [])
            at) [ inl old ↦ reach.behind.shown x old | inr new ↦ rw (sym (in_single x next.0 new)) at (is.behind.shown next.0 next.1) ];
        chain = next.2;
        grouped = next.3;
      })
  | inr near ↦
      let m = chain_at sh.layout.clients (b.content.op + 1 + length tail) (last_checksum b.content.op_checksum tail) (last_mark 0 tail)
      (sessions_after b.parts.sessions tail) more (b.content.op + 1 + length tail) reach.behind.chain (omega arith) (omega (arith, near)) in
      let one : m.0 ≡ p = same_taken
      sh.layout.slots image b m.0 p (reach.behind.shown m.0 m.1) (is.behind.shown p (inl refl)) (m.2 ∙ sym is.behind.chain.0.op_is) in
      let last : m.0.header.group_last ≡ p.header.group_last = ap (λ (w : Message). w.header.group_last) one in
      omega (arith, goes m.0 m.1, last, is.ends p (inl refl), near)
]

pub walk_law : WalkLaw
walk_law sh image b tail more walk = record {
  chain = walk.chain;
  takes = walk.takes;
  room = walk.room;
  grouped = walk.grouped;
  groups = walk.groups;
  pin_ends = walk.pin_ends;
  reaches = walk.reaches;
  pinned = walk.pinned;
  longest = λ ps is. no_longer sh image b tail more ps walk.reach walk.goes_on is;
}

alone_groups : (clients f l op parent mark : ℕ) (ss : List Session) (ps : List Message)
    → Chain clients op parent mark ss ps → ((p : Message) → In p ps → IsAlone p.header) → l < op → AreGroups f l op ps
alone_groups clients f l op parent mark ss [] chain alone below = tt
alone_groups clients f l op parent mark ss (p ∷ ps) chain alone below = let one = alone p (inl refl) in (
  inl (below, one.first ∙ chain.0.op_is, omega (arith, one.last, chain.0.op_is)),
  alone_groups clients p.header.group p.header.group_last (op + 1) p.header.checksum p.header.mark (noted p.header ss) ps chain.1 (λ q at.
      alone q (inr at)) (omega (arith, one.last, chain.0.op_is)),
)

pub alone_law : AloneLaw
alone_law sh image b tail walk = (
  walk_law sh image b tail [] (record {
    chain = walk.chain;
    takes = walk.takes;
    room = walk.room;
    grouped = alone_groups
        sh.layout.clients 0 b.content.op (b.content.op + 1) b.content.op_checksum 0 b.parts.sessions tail walk.chain alone_in (omega arith);
    groups = λ p at.
        let ops = chain_ops sh.layout.clients (b.content.op + 1) b.content.op_checksum 0 b.parts.sessions tail p walk.chain at in
        omega (arith, (alone_in p at).last, ops.1);
    pin_ends = λ p at low. omega (arith, (alone_in p at).last);
    reaches = walk.reaches;
    pinned = walk.pinned;
    reach = reach;
    goes_on = λ p none. absurd none;
  }),
  reach,
)
  where
    alone_in : (p : Message) → In p tail → IsAlone p.header
    alone_in p at = walk.alone p at

    reach : IsReach sh image b tail []
    reach = record {
      behind = record { room = omega (arith, walk.room); shown = λ p none. absurd none; chain = tt; grouped = tt };
      longest = λ p behind. walk.longest p (omega (arith, behind.room)) (behind.shown p (inl refl)) behind.chain.0;
    }

pub lost_law : LostLaw
lost_law image c top more have = (
  λ none. record {
    header = none.header;
    prepare = λ s p is own. elim (cases_lt top p.header.op) [
      | inl above ↦ let left = none.prepare s p is own above in
          inr (record { boot = have.prepare s p is left.several; first = left.first; several = left.several; above = above })
      | inr low ↦ inl (omega arith)
    ];
    superblock = none.superblock;
    reply = none.reply;
  },
  λ not_lost. let untold : ShowsGroup image c (top + 1)
      → ⊥ = λ shows. omega (arith, not_lost.header shows.0 shows.1 shows.2 shows.3, have.header shows.0 shows.1 shows.2, shows.4) in
      record {
        open_group = λ some. untold;
        header = not_lost.header;
        prepare = λ s p is own above. elim (not_lost.prepare s p is own) [
          | inl low ↦ absurd (omega arith)
          | inr cut ↦ record { first = cut.first; several = cut.several; untold = untold }
        ];
        superblock = not_lost.superblock;
        reply = not_lost.reply;
      },
)

pub clear_slot_law : ClearSlotLaw
clear_slot_law sh image v o places f none above within = empty_case (seen_header (boot_of v) o (image (HeaderPlace (o % sh.layout.slots))))
    (seen_prepare (boot_of v) o (image (PreparePlace (o % sh.layout.slots))))
    (old_header (boot_of v) o (image (HeaderPlace (o % sh.layout.slots))) (λ x is.
    below_header sh v o x (header_found sh image v places f (o % sh.layout.slots) x is) above within))
    (old_prepare (boot_of v) o (image (PreparePlace (o % sh.layout.slots))) (λ x is.
    below x (prepare_found sh image v places f (o % sh.layout.slots) x is)))
  where
    below : (x : Message) → AgreesPrepare sh v (o % sh.layout.slots) x → IsBelow (boot_of v) o x.header
    below x a = let near = near_prepare sh v o x a above within in elim (cases_eq x.header.op o) [
      | inr differs ↦ inl (omega arith)
      | inl same ↦ inr (same, λ own. elim (a.op own) [ inl low ↦ omega arith | inr cut ↦ let some = cut.boot in omega (arith, own, none) ])
    ]
