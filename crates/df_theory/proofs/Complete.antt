-- An open of any image has an answer.
use Rattle.std.{proofs.{Common.{◌≡◌, ◌⊎◌, inl, inr, ℕ, zero, suc, ◌+◌, ◌-◌, ◌%◌, ◌^◌, ◌<◌, ◌≤◌, List, [], ◌∷◌, ◌++◌, length, take, Option, Some, None, refl, sym, ◌∙◌, ap, subst, arith, length-append, append_assoc, append-nil}, lemmas.Bool.{cases_eq, cases_lt}, lemmas.List.{take-append-le}, lemmas.Option.{slice_get_within}, Math.Seq.{take-length}}, specs.List.{slice_get}}
use Rattle.df_theory.{specs.{Units.{AnyUnit, Block, BlockPlace, BlockUnit, Content, CopyPlace, CopyUnit, HeaderUnit, Message, PreparePlace, PrepareUnit, ReplyPlace, ReplyUnit, Session, Units}, Sessions.{noted, sessions_after}, Tails.{AreGroups, AreWholeGroups, Chain, EndsAt, In, last_checksum, last_mark}, Shape.{Shape, clients, slots}, Copies.{Agree, IsChosen, IsSplit, rank_of}, Trailer.{IsReference}, View.{Checkpoint, PassesTests, View}, Cases.{Takes}, Groups.{AreBehind, AreMore}, Found.{AreOfPlaces, IsFound, IsLongest, IsReach, IsReplies, IsStored, IsTail, NotBehind, NotLost}, Opens.{AreFitting, AreKnown, BadTrailer, Behind, IsAnswered, IsReadable, IsShown, IsUnfit, IsUsableSuperblock, LacksBlock, LacksKnown, LacksReply, Lost, OpenAnswer, Opened, Opens, ReachesReplies, ReachesTail, ReadsTo, Spent, Split, Unanswered, Unfit, Unknown, Unusable, named_by}, ViewLaws.{AnAnswerLaw}}, proofs.{Tails.{chain_ops, in_either}, Sessions.{chain_append}, Grouped.{groups_append}, Keeps.{four}, KnownLaws.{known_ends_law}}}

-- ---- choices

-- of two opposites one holds
either : (P : Type 0) → ((P ⊎ (P → ⊥)) → ⊥) → ⊥
either P f = f (inr (λ p. f (inl p)))

-- where a number has a property, a least one has
least : (Q : ℕ → Type 0) (fuel n : ℕ) → n ≤ fuel → Q n → ((m : ℕ) → Q m → ((k : ℕ) → Q k → m ≤ k) → ⊥) → ⊥
least Q zero n low at f = f n at (λ k other. omega (arith, low))
least Q (suc fuel) n low at f = either ((k : ℕ) × (k < n) × Q k) (λ e. elim e [
  | inl less ↦ least Q fuel less.0 (omega (arith, less.1, low)) less.2 f
  | inr none ↦ f n at (λ k other. elim (cases_lt k n) [ inl below ↦ absurd (none (k, below, other)) | inr not ↦ not ])
])

-- and where these are bounded, a greatest one
greatest : (Q : ℕ → Type 0) (bound n : ℕ) → ((k : ℕ) → Q k → k ≤ bound) → Q n → ((m : ℕ) → Q m → ((k : ℕ) → Q k → k ≤ m) → ⊥) → ⊥
greatest Q bound n high at f = least (λ j.
    (k : ℕ) × Q k × (k + j ≡ bound)) bound (bound - n) (omega arith) (n, at, omega (arith, high n at)) (λ j is low. f is.0 is.1 (λ k other.
    let up = high k other in let down = low (bound - k) (k, other, omega (arith, up)) in omega (arith, is.2, up, down)))

-- ---- the vote

abbrev rank_in : Option AnyUnit → ℕ
rank_in (Some (CopyUnit c)) = rank_of c
rank_in (Some x) = 0
rank_in None = 0

agree_low : (image : Units) (c : Content)
    → Agree image c → rank_of c ≤ rank_in (image (CopyPlace 1)) + rank_in (image (CopyPlace 2)) + rank_in (image (CopyPlace 3))
agree_low image c a = let at : rank_in (image (CopyPlace a.second)) ≡ rank_of c = ap rank_in a.at_second in elim (four a.second a.inside) [
  | inl is ↦ absurd (omega (arith, a.apart, is))
  | inr (inl is) ↦ omega (arith, at, ap (λ (n : ℕ). rank_in (image (CopyPlace n))) is)
  | inr (inr (inl is)) ↦ omega (arith, at, ap (λ (n : ℕ). rank_in (image (CopyPlace n))) is)
  | inr (inr (inr is)) ↦ omega (arith, at, ap (λ (n : ℕ). rank_in (image (CopyPlace n))) is)
]

split_or_chosen : (image : Units) → ((c : Content) → IsChosen image c → ⊥) → IsSplit image
split_or_chosen image none c a = greatest (λ r. (d : Content) × Agree image d
    × (rank_of d ≡ r)) (rank_in (image (CopyPlace 1)) + rank_in (image (CopyPlace 2)) + rank_in (image (CopyPlace 3))) (rank_of c)
    (λ k q. omega (arith, agree_low image q.0 q.1, q.2)) (c, a, refl)
    (λ m is high. least (λ n. (n < 4) × ((d : Content) × Agree image d × (rank_of d ≡ m) × (image (CopyPlace n) ≡ Some (CopyUnit d))))
    4 is.1.first (omega (arith, is.1.apart, is.1.inside)) (omega (arith, is.1.apart, is.1.inside), (is.0, is.1, is.2, is.1.at_first))
    (λ n here low. none here.1.0 (record {
      agreed = here.1.1;
      greatest = λ e other. omega (arith, high (rank_of e) (e, other, refl), here.1.2);
      lowest = λ e other tie k below shown. (n, low k (below, (e, other, tie ∙ here.1.2, shown)), here.1.3);
    })))

-- ---- the trailer

shown_or_not : (image : Units) (a k : ℕ) → IsShown image a k ⊎ (IsShown image a k → ⊥)
shown_or_not image a k = go (image (BlockPlace a)) refl
  where
    go : (o : Option AnyUnit) → image (BlockPlace a) ≡ o → IsShown image a k ⊎ (IsShown image a k → ⊥)
    go None is = inr (λ s. let both : None ≡ Some (BlockUnit s.0) = sym is ∙ s.1 in cc)
    go (Some (CopyUnit c)) is = inr (λ s. let both : Some (CopyUnit c) ≡ Some (BlockUnit s.0) = sym is ∙ s.1 in cc)
    go (Some (HeaderUnit h)) is = inr (λ s. let both : Some (HeaderUnit h) ≡ Some (BlockUnit s.0) = sym is ∙ s.1 in cc)
    go (Some (PrepareUnit p)) is = inr (λ s. let both : Some (PrepareUnit p) ≡ Some (BlockUnit s.0) = sym is ∙ s.1 in cc)
    go (Some (ReplyUnit r)) is = inr (λ s. let both : Some (ReplyUnit r) ≡ Some (BlockUnit s.0) = sym is ∙ s.1 in cc)
    go (Some (BlockUnit b)) is = elim (cases_eq b.checksum k) [
      | inl same ↦ elim (cases_eq b.kind 0) [
        | inl none ↦ inl (b, is, same, none)
        | inr some ↦ inr (λ s. some (ap (λ (x : Block). x.kind) (one s) ∙ s.3))
      ]
      | inr differs ↦ inr (λ s. differs (ap (λ (x : Block). x.checksum) (one s) ∙ s.2))
    ]
      where
        one : (s : IsShown image a k) → b ≡ s.0
        one s = let both : Some (BlockUnit b) ≡ Some (BlockUnit s.0) = sym is ∙ s.1 in cc

-- ---- the prepares that are named

known_all : (sh : Shape) (image : Units) (c : Content) → ((a : ℕ) → LacksKnown sh image c a → ⊥) → (j : ℕ)
    → j + c.op ≤ c.pin → ((ps : List Message) → AreKnown sh.layout.slots image (c.pin - j + 1) c.pin_checksum ps → length ps ≡ j → ⊥) → ⊥
known_all sh image c none zero low f = f [] tt refl
known_all sh image c none (suc j) low f = known_all sh image c none j (omega (arith, low)) (λ ps known size.
    let next : c.pin - j ≡ c.pin - suc j + 1 = omega (arith, low) in
    either ((p : Message) × (image (PreparePlace ((c.pin - j) % sh.layout.slots)) ≡ Some (PrepareUnit p))
    × (p.header.checksum ≡ named_by c.pin_checksum ps)) (λ e. elim e [
      | inl at ↦ f (at.0 ∷ ps) (rw next at at.1, at.2, rw next at known) (omega (arith, size))
      | inr fails ↦ none (c.pin - j) (record { read = ps; known = known; count = omega (arith, size, low); above = omega (arith, low); lacks = λ p shown sum. fails (p, shown, sum) })
    ]))

all_fitting : (sh : Shape) (image : Units) (b : Checkpoint) → ((front : List Message) → IsUnfit sh image b front → ⊥)
    → (front rest : List Message) → AreKnown sh.layout.slots image (b.content.op + 1) b.content.pin_checksum (front ++ rest)
    → b.content.op + length (front ++ rest) ≡ b.content.pin → AreFitting sh b front → (AreFitting sh b (front ++ rest) → ⊥) → ⊥
all_fitting sh image b none front [] known count fits f = f (rw (sym (append-nil front)) at fits)
all_fitting sh image b none front (x ∷ rest) known count fits f =
    let split : (front ++ x ∷ []) ++ rest ≡ front ++ x ∷ rest = append_assoc front (x ∷ []) rest in
    either (AreFitting sh b (front ++ x ∷ [])) (λ e. elim e [
      | inl holds ↦ all_fitting sh image b none (front ++ x ∷ []) rest (rw (sym split) at known) (rw (sym split) at count) holds
          (λ all. f (rw split at all))
      | inr fails ↦ none front (record { next = x; rest = rest; known = known; count = count; fits = fits; fails = fails })
    ])

-- where the last one ends its group, each does
groups_end : (clients f l op parent mark : ℕ) (ss : List Session) (ps : List Message) (top : ℕ) → Chain clients op parent mark ss ps
    → AreGroups f l op ps → op + length ps ≡ top + 1 → ((p : Message) → In p ps → p.header.op ≡ top → p.header.group_last ≤ top)
    → (p : Message) → In p ps → p.header.group_last ≤ top
groups_end clients f l op parent mark ss [] top chain groups size ends p at = absurd at
groups_end clients f l op parent mark ss (x ∷ []) top chain groups size ends p (inl is) =
    omega (arith, ends x (inl refl) (omega (arith, chain.0.op_is, size)), ap (λ (w : Message). w.header.group_last) is)
groups_end clients f l op parent mark ss (x ∷ []) top chain groups size ends p (inr none) = absurd none
groups_end clients f l op parent mark ss (x ∷ y ∷ ps) top chain groups size ends p (inl is) = elim groups.1.0 [
  | inl new ↦ omega (arith, new.0, size, ap (λ (w : Message). w.header.group_last) is)
  | inr old ↦ omega (arith, old.2, groups_end clients x.header.group x.header.group_last (op + 1) x.header.checksum x.header.mark (noted x.header ss) (y ∷ ps) top chain.1 groups.1 (omega (arith, size)) (λ q at. ends q (inr at)) y (inl refl), ap (λ (w : Message). w.header.group_last) is)
]
groups_end clients f l op parent mark ss (x ∷ y ∷ ps) top chain groups size ends p (inr there) =
    groups_end clients x.header.group x.header.group_last (op + 1) x.header.checksum
    x.header.mark (noted x.header ss) (y ∷ ps) top chain.1 groups.1 (omega (arith, size)) (λ q at. ends q (inr at)) p there

known_shown : (n : ℕ) (image : Units) (clients op parent mark c : ℕ) (ss : List Session) (ps : List Message) → Chain clients op
    parent mark ss ps → AreKnown n image op c ps → (p : Message) → In p ps → image (PreparePlace (p.header.op % n)) ≡ Some (PrepareUnit p)
known_shown n image clients op parent mark c ss [] chain known p at = absurd at
known_shown n image clients op parent mark c ss (x ∷ ps) chain known p (inl is) =
    subst (λ (w : Message). image (PreparePlace (w.header.op % n))
    ≡ Some (PrepareUnit w)) (sym is) (ap (λ (o : ℕ). image (PreparePlace (o % n))) chain.0.op_is ∙ known.0)
known_shown n image clients op parent mark c ss (x ∷ ps) chain known p (inr there) =
    known_shown n image clients (op + 1) x.header.checksum x.header.mark c (noted x.header ss) ps chain.1 known.2 p there

-- ---- the tail

-- a tail that may go on
record IsWalk (sh : Shape) (image : Units) (b : Checkpoint) (tail : List Message) : Type 0 where
  pub chain : Chain (clients sh) (b.content.op + 1) b.content.op_checksum 0 b.parts.sessions tail
  pub takes : (p : Message) → In p tail → Takes (slots sh) image b.content p
  pub room : length tail ≤ slots sh
  pub grouped : AreGroups 0 b.content.op (b.content.op + 1) tail
  pub groups : AreWholeGroups (b.content.op + length tail) tail
  pub pin_ends : EndsAt b.content.pin tail
  pub reaches : b.content.pin ≤ b.content.op + length tail
  pub pinned : last_checksum b.content.op_checksum (take (b.content.pin - b.content.op) tail) ≡ b.content.pin_checksum

ends_tail : (sh : Shape) (image : Units) (b : Checkpoint) (tail : List Message)
    → IsWalk sh image b tail → IsLongest sh image b tail → IsTail sh image b tail
ends_tail sh image b tail walk longest = record { chain = walk.chain; takes = walk.takes; room = walk.room; grouped = walk.grouped; groups = walk.groups; pin_ends = walk.pin_ends; reaches = walk.reaches; pinned = walk.pinned; longest = longest }

named_sum : (sh : Shape) (image : Units) (b : Checkpoint) (ps : List Message) → PassesTests sh b.content → AreKnown sh.layout.slots image (b.content.op + 1) b.content.pin_checksum ps → b.content.op + length ps ≡ b.content.pin → last_checksum b.content.op_checksum ps ≡ b.content.pin_checksum
named_sum sh image b [] tests known count = sym (tests.pin_checksum (omega (arith, count)))
named_sum sh image b (p ∷ ps) tests known count =
    known_ends_law sh.layout.slots image (b.content.op + 1) b.content.pin_checksum b.content.op_checksum (p ∷ ps) known (omega arith)

named_walk : (sh : Shape) (image : Units) (b : Checkpoint) (ps : List Message) → PassesTests sh b.content → AreKnown sh.layout.slots image
    (b.content.op + 1) b.content.pin_checksum ps → b.content.op + length ps ≡ b.content.pin → AreFitting sh b ps → IsWalk sh image b ps
named_walk sh image b ps tests known count fits =
    let each : (p : Message) → In p ps → p.header.group_last ≤ b.content.pin = groups_end sh.layout.clients 0 b.content.op
    (b.content.op + 1) b.content.op_checksum 0 b.parts.sessions ps b.content.pin fits.chain fits.grouped (omega (arith, count)) fits.ends in
    let all : b.content.pin - b.content.op ≡ length ps = omega (arith, count) in record {
      chain = fits.chain;
      takes = λ p at. record {
        shown = known_shown sh.layout.slots image
            sh.layout.clients (b.content.op + 1) b.content.op_checksum 0 b.content.pin_checksum b.parts.sessions ps fits.chain known p at;
        take = λ above. absurd (omega (arith, above, count, chain_ops sh.layout.clients (b.content.op + 1) b.content.op_checksum 0 b.parts.sessions ps p fits.chain at));
      };
      room = omega (arith, count, tests.pin, tests.head);
      grouped = fits.grouped;
      groups = λ p at. omega (arith, each p at, count);
      pin_ends = λ p at low. each p at;
      reaches = omega (arith, count);
      pinned = ap (λ (k : ℕ). last_checksum b.content.op_checksum (take k ps)) all
          ∙ ap (λ (l : List Message). last_checksum b.content.op_checksum l) (take-length ps) ∙ named_sum sh image b ps tests known count;
    }

more_walk : (sh : Shape) (image : Units) (b : Checkpoint) (tail more : List Message)
    → IsWalk sh image b tail → AreMore sh (Takes sh.layout.slots image b.content) b tail more → IsWalk sh image b (tail ++ more)
more_walk sh image b tail more walk is = let up : b.content.op + 1 + length tail ≡ b.content.op + 1 + length tail = refl in
    let size : length (tail ++ more) ≡ length tail + length more = length-append tail more in record {
      chain = chain_append sh.layout.clients (b.content.op + 1) b.content.op_checksum 0 b.parts.sessions tail more walk.chain is.behind.chain;
      takes = λ p at. elim (in_either p tail more at) [ inl old ↦ walk.takes p old | inr new ↦ is.behind.shown p new ];
      room = omega (arith, size, is.behind.room);
      grouped = groups_append 0 b.content.op (b.content.op + 1) tail more (b.content.op + length tail) walk.grouped (omega arith) (λ p at.
          omega (arith, walk.groups p at)) (omega arith) is.behind.grouped;
      groups = λ p at. elim (in_either
          p tail more at) [ inl old ↦ omega (arith, walk.groups p old, size) | inr new ↦ omega (arith, is.ends p new, size) ];
      pin_ends = λ p at low. elim (in_either p tail more at) [
        | inl old ↦ walk.pin_ends p old low
        | inr new ↦ absurd (omega (arith, low, walk.reaches, chain_ops sh.layout.clients (b.content.op + 1 + length tail) (last_checksum b.content.op_checksum tail) (last_mark 0 tail) (sessions_after b.parts.sessions tail) more p is.behind.chain new))
      ];
      reaches = omega (arith, size, walk.reaches);
      pinned = ap (λ (l : List Message). last_checksum b.content.op_checksum l)
          (take-append-le (b.content.pin - b.content.op) tail more (omega (arith, walk.reaches))) ∙ walk.pinned;
    }

longest_walk : (sh : Shape) (image : Units) (b : Checkpoint) (fuel : ℕ) (tail : List Message)
    → IsWalk sh image b tail → slots sh ≤ length tail + fuel → ((t : List Message) → IsTail sh image b t → ⊥) → ⊥
longest_walk sh image b zero tail walk low f = f tail (ends_tail sh image b tail walk (λ ps is. omega (arith, is.behind.room, is.some, low)))
longest_walk sh image b (suc fuel) tail walk low f =
    either ((ps : List Message) × AreMore sh (Takes sh.layout.slots image b.content) b tail ps) (λ e. elim e [
      | inl more ↦ longest_walk sh image b fuel
          (tail ++ more.0) (more_walk sh image b tail more.0 walk more.1) (omega (arith, length-append tail more.0, more.1.some, low)) f
      | inr fails ↦ f tail (ends_tail sh image b tail walk (λ ps is. fails (ps, is)))
    ])

longest_reach : (sh : Shape) (image : Units) (b : Checkpoint) (tail : List Message) (fuel : ℕ) (more : List Message) → AreBehind sh (Takes sh.layout.slots image b.content) b tail more → slots sh ≤ length tail + length more + fuel → ((m : List Message) → IsReach sh image b tail m → ⊥) → ⊥
longest_reach sh image b tail zero more is low f =
    f more (record { behind = is; longest = λ p further. omega (arith, further.room, length-append more (p ∷ []), low) })
longest_reach sh image b tail (suc fuel) more is low f =
    either ((p : Message) × AreBehind sh (Takes sh.layout.slots image b.content) b tail (more ++ p ∷ [])) (λ e. elim e [
      | inl further ↦
          longest_reach sh image b tail fuel (more ++ further.0 ∷ []) further.1 (omega (arith, length-append more (further.0 ∷ []), low)) f
      | inr fails ↦ f more (record { behind = is; longest = λ p further. fails (p, further) })
    ])

-- ---- the replies

abbrev Counts : Units → Content → List Message → ℕ → Type 0
Counts image c tail n = (c.replies ≡ n) ⊎ (last_mark 0 tail ≡ n)
    ⊎ ((k : ℕ) × (r : Message) × (image (ReplyPlace k) ≡ Some (ReplyUnit r)) × (r.header.op ≡ n) × (r.header.boot ≡ c.boot))

counted : (sh : Shape) (image : Units) (c : Content) (tail : List Message)
    → AreOfPlaces sh image → ((n : ℕ) → IsReplies image c tail n → ⊥) → ⊥
counted sh image c tail places f =
    greatest (Counts image c tail) (c.replies + last_mark 0 tail + 2 ^ 62) c.replies bounded (inl refl) (λ n is high. f n (record {
      superblock = high c.replies (inl refl);
      mark = high (last_mark 0 tail) (inr (inl refl));
      reply = λ k r shown own. high r.header.op (inr (inr (k, r, shown, refl, own)));
      reached = is;
    }))
  where
    bounded : (n : ℕ) → Counts image c tail n → n ≤ c.replies + last_mark 0 tail + 2 ^ 62
    bounded n (inl is) = omega (arith, is)
    bounded n (inr (inl is)) = omega (arith, is)
    bounded n (inr (inr (k, r, shown, is, own))) = let p = places (ReplyPlace k) (ReplyUnit r) shown in
        let same : p.0 ≡ r = (let e = p.1 in cc) in omega (arith, p.2.op.1, ap (λ (w : Message). w.header.op) same, is)

-- each stored reply is shown, or a first one lacks
all_answered : (image : Units) (c : Content) (ss : List Session) (n : ℕ) → ((k : ℕ) → LacksReply image c ss n k → ⊥)
    → (j : ℕ) → (((k : ℕ) (s : Session) → k < j → slice_get ss k ≡ Some s → s.op ≤ n → IsAnswered image c k s) → ⊥) → ⊥
all_answered image c ss n none zero f = f (λ k s low at stored. absurd (omega (arith, low)))
all_answered image c ss n none (suc j) f = all_answered image c ss n none j (λ below. by_session below (slice_get ss j) refl)
  where
    by_session : ((k : ℕ) (s : Session) → k < j → slice_get ss k ≡ Some s → s.op ≤ n → IsAnswered image c k s)
        → (o : Option Session) → slice_get ss j ≡ o → ⊥
    by_session below None is = f (λ k s low at stored. elim (cases_eq k j) [
      | inl same ↦ absurd (let both : None ≡ Some s = sym is ∙ ap (λ (i : ℕ). slice_get ss i) (sym same) ∙ at in cc)
      | inr differs ↦ below k s (omega (arith, low, differs)) at stored
    ])
    by_session below (Some t) is = either (IsAnswered image c j t) (λ e. elim e [
      | inl holds ↦ f (λ k s low at stored. elim (cases_eq k j) [
        | inl same ↦ let one : t ≡ s = (let both : Some t ≡ Some s = sym is ∙ ap (λ (i : ℕ). slice_get ss i) (sym same) ∙ at in cc) in
            rw (sym same) at (rw one at holds)
        | inr differs ↦ below k s (omega (arith, low, differs)) at stored
      ])
      | inr fails ↦ elim (cases_lt n t.op) [
        | inl above ↦ f (λ k s low at stored. elim (cases_eq k j) [
          | inl same ↦ let one : t ≡ s = (let both : Some t ≡ Some s = sym is ∙ ap (λ (i : ℕ). slice_get ss i) (sym same) ∙ at in cc) in
              absurd (omega (arith, above, stored, ap (λ (x : Session). x.op) one))
          | inr differs ↦ below k s (omega (arith, low, differs)) at stored
        ])
        | inr not ↦ none j (record { session = t; at = is; stored = not; lacks = fails; first = λ i s low at stored. below i s low at stored })
      ]
    ])

abbrev kept_by : (n o : ℕ) → (n < o) ⊎ (o ≤ n) → Message → Option Message
kept_by n o (inl above) r = None
kept_by n o (inr low) r = Some r

abbrev stored_by : ℕ → Option Session → Option AnyUnit → Option Message
stored_by n (Some s) (Some (ReplyUnit r)) = kept_by n s.op (cases_lt n s.op) r
stored_by n (Some s) (Some x) = None
stored_by n (Some s) None = None
stored_by n None o = None

kept_low : (n o : ℕ) (e : (n < o) ⊎ (o ≤ n)) (r : Message) → o ≤ n → kept_by n o e r ≡ Some r
kept_low n o (inl above) r low = absurd (omega (arith, above, low))
kept_low n o (inr low_is) r low = refl

kept_is : (n o : ℕ) (e : (n < o) ⊎ (o ≤ n)) (r q : Message) → kept_by n o e r ≡ Some q → o ≤ n
kept_is n o (inl above) r q is = absurd (let both : None ≡ Some q = is in cc)
kept_is n o (inr low_is) r q is = low_is

stored_session : (n : ℕ) (o : Option Session) (u : Option AnyUnit) (r : Message)
    → stored_by n o u ≡ Some r → (s : Session) × (o ≡ Some s) × (s.op ≤ n)
stored_session n None u r is = absurd (let both : None ≡ Some r = is in cc)
stored_session n (Some s) None r is = absurd (let both : None ≡ Some r = is in cc)
stored_session n (Some s) (Some (ReplyUnit q)) r is = (s, refl, kept_is n s.op (cases_lt n s.op) q r is)
stored_session n (Some s) (Some (CopyUnit c)) r is = absurd (let both : None ≡ Some r = is in cc)
stored_session n (Some s) (Some (HeaderUnit h)) r is = absurd (let both : None ≡ Some r = is in cc)
stored_session n (Some s) (Some (PrepareUnit p)) r is = absurd (let both : None ≡ Some r = is in cc)
stored_session n (Some s) (Some (BlockUnit b)) r is = absurd (let both : None ≡ Some r = is in cc)

abbrev view_of : Units → Checkpoint → List Message → ℕ → View
view_of image b tail n = record { checkpoint = b; tail = tail; replies = n; stored = λ k. stored_by n (slice_get (sessions_after b.parts.sessions tail) k) (image (ReplyPlace k)) }

is_stored : (image : Units) (b : Checkpoint) (tail : List Message) (n : ℕ) → ((k : ℕ) (s : Session) → slice_get
    (sessions_after b.parts.sessions tail) k ≡ Some s → s.op ≤ n → IsAnswered image b.content k s) → IsStored image (view_of image b tail n)
is_stored image b tail n answered = record {
  shown = λ k s at low. let a = answered k s at low in
      (a.0, ap (λ (o : Option Session). stored_by n o (image (ReplyPlace k))) at ∙ ap (λ (u : Option AnyUnit). stored_by n (Some s) u) a.1 ∙ kept_low n s.op (cases_lt n s.op) a.0 low, a.1, a.2, a.3);
  no_more = λ k r is. stored_session n (slice_get (sessions_after b.parts.sessions tail) k) (image (ReplyPlace k)) r is;
}

-- ---- step by step

module _ (sh : Shape) (image : Units) (places : AreOfPlaces sh image) (none : (x : OpenAnswer) → Opens sh image x → ⊥) where
  from_replies : (b : Checkpoint) (tail : List Message) (n : ℕ) → ReachesReplies sh image b tail n → ⊥
  from_replies b tail n reaches = all_answered image b.content (sessions_after b.parts.sessions tail) n (λ k lacks.
      none _ (Unanswered b tail n k reaches lacks)) (length (sessions_after b.parts.sessions tail)) (λ answered.
      let found : IsFound sh image (view_of image b tail n) = record {
        chosen = reaches.reaches.readable.chosen;
        checkpoint = reaches.reaches.readable.sound;
        chain_shown = reaches.reaches.readable.shown;
        not_behind = reaches.reaches.not_behind;
        tail = reaches.reaches.tail_is;
        not_lost = reaches.not_lost;
        replies = reaches.replies;
        stored = is_stored image b tail n (λ k s at low. answered k s (slice_get_within (sessions_after b.parts.sessions tail) k s at) at low);
      } in elim (cases_lt b.content.boot (2 ^ 62)) [
        | inl left ↦ none _ (Opened (view_of image b tail n) found left)
        | inr spent ↦ none _ (Spent (view_of image b tail n) found (omega (arith, spent, reaches.reaches.readable.sound.tests.boot)))
      ])

  from_tail : (b : Checkpoint) (tail : List Message) → ReachesTail sh image b tail → ⊥
  from_tail b tail reaches = either (NotLost image b.content (b.content.op + length tail)) (λ e. elim e [
    | inl not_lost ↦ counted sh image b.content tail places (λ n replies.
        from_replies b tail n (record { reaches = reaches; not_lost = not_lost; replies = replies }))
    | inr lost ↦ longest_reach sh image b tail sh.layout.slots [] (record { room = omega (arith, reaches.tail_is.room); shown = λ p at. absurd at; chain = tt; grouped = tt }) (omega arith) (λ more reach. none _ (Lost b tail more reaches reach lost))
  ])

  from_read : (b : Checkpoint) → IsReadable sh image b → ⊥
  from_read b readable = either (NotBehind sh image b.content) (λ e. elim e [
    | inl not_behind ↦ let tests = readable.sound.tests in known_all sh image b.content (λ a lacks.
        none _ (Unknown b a readable not_behind lacks)) (b.content.pin - b.content.op) (omega (arith, tests.pin)) (λ ps known size.
        let start : b.content.pin - (b.content.pin - b.content.op) + 1 ≡ b.content.op + 1 = omega (arith, tests.pin) in
        let here = rw start at known in let count : b.content.op + length ps ≡ b.content.pin = omega (arith, size, tests.pin) in
        all_fitting sh image b (λ front unfit. none _ (Unfit b front readable not_behind unfit)) []
        ps here count (record { chain = tt; grouped = tt; ends = λ p at. absurd at }) (λ fits.
        longest_walk sh image b sh.layout.slots ps (named_walk sh image b ps tests here count fits) (omega arith) (λ tail is_tail.
        from_tail b tail (record { readable = readable; not_behind = not_behind; tail_is = is_tail }))))
    | inr behind ↦ let agreed = readable.chosen.agreed in
        least (λ n. image (CopyPlace n) ≡ Some (CopyUnit b.content)) 4 agreed.first (omega (arith, agreed.apart, agreed.inside)) agreed.at_first
        (λ n shows low.
        none _ (Behind b n readable behind (record { shows = shows; lowest = λ k less other. omega (arith, low k other, less) })))
  ])

  from_chosen : (c : Content) → IsChosen image c → ⊥
  from_chosen c chosen = either (PassesTests sh c × IsReference sh.layout c) (λ e. elim e [
    | inl passes ↦ let usable : IsUsableSuperblock sh image c = record { chosen = chosen; tests = passes.0; reference = passes.1 } in
        let shown : (a k : ℕ) → ReadsTo sh image c a k → IsShown image a k = λ a k reads.
        elim (shown_or_not image a k) [ inl holds ↦ holds | inr fails ↦ absurd (none _ (LacksBlock c a k usable reads fails)) ] in
        either ((b : Checkpoint) × (b.content ≡ c) × IsReadable sh image b) (λ e. elim e [
          | inl read ↦ from_read read.0 read.2
          | inr fails ↦ none _ (BadTrailer c usable shown (λ b same readable. fails (b, same, readable)))
        ])
    | inr fails ↦ none _ (Unusable c chosen (λ tests reference. fails (tests, reference)))
  ])

pub an_answer_law : AnAnswerLaw
an_answer_law sh image places none = none _ (Split (split_or_chosen image (λ c chosen. from_chosen sh image places none c chosen)))
