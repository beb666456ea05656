-- Prepares that the superblock names, from the last one down.
use Rattle.std.proofs.{Common.{◌≡◌, inl, inr, ℕ, zero, suc, ◌+◌, ◌-◌, ◌%◌, ◌<◌, ◌≤◌, List, [], ◌∷◌, ◌++◌, length, take, Some, refl, sym, ◌∙◌, ap, arith, length-append, append_assoc}, lemmas.Bool.{cases_eq, cases_lt}, lemmas.List.{length-take}}
use Rattle.df_theory.{specs.{Units.{Content, Message, PreparePlace, PrepareUnit, Session, Units}, Sessions.{noted}, Tails.{AreGroups, Chain, EndsAt, In, last_checksum}, Shape.{Shape, clients}, View.{Checkpoint}, Found.{IsTail}, Opens.{AreFitting, AreKnown, IsUnfit, LacksKnown, named_by}}, proofs.{Sessions.{chain_take}, Tails.{in_front}}}

-- lists that are shown from one op on are one
pub known_one : (n : ℕ) (image : Units) (op c : ℕ) (xs ys : List Message)
    → AreKnown n image op c xs → AreKnown n image op c ys → length xs ≡ length ys → xs ≡ ys
known_one n image op c [] [] one two size = refl
known_one n image op c [] (y ∷ ys) one two size = absurd (omega arith)
known_one n image op c (x ∷ xs) [] one two size = absurd (omega arith)
known_one n image op c (x ∷ xs) (y ∷ ys) one two size =
    let first : x ≡ y = (let both : Some (PrepareUnit x) ≡ Some (PrepareUnit y) = sym one.0 ∙ two.0 in cc) in
    let rest : xs ≡ ys = known_one n image (op + 1) c xs ys one.2 two.2 (omega arith) in λ i. first i ∷ rest i

-- those after an op, and the one there
pub record KnownAt (n : ℕ) (image : Units) (a c : ℕ) (size : ℕ) : Type 0 where
  pub here : Message
  pub rest : List Message
  pub shown : image (PreparePlace (a % n)) ≡ Some (PrepareUnit here)
  pub names : here.header.checksum ≡ named_by c rest
  pub known : AreKnown n image (a + 1) c rest
  pub count : a + length rest ≡ size

pub known_at : (n : ℕ) (image : Units) (op c a size : ℕ) (xs : List Message)
    → AreKnown n image op c xs → op ≤ a → a < op + length xs → size + 1 ≡ op + length xs → KnownAt n image a c size
known_at n image op c a size [] known low high count = absurd (omega arith)
known_at n image op c a size (x ∷ xs) known low high count = elim (cases_eq a op) [
  | inl same ↦ rw same (record { here = x; rest = xs; shown = known.0; names = known.1; known = known.2; count = omega arith })
  | inr differs ↦ known_at n image (op + 1) c a size xs known.2 (omega arith) (omega arith) (omega arith)
]

-- where all is shown from an op on, nothing above is lacking
pub none_lacking : (sh : Shape) (image : Units) (op : ℕ) (xs : List Message) (c : Content) (a : ℕ)
    → AreKnown sh.layout.slots image (op + 1) c.pin_checksum xs → op + length xs ≡ c.pin → op < a → LacksKnown sh image c a → ⊥
none_lacking sh image op xs c a known count above lack =
    let at = known_at sh.layout.slots image (op + 1) c.pin_checksum a c.pin xs known (omega arith) (omega (arith, lack.count)) (omega arith) in
    let same : at.rest ≡ lack.read =
    known_one sh.layout.slots image (a + 1) c.pin_checksum at.rest lack.read at.known lack.known (omega (arith, at.count, lack.count)) in
    lack.lacks at.here at.shown (at.names ∙ ap (λ (l : List Message). named_by c.pin_checksum l) same)

pub one_lacking : (sh : Shape) (image : Units) (c : Content) (a b : ℕ) → LacksKnown sh image c a → LacksKnown sh image c b → a ≡ b
one_lacking sh image c a b one two = elim (cases_lt a b) [
  | inl less ↦ absurd (none_lacking sh image a one.read c b one.known one.count less two)
  | inr more ↦ elim (cases_lt b a) [
    | inl less ↦ absurd (none_lacking sh image b two.read c a two.known two.count less one)
    | inr same ↦ omega arith
  ]
]

-- the front of a tail is what the superblock names
pub tail_known : (n : ℕ) (image : Units) (clients op parent mark c : ℕ) (ss : List Session) (k : ℕ) (ps : List Message) → Chain clients op parent mark ss ps → ((p : Message) → In p ps → image (PreparePlace (p.header.op % n)) ≡ Some (PrepareUnit p)) → k ≤ length ps → 0 < k → last_checksum parent (take k ps) ≡ c → AreKnown n image op c (take k ps)
tail_known n image clients op parent mark c ss zero ps chain shown short some ends = absurd (omega arith)
tail_known n image clients op parent mark c ss (suc k) [] chain shown short some ends = absurd (omega arith)
tail_known n image clients op parent mark c ss (suc zero) (p ∷ ps) chain shown short some ends =
    (ap (λ (o : ℕ). image (PreparePlace (o % n))) (sym chain.0.op_is) ∙ shown p (inl refl), ends, tt)
tail_known n image clients op parent mark c ss (suc (suc k)) (p ∷ []) chain shown short some ends = absurd (omega arith)
tail_known n image clients op parent mark c ss (suc (suc k)) (p ∷ q ∷ ps) chain shown short some ends = (
  ap (λ (o : ℕ). image (PreparePlace (o % n))) (sym chain.0.op_is) ∙ shown p (inl refl),
  sym chain.1.0.parent_is,
  tail_known n image clients (op + 1) p.header.checksum p.header.mark c (noted p.header ss) (suc k) (q ∷ ps) chain.1 (λ r at.
      shown r (inr at)) (omega arith) (omega arith) ends,
)

-- the front of a list that fits does
pub chain_front : (clients op parent mark : ℕ) (ss : List Session) (xs ys : List Message)
    → Chain clients op parent mark ss (xs ++ ys) → Chain clients op parent mark ss xs
chain_front clients op parent mark ss [] ys chain = tt
chain_front clients op parent mark ss (x ∷ xs) ys chain =
    (chain.0, chain_front clients (op + 1) x.header.checksum x.header.mark (noted x.header ss) xs ys chain.1)

pub groups_front : (f l op : ℕ) (xs ys : List Message) → AreGroups f l op (xs ++ ys) → AreGroups f l op xs
groups_front f l op [] ys groups = tt
groups_front f l op (x ∷ xs) ys groups = (groups.0, groups_front x.header.group x.header.group_last (op + 1) xs ys groups.1)

pub fitting_front : (sh : Shape) (b : Checkpoint) (xs ys : List Message) → AreFitting sh b (xs ++ ys) → AreFitting sh b xs
fitting_front sh b xs ys fits = record {
  chain = chain_front sh.layout.clients (b.content.op + 1) b.content.op_checksum 0 b.parts.sessions xs ys fits.chain;
  grouped = groups_front 0 b.content.op (b.content.op + 1) xs ys fits.grouped;
  ends = λ p at op. fits.ends p (in_front p xs ys at) op;
}

-- of two fronts of one list the shorter one goes on with what stands after it
front_more : (xs zs : List Message) (x : Message) (ys : List Message) (z : Message) (ws : List Message)
    → xs ++ x ∷ ys ≡ zs ++ z ∷ ws → length xs < length zs → (vs : List Message) × (zs ≡ (xs ++ x ∷ []) ++ vs)
front_more [] [] x ys z ws same less = absurd (omega arith)
front_more [] (w ∷ zs) x ys z ws same less = (zs, (let first : x ≡ w = cc (same) in λ i. sym first i ∷ zs))
front_more (v ∷ xs) [] x ys z ws same less = absurd (omega arith)
front_more (v ∷ xs) (w ∷ zs) x ys z ws same less = let first : v ≡ w = cc (same) in let later : xs ++ x ∷ ys ≡ zs ++ z ∷ ws = cc (same) in
    let rest = front_more xs zs x ys z ws later (omega arith) in (rest.0, λ i. sym first i ∷ rest.1 i)

pub not_further : (sh : Shape) (image : Units) (b : Checkpoint) (xs zs : List Message)
    → IsUnfit sh image b xs → IsUnfit sh image b zs → length xs < length zs → ⊥
not_further sh image b xs zs one two less =
    let same : xs ++ one.next ∷ one.rest ≡ zs ++ two.next ∷ two.rest = known_one sh.layout.slots image (b.content.op + 1) b.content.pin_checksum (xs ++ one.next ∷ one.rest) (zs ++ two.next ∷ two.rest) one.known two.known (omega (arith, one.count, two.count)) in
    let more = front_more xs zs one.next one.rest two.next two.rest same less in
    one.fails (fitting_front sh b (xs ++ one.next ∷ []) more.0 (rw more.1 at two.fits))

-- what fits as a whole has no part that doesn't
pub all_fit : (sh : Shape) (image : Units) (b : Checkpoint) (front ps : List Message) → IsUnfit sh image b front → AreFitting sh b ps
    → AreKnown sh.layout.slots image (b.content.op + 1) b.content.pin_checksum ps → b.content.op + length ps ≡ b.content.pin → ⊥
all_fit sh image b front ps unfit fits known count = let same : front ++ unfit.next ∷ unfit.rest ≡ ps = known_one sh.layout.slots
    image (b.content.op + 1) b.content.pin_checksum (front ++ unfit.next ∷ unfit.rest) ps unfit.known known (omega (arith, unfit.count)) in
    let split : (front ++ unfit.next ∷ []) ++ unfit.rest ≡ ps = append_assoc front (unfit.next ∷ []) unfit.rest ∙ same in
    unfit.fails (fitting_front sh b (front ++ unfit.next ∷ []) unfit.rest (rw (sym split) at fits))

pub groups_take : (k f l op : ℕ) (ps : List Message) → AreGroups f l op ps → AreGroups f l op (take k ps)
groups_take zero f l op ps groups = tt
groups_take (suc k) f l op [] groups = tt
groups_take (suc k) f l op (p ∷ ps) groups = (groups.0, groups_take k p.header.group p.header.group_last (op + 1) ps groups.1)

pub in_take : (k : ℕ) (p : Message) (ps : List Message) → In p (take k ps) → In p ps
in_take zero p ps at = absurd at
in_take (suc k) p [] at = absurd at
in_take (suc k) p (x ∷ ps) (inl here) = inl here
in_take (suc k) p (x ∷ ps) (inr there) = inr (in_take k p ps there)

-- what a tail has up to the pin is shown as it is named, and fits
pub record IsNamedTail (sh : Shape) (image : Units) (b : Checkpoint) (ps : List Message) : Type 0 where
  pub known : 0 < length ps → AreKnown sh.layout.slots image (b.content.op + 1) b.content.pin_checksum ps
  pub fits : AreFitting sh b ps
  pub count : b.content.op + length ps ≡ b.content.pin

pub named_tail : (sh : Shape) (image : Units) (b : Checkpoint) (tail : List Message) → Chain sh.layout.clients (b.content.op
    + 1) b.content.op_checksum 0 b.parts.sessions tail → AreGroups 0 b.content.op (b.content.op + 1) tail → EndsAt b.content.pin tail
    → ((p : Message) → In p tail → image (PreparePlace (p.header.op % sh.layout.slots)) ≡ Some (PrepareUnit p))
    → b.content.op ≤ b.content.pin → b.content.pin ≤ b.content.op + length tail
    → last_checksum b.content.op_checksum (take (b.content.pin - b.content.op) tail) ≡ b.content.pin_checksum
    → IsNamedTail sh image b (take (b.content.pin - b.content.op) tail)
named_tail sh image b tail chain grouped ends shown from to named =
    let size : length (take (b.content.pin - b.content.op) tail) ≡ b.content.pin - b.content.op =
    omega (arith, length-take (b.content.pin - b.content.op) tail) in record {
      known = λ some. tail_known sh.layout.slots image sh.layout.clients (b.content.op + 1) b.content.op_checksum 0
          b.content.pin_checksum b.parts.sessions (b.content.pin - b.content.op) tail chain shown (omega arith) (omega (arith, size)) named;
      fits = record {
        chain = chain_take
            (b.content.pin - b.content.op) sh.layout.clients (b.content.op + 1) b.content.op_checksum 0 b.parts.sessions tail chain;
        grouped = groups_take (b.content.pin - b.content.op) 0 b.content.op (b.content.op + 1) tail grouped;
        ends = λ p at op. ends p (in_take (b.content.pin - b.content.op) p tail at) (omega arith);
      };
      count = omega (arith, size);
    }

-- so nothing that is named lacks
pub named_all : (sh : Shape) (image : Units) (b : Checkpoint) (ps : List Message)
    → IsNamedTail sh image b ps → (a : ℕ) → LacksKnown sh image b.content a → ⊥
named_all sh image b ps named a lack = none_lacking
    sh image b.content.op ps b.content a (named.known (omega (arith, named.count, lack.count, lack.above))) named.count lack.above lack

pub named_fit : (sh : Shape) (image : Units) (b : Checkpoint) (ps front : List Message)
    → IsNamedTail sh image b ps → IsUnfit sh image b front → ⊥
named_fit sh image b ps front named unfit = all_fit sh image b front
    ps unfit named.fits (named.known (omega (arith, named.count, unfit.count, length-append front (unfit.next ∷ unfit.rest)))) named.count

pub tail_named : (sh : Shape) (image : Units) (b : Checkpoint) (tail : List Message)
    → IsTail sh image b tail → b.content.op ≤ b.content.pin → IsNamedTail sh image b (take (b.content.pin - b.content.op) tail)
tail_named sh image b tail is from =
    named_tail sh image b tail is.chain is.grouped is.pin_ends (λ p at. (is.takes p at).shown) from is.reaches is.pinned

-- two images name the same, where one checksum has one prepare
pub known_same : (n : ℕ) (i j : Units) (op c : ℕ) (xs ys : List Message) → AreKnown n i op c xs → AreKnown n j op c ys → length xs ≡ length ys
    → ((s : ℕ) (p q : Message) → i (PreparePlace s) ≡ Some (PrepareUnit p)
    → j (PreparePlace s) ≡ Some (PrepareUnit q) → p.header.checksum ≡ q.header.checksum → p ≡ q) → xs ≡ ys
known_same n i j op c [] [] one two size distinct = refl
known_same n i j op c [] (y ∷ ys) one two size distinct = absurd (omega arith)
known_same n i j op c (x ∷ xs) [] one two size distinct = absurd (omega arith)
known_same n i j op c (x ∷ xs) (y ∷ ys) one two size distinct =
    let rest : xs ≡ ys = known_same n i j (op + 1) c xs ys one.2 two.2 (omega arith) distinct in
    let first : x ≡ y = distinct (op % n) x y one.0 two.0 (one.1 ∙ ap (λ (l : List Message). named_by c l) rest ∙ sym two.1) in
    λ k. first k ∷ rest k
