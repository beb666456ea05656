-- What is found where the checksum is known: the unit that is shown, with that checksum; and what memory knows is what the view has.
use Rattle.std.{proofs.Common.{◌≡◌, inl, inr, ℕ, zero, suc, ◌+◌, ◌==◌, Bool, true, false, not, if◌then◌else◌, List, [], ◌∷◌, map, Option, Some, None, Result, Ok, Err, refl, sym, ◌∙◌, ap, arith, eqb-true}, specs.List.{range_with_len, slice_get}}
use Rattle.df_layout.specs.{declared.damage.Class.{Class}, declared.damage.Class.TheVariants.{Stale}}
use Rattle.df_theory.specs.{Units.{AnyUnit, Block, BlockUnit, Message, PrepareUnit, ReplyUnit, Session}, Sessions.{noted}, Tails.{Chain, In}}
use Rattle.df_model.{specs.{After.{place_of_client}, Memory.{joined, stored_sum}, Supply.{block_given, given_if, is_sum, no_trailer, prepare_given, reply_given}}, proofs.Laws.{known_is}}

-- ---- what is given

given_in : {X : Type 0} (b : Bool) (x y : X) (class : Class) → Ok y ≡ given_if b x class → (b ≡ true) × (x ≡ y)
given_in true x y class is = (refl, cc)
given_in false x y class is = absurd (cc)

pub prepare_in : (known : Option ℕ) (o : Option AnyUnit) (class : Class) (p : Message)
    → Ok p ≡ prepare_given known o class → (o ≡ Some (PrepareUnit p)) × (known ≡ Some p.header.checksum)
prepare_in known (Some (PrepareUnit q)) class p is = let given = given_in (is_sum known q.header.checksum) q p class is in
    (ap (λ (x : Message). Some (PrepareUnit x)) given.1, known_is known q.header.checksum given.0 ∙ ap (λ (x : Message). Some x.header.checksum) given.1)
prepare_in known case class p is = absurd (cc)

pub reply_in : (known : Option ℕ) (o : Option AnyUnit) (class : Class) (r : Message)
    → Ok r ≡ reply_given known o class → (o ≡ Some (ReplyUnit r)) × (known ≡ Some r.header.checksum)
reply_in known (Some (ReplyUnit q)) class r is = let given = given_in (is_sum known q.header.checksum) q r class is in
    (ap (λ (x : Message). Some (ReplyUnit x)) given.1, known_is known q.header.checksum given.0 ∙ ap (λ (x : Message). Some x.header.checksum) given.1)
reply_in known case class r is = absurd (cc)

block_there : (known : Option ℕ) (o : Option AnyUnit) (class : Class) (b : Block)
    → Ok b ≡ block_given known o class → (o ≡ Some (BlockUnit b)) × (known ≡ Some b.checksum)
block_there known (Some (BlockUnit d)) class b is = let given = given_in (is_sum known d.checksum) d b class is in
    (ap (λ (x : Block). Some (BlockUnit x)) given.1, known_is known d.checksum given.0 ∙ ap (λ (x : Block). Some x.checksum) given.1)
block_there known case class b is = absurd (cc)

-- a trailer's block isn't given
no_trailer_in : (found : Result Block Class) (b : Block) → Ok b ≡ no_trailer found → Ok b ≡ found
no_trailer_in (Ok d) b is = ap Ok (sym (given_in (not (d.kind == 0)) d b Stale is).1)
no_trailer_in (Err class) b is = is

pub block_in : (known : Option ℕ) (o : Option AnyUnit) (class : Class) (b : Block)
    → Ok b ≡ no_trailer (block_given known o class) → (o ≡ Some (BlockUnit b)) × (known ≡ Some b.checksum)
block_in known o class b is = block_there known o class b (no_trailer_in (block_given known o class) b is)

-- ---- lists

pub mapped : {X Y : Type 0} (f : X → Y) (xs : List X) (i : ℕ) (y : Y)
    → slice_get (map f xs) i ≡ Some y → (x : X) × (slice_get xs i ≡ Some x) × (f x ≡ y)
mapped f [] i y is = absurd (cc)
mapped f (x ∷ xs) zero y is = (x, refl, cc)
mapped f (x ∷ xs) (suc i) y is = mapped f xs i y is

pub ranged : {Y : Type 0} (f : ℕ → Y) (s n i : ℕ) (y : Y) → slice_get (map f (range_with_len s n)) i ≡ Some y → f (s + i) ≡ y
ranged f s zero i y is = absurd (cc)
ranged f s (suc n) zero y is = let first : f s ≡ y = cc in ap f (omega arith) ∙ first
ranged f s (suc n) (suc i) y is = ap f (omega arith) ∙ ranged f (s + 1) n i y is

-- the prepare at a place of a tail has its op
pub chain_get : (clients op parent mark : ℕ) (ss : List Session) (ps : List Message) (i : ℕ) (p : Message)
    → Chain clients op parent mark ss ps → slice_get ps i ≡ Some p → In p ps × (p.header.op ≡ op + i)
chain_get clients op parent mark ss [] i p chain at = absurd (cc)
chain_get clients op parent mark ss (q ∷ ps) zero p chain at = let same : p ≡ q = cc in
    (inl same, ap (λ (x : Message). x.header.op) same ∙ omega (arith, chain.0.op_is))
chain_get clients op parent mark ss (q ∷ ps) (suc i) p chain at =
    let rest = chain_get clients (op + 1) q.header.checksum q.header.mark (noted q.header ss) ps i p chain.1 at in
    (inr rest.0, omega (arith, rest.1))

-- ---- replies

join_in : (o : Option (Option ℕ)) (c : ℕ) → joined o ≡ Some c → o ≡ Some (Some c)
join_in None c is = absurd (cc)
join_in (Some known) c is = ap Some is

pub joined_at : (f : ℕ → Option ℕ) (n k c : ℕ) → joined (slice_get (map f (range_with_len 0 n)) k) ≡ Some c → f k ≡ Some c
joined_at f n k c is = ap f (omega arith) ∙ ranged f 0 n k (Some c) (join_in (slice_get (map f (range_with_len 0 n)) k) c is)

pub stored_in : (o : Option Message) (c : ℕ) → stored_sum o ≡ Some c → (r : Message) × (o ≡ Some r) × (r.header.checksum ≡ c)
stored_in None c is = absurd (cc)
stored_in (Some r) c is = (r, refl, cc)

-- the session at the place of a client is the client's
pub client_at : (client : ℕ) (ss : List Session) (s : Session) → slice_get ss (place_of_client client ss) ≡ Some s → s.client ≡ client
client_at client [] s at = absurd (cc)
client_at client (x ∷ ss) s at = go (x.client == client) refl at (λ there. client_at client ss s there)
  where
    go : (b : Bool) → (x.client == client) ≡ b → slice_get (x ∷ ss) (if b then 0 else suc (place_of_client client ss)) ≡ Some s
        → (slice_get ss (place_of_client client ss) ≡ Some s → s.client ≡ client) → s.client ≡ client
    go true same there more = let one : s ≡ x = cc in ap (λ (y : Session). y.client) one ∙ eqb-true x.client client same
    go false same there more = more there
