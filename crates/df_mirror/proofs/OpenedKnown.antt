-- An image that shows each known unit shows the trailer and the named prepares of another one with the same superblock, where one checksum
-- is one unit.
use Rattle.std.proofs.{Common.{◌≡◌, inl, inr, ℕ, zero, suc, ◌+◌, ◌-◌, ◌%◌, ◌<◌, ◌≤◌, List, [], ◌∷◌, ◌++◌, length, take, Some, refl, sym, ◌∙◌, ap, arith, length-append}, lemmas.Bool.{cases_eq}, lemmas.List.{length-take}}
use Rattle.df_format.specs.declared.kind.Kind.TheVariants.{Prepare as AsPrepare, Reply as AsReply, Trailer as AsTrailer}
use Rattle.df_theory.{specs.{Units.{AnyUnit, Block, BlockPlace, BlockUnit, Content, CopyUnit, HeaderUnit, Message, Place, PreparePlace, PrepareUnit, ReplyUnit, Session, Units}, Chance.{Distinct}, Found.{AreOfPlaces}, Opens.{AreKnown, AreLinks, IsLink, ReadsTo, named_by}, Sessions.{noted}, Shape.{Shape}, Tails.{Chain, In, last_checksum}, Trailer.{InChain, IsCount, Links}}, proofs.Laws.{arrives_more, links_more}}
use Rattle.{df_units.specs.Wanted.{IsOfKind, checksum_of}, df_mirror.specs.Known.{AllShown, IsNamedPrepare, IsShownAs, ShowsTrailer}}

-- ---- units of a kind

block_of : (x : AnyUnit) → IsOfKind AsTrailer x → (b : Block) × (x ≡ BlockUnit b) × (b.kind ≡ 0)
block_of (CopyUnit c) is = absurd is
block_of (HeaderUnit h) is = absurd is
block_of (PrepareUnit p) is = absurd is
block_of (ReplyUnit r) is = absurd is
block_of (BlockUnit b) is = (b, refl, is)

pub reply_of : (x : AnyUnit) → IsOfKind AsReply x → (r : Message) × (x ≡ ReplyUnit r)
reply_of (CopyUnit c) is = absurd is
reply_of (HeaderUnit h) is = absurd is
reply_of (PrepareUnit p) is = absurd is
reply_of (ReplyUnit r) is = (r, refl)
reply_of (BlockUnit b) is = absurd is

-- the prepare that a slot of the ring shows with this checksum
pub prepare_shown : (sh : Shape) (image : Units) (s sum : ℕ) → AreOfPlaces sh image → IsShownAs image AsPrepare (PreparePlace s) sum
    → (p : Message) × (image (PreparePlace s) ≡ Some (PrepareUnit p)) × (p.header.checksum ≡ sum)
prepare_shown sh image s sum places shown = let p = places (PreparePlace s) shown.unit shown.shown in
    (p.0, shown.shown ∙ ap Some p.1, ap checksum_of (sym p.1) ∙ shown.sum_is)

-- ---- what is known is shown

module _ (sh : Shape) (was shown : Units) (c : Content) (places : AreOfPlaces sh shown)
    (all : AllShown sh shown c) (one : (place : Place) (x y : AnyUnit) → was place ≡ Some x → shown place ≡ Some y → Distinct x y) where
  -- a block of the chain is a link, and the next one may be read
  link_of : (d : ℕ × Block) (ds : List (ℕ × Block)) (a k : ℕ) → Links (sh.layout.block_size - 256) c (d ∷ ds) a k
      → ((e : ℕ) (x : Block) → InChain e x ds → e ≤ sh.layout.blocks) → IsLink sh c (length ds) d.1
  link_of d [] a k links inside = record { sequence = links.3; place = links.4; size = links.5; before = λ above. absurd (omega arith) }
  link_of d (e ∷ ds) a k links inside = record { sequence = links.3; place = links.4; size = links.5; before = λ above. (links.7.0, omega (arith, inside e.0 e.1 (inl (refl, refl)), links.7.1)) }

  -- the wanted block is the one that was shown there
  block_same : (d : ℕ × Block) (a k : ℕ) → d.0 ≡ a → d.1.checksum ≡ k
      → was (BlockPlace d.0) ≡ Some (BlockUnit d.1) → ReadsTo sh shown c a k → shown (BlockPlace a) ≡ Some (BlockUnit d.1)
  block_same d a k place sum had reads = let is = all AsTrailer (BlockPlace a) k reads in let b = block_of is.unit is.of_kind in
      let at : shown (BlockPlace a) ≡ Some (BlockUnit b.0) = is.shown ∙ ap Some b.1 in
      let same : d.1 ≡ b.0 = one (BlockPlace a) (BlockUnit d.1)
      (BlockUnit b.0) (ap (λ (n : ℕ). was (BlockPlace n)) (sym place) ∙ had) at (sum ∙ sym is.sum_is ∙ ap checksum_of b.1) in
      at ∙ ap (λ (x : Block). Some (BlockUnit x)) (sym same)

  -- from what was read on the rest of the chain is shown
  rest_shown : (ds : List (ℕ × Block)) (a k count : ℕ) (read : List (ℕ × Block)) → count ≡ length read + length ds
      → (0 < length ds → (r : ReadsTo sh shown c a k) × (r.read ≡ read) × (r.count ≡ count)) → Links (sh.layout.block_size - 256) c ds a k
      → ((e : ℕ) (x : Block) → InChain e x ds → (e ≤ sh.layout.blocks) × (was (BlockPlace e) ≡ Some (BlockUnit x)))
      → (e : ℕ) (x : Block) → InChain e x ds → shown (BlockPlace e) ≡ Some (BlockUnit x)
  rest_shown [] a k count read size reads links each e x at = absurd at
  rest_shown (d ∷ ds) a k count read size reads links each e x at = let r = reads (omega arith) in
      let here = block_same d a k links.1 links.2 (each d.0 d.1 (inl (refl, refl))).1 r.0 in
      let link = link_of d ds a k links (λ f z there. (each f z (inr there)).0) in elim at [
        | inl first ↦ ap (λ (n : ℕ). shown (BlockPlace n)) (first.0 ∙ links.1) ∙ here ∙ ap (λ (z : Block). Some (BlockUnit z)) (sym first.1)
        | inr later ↦ rest_shown ds d.1.before
            d.1.before_checksum count (r.0.read ++ d ∷ []) (omega (arith, ap length r.1, length-append r.0.read (d ∷ []))) (λ some. (
              record {
                count = count;
                read = r.0.read ++ d ∷ [];
                counts = rw r.2 at r.0.counts;
                arrives = arrives_more shown r.0.read d c.trailer c.trailer_checksum a k r.0.arrives links.0 links.1 links.2 links.6 here;
                links = links_more sh c count (length ds) r.0.read d (rw r.2 at r.0.links) (omega (arith, ap length r.1)) link;
                more = omega (arith, ap length r.1, length-append r.0.read (d ∷ []));
              },
              refl,
              refl,
            )) links.7 (λ f z there. each f z (inr there)) e x later
      ]

  -- the trailer that was shown is shown
  pub chain_shown : (t : ShowsTrailer sh was c) (a : ℕ) (b : Block) → InChain a b t.chain → shown (BlockPlace a) ≡ Some (BlockUnit b)
  chain_shown t = rest_shown t.chain c.trailer c.trailer_checksum (length t.chain) [] (omega arith) (λ some.
      (record { count = length t.chain; read = []; counts = t.trailer.count; arrives = (refl, refl); links = tt; more = some }, refl, refl))
      t.trailer.links (λ e x at. (t.trailer.inside e x at, t.shown e x at))

  -- ---- the named prepares

  -- the first of a list is named by those after it
  first_named : (k clients op mark : ℕ) (ss : List Session) (p : Message) (ps : List Message)
      → Chain clients (op + 1) p.header.checksum mark ss ps → k ≤ length ps → last_checksum p.header.checksum (take k ps) ≡ c.pin_checksum
      → p.header.checksum ≡ named_by c.pin_checksum (take k ps)
  first_named zero clients op mark ss p ps chain size ends = ends
  first_named (suc k) clients op mark ss p [] chain size ends = absurd (omega arith)
  first_named (suc k) clients op mark ss p (q ∷ ps) chain size ends = sym chain.0.parent_is

  -- the named prepare is the one that was shown there
  prepare_same : (op sum : ℕ) (p : Message) → p.header.op ≡ op → p.header.checksum ≡ sum
      → was (PreparePlace (p.header.op % sh.layout.slots)) ≡ Some (PrepareUnit p) → IsNamedPrepare sh shown c (op % sh.layout.slots) sum
      → (was (PreparePlace (op % sh.layout.slots)) ≡ Some (PrepareUnit p))
      × (shown (PreparePlace (op % sh.layout.slots)) ≡ Some (PrepareUnit p))
  prepare_same op sum p ops sums had named =
      let q = prepare_shown sh shown (op % sh.layout.slots) sum places (all AsPrepare (PreparePlace (op % sh.layout.slots)) sum named) in
      let there : was (PreparePlace (op % sh.layout.slots)) ≡ Some (PrepareUnit p) =
      ap (λ (o : ℕ). was (PreparePlace (o % sh.layout.slots))) (sym ops) ∙ had in
      let same : p ≡ q.0 = one (PreparePlace (op % sh.layout.slots)) (PrepareUnit p) (PrepareUnit q.0) there q.1 (sums ∙ sym q.2) in
      (there, q.1 ∙ ap (λ (m : Message). Some (PrepareUnit m)) (sym same))

  -- a front of a tail, up to the pin: its prepares are shown as they were
  pub front_shown : (k clients op parent mark : ℕ) (ss : List Session) (ps : List Message) → Chain clients op parent mark ss ps
      → k ≤ length ps → c.op < op → op + k ≡ c.pin + 1 → (0 < k → last_checksum parent (take k ps) ≡ c.pin_checksum)
      → ((p : Message) → In p ps → was (PreparePlace (p.header.op % sh.layout.slots)) ≡ Some (PrepareUnit p))
      → AreKnown sh.layout.slots shown op c.pin_checksum (take k ps)
      × ((a : ℕ) → op ≤ a → a < op + k → shown (PreparePlace (a % sh.layout.slots)) ≡ was (PreparePlace (a % sh.layout.slots)))
  front_shown zero clients op parent mark ss ps chain size above count ends had = (tt, λ a from to. absurd (omega arith))
  front_shown (suc k) clients op parent mark ss [] chain size above count ends had = absurd (omega arith)
  front_shown (suc k) clients op parent mark ss (p ∷ ps) chain size above count ends had =
      let rest = front_shown k clients (op + 1) p.header.checksum p.header.mark
      (noted p.header ss) ps chain.1 (omega arith) (omega arith) (omega arith) (λ some. ends (omega arith)) (λ q at. had q (inr at)) in
      let named = first_named k clients op p.header.mark (noted p.header ss) p ps chain.1 (omega arith) (ends (omega arith)) in
      let here = prepare_same op (named_by c.pin_checksum (take k ps)) p chain.0.op_is named (had p (inl refl))
      (record { op = op; above = above; slot_is = refl; later = take k ps; known = rest.0; count = omega (arith, length-take k ps); sum_is = refl }) in (
        (here.1, named, rest.0),
        λ a from to. elim (cases_eq a op) [
          | inl first ↦ rw (sym first) at (here.1 ∙ sym here.0)
          | inr later ↦ rest.1 a (omega arith) (omega arith)
        ],
      )
