-- The prepares that a superblock names, read down from its head, and up from its checkpoint.
use Rattle.std.{proofs.Common.{◌≡◌, inl, inr, ℕ, suc, ◌+◌, ◌%◌, ◌<◌, ◌≤◌, List, [], ◌∷◌, ◌++◌, length, take, Option, Some, None, refl, sym, ◌∙◌, ap, subst, arith}, specs.{Prelude.{Result, Ok, Err}, List.{slice_get}}}
use Rattle.{df_layout.specs.declared.{damage.Class.{Class}, layout.Layout.{Layout}}, df_buffers.specs.declared.slots.SlotSeen.{SlotSeen}}
use Rattle.df_format.specs.{declared.header.Header.{Header}, Spelling.{IsCheck}}
use Rattle.df_theory.specs.Units
use Rattle.df_theory.specs.{Units.{AnyUnit, Content, Message, PreparePlace, PrepareUnit, Session, Units as Images}, Sessions.{noted}, Tails.{Chain, In, last_checksum}, Shape.{Shape, slots}, Opens.{AreKnown, LacksKnown, named_by}}
use Rattle.df_units.{specs.Meaning.{header_of, number_of}, proofs.Laws.{one_number}}
use Rattle.df_journal.{specs.{declared.table.Start.{Start}, Known.{AllKnown, HasSum, NamesFrom}, Shows.{IsSeenTable, ShowsPrepare, ShowsTable}}, proofs.Decisions.{shown_checks}}

-- ---- down

-- from an op to the head all are shown as they are named, and below them the prepare with this checksum is wanted
pub record IsRead (sh : Shape) (image : Images) (c : Content) (op : ℕ) (wanted : List ℕ) : Type 0 where
  pub read : List Message
  pub known : AreKnown (slots sh) image (op + 1) c.pin_checksum read
  pub count : op + length read ≡ c.pin
  pub wants : number_of wanted ≡ named_by c.pin_checksum read

pub read_none : (sh : Shape) (image : Images) (c : Content) (layout : Layout) (start : Start) (checksum : List ℕ)
    → NamesFrom sh c layout start checksum → IsRead sh image c start.head checksum
read_none sh image c layout start checksum names =
    record { read = []; known = tt; count = omega (arith, names.pin_is); wants = sym names.checksum_is }

pub shown_prepare : (x : Option AnyUnit) (r : Result Header Class) (h : Header)
    → ShowsPrepare x r → r ≡ Ok h → (p : Message) × (x ≡ Some (PrepareUnit p)) × (p.header ≡ header_of h)
shown_prepare x r h shows is = subst (λ (s : Result Header Class). ShowsPrepare x s) is shows

pub seen_prepare : (x : Option AnyUnit) (r : Result Header Class) (p : Message)
    → ShowsPrepare x r → x ≡ Some (PrepareUnit p) → (h : Header) × (r ≡ Ok h) × (p.header ≡ header_of h)
seen_prepare x (Ok h) p (q, is, same) shown = let both : Some (PrepareUnit p) ≡ Some (PrepareUnit q) = sym shown ∙ is in
    let one : p ≡ q = cc in (h, refl, ap (λ (m : Message). m.header) one ∙ same)
seen_prepare x (Err class) p none shown = let both : None ≡ Some (PrepareUnit p) = sym none ∙ shown in absurd (cc)

-- one more, the one below them
pub read_more : (sh : Shape) (image : Images) (c : Content) (table : List SlotSeen) (slot op low : ℕ) (seen : SlotSeen)
    (wanted : List ℕ) (h : Header) → ShowsTable image table → slice_get table slot ≡ Some seen → slot ≡ op % slots sh → op ≡ low + 1
    → (seen.prepare ≡ Ok h) × (h.checksum ≡ wanted) → IsRead sh image c op wanted → IsRead sh image c low h.parent
read_more sh image c table slot op low seen wanted h shows at slot_is next found is =
    let there = shown_prepare (image (PreparePlace slot)) seen.prepare h (shows.each slot seen at).prepare found.0 in
    let p : Message = there.0 in let sum : p.header.checksum ≡ named_by c.pin_checksum is.read =
    ap (λ (g : Units.Header). g.checksum) there.2 ∙ ap number_of found.1 ∙ is.wants in record {
      read = p ∷ is.read;
      known = rw (← next) (rw (← slot_is) there.1, sum, is.known);
      count = omega (arith, is.count, next);
      wants = sym (ap (λ (g : Units.Header). g.parent) there.2);
    }

-- the next one isn't shown
pub read_lacks : (sh : Shape) (image : Images) (c : Content) (layout : Layout) (cluster : ℕ) (table : List SlotSeen) (slot op : ℕ) (seen : SlotSeen) (wanted : List ℕ) → IsSeenTable layout cluster table → ShowsTable image table → slice_get table slot ≡ Some seen → slot ≡ op % slots sh
    → IsCheck wanted → HasSum seen wanted None → c.op < op → IsRead sh image c op wanted → LacksKnown sh image c op
read_lacks sh image c layout cluster table slot op seen wanted is_table shows at slot_is check none above is = record {
  read = is.read;
  known = is.known;
  count = is.count;
  above = above;
  lacks = λ p shown sum.
      let here : image (PreparePlace slot) ≡ Some (PrepareUnit p) = ap (λ (s : ℕ). image (PreparePlace s)) slot_is ∙ shown in
      let found = seen_prepare (image (PreparePlace slot)) seen.prepare p (shows.each slot seen at).prepare here in
      let own : IsCheck found.0.checksum = (shown_checks layout cluster slot table seen found.0 is_table at found.1).0 in
      let same : number_of found.0.checksum ≡ number_of wanted = sym (ap (λ (g : Units.Header). g.checksum) found.2) ∙ sum ∙ sym is.wants in
      none found.0 found.1 (one_number found.0.checksum wanted own check same);
}

pub read_all : (sh : Shape) (image : Images) (c : Content) (op : ℕ) (wanted : List ℕ)
    → c.op ≡ op → IsRead sh image c op wanted → AllKnown sh image c
read_all sh image c op wanted at is = record {
  read = is.read;
  known = rw (sym at) at is.known;
  count = omega (arith, at, is.count);
}

-- ---- up

abbrev pub ArePlaced : ℕ → Images → List Message → Type 0
ArePlaced n image ps = (p : Message) → In p ps → image (PreparePlace (p.header.op % n)) ≡ Some (PrepareUnit p)

-- two that are shown where an op belongs are one
one_shown : (n : ℕ) (image : Images) (op : ℕ) (p q : Message) → p.header.op ≡ op
    → image (PreparePlace (p.header.op % n)) ≡ Some (PrepareUnit p) → image (PreparePlace (op % n)) ≡ Some (PrepareUnit q) → p ≡ q
one_shown n image op p q is one two =
    let both : Some (PrepareUnit p) ≡ Some (PrepareUnit q) = sym one ∙ ap (λ (o : ℕ). image (PreparePlace (o % n))) is ∙ two in cc

-- prepares that were passed are the first of those that are named
pub known_front : (n : ℕ) (image : Images) (clients op parent mark c : ℕ) (ss : List Session) (ws ks : List Message) → Chain clients op
    parent mark ss ws → ArePlaced n image ws → AreKnown n image op c ks → length ws ≤ length ks → (rest : List Message) × (ks ≡ ws ++ rest)
known_front n image clients op parent mark c ss [] ks chain placed known short = (ks, refl)
known_front n image clients op parent mark c ss (w ∷ ws) [] chain placed known short = absurd (omega arith)
known_front n image clients op parent mark c ss (w ∷ ws) (k ∷ ks) chain placed known short =
    let first : w ≡ k = one_shown n image op w k chain.0.op_is (placed w (inl refl)) known.0 in
    let rest = known_front n image clients (op + 1) w.header.checksum w.header.mark c (noted w.header ss) ws ks chain.1 (λ p at.
    placed p (inr at)) known.2 (omega arith) in (rest.0, (λ i. sym first i ∷ rest.1 i))

-- and the first of those that were passed are all that are named
pub known_taken : (n : ℕ) (image : Images) (clients op parent mark c : ℕ) (ss : List Session) (ws ks : List Message) →
    Chain clients op parent mark ss ws → ArePlaced n image ws → AreKnown n image op c ks → length ks ≤ length ws → take (length ks) ws ≡ ks
known_taken n image clients op parent mark c ss ws [] chain placed known short = refl
known_taken n image clients op parent mark c ss [] (k ∷ ks) chain placed known short = absurd (omega arith)
known_taken n image clients op parent mark c ss (w ∷ ws) (k ∷ ks) chain placed known short =
    let first : w ≡ k = one_shown n image op w k chain.0.op_is (placed w (inl refl)) known.0 in
    let rest = known_taken n image clients (op + 1) w.header.checksum w.header.mark c (noted w.header ss) ws ks chain.1 (λ p at.
    placed p (inr at)) known.2 (omega arith) in λ i. first i ∷ rest i

-- the last of those that are named has the head's checksum
known_ends : (n : ℕ) (image : Images) (op checksum parent : ℕ) (ks : List Message)
    → AreKnown n image op checksum ks → 0 < length ks → last_checksum parent ks ≡ checksum
known_ends n image op checksum parent [] known some = absurd (omega arith)
known_ends n image op checksum parent (k ∷ []) known some = known.1
known_ends n image op checksum parent (k ∷ j ∷ ks) known some =
    known_ends n image (op + 1) checksum k.header.checksum (j ∷ ks) known.2 (omega arith)

pub known_last : (n : ℕ) (image : Images) (op pin checksum parent : ℕ) (ks : List Message)
    → AreKnown n image (op + 1) checksum ks → op + length ks ≡ pin → (pin ≡ op → checksum ≡ parent) → last_checksum parent ks ≡ checksum
known_last n image op pin checksum parent [] known count none = sym (none (omega arith))
known_last n image op pin checksum parent (k ∷ ks) known count none = known_ends n image (op + 1) checksum parent (k ∷ ks) known (omega arith)

-- the prepare that stands after some of them
pub known_here : (n : ℕ) (image : Images) (op checksum : ℕ) (xs : List Message) (y : Message) (ys : List Message)
    → AreKnown n image op checksum (xs ++ y ∷ ys) → image (PreparePlace ((op + length xs) % n)) ≡ Some (PrepareUnit y)
known_here n image op checksum [] y ys known = let same : op + 0 ≡ op = omega arith in
    ap (λ (o : ℕ). image (PreparePlace (o % n))) same ∙ known.0
known_here n image op checksum (x ∷ xs) y ys known = let same : op + suc (length xs) ≡ op + 1 + length xs = omega arith in
    ap (λ (o : ℕ). image (PreparePlace (o % n))) same ∙ known_here n image (op + 1) checksum xs y ys known.2
