-- The prepares that the superblock names: each is due where those above it are shown, and the walk goes one prepare further down.
use Rattle.std.{proofs.{Common.{◌≡◌, ℕ, ◌+◌, ◌-◌, ◌%◌, ◌==◌, ◌<◌, ◌≤◌, if◌then◌else◌, List, [], ◌∷◌, length, Option, Some, None, refl, sym, ◌∙◌, ap, subst, arith, inl, inr}, lemmas.Bool.{cases_lt}, lemmas.Option.{same_Some}}, specs.Prelude.{Result, Ok, Err, IfOk}}
use Rattle.{df_disk.specs.Told.{Told}, df_units.specs.{Meaning.{message_of, number_of, place_of}, Wanted.{checksum_of}}}
use Rattle.df_format.specs.{declared.kind.Kind.{Kind}, declared.kind.Kind.TheVariants.{Block as AsBlock, Prepare, Reply, Trailer}, declared.header.Header.{Header}, Spelling.{IsCheck}, SuperRules.{IsUsable}}
use Rattle.df_buffers.specs.{declared.identity.Identity.{Identity}, declared.identity.Wanted.TheVariants.{Checksum}, Sounds.{Holding}}
use Rattle.df_theory.{specs.{Opens.{AreKnown, named_by}, Units.{BlockPlace, Message, Place, PreparePlace, PrepareUnit, ReplyPlace, Units}}, proofs.Laws.{mod_apart, known_one}}
use Rattle.df_opening.specs.Below.{shape}
use Rattle.df_mirror.{specs.{declared.ending.Ending.{Ending}, declared.superblock.Superblock.{Superblock}, Known.{IsDue, IsKnownAt, IsShownAs, IsSparePlace}, Mends.{AreOfKind}, Outside.{Outside, Tell}, Taking.{HoldsShown, IsFor, MendsUnit}, Walks.{Mended, NamesPreparesFrom, ShowsGrid, ShowsNamed, content_of_superblock, superblock_units}}, proofs.{Frames.{other_place}, Orders.{before_prepare, grid_there}, Turns.{MendsDue, due_mended, lent_shown, of_one}}}

-- known prepares are known in an image whose ring shows them, too
pub ring_there : (n : ℕ) (image other : Units) (op sum : ℕ) (ps : List Message) → AreKnown n image op sum ps
    → ((o : ℕ) → op ≤ o → o < op + length ps → other (PreparePlace (o % n)) ≡ image (PreparePlace (o % n))) → AreKnown n other op sum ps
ring_there n image other op sum [] known same = tt
ring_there n image other op sum (p ∷ ps) known same = (
  same op (omega arith) (omega arith) ∙ known.0,
  known.1,
  ring_there n image other (op + 1) sum ps known.2 (λ o low high. same o (omega arith) (omega arith)),
)

-- no two ops within one turn of the ring have one slot
one_slot : (n low o q : ℕ) → 0 < n → low < o → o ≤ low + n → low < q → q ≤ low + n → o % n ≡ q % n → o ≡ q
one_slot n low o q some above within above' within' same = elim (cases_lt o q) [
  | inl less ↦ absurd (mod_apart n o q some less (omega arith) same)
  | inr more ↦ elim (cases_lt q o) [
    | inl less ↦ absurd (mod_apart n q o some less (omega arith) (sym same))
    | inr less ↦ omega (arith, more, less)
  ]
]

module _ (b : Superblock) where
  pub pin_is : (content_of_superblock b).pin ≡ b.content.head
  pin_is = ap (λ (v : ℕ). if v == 2 then b.content.head else b.content.op) b.second

  pin_checksum_is : (content_of_superblock b).pin_checksum ≡ number_of b.content.head_checksum
  pin_checksum_is = ap (λ (v : ℕ). number_of (if v == 2 then b.content.head_checksum else b.content.op_checksum)) b.second

  -- at the head none is above
  pub names_head : (image : Units) → ShowsGrid b image → NamesPreparesFrom b image b.content.head (number_of b.content.head_checksum)
  names_head image grid = record { grid = grid; later = []; known = tt; count = omega (arith, pin_is); sum_is = sym pin_checksum_is }

  -- and at the checkpoint all are
  pub names_all : (image : Units) (op sum : ℕ) → NamesPreparesFrom b image op sum → op ≡ b.content.op → ShowsNamed b image
  names_all image op sum from is = record {
    named = from.later;
    known = rw is at from.known;
    count = rw is at from.count;
  }

  -- the prepares that are named are within one turn of the ring
  within : IsUsable b.content → (content_of_superblock b).pin ≤ b.content.op + b.file.layout.slots
  within usable = omega (arith, usable.rules.head, b.fields.slots, pin_is)

  some : 0 < b.file.layout.slots
  some = (shape b.file).some

  module _ (usable : IsUsable b.content)
      (t : Told) (op sum : ℕ) (above : b.content.op < op) (from : NamesPreparesFrom b (superblock_units b t.shown) op sum) where
    up_to_pin : op ≤ (content_of_superblock b).pin
    up_to_pin = omega (arith, from.count)

    spare : (IsShownAs (superblock_units b t.shown) Prepare (PreparePlace (op % b.file.layout.slots)) sum → ⊥)
        → IsSparePlace (shape b.file) (superblock_units b t.shown) (content_of_superblock b) (PreparePlace (op % b.file.layout.slots))
    spare lacks = at_kind
      where
        at_kind : (kind : Kind) (at : Place) (k : ℕ) → IsKnownAt (shape b.file) (superblock_units b t.shown) (content_of_superblock b)
            kind at k → IsShownAs (superblock_units b t.shown) kind at k → at ≡ PreparePlace (op % b.file.layout.slots) → ⊥
        at_kind Prepare (PreparePlace s) k known shown same = let slot : s ≡ op % b.file.layout.slots = cc in
            let high : known.op ≤ (content_of_superblock b).pin = omega (arith, known.count) in
            let one : known.op ≡ op = one_slot b.file.layout.slots b.content.op known.op op some
            known.above (omega (arith, high, within usable)) above (omega (arith, up_to_pin, within usable)) (sym known.slot_is ∙ slot) in
            let there : AreKnown b.file.layout.slots
            (superblock_units b t.shown) (op + 1) (content_of_superblock b).pin_checksum known.later = rw one at known.known in
            let later : known.later ≡ from.later = known_one b.file.layout.slots (superblock_units b t.shown) (op + 1)
            (content_of_superblock b).pin_checksum known.later from.later there from.known (omega (arith, known.count, from.count, one)) in
            let sums : k ≡ sum =
            known.sum_is ∙ ap (λ (l : List Message). named_by (content_of_superblock b).pin_checksum l) later ∙ sym from.sum_is in
            lacks (rw sums at (rw same at shown))
        at_kind Trailer (BlockPlace a) k known shown same = cc
        at_kind AsBlock (BlockPlace a) k known shown same = cc
        at_kind Reply (ReplyPlace p) k known shown same = cc
        at_kind kind at k known shown same = absurd known

    named_due : IsDue
        (shape b.file) (superblock_units b t.shown) (content_of_superblock b) Prepare (PreparePlace (op % b.file.layout.slots)) sum
    named_due = record { known = record { op = op; above = above; slot_is = refl; later = from.later; known = from.known; count = from.count; sum_is = from.sum_is }; first = before_prepare b (superblock_units b t.shown) (PreparePlace (op % b.file.layout.slots)) from.grid; trailer = from.grid.passes; spare = spare }

  -- the slot of an op, and the checksum of its prepare
  pub prepare_for : (op slot : ℕ) (check : List ℕ) (identity : Identity) → slot ≡ op % b.file.layout.slots
      → identity ≡ record { layout = b.file.layout; cluster = b.file.cluster; place = place_of (PreparePlace slot); wanted = Checksum check } → IsCheck check → IsFor b.file Prepare (PreparePlace (op % b.file.layout.slots)) check identity
  prepare_for op slot check identity at is fits =
      subst (λ (n : ℕ). IsFor b.file Prepare (PreparePlace n) check identity) at (record { is = is; stands = tt; fits = fits })

  -- the prepare that is named is mended, and names the one before it
  module _ (usable : IsUsable b.content) (op : ℕ) (check : List ℕ) (above : b.content.op < op) (identity : Identity) (for : IsFor
      b.file Prepare (PreparePlace (op % b.file.layout.slots)) check identity) (t o : Told) (old new : Outside) (tell : Tell t o old)
      (from : NamesPreparesFrom b (superblock_units b t.shown) op (number_of check)) where
    names_on : (held : Holding) (shelf : Option Holding) → shelf ≡ Some held → (more : ℕ) → MendsDue b Prepare (PreparePlace (op % b.file.layout.slots)) check t o old new shelf (Ok more) → (m : Told) → new.first ≡ Some m → NamesPreparesFrom b (superblock_units b m.shown) (op - 1) (number_of held.unit.header.parent)
    names_on held shelf lent more mends m is = let n = b.file.layout.slots in let image = superblock_units b m.shown in
        let pin = (content_of_superblock b).pin_checksum in let u = held.unit in
        let shows = lent_shown b.file Prepare (PreparePlace (op % n)) check m.shown shelf held lent (mends.shows m is) in
        let same : shows.unit ≡ PrepareUnit (message_of u) = same_Some _ _ (sym shows.unit_is) in
        let there : image (PreparePlace (op % n)) ≡ Some (PrepareUnit (message_of u)) = shows.shown ∙ sym shows.unit_is in
        let sum : (message_of u).header.checksum ≡ named_by pin from.later = sym (ap checksum_of same) ∙ shows.sum_is ∙ from.sum_is in
        let later : AreKnown n image (op + 1) pin from.later = ring_there n (superblock_units b t.shown) image (op + 1) pin from.later from.known
        (λ q low high. other_place b.file (content_of_superblock b)
        t o m new.first old.written new.written tell.whole is (PreparePlace (q % n)) Prepare (PreparePlace (op % n)) more mends.answers
        (λ (one : PreparePlace (op % n) ≡ PreparePlace (q % n)).
        mod_apart n op q some (omega (arith, low)) (omega (arith, high, from.count, within usable, above)) (cc))) in
        let one : op ≡ (op - 1) + 1 = omega (arith, above) in record {
          grid = grid_there b (superblock_units b t.shown) image (λ a. other_place b.file (content_of_superblock b)
              t o m new.first old.written new.written tell.whole is (BlockPlace a) Prepare (PreparePlace (op % n)) more mends.answers
              (λ (one : PreparePlace (op % n) ≡ BlockPlace a). cc)) from.grid;
          later = message_of u ∷ from.later;
          known = rw (← one) (there, sum, later);
          count = omega (arith, from.count, above);
          sum_is = refl;
        }

    due : (shelf : Option Holding) (result : Result ℕ Ending) → MendsUnit Prepare identity old new result → IfOk result (λ n. HoldsShown Prepare identity old.first new.first shelf) → MendsDue b Prepare (PreparePlace (op % b.file.layout.slots)) check t o old new shelf result
    due shelf result mends shown = due_mended b Prepare (PreparePlace (op % b.file.layout.slots))
        check identity for t o old new tell shelf (named_due usable t op (number_of check) above from) result mends shown

    pub prepare_mended : (held : Holding) (shelf : Option Holding) → shelf ≡ Some held → (more : ℕ) → MendsUnit
        Prepare identity old new (Ok more) → HoldsShown Prepare identity old.first new.first shelf → (h : Header) → h ≡ held.unit.header
        → Mended b (AreOfKind Prepare) t o old new (Ok more) (λ image. NamesPreparesFrom b image (op - 1) (number_of h.parent))
    prepare_mended held shelf lent more mends shown h is = let it = due shelf (Ok more) mends shown in
        of_one b Prepare (PreparePlace (op % b.file.layout.slots)) t o old new (Ok more) (λ image.
        NamesPreparesFrom b image (op - 1) (number_of h.parent)) it.answers
        (λ m there. rw (sym is) at (names_on held shelf lent more it m there))

    pub prepare_failed : (e : Ending)
        → MendsUnit Prepare identity old new (Err e) → Mended b (AreOfKind Prepare) t o old new (Err e) (λ image. Unit {0})
    prepare_failed e mends = of_one b Prepare (PreparePlace (op % b.file.layout.slots)) t o old new (Err e) (λ image.
        Unit {0}) (due None (Err e) mends tt).answers (λ m is. tt)
