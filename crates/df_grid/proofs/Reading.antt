-- What was read into a room is what the machine reads there.
use Rattle.std.{proofs.{Common.{◌≡◌, ◌==◌, inl, inr, ℕ, ◌<◌, Bool, true, false, cond, not, Option, Some, None, List, refl, sym, ap, subst, ◌∙◌, arith, eq-eqb, ne_eqb, eqb-true}, lemmas.Slice.Eq.{bytes_eq-Decides}}, specs.{Prelude.{Result, Ok, Err}, Bool.{Decides}, Str.{bytes_eq}}}
use Rattle.{df_base.specs.Image.{Image}, df_disk.specs.Told.{Told}, df_theory.specs.Units.{BlockPlace}}
use Rattle.df_layout.specs.{declared.damage.Class.{Class}, declared.damage.Class.TheVariants.{Stale}, declared.layout.Layout.{Layout}, declared.places.Zone.TheVariants.{Grid}}
use Rattle.df_format.{specs.{declared.header.Header.{Header}, declared.kind.Kind.{Kind}, declared.kind.Kind.TheVariants.{Block, Trailer}, Message.{Message}, Own.{place_in}, Shown.{header_or_class}, Spelling.{IsCheck}, Valid.{IsUnit}, Rules.{ObeysBlock, ObeysKind, ObeysTrailer}}, proofs.Laws.{valid_belongs, shown_stale}}
use Rattle.df_format.specs.Shown
use Rattle.df_buffers.specs.{declared.identity.Identity.{Identity}, Sounds.{Holding}}
use Rattle.df_theory.specs.Units
use Rattle.df_model.specs.Supply.{block_at, block_given, class_or, given_if, is_sum, no_trailer}
use Rattle.df_units.{specs.{Meaning.{block_of, number_of}, Bytes.{message_unit}}, proofs.Laws.{one_number, sealed_check}}
use Rattle.df_places.specs.{Units.{IsSeen}, Shelves.{HoldsFound, IsFoundUnit, IsOf, IsRead}}
use Rattle.df_grid.{specs.{Grid.{IsKnownBlock}, Reads.{IsFaultOf, at_address, ReadsBlock, ReadsTrailer, Tests, class_in, shown_of, trailer_alone}}, proofs.Single.{not_both}}

-- the machine's answer is one about the message that is shown
abbrev pub given : Option ℕ → Option Message → Class → Result Units.Block Class
given known None class = Err class
given known (Some u) class = given_if (is_sum known (number_of u.header.checksum)) (block_of u) Stale

given_of : (known : Option ℕ) (a : ℕ) (o : Option Message) (class : Class)
    → block_given known (message_unit (BlockPlace a) o) (class_or (message_unit (BlockPlace a) o) class) ≡ given known o class
given_of known a None class = refl
given_of known a (Some u) class = refl

pub block_image : (layout : Layout) (cluster a : ℕ) (image : Image) (known : Option ℕ) → block_at (shown_of layout cluster image) known a
    ≡ given known (Shown.unit_at layout cluster image (place_in Grid a)) (Shown.class_at layout cluster image (place_in Grid a))
block_image layout cluster a image known =
    given_of known a (Shown.unit_at layout cluster image (place_in Grid a)) (Shown.class_at layout cluster image (place_in Grid a))

-- ---- one kind of block

-- a block of the kind is answered, and any other is stale
abbrev pub sieve : (Units.Block → Bool) → Result Units.Block Class → Result Units.Block Class
sieve p (Ok b) = given_if (p b) b Stale
sieve p (Err class) = Err class

of_blocks : (r : Result Units.Block Class) → no_trailer r ≡ sieve (λ b. not (b.kind == 0)) r
of_blocks (Ok b) = refl
of_blocks (Err class) = refl

of_trailers : (r : Result Units.Block Class) → trailer_alone r ≡ sieve (λ b. b.kind == 0) r
of_trailers (Ok b) = refl
of_trailers (Err class) = refl

-- the kinds of the grid, by the block's own kind
block_kind : (layout : Layout) (cluster a : ℕ) (u : Message)
    → IsUnit layout cluster (place_in Grid a) u → u.header.kind ≡ Block → 0 < u.header.block_kind
block_kind layout cluster a u is kind =
    (let obeys : ObeysBlock u.header = subst (λ (k : Kind). ObeysKind k u.header) kind is.sealed.rules.kind in obeys.block_kind)

trailer_kind : (layout : Layout) (cluster a : ℕ) (u : Message)
    → IsUnit layout cluster (place_in Grid a) u → u.header.kind ≡ Trailer → u.header.block_kind ≡ 0
trailer_kind layout cluster a u is kind =
    (let obeys : ObeysTrailer u.header = subst (λ (k : Kind). ObeysKind k u.header) kind is.sealed.rules.kind in obeys.block_kind)

-- the test of a block tells the kind of its unit
abbrev pub TellsKind : Layout → ℕ → ℕ → Kind → (Units.Block → Bool) → Type 0
TellsKind layout cluster a kind p = (u : Message) → IsUnit layout cluster (place_in Grid a) u
    → ((u.header.kind ≡ kind) → p (block_of u) ≡ true) × (p (block_of u) ≡ true → u.header.kind ≡ kind)

blocks_tell : (layout : Layout) (cluster a : ℕ) → TellsKind layout cluster a Block (λ b. not (b.kind == 0))
blocks_tell layout cluster a u is = (
  λ kind. ap not (ne_eqb u.header.block_kind 0 (λ zeros. omega (arith, zeros, block_kind layout cluster a u is kind))),
  λ some. elim (valid_belongs layout cluster (place_in Grid a) u is).belongs.kind [
    | inl kind ↦ kind
    | inr kind ↦ absurd (let none : not (u.header.block_kind == 0) ≡ false = ap not (eq-eqb
        u.header.block_kind 0 (trailer_kind layout cluster a u is kind)) in cc)
  ],
)

trailers_tell : (layout : Layout) (cluster a : ℕ) → TellsKind layout cluster a Trailer (λ b. b.kind == 0)
trailers_tell layout cluster a u is = (
  λ kind. eq-eqb u.header.block_kind 0 (trailer_kind layout cluster a u is kind),
  λ some. elim (valid_belongs layout cluster (place_in Grid a) u is).belongs.kind [
    | inl kind ↦ absurd (let none : (u.header.block_kind == 0) ≡ false = ne_eqb u.header.block_kind 0 (λ zeros.
        omega (arith, zeros, block_kind layout cluster a u is kind)) in cc)
    | inr kind ↦ kind
  ],
)

module _ (layout : Layout) (cluster a : ℕ) (check : List ℕ)
    (image : Image) (kind : Kind) (p : Units.Block → Bool) (fits : IsCheck check) (tells : TellsKind layout cluster a kind p) where
  wanted_answer : Result Units.Block Class
  wanted_answer = sieve p (given (Some (number_of check))
      (Shown.unit_at layout cluster image (place_in Grid a)) (Shown.class_at layout cluster image (place_in Grid a)))

  -- the unit wanted is answered
  found_is : (h : Holding) → IsFoundUnit kind (at_address layout cluster a check) h.unit
      → IsOf kind (at_address layout cluster a check) image None (Some h) → Ok (block_of h.unit) ≡ wanted_answer
  unfolding wanted_answer
  found_is h found read = let u = h.unit in let passes : p (block_of u) ≡ true = (tells u found.is).0 found.of_kind in
      let same : (number_of u.header.checksum == number_of check) ≡ true =
      eq-eqb (number_of u.header.checksum) (number_of check) (ap number_of found.wanted) in sym (ap (λ (o : Option Message).
      sieve p (given (Some (number_of check)) o (Shown.class_at layout cluster image (place_in Grid a)))) read.judges
      ∙ ap (λ (b : Bool). sieve p (given_if b (block_of u) Stale)) same ∙ ap (λ (b : Bool). given_if b (block_of u) Stale) passes)

  -- what isn't has a class
  lacks_case : (class : Class) (held : Option Holding) → IsOf kind (at_address layout cluster a check) image (Some class) held
      → (o : Option Message) → Shown.unit_at layout cluster image (place_in Grid a) ≡ o
      → Err class ≡ sieve p (given (Some (number_of check)) o (Shown.class_at layout cluster image (place_in Grid a)))
  lacks_case class held read None shown = ap Err read.judges.1
  lacks_case class held read (Some u) shown = ap Err (read.judges.1 ∙ shown_stale layout cluster image (place_in Grid a) u shown)
      ∙ sym (go (number_of u.header.checksum == number_of check) refl (p (block_of u)) refl)
    where
      go : (b : Bool) → (number_of u.header.checksum == number_of check) ≡ b
          → (q : Bool) → p (block_of u) ≡ q → sieve p (given_if b (block_of u) Stale) ≡ Err Stale
      go false differs q test = refl
      go true same false test = ap (λ (x : Bool). given_if x (block_of u) Stale) test
      go true same true test = let is = read.valid u shown in let wanted : u.header.checksum ≡ check = one_number
          u.header.checksum check (sealed_check u.header is.sealed) fits (eqb-true (number_of u.header.checksum) (number_of check) same) in
          absurd (read.judges.0 u shown (record { is = is; of_kind = (tells u is).1 test; wanted = wanted }))

  lacks_is : (class : Class) (held : Option Holding)
      → IsOf kind (at_address layout cluster a check) image (Some class) held → Err class ≡ wanted_answer
  unfolding wanted_answer
  lacks_is class held read = lacks_case class held read (Shown.unit_at layout cluster image (place_in Grid a)) refl

-- ---- what is answered

module _ (layout : Layout) (cluster a : ℕ) (check : List ℕ) (fits : IsCheck check) where
  -- what an image shows at the address
  shown : Image → Result Units.Block Class
  shown image = given (Some (number_of check))
      (Shown.unit_at layout cluster image (place_in Grid a)) (Shown.class_at layout cluster image (place_in Grid a))

  pub block_read : (told : Option Told) (h : Holding) → IsFoundUnit Block (at_address layout cluster a check) h.unit → IsRead Block (at_address layout cluster a check) told None (Some h) → ReadsBlock layout cluster told a (Some (number_of check)) (Ok (block_of h.unit))
  unfolding wanted_answer shown
  block_read None h found read = tt
  block_read (Some t) h found read =
      found_is layout cluster a check t.shown Block (λ b. not (b.kind == 0)) fits (blocks_tell layout cluster a) h found read
      ∙ sym (ap no_trailer (block_image layout cluster a t.shown (Some (number_of check))) ∙ of_blocks (shown t.shown))

  pub block_lacks : (told : Option Told) (class : Class) (held : Option Holding) → IsRead Block
      (at_address layout cluster a check) told (Some class) held → ReadsBlock layout cluster told a (Some (number_of check)) (Err class)
  unfolding wanted_answer shown
  block_lacks None class held read = tt
  block_lacks (Some t) class held read =
      lacks_is layout cluster a check t.shown Block (λ b. not (b.kind == 0)) fits (blocks_tell layout cluster a) class held read
      ∙ sym (ap no_trailer (block_image layout cluster a t.shown (Some (number_of check))) ∙ of_blocks (shown t.shown))

  pub trailer_read : (told : Option Told) (h : Holding) → IsFoundUnit Trailer (at_address layout cluster a check) h.unit → IsRead Trailer
      (at_address layout cluster a check) told None (Some h) → ReadsTrailer layout cluster told a (number_of check) (Ok (block_of h.unit))
  unfolding wanted_answer shown
  trailer_read None h found read = tt
  trailer_read (Some t) h found read =
      found_is layout cluster a check t.shown Trailer (λ b. b.kind == 0) fits (trailers_tell layout cluster a) h found read
      ∙ sym (ap trailer_alone (block_image layout cluster a t.shown (Some (number_of check))) ∙ of_trailers (shown t.shown))

  pub trailer_lacks : (told : Option Told) (class : Class) (held : Option Holding) → IsRead
      Trailer (at_address layout cluster a check) told (Some class) held → ReadsTrailer layout cluster told a (number_of check) (Err class)
  unfolding wanted_answer shown
  trailer_lacks None class held read = tt
  trailer_lacks (Some t) class held read =
      lacks_is layout cluster a check t.shown Trailer (λ b. b.kind == 0) fits (trailers_tell layout cluster a) class held read
      ∙ sym (ap trailer_alone (block_image layout cluster a t.shown (Some (number_of check))) ∙ of_trailers (shown t.shown))

-- ---- as the calls answer

module _ (layout : Layout) (cluster a : ℕ) (check : List ℕ) (fits : IsCheck check) (told : Option Told)
    (identity : Identity) (there : identity ≡ at_address layout cluster a check) (wrong : Option Class) (held : Option Holding) where
  -- what is known of one kind of unit
  read_there : (kind : Kind) → IsRead kind identity told wrong held
      → (o : Option Class) → wrong ≡ o → (p : Option Holding) → held ≡ p → IsRead kind (at_address layout cluster a check) told o p
  read_there kind read o is p has = subst (λ (r : Option Holding). IsRead kind (at_address layout cluster a check) told o r) has
      (rw is at (rw there at read))

  found_there : (kind : Kind) (h : Holding)
      → HoldsFound kind identity wrong held → wrong ≡ None → held ≡ Some h → IsFoundUnit kind (at_address layout cluster a check) h.unit
  found_there kind h holds is has = subst (λ (r : Option Holding). HoldsFound kind (at_address layout cluster a check) None r) has
      (rw is at (rw there at holds))

  pub shows_other_block : (known : Option ℕ) (class : Class) → wrong ≡ Some class
      → IsRead Block identity told wrong held → known ≡ Some (number_of check) → ReadsBlock layout cluster told a known (Err class)
  shows_other_block known class is read same = subst (λ (k : Option ℕ). ReadsBlock layout cluster told a k (Err class))
      (sym same) (block_lacks layout cluster a check fits told class held (read_there Block read (Some class) is held refl))

  pub shows_block : (known : Option ℕ) (h : Holding) → wrong ≡ None → held ≡ Some h → HoldsFound Block identity wrong held →
      IsRead Block identity told wrong held → known ≡ Some (number_of check) → ReadsBlock layout cluster told a known (Ok (block_of h.unit))
  shows_block known h is has holds read same =
      subst (λ (k : Option ℕ). ReadsBlock layout cluster told a k (Ok (block_of h.unit))) (sym same)
      (block_read layout cluster a check fits told h (found_there Block h holds is has) (read_there Block read None is (Some h) has))

  pub shows_other_trailer : (class : Class)
      → wrong ≡ Some class → IsRead Trailer identity told wrong held → ReadsTrailer layout cluster told a (number_of check) (Err class)
  shows_other_trailer class is read =
      trailer_lacks layout cluster a check fits told class held (read_there Trailer read (Some class) is held refl)

  pub shows_trailer : (h : Holding) → wrong ≡ None → held ≡ Some h → HoldsFound Trailer identity wrong held
      → IsRead Trailer identity told wrong held → ReadsTrailer layout cluster told a (number_of check) (Ok (block_of h.unit))
  shows_trailer h is has holds read =
      trailer_read layout cluster a check fits told h (found_there Trailer h holds is has) (read_there Trailer read None is (Some h) has)

  pub shows_valid : (kind : Kind) (known : Option ℕ) (h : Holding) → wrong ≡ None → held ≡ Some h
      → HoldsFound kind identity wrong held → known ≡ Some (number_of check) → IsKnownBlock kind layout cluster a known h.unit
  shows_valid kind known h is has holds same = let found = found_there kind h holds is has in
      record { is = found.is; of_kind = found.of_kind; sum = same ∙ ap (λ (b : List ℕ). Some (number_of b)) (sym found.wanted) }

-- ---- a test

decides_true : {P : Type 0} (b : Bool) → Decides b P → b ≡ true → P
decides_true b d is = d.0 is

decides_false : {P : Type 0} (b : Bool) → Decides b P → b ≡ false → P → ⊥
decides_false b d is fact = not_both b (d.1 fact) is

found_case : (check : List ℕ) (u : Message) (class : Class) (answer : Option Class)
    → IsFaultOf (Ok u.header) check answer → answer ≡ class_in (given (Some (number_of check)) (Some u) class)
found_case check u class answer is = is.2 ∙ go (bytes_eq u.header.checksum check) refl (number_of u.header.checksum == number_of check) refl
  where
    go : (b : Bool) → bytes_eq u.header.checksum check ≡ b → (q : Bool)
        → (number_of u.header.checksum == number_of check) ≡ q → cond b None (Some Stale) ≡ class_in (given_if q (block_of u) Stale)
    go true same true equal = refl
    go false same false equal = refl
    go true same false equal = not_both (number_of u.header.checksum == number_of check) (eq-eqb (number_of u.header.checksum) (number_of
        check) (ap number_of (decides_true (bytes_eq u.header.checksum check) (bytes_eq-Decides u.header.checksum check) same))) equal
    go false same true equal = absurd (decides_false (bytes_eq u.header.checksum check) (bytes_eq-Decides u.header.checksum check)
        same (one_number u.header.checksum check is.0 is.1 (eqb-true (number_of u.header.checksum) (number_of check) equal)))

test_case : (check : List ℕ) (o : Option Message) (class : Class) (answer : Option Class)
    → IsFaultOf (header_or_class o class) check answer → answer ≡ class_in (given (Some (number_of check)) o class)
test_case check None class answer is = is
test_case check (Some u) class answer is = found_case check u class answer is

pub tests : (layout : Layout) (cluster a : ℕ) (told : Option Told) (check : List ℕ) (seen : Result Header Class) (answer : Option Class)
    → IsFaultOf seen check answer → IsSeen layout cluster told (place_in Grid a) seen → Tests layout cluster told a (number_of check) answer
tests layout cluster a None check seen answer fault is = tt
tests layout cluster a (Some t) check seen answer fault is = test_case check (Shown.unit_at layout cluster t.shown (place_in Grid a))
    (Shown.class_at layout cluster t.shown (place_in Grid a)) answer (rw is at fault)
    ∙ ap class_in (sym (block_image layout cluster a t.shown (Some (number_of check))))
