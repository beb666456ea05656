-- Reads of places, and what a unit at a place says.
use Rattle.std.proofs.{Common.{◌≡◌, inl, inr, ℕ, ◌<◌, ◌≤◌, ◌%◌, ◌^◌, List, Option, Some, None, refl, sym, ◌∙◌, ap, subst, arith}, lemmas.List.{append-nil}}
use Rattle.df_base.specs.Image.{Image, IsImage, bytes_at}
use Rattle.df_layout.specs.{declared.damage.Class.{Class}, declared.layout.Layout.{Layout}, declared.places.Place.{Place}, declared.places.Zone.TheVariants.{WalHeaders, WalPrepares, ClientReplies, Grid}, Spans.{span_of}}
use Rattle.df_format.{specs.{declared.kind.Kind.{Kind}, declared.kind.Kind.TheVariants.{Reserved, Prepare, Reply}, declared.superblock.SuperCopy.{SuperCopy}, Rules.{ObeysKind, ObeysPrepare, ObeysReply, ObeysReserved, ObeysVersion}, Message.{Message}, Own.{place_in}, Shown.{bytes_of, part_in, unit_in}, Copies.{Content, class_of_copy, content_at, content_in_copy as content_of_copy, copy_at, copy_in, copy_or_class, if_here}, Valid.{IsUnit}}, proofs.Laws.{read_shown, shown_belongs, shown_is_unit, header_count}}
use Rattle.df_format.specs.Shown
use Rattle.df_theory.specs.Units
use Rattle.df_theory.specs.{Units.{AnyUnit, BlockPlace, CopyPlace, HeaderPlace, IsAlone, PreparePlace, PrepareUnit, ReplyPlace}, Found.{IsInRange, IsOfPlace}}
use Rattle.df_units.{specs.{Meaning.{block_of, content_of, header_of, message_of, number_of, place_of}, Bytes.{copy_unit, message_unit, unit_at}, Format.{shape_of}, Shown.{CopyReadIsUnit, HeaderReadIsUnit, ReadIsUnit, UnbootedAreAlone, UnitsAreOfPlaces, read_copy}}, proofs.{Chosen.{shown_checks}, Numbers.{check_small, sealed_check}, Versions.{first_alone, reply_alone}}}

-- ---- reads

pub read_unit : ReadIsUnit
read_unit layout cluster image (CopyPlace n) no_copy no_header = absurd (no_copy refl)
read_unit layout cluster image (HeaderPlace s) no_copy no_header = absurd (no_header refl)
read_unit layout cluster image (PreparePlace s) no_copy no_header =
    ap (message_unit (PreparePlace s)) (read_shown layout cluster image (place_of (PreparePlace s)) no_header)
read_unit layout cluster image (ReplyPlace k) no_copy no_header =
    ap (message_unit (ReplyPlace k)) (read_shown layout cluster image (place_of (ReplyPlace k)) no_header)
read_unit layout cluster image (BlockPlace a) no_copy no_header =
    ap (message_unit (BlockPlace a)) (read_shown layout cluster image (place_of (BlockPlace a)) no_header)

one_sector : (image : Image) (at n : ℕ) → n ≡ 1 → bytes_at image at n ≡ image at
one_sector image at n one = ap (λ (k : ℕ). bytes_at image at k) one ∙ append-nil (image at)

header_shown_by : (layout : Layout) (cluster : ℕ) (image : Image) (slot : ℕ)
    → unit_in layout cluster (place_in WalHeaders slot) (part_in WalHeaders slot (image (span_of layout (place_in WalHeaders slot)).first))
    ≡ Shown.unit_at layout cluster image (place_in WalHeaders slot)
unfolding Shown.unit_at bytes_of
header_shown_by layout cluster image slot = let span = span_of layout (place_in WalHeaders slot) in
    ap (λ (l : List ℕ). unit_in layout cluster (place_in WalHeaders slot) (part_in WalHeaders slot l))
    (sym (one_sector image span.first span.count (header_count layout slot)))

pub header_read : HeaderReadIsUnit
header_read layout cluster image slot = ap (message_unit (HeaderPlace slot)) (header_shown_by layout cluster image slot)

read_by : (o : Option SuperCopy) (class : Class) → read_copy (copy_or_class o class) ≡ copy_unit (content_of_copy o)
read_by None class = refl
read_by (Some copy) class = refl

pub copy_read : CopyReadIsUnit
unfolding copy_at
copy_read layout cluster image number = read_by (if_here number (copy_in (image number))) (class_of_copy number (image number))

-- ---- units at their places

-- a message that is shown at a place is valid there
abbrev IsShown : Layout → ℕ → Image → Place → Message → Type 0
IsShown layout cluster image place u = Shown.unit_at layout cluster image place ≡ Some u

pub reserved_op : (layout : Layout) (cluster : ℕ) (place : Place) (u : Message)
    → IsUnit layout cluster place u → u.header.kind ≡ Reserved → u.header.op ≡ 0
reserved_op layout cluster place u is kind =
    let rules : ObeysReserved u.header = subst (λ (k : Kind). ObeysKind k u.header) kind is.sealed.rules.kind in rules.op

prepare_rules : (layout : Layout) (cluster : ℕ) (place : Place) (u : Message)
    → IsUnit layout cluster place u → u.header.kind ≡ Prepare → ObeysPrepare u.header
prepare_rules layout cluster place u is kind = subst (λ (k : Kind). ObeysKind k u.header) kind is.sealed.rules.kind

pub prepare_op : (layout : Layout) (cluster : ℕ) (place : Place) (u : Message)
    → IsUnit layout cluster place u → u.header.kind ≡ Prepare → (0 < u.header.op) × (u.header.op ≤ 2 ^ 62)
prepare_op layout cluster place u is kind = (prepare_rules layout cluster place u is kind).op

-- the checksums of a unit
unit_check : (layout : Layout) (cluster : ℕ) (place : Place) (u : Message)
    → IsUnit layout cluster place u → number_of u.header.checksum < 2 ^ 128
unit_check layout cluster place u is = check_small u.header.checksum (sealed_check u.header is.sealed)

prepare_range : (layout : Layout) (cluster : ℕ) (place : Place) (u : Message)
    → IsUnit layout cluster place u → u.header.kind ≡ Prepare → IsInRange (header_of u.header)
prepare_range layout cluster place u is kind = let rules = prepare_rules layout cluster place u is kind in
    let fits = is.sealed.rules.fits in
    record { client = (rules.client, fits.client); request = rules.request; op = rules.op; checksums = (unit_check layout cluster place u is, check_small u.header.parent fits.parent) }

reply_range : (layout : Layout) (cluster : ℕ) (place : Place) (u : Message)
    → IsUnit layout cluster place u → u.header.kind ≡ Reply → IsInRange (header_of u.header)
reply_range layout cluster place u is kind =
    let rules : ObeysReply u.header = subst (λ (k : Kind). ObeysKind k u.header) kind is.sealed.rules.kind in
    let fits = is.sealed.rules.fits in
    record { client = (rules.client, fits.client); request = rules.request; op = rules.op; checksums = (unit_check layout cluster place u is, check_small u.header.parent fits.parent) }

module _ (layout : Layout)
    (cluster : ℕ) (named : 0 < cluster) (parse : ℕ → List ℕ → Option Units.Parts) (image : Image) (whole : IsImage image) where
  unit_shown : (place : Place) (u : Message) → IsShown layout cluster image place u → IsUnit layout cluster place u
  unit_shown place u is = shown_is_unit layout cluster image place u whole is

  of_copy : (n : ℕ) (o : Option Content) (x : AnyUnit)
      → content_at image n ≡ o → copy_unit o ≡ Some x → IsOfPlace (shape_of layout cluster named parse) (CopyPlace n) x
  of_copy n None x shown is = absurd (cc)
  of_copy n (Some c) x shown is = (content_of c, cc, check_small c.checksum (shown_checks image n c whole shown).checksum)

  header_slot : (s : ℕ) (u : Message) → IsShown layout cluster image (place_in WalHeaders s) u
      → 0 < u.header.op → (s ≡ u.header.op % layout.slots) × IsInRange (header_of u.header)
  header_slot s u is some = elim (shown_belongs layout cluster image (place_in WalHeaders s) u is).belongs [
    | inl reserved ↦
        absurd (omega (arith, reserved_op layout cluster (place_in WalHeaders s) u (unit_shown (place_in WalHeaders s) u is) reserved.kind))
    | inr prepare ↦
        (sym prepare.op, prepare_range layout cluster (place_in WalHeaders s) u (unit_shown (place_in WalHeaders s) u is) prepare.kind)
  ]

  of_header : (s : ℕ) (o : Option Message) (x : AnyUnit) → Shown.unit_at layout cluster image (place_in WalHeaders s) ≡ o
      → message_unit (HeaderPlace s) o ≡ Some x → IsOfPlace (shape_of layout cluster named parse) (HeaderPlace s) x
  of_header s None x shown is = absurd (cc)
  of_header s (Some u) x shown is = (header_of u.header, cc, unit_check layout cluster (place_in WalHeaders s) u (unit_shown (place_in WalHeaders s) u shown), header_slot s u shown)

  of_prepare : (s : ℕ) (o : Option Message) (x : AnyUnit) → Shown.unit_at layout cluster image (place_in WalPrepares s) ≡ o
      → message_unit (PreparePlace s) o ≡ Some x → IsOfPlace (shape_of layout cluster named parse) (PreparePlace s) x
  of_prepare s None x shown is = absurd (cc)
  of_prepare s (Some u) x shown is = let here = (shown_belongs layout cluster image (place_in WalPrepares s) u shown).belongs in
      (message_of u, cc, sym here.op, prepare_range layout cluster (place_in WalPrepares s) u (unit_shown (place_in WalPrepares s) u shown) here.kind)

  of_reply : (k : ℕ) (o : Option Message) (x : AnyUnit) → Shown.unit_at layout cluster image (place_in ClientReplies k) ≡ o
      → message_unit (ReplyPlace k) o ≡ Some x → IsOfPlace (shape_of layout cluster named parse) (ReplyPlace k) x
  of_reply k None x shown is = absurd (cc)
  of_reply k (Some u) x shown is = let here = (shown_belongs layout cluster image (place_in ClientReplies k) u shown).belongs in
      (message_of u, cc, reply_range layout cluster (place_in ClientReplies k) u (unit_shown (place_in ClientReplies k) u shown) here.kind, reply_alone u.header (rw (← here.kind) (unit_shown (place_in ClientReplies k) u shown).sealed.rules.version))

  of_block : (a : ℕ) (o : Option Message) (x : AnyUnit) → Shown.unit_at layout cluster image (place_in Grid a) ≡ o
      → message_unit (BlockPlace a) o ≡ Some x → IsOfPlace (shape_of layout cluster named parse) (BlockPlace a) x
  of_block a None x shown is = absurd (cc)
  of_block a (Some u) x shown is = let unit = unit_shown (place_in Grid a) u shown in
      (block_of u, cc, unit_check layout cluster (place_in Grid a) u unit, unit.body.each)

  of_place : (place : Units.Place) (x : AnyUnit)
      → unit_at layout cluster image place ≡ Some x → IsOfPlace (shape_of layout cluster named parse) place x
  of_place (CopyPlace n) x is = of_copy n (content_at image n) x refl is
  of_place (HeaderPlace s) x is = of_header s (Shown.unit_at layout cluster image (place_in WalHeaders s)) x refl is
  of_place (PreparePlace s) x is = of_prepare s (Shown.unit_at layout cluster image (place_in WalPrepares s)) x refl is
  of_place (ReplyPlace k) x is = of_reply k (Shown.unit_at layout cluster image (place_in ClientReplies k)) x refl is
  of_place (BlockPlace a) x is = of_block a (Shown.unit_at layout cluster image (place_in Grid a)) x refl is

pub of_places : UnitsAreOfPlaces
of_places layout cluster named parse image whole = of_place layout cluster named parse image whole

-- ---- prepares without a boot

shown_prepare : (o : Option Message) (s : ℕ) (p : Units.Message)
    → message_unit (PreparePlace s) o ≡ Some (PrepareUnit p) → (u : Message) × (o ≡ Some u) × (message_of u ≡ p)
shown_prepare None s p is = absurd (cc)
shown_prepare (Some u) s p is = (u, refl, cc)

no_prepare : Prepare ≡ Reserved → ⊥
no_prepare same = cc

pub unbooted_alone : UnbootedAreAlone
unbooted_alone layout cluster image whole s p shown none =
    let there = shown_prepare (Shown.unit_at layout cluster image (place_in WalPrepares s)) s p shown in let u : Message = there.0 in
    let unit = shown_is_unit layout cluster image (place_in WalPrepares s) u whole there.1 in
    let kind = (shown_belongs layout cluster image (place_in WalPrepares s) u there.1).belongs.kind in
    let version = rw kind at unit.sealed.rules.version in
    rw (← there.2) (first_alone Prepare u.header version no_prepare (ap (λ (m : Units.Message). m.header.boot) there.2 ∙ none))
