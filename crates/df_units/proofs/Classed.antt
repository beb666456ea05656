-- What is wanted of a place, and the class of what it shows, in the words of the theory.
use Rattle.std.{proofs.{Common.{◌≡◌, ◌≢◌, ◌↔◌, inl, inr, ℕ, ◌<◌, List, Option, Some, None, refl, sym, ◌∙◌, ap, subst, arith}, lemmas.Option.{same_Some}}, specs.Prelude.{◌⊎◌, ⊤}}
use Rattle.df_base.{specs.Image.{Image, IsImage}, proofs.Laws.{no_some}}
use Rattle.df_layout.specs.{declared.damage.Class.TheVariants.{Stale}, declared.layout.Layout.{Layout}, declared.places.Zone.TheVariants.{WalHeaders, WalPrepares, ClientReplies, Grid}}
use Rattle.df_format.{specs.{declared.kind.Kind.{Kind}, declared.kind.Kind.TheVariants.{Reserved, Prepare, Reply, Block, Trailer}, declared.superblock.SuperCopy.{SuperCopy}, Copies.{Content, class_of_copy, content_at, content_in_copy, copy_at}, Message.{Message}, Own.{place_in}, Rules.{IsSealed}, Spelling.{IsCheck}, Valid.{IsUnit}, Wanted.{Any, Op, Checksum, Answer}}, proofs.Laws.{shown_is_unit, stale_copy, stale_valid, valid_belongs, valid_is_stale, valid_stale}}
use Rattle.df_format.specs.Shown
use Rattle.df_format.specs.Wanted
use Rattle.df_theory.specs.Units
use Rattle.df_theory.specs.Units.{AnyUnit, BlockPlace, BlockUnit, CopyPlace, CopyUnit, HeaderPlace, HeaderUnit, PreparePlace, PrepareUnit, ReplyPlace, ReplyUnit}
use Rattle.df_units.{specs.{Meaning.{block_of, content_of as content_of_copy, header_of, message_of, number_of, place_of, unit_of}, Bytes.{copy_unit, message_unit}, Wanted.{ClassesTell, HasWantedCheck, IsOfKind, IsTold, IsWantedUnit, NoneIsWanted, UnitsAreTold}}, proofs.{Numbers.{one_number, sealed_check}, AtPlaces.{prepare_op, reserved_op}, Told.{block_rules, trailer_rules}}}

-- ---- classes

copy_none : (o : Option SuperCopy) → copy_unit (content_in_copy o) ≡ None → o ≡ None
copy_none None is = refl
copy_none (Some copy) is = absurd (cc)

copy_told : (image : Image) (n : ℕ) → (class_of_copy n (image n) ≢ Stale) ↔ (copy_unit (content_at image n) ≡ None)
copy_told image n = (
  λ other. ap (λ (o : Option SuperCopy).
      copy_unit (content_in_copy o)) (no_some (copy_at image n) (λ copy is. other (valid_is_stale image n copy is))),
  λ none stale. let found = stale_copy image n stale in let some : None ≡ Some found.0 = sym (copy_none (copy_at image n) none) ∙ found.1 in
      absurd (cc),
)

-- a place that shows no unit of the theory shows no message
no_message : (place : Units.Place) (o : Option Message) → ((u : Message) → unit_of place u ≡ None → ⊥) → message_unit place o ≡ None → o ≡ None
no_message place None some is = refl
no_message place (Some u) some is = absurd (some u is)

module _ (layout : Layout) (cluster : ℕ) (image : Image) (place : Units.Place) (some : (u : Message) → unit_of place u ≡ None → ⊥) where
  message_told : (Shown.class_at layout cluster image (place_of place) ≢ Stale)
      ↔ (message_unit place (Shown.unit_at layout cluster image (place_of place)) ≡ None)
  unfolding Shown.class_at Shown.unit_at
  message_told = (
    λ other. ap (message_unit place) (no_some _ (λ u is. other (valid_stale layout cluster (place_of place) _ u is))),
    λ none stale. let found = stale_valid layout cluster (place_of place) _ stale in
        let both : None ≡ Some found.0 = sym (no_message place _ some none) ∙ found.1 in absurd (cc),
  )

pub classes_told : ClassesTell
classes_told layout cluster image (CopyPlace n) = copy_told image n
classes_told layout cluster image (HeaderPlace s) = message_told layout cluster image (HeaderPlace s) (λ u none. cc)
classes_told layout cluster image (PreparePlace s) = message_told layout cluster image (PreparePlace s) (λ u none. cc)
classes_told layout cluster image (ReplyPlace k) = message_told layout cluster image (ReplyPlace k) (λ u none. cc)
classes_told layout cluster image (BlockPlace a) = message_told layout cluster image (BlockPlace a) (λ u none. cc)

-- ---- kinds

-- what is of one kind is of no other one
other_kind : (u : Message) (kind other : Kind) → u.header.kind ≡ kind → (kind ≡ other → ⊥) → (u.header.kind ≡ other) ↔ ⊥
other_kind u kind other is differs = (λ same. differs (sym is ∙ same), λ none. absurd none)

own_kind : (u : Message) (kind : Kind) → u.header.kind ≡ kind → (u.header.kind ≡ kind) ↔ ⊤
own_kind u kind is = (λ same. tt, λ _. is)

prepare_kind : (u : Message) (kind : Kind) → u.header.kind ≡ Prepare → (u.header.kind ≡ kind) ↔ IsOfKind kind (PrepareUnit (message_of u))
prepare_kind u Prepare is = own_kind u Prepare is
prepare_kind u kind is = other_kind u Prepare kind is (λ same. cc)

reply_kind : (u : Message) (kind : Kind) → u.header.kind ≡ Reply → (u.header.kind ≡ kind) ↔ IsOfKind kind (ReplyUnit (message_of u))
reply_kind u Reply is = own_kind u Reply is
reply_kind u kind is = other_kind u Reply kind is (λ same. cc)

-- of two kinds, the one whose number is 0 and the one that has another number
abbrev IsEither : Kind → Kind → Kind → ℕ → Type 0
IsEither none some kind n = ((kind ≡ none) × (n ≡ 0)) ⊎ ((kind ≡ some) × (0 < n))

none_kind : (none some kind : Kind) (n : ℕ) → (some ≡ none → ⊥) → IsEither none some kind n → (kind ≡ none) ↔ (n ≡ 0)
none_kind none some kind n apart (inl is) = (λ _. is.1, λ _. is.0)
none_kind none some kind n apart (inr is) = (λ same. absurd (apart (sym is.0 ∙ same)), λ zero. absurd (omega (arith, is.1, zero)))

some_kind : (none some kind : Kind) (n : ℕ) → (none ≡ some → ⊥) → IsEither none some kind n → (kind ≡ some) ↔ (0 < n)
some_kind none some kind n apart (inl is) = (λ same. absurd (apart (sym is.0 ∙ same)), λ more. absurd (omega (arith, is.1, more)))
some_kind none some kind n apart (inr is) = (λ _. is.1, λ _. is.0)

neither_kind : (none some kind other : Kind) (n : ℕ)
    → (none ≡ other → ⊥) → (some ≡ other → ⊥) → IsEither none some kind n → (kind ≡ other) ↔ ⊥
neither_kind none some kind other n first second (inl is) = (λ same. first (sym is.0 ∙ same), λ no. absurd no)
neither_kind none some kind other n first second (inr is) = (λ same. second (sym is.0 ∙ same), λ no. absurd no)

-- in the header ring a reserved header has op 0, and that of a prepare another one
abbrev IsInRing : Message → Type 0
IsInRing u = IsEither Reserved Prepare u.header.kind u.header.op

header_kind : (u : Message) (kind : Kind) → IsInRing u → (u.header.kind ≡ kind) ↔ IsOfKind kind (HeaderUnit (header_of u.header))
header_kind u Reserved is = none_kind Reserved Prepare u.header.kind u.header.op (λ same. cc) is
header_kind u Prepare is = some_kind Reserved Prepare u.header.kind u.header.op (λ same. cc) is
header_kind u kind is = neither_kind Reserved Prepare u.header.kind kind u.header.op (λ same. cc) (λ same. cc) is

-- in the grid a trailer block has kind 0, and a block another one
abbrev IsInGrid : Message → Type 0
IsInGrid u = IsEither Trailer Block u.header.kind u.header.block_kind

block_kind : (u : Message) (kind : Kind) → IsInGrid u → (u.header.kind ≡ kind) ↔ IsOfKind kind (BlockUnit (block_of u))
block_kind u Trailer is = none_kind Trailer Block u.header.kind u.header.block_kind (λ same. cc) is
block_kind u Block is = some_kind Trailer Block u.header.kind u.header.block_kind (λ same. cc) is
block_kind u kind is = neither_kind Trailer Block u.header.kind kind u.header.block_kind (λ same. cc) (λ same. cc) is

-- ---- what is wanted

-- a checksum is the one that is wanted exactly where its number is
check_told : (u : Message) (checksum : List ℕ)
    → IsSealed u.header → IsCheck checksum → (u.header.checksum ≡ checksum) ↔ (number_of u.header.checksum ≡ number_of checksum)
check_told u checksum is fits = (λ same. ap number_of same, λ same. one_number u.header.checksum checksum (sealed_check u.header is) fits same)

no_op : (u : Message) (op : ℕ) (kind : Kind) → u.header.kind ≡ kind → (kind ≡ Prepare → ⊥) → Wanted.IsOp op u ↔ ⊥
no_op u op kind is differs = (λ wanted. differs (sym is ∙ wanted.kind), λ none. absurd none)

no_answer : (u : Message) (client request op : ℕ) (kind : Kind)
    → u.header.kind ≡ kind → (kind ≡ Reply → ⊥) → Wanted.IsAnswer client request op u ↔ ⊥
no_answer u client request op kind is differs = (λ wanted. differs (sym is ∙ wanted.kind), λ none. absurd none)

prepare_wanted : (u : Message) (wanted : Wanted.Wanted) → HasWantedCheck wanted
    → IsSealed u.header → u.header.kind ≡ Prepare → Wanted.IsWanted wanted u ↔ IsWantedUnit wanted (PrepareUnit (message_of u))
prepare_wanted u Any fits is kind = (λ _. tt, λ _. tt)
prepare_wanted u (Op op) fits is kind = (λ wanted. wanted.op, λ same. record { kind = kind; op = same })
prepare_wanted u (Checksum checksum) fits is kind = check_told u checksum is fits
prepare_wanted u (Answer client request op) fits is kind = no_answer u client request op Prepare kind (λ same. cc)

reply_wanted : (u : Message) (wanted : Wanted.Wanted) → HasWantedCheck wanted
    → IsSealed u.header → u.header.kind ≡ Reply → Wanted.IsWanted wanted u ↔ IsWantedUnit wanted (ReplyUnit (message_of u))
reply_wanted u Any fits is kind = (λ _. tt, λ _. tt)
reply_wanted u (Op op) fits is kind = no_op u op Reply kind (λ same. cc)
reply_wanted u (Checksum checksum) fits is kind = check_told u checksum is fits
reply_wanted u (Answer client request op) fits is kind =
    (λ wanted. (wanted.client, wanted.request, wanted.op), λ same. record { kind = kind; client = same.0; request = same.1; op = same.2 })

header_wanted : (u : Message) (wanted : Wanted.Wanted) → HasWantedCheck wanted
    → IsSealed u.header → IsInRing u → Wanted.IsWanted wanted u ↔ IsWantedUnit wanted (HeaderUnit (header_of u.header))
header_wanted u Any fits is ring = (λ _. tt, λ _. tt)
header_wanted u (Op op) fits is (inl reserved) =
    (λ wanted. absurd (let both : Reserved ≡ Prepare = sym reserved.0 ∙ wanted.kind in cc), λ same. absurd (omega (arith, reserved.1, same.0)))
header_wanted u (Op op) fits is (inr prepare) = (λ wanted. (prepare.1, wanted.op), λ same. record { kind = prepare.0; op = same.1 })
header_wanted u (Checksum checksum) fits is ring = check_told u checksum is fits
header_wanted u (Answer client request op) fits is (inl reserved) = no_answer u client request op Reserved reserved.0 (λ same. cc)
header_wanted u (Answer client request op) fits is (inr prepare) = no_answer u client request op Prepare prepare.0 (λ same. cc)

block_wanted : (u : Message) (wanted : Wanted.Wanted)
    → HasWantedCheck wanted → IsSealed u.header → IsInGrid u → Wanted.IsWanted wanted u ↔ IsWantedUnit wanted (BlockUnit (block_of u))
block_wanted u Any fits is grid = (λ _. tt, λ _. tt)
block_wanted u (Op op) fits is (inr block) = no_op u op Block block.0 (λ same. cc)
block_wanted u (Op op) fits is (inl trailer) = no_op u op Trailer trailer.0 (λ same. cc)
block_wanted u (Checksum checksum) fits is grid = check_told u checksum is fits
block_wanted u (Answer client request op) fits is (inr block) = no_answer u client request op Block block.0 (λ same. cc)
block_wanted u (Answer client request op) fits is (inl trailer) = no_answer u client request op Trailer trailer.0 (λ same. cc)

-- ---- by place

in_ring : (layout : Layout) (cluster slot : ℕ) (u : Message) → IsUnit layout cluster (place_in WalHeaders slot) u → IsInRing u
in_ring layout cluster slot u is = elim (valid_belongs layout cluster (place_in WalHeaders slot) u is).belongs [
  | inl reserved ↦ inl (reserved.kind, reserved_op layout cluster (place_in WalHeaders slot) u is reserved.kind)
  | inr prepare ↦ inr (prepare.kind, (prepare_op layout cluster (place_in WalHeaders slot) u is prepare.kind).0)
]

in_grid : (layout : Layout) (cluster address : ℕ) (u : Message) → IsUnit layout cluster (place_in Grid address) u → IsInGrid u
in_grid layout cluster address u is = elim (valid_belongs layout cluster (place_in Grid address) u is).belongs.kind [
  | inl block ↦ inr (block, (block_rules u is.sealed.rules.kind block).block_kind)
  | inr trailer ↦ inl (trailer, (trailer_rules u is.sealed.rules.kind trailer).block_kind)
]

pub units_told : UnitsAreTold
units_told layout cluster (CopyPlace n) kind wanted u x fits is means = absurd (cc)
units_told layout cluster (HeaderPlace s) kind wanted u x fits is means = let ring = in_ring layout cluster s u is in
    subst (λ (y : AnyUnit). IsTold kind wanted u y)
    (same_Some _ _ means) (record { of_kind = header_kind u kind ring; is_wanted = header_wanted u wanted fits is.sealed ring })
units_told layout cluster (PreparePlace s) kind wanted u x fits is means =
    let prepare = (valid_belongs layout cluster (place_in WalPrepares s) u is).belongs.kind in
    subst (λ (y : AnyUnit). IsTold kind wanted u y)
    (same_Some _ _ means) (record { of_kind = prepare_kind u kind prepare; is_wanted = prepare_wanted u wanted fits is.sealed prepare })
units_told layout cluster (ReplyPlace k) kind wanted u x fits is means =
    let reply = (valid_belongs layout cluster (place_in ClientReplies k) u is).belongs.kind in
    subst (λ (y : AnyUnit). IsTold kind wanted u y)
    (same_Some _ _ means) (record { of_kind = reply_kind u kind reply; is_wanted = reply_wanted u wanted fits is.sealed reply })
units_told layout cluster (BlockPlace a) kind wanted u x fits is means = let grid = in_grid layout cluster a u is in
    subst (λ (y : AnyUnit). IsTold kind wanted u y)
    (same_Some _ _ means) (record { of_kind = block_kind u kind grid; is_wanted = block_wanted u wanted fits is.sealed grid })

module _ (layout : Layout) (cluster : ℕ) (image : Image) (place : Units.Place) (kind : Kind) (wanted : Wanted.Wanted)
    (whole : IsImage image) (fits : HasWantedCheck wanted) (none : (u : Message) → Shown.unit_at layout cluster image (place_of
    place) ≡ Some u → u.header.kind ≡ kind → ¬ Wanted.IsWanted wanted u) where
  none_by : (o : Option Message) (x : AnyUnit)
      → Shown.unit_at layout cluster image (place_of place) ≡ o → message_unit place o ≡ Some x → IsOfKind kind x → ¬ IsWantedUnit wanted x
  none_by None x shown means of_kind is_wanted = absurd (cc)
  none_by (Some u) x shown means of_kind is_wanted = let told =
      units_told layout cluster place kind wanted u x fits (shown_is_unit layout cluster image (place_of place) u whole shown) means in
      none u shown (told.of_kind.1 of_kind) (told.is_wanted.1 is_wanted)

copy_of_none : (kind : Kind) (o : Option Content) (x : AnyUnit) → copy_unit o ≡ Some x → IsOfKind kind x → ⊥
copy_of_none kind None x is of_kind = absurd (cc)
copy_of_none kind (Some c) x is of_kind = no_kind kind c (rw (sym (same_Some _ _ is)) at of_kind)
  where
    no_kind : (kind : Kind) (c : Content) → IsOfKind kind (CopyUnit (content_of_copy c)) → ⊥
    no_kind Reserved c is = is
    no_kind Prepare c is = is
    no_kind Reply c is = is
    no_kind Block c is = is
    no_kind Trailer c is = is

pub none_wanted : NoneIsWanted
none_wanted layout cluster image (CopyPlace n) kind wanted whole fits none x is of_kind is_wanted =
    copy_of_none kind (content_at image n) x is of_kind
none_wanted layout cluster image (HeaderPlace s) kind wanted whole fits none x is of_kind is_wanted =
    none_by layout cluster image (HeaderPlace s) kind wanted whole fits none _ x refl is of_kind is_wanted
none_wanted layout cluster image (PreparePlace s) kind wanted whole fits none x is of_kind is_wanted =
    none_by layout cluster image (PreparePlace s) kind wanted whole fits none _ x refl is of_kind is_wanted
none_wanted layout cluster image (ReplyPlace k) kind wanted whole fits none x is of_kind is_wanted =
    none_by layout cluster image (ReplyPlace k) kind wanted whole fits none _ x refl is of_kind is_wanted
none_wanted layout cluster image (BlockPlace a) kind wanted whole fits none x is of_kind is_wanted =
    none_by layout cluster image (BlockPlace a) kind wanted whole fits none _ x refl is of_kind is_wanted
