-- Each unit that an image shows has the codec's checksum: what the theory says of it, and its place, are all that its header says.
use Rattle.std.{proofs.{Common.{◌≡◌, ◌≢◌, ◌⊎◌, inl, inr, ℕ, suc, ◌<◌, ◌%◌, ◌==◌, Bool, true, false, cond, if◌then◌else◌, List, [], ◌∷◌, map, Option, Some, None, refl, sym, ◌∙◌, ap, subst, arith}, lemmas.Bool.{cond-true, cond-false, eq-eqb, ne_eqb}, lemmas.Bool.Decides.{nat_tests}, lemmas.List.{take_all}, lemmas.Option.{same_Some}}, specs.Prelude.{All}}
use Rattle.df_base.{specs.{Fields.{check_of, spelled}, Image.{Image, IsImage}}, proofs.Laws.{spelled-field_at}}
use Rattle.df_layout.specs.{declared.places.Place.{Place as OfFile}, declared.places.Zone.TheVariants.{WalPrepares, ClientReplies, Grid}}
use Rattle.df_format.{specs.{declared.header.Header.{Header}, declared.kind.Kind.{Kind}, declared.kind.Kind.TheVariants.{Prepare, Reply, Block, Trailer}, declared.superblock.SuperCopy.{SuperCopy}, declared.superblock.SuperFields.{SuperFields}, Copies.{Content, content_at, content_in_copy as content_in, copy_at, copy_in, if_here}, CopyLaws.{IsWrittenCopy}, Making.{blank_header, of_kind}, Message.{Message}, Own.{place_in}, Rules.{HasBoot, IsSealed, ObeysBlock, ObeysKind, ObeysTrailer, ObeysVersion}, Spelling.{IsCheck, no_checksum}, Super.{FitsSuper, NamesNone, covered_bytes, no_checksums}, Valid.{IsBodyOf, IsUnit}}, proofs.Laws.{is_here, made_again, shown_belongs, shown_is_unit, was_written}}
use Rattle.df_format.specs.Shown
use Rattle.df_theory.specs.Units.{AnyUnit, BlockPlace, CopyPlace, HeaderPlace, Place, PreparePlace, ReplyPlace}
use Rattle.df_units.{specs.{Bytes.{copy_unit, message_unit, unit_at}, Meaning.{block_of, content_of, message_of, number_of, number_or, pin_checksum_of, reply_checksums_of, unnamed_of}}, proofs.Laws.{by_other, by_second, none_are, nothing_else}}
use Rattle.df_replica.specs.Below.{DataFile, version_in}
use Rattle.df_session.specs.Codec.{HasCodecSum, IsContentOfFile, UnitsHaveSums, codec, fields_of, group_in, sum_of_unit, trailer_header}

-- ---- a header that has these fields

-- a checksum is the spelling of its number
pub spelled_number : (check : List ℕ) → IsCheck check → check ≡ spelled 16 (number_of check)
spelled_number check is = sym (spelled-field_at 16 0 check is.each (omega (arith, is.size)) ∙ take_all 16 check (omega (arith, is.size)))

-- a unit has the checksum of what is made of the fields that its kind names
sum_is : (kind : Kind) (u : Message) → u.header.kind ≡ kind → IsSealed u.header
    → IsBodyOf u.header u.body → number_of u.header.checksum ≡ sum_of_unit (of_kind kind u.header.cluster u.header) u.body
sum_is kind u same sealed has = ap (λ (h : Header). number_of h.checksum) (sym (made_again kind u.header u.body same sealed has))

-- ---- the versions

-- a unit that a boot made is of version 2, and any other of version 1
version_word : (kind : Kind) (h : Header) → (HasBoot kind h.boot → 0 < h.boot) → ObeysVersion kind h → h.version ≡ version_in h.boot
version_word kind h some is = elim is [
  | inl first ↦ first.version ∙ sym (cond-true (h.boot == 0) 1 2 (eq-eqb h.boot 0 first.boot))
  | inr second ↦ second.version ∙ sym (cond-false (h.boot == 0) 1 2 (ne_eqb h.boot 0 (λ none. omega (arith, none, some second.boot))))
]

-- where a boot made a prepare, it names its group
named_group : (boot first op : ℕ) → 0 < boot → 0 < first → group_in boot (number_or first op) ≡ first
named_group boot first op booted some = cond-false (boot == 0) 0 (number_or first op) (ne_eqb boot 0 (λ none. omega (arith, none, booted)))
    ∙ cond-false (first == 0) op first (ne_eqb first 0 (λ none. omega (arith, none, some)))

group_words : (h : Header) → ObeysVersion Prepare h
    → (h.group ≡ group_in h.boot (number_or h.group h.op)) × (h.group_last ≡ group_in h.boot (number_or h.group_last h.op))
group_words h is = elim is [
  | inl first ↦ let none = eq-eqb h.boot 0 first.boot in
      (first.group ∙ sym (cond-true (h.boot == 0) 0 (number_or h.group h.op) none), first.group_last ∙ sym (cond-true (h.boot == 0) 0 (number_or h.group_last h.op) none))
  | inr second ↦ let group = second.group in
      (sym (named_group h.boot h.group h.op second.boot.0 group.begins.0), sym (named_group h.boot h.group_last h.op second.boot.0 (omega (arith, group.begins.0, group.begins.1, group.ends.0))))
]

-- checksums are the spellings of their numbers
spelled_numbers : (checks : List (List ℕ)) → All IsCheck checks → checks ≡ map (spelled 16) (map number_of checks)
spelled_numbers [] each = refl
spelled_numbers (check ∷ checks) each = let first = spelled_number check (each 0 check (omega arith)) in
    let rest = spelled_numbers checks (λ k past inside. each (suc k) past (omega arith)) in λ i. first i ∷ rest i

-- what version 2 names is what its words name, and version 1 names nothing
named_words : (f : SuperFields) → (f.version ≡ 1) ⊎ (f.version ≡ 2) → FitsSuper f → (f.version ≢ 2 → NamesNone f)
    → (f.head_checksum ≡ cond (f.version == 2) (spelled 16 (number_of (pin_checksum_of f))) no_checksum)
    × (f.reply_checksums ≡ cond (f.version == 2) (map (spelled 16) (reply_checksums_of f)) no_checksums)
named_words f (inl first) fits named = let other : f.version ≢ 2 = λ second. omega (arith, first, second) in let none = named other in (
  none.head ∙ sym (by_other f (spelled 16 (number_of (pin_checksum_of f))) no_checksum other),
  none_are f.reply_checksums fits.reply_checksums.size none.replies
      ∙ sym (by_other f (map (spelled 16) (reply_checksums_of f)) no_checksums other),
)
named_words f (inr second) fits named = (
  spelled_number f.head_checksum fits.head_checksum
      ∙ ap (λ (check : List ℕ). spelled 16 (number_of check)) (sym (by_second f f.head_checksum f.op_checksum second))
      ∙ sym (by_second f (spelled 16 (number_of (pin_checksum_of f))) no_checksum second),
  spelled_numbers f.reply_checksums fits.reply_checksums.each
      ∙ ap (λ (numbers : List ℕ). map (spelled 16) numbers) (sym (by_second f (map number_of f.reply_checksums) [] second))
      ∙ sym (by_second f (map (spelled 16) (reply_checksums_of f)) no_checksums second),
)

-- ---- units of the file

module _ (file : DataFile) (image : Image) (whole : IsImage image) where
  abbrev IsShown : OfFile → Message → Type 0
  IsShown place u = Shown.unit_at file.layout file.cluster image place ≡ Some u

  version_of : (kind : Kind) (u : Message) → u.header.kind ≡ kind → IsSealed u.header → ObeysVersion kind u.header
  version_of kind u same sealed = subst (λ (k : Kind). ObeysVersion k u.header) same sealed.rules.version

  unit_there : (place : OfFile) (u : Message) → IsShown place u → IsUnit file.layout file.cluster place u
  unit_there place u shown = shown_is_unit file.layout file.cluster image place u whole shown

  prepare_sum : (slot : ℕ) (u : Message)
      → IsShown (place_in WalPrepares slot) u → number_of u.header.checksum ≡ (codec file).prepare (message_of u)
  prepare_sum slot u shown = let is = unit_there (place_in WalPrepares slot) u shown in
      let here = (shown_belongs file.layout file.cluster image (place_in WalPrepares slot) u shown).belongs in
      let parent = spelled_number u.header.parent is.sealed.rules.fits.parent in
      let slot_is : u.header.slot ≡ u.header.op % file.layout.slots = here.slot ∙ sym here.op in
      let obeys = version_of Prepare u here.kind is.sealed in let version = version_word Prepare u.header (λ boot. boot.0) obeys in
      let groups = group_words u.header obeys in sum_is Prepare u here.kind is.sealed is.body
      ∙ (λ i. sum_of_unit (record (of_kind Prepare (is.owner i)
      u.header) { parent = parent i; slot = slot_is i; version = version i; group = groups.0 i; group_last = groups.1 i }) u.body)

  reply_sum : (place : ℕ) (u : Message)
      → IsShown (place_in ClientReplies place) u → number_of u.header.checksum ≡ (codec file).reply place (message_of u)
  reply_sum place u shown = let is = unit_there (place_in ClientReplies place) u shown in
      let here = (shown_belongs file.layout file.cluster image (place_in ClientReplies place) u shown).belongs in
      let parent = spelled_number u.header.parent is.sealed.rules.fits.parent in
      let version = version_word Reply u.header (λ boot. boot.0) (version_of Reply u here.kind is.sealed) in
      sum_is Reply u here.kind is.sealed is.body ∙ (λ i.
      sum_of_unit (record (of_kind Reply (is.owner i) u.header) { parent = parent i; slot = here.slot i; version = version i }) u.body)

  -- the header of a block by whether its kind is zero
  of_zero : (address : ℕ) (u : Message) → Bool → Header
  of_zero address u zero = if zero then trailer_header file address (block_of u) else record (blank_header
      Block file.cluster) { op = address; block_kind = u.header.block_kind; version = version_in u.header.boot; boot = u.header.boot }

  zero_is : (address : ℕ) (u : Message) (b : Bool)
      → (u.header.block_kind == 0) ≡ b → sum_of_unit (of_zero address u b) u.body ≡ (codec file).block address (block_of u)
  unfolding of_zero
  zero_is address u b is = ap (λ (x : Bool). sum_of_unit (of_zero address u x) u.body) (sym is)

  block_sum : (address : ℕ) (u : Message)
      → IsShown (place_in Grid address) u → number_of u.header.checksum ≡ (codec file).block address (block_of u)
  unfolding of_zero
  block_sum address u shown = let is = unit_there (place_in Grid address) u shown in
      let here = (shown_belongs file.layout file.cluster image (place_in Grid address) u shown).belongs in elim here.kind [
        | inl block ↦ let rules : ObeysBlock u.header = subst (λ (k : Kind). ObeysKind k u.header) block is.sealed.rules.kind in
            let other : (u.header.block_kind == 0) ≡ false = grind (arith, nat_tests, rules.block_kind) in
            let version = version_word Block u.header (λ boot. boot.0) (version_of Block u block is.sealed) in
            sum_is Block u block is.sealed is.body ∙ (λ i. sum_of_unit
            (record (of_kind Block (is.owner i) u.header) { op = here.op i; version = version i }) u.body) ∙ zero_is address u false other
        | inr trailer ↦ let rules : ObeysTrailer u.header = subst (λ (k : Kind). ObeysKind k u.header) trailer is.sealed.rules.kind in
            let zero : (u.header.block_kind == 0) ≡ true = grind (arith, nat_tests, rules.block_kind) in
            let parent = spelled_number u.header.parent is.sealed.rules.fits.parent in
            let version = version_word Trailer u.header (λ boot. boot.0) (version_of Trailer u trailer is.sealed) in
            sum_is Trailer u trailer is.sealed is.body ∙ (λ i. sum_of_unit (record (of_kind
            Trailer (is.owner i) u.header) { parent = parent i; op = here.op i; version = version i }) u.body) ∙ zero_is address u true zero
      ]

  -- ---- the superblock

  copy_parts : (o : Option SuperCopy) (c : Content)
      → content_in o ≡ Some c → (copy : SuperCopy) × (o ≡ Some copy) × (record { checksum = copy.checksum; fields = copy.fields } ≡ c)
  copy_parts None c is = absurd (cc)
  copy_parts (Some copy) c is = (copy, refl, same_Some _ _ is)

  copy_there : (n : ℕ) (c : Content) → content_at image n ≡ Some c
      → (copy : SuperCopy) × (copy_in (image n) ≡ Some copy) × (record { checksum = copy.checksum; fields = copy.fields } ≡ c)
  unfolding copy_at
  copy_there n c is = let parts = copy_parts (if_here n (copy_in (image n))) c is in
      (parts.0, (is_here n (copy_in (image n)) parts.0 parts.1).0, parts.2)

  -- its fields are those of its words
  fields_are : (f : SuperFields) → IsContentOfFile file (content_of (record { checksum = []; fields = f }))
      → FitsSuper f → (f.version ≢ 2 → NamesNone f) → f ≡ fields_of file (content_of (record { checksum = []; fields = f }))
  fields_are f of fits named = let none = nothing_else (unnamed_of f) f.first_nonzero of.rest in
      let names = named_words f (elim of.version [ inl first ↦ inl first.0 | inr second ↦ inr second ]) fits named in λ i. record f {
        slots = (of.layout i).slots;
        message_size = (of.layout i).message_size;
        clients = (of.layout i).clients;
        block_size = (of.layout i).block_size;
        blocks = (of.layout i).blocks;
        cluster = of.cluster i;
        op_checksum = spelled_number f.op_checksum fits.op_checksum i;
        trailer_checksum = spelled_number f.trailer_checksum fits.trailer_checksum i;
        head_checksum = names.0 i;
        reply_checksums = names.1 i;
        first_nonzero = none i;
      }

  written_sum : (copy : SuperCopy)
      → IsWrittenCopy copy → IsContentOfFile file (content_of (record { checksum = copy.checksum; fields = copy.fields }))
      → number_of copy.checksum ≡ (codec file).content (content_of (record { checksum = copy.checksum; fields = copy.fields }))
  written_sum copy is of = let again : IsContentOfFile file (content_of (record { checksum = []; fields = copy.fields })) =
      record { version = of.version; layout = of.layout; cluster = of.cluster; rest = of.rest } in
      ap number_of (is.checksum ∙ ap (λ (f : SuperFields). check_of (covered_bytes f)) (fields_are copy.fields again is.fits is.named))

  content_sum : (n : ℕ) (c : Content)
      → content_at image n ≡ Some c → IsContentOfFile file (content_of c) → number_of c.checksum ≡ (codec file).content (content_of c)
  content_sum n c shown of = let there = copy_there n c shown in let of_copy = rw (sym there.2) at of in let is = was_written
      (image n) there.0 (whole.sectors n) (nothing_else (unnamed_of there.0.fields) there.0.fields.first_nonzero of_copy.rest) there.1 in
      subst (λ (x : Content). number_of x.checksum ≡ (codec file).content (content_of x)) there.2 (written_sum there.0 is.0 of_copy)

  -- ---- each unit

  of_copy : (n : ℕ) (o : Option Content) (x : AnyUnit) → content_at image n ≡ o → copy_unit o ≡ Some x → HasCodecSum file (CopyPlace n) x
  of_copy n None x shown is = absurd (cc)
  of_copy n (Some c) x shown is = subst (HasCodecSum file (CopyPlace n)) (same_Some _ _ is) (λ of. content_sum n c shown of)

  of_prepare : (s : ℕ) (o : Option Message) (x : AnyUnit) → Shown.unit_at file.layout file.cluster image (place_in WalPrepares s) ≡ o
      → message_unit (PreparePlace s) o ≡ Some x → HasCodecSum file (PreparePlace s) x
  of_prepare s None x shown is = absurd (cc)
  of_prepare s (Some u) x shown is = subst (HasCodecSum file (PreparePlace s)) (same_Some _ _ is) (prepare_sum s u shown)

  of_reply : (k : ℕ) (o : Option Message) (x : AnyUnit) → Shown.unit_at file.layout file.cluster image (place_in ClientReplies k) ≡ o
      → message_unit (ReplyPlace k) o ≡ Some x → HasCodecSum file (ReplyPlace k) x
  of_reply k None x shown is = absurd (cc)
  of_reply k (Some u) x shown is = subst (HasCodecSum file (ReplyPlace k)) (same_Some _ _ is) (reply_sum k u shown)

  of_block : (a : ℕ) (o : Option Message) (x : AnyUnit) → Shown.unit_at file.layout file.cluster image (place_in Grid a) ≡ o
      → message_unit (BlockPlace a) o ≡ Some x → HasCodecSum file (BlockPlace a) x
  of_block a None x shown is = absurd (cc)
  of_block a (Some u) x shown is = subst (HasCodecSum file (BlockPlace a)) (same_Some _ _ is) (block_sum a u shown)

  has_sum : (place : Place) (x : AnyUnit) → unit_at file.layout file.cluster image place ≡ Some x → HasCodecSum file place x
  has_sum (CopyPlace n) x is = of_copy n (content_at image n) x refl is
  has_sum (HeaderPlace s) x is = tt
  has_sum (PreparePlace s) x is = of_prepare s (Shown.unit_at file.layout file.cluster image (place_in WalPrepares s)) x refl is
  has_sum (ReplyPlace k) x is = of_reply k (Shown.unit_at file.layout file.cluster image (place_in ClientReplies k)) x refl is
  has_sum (BlockPlace a) x is = of_block a (Shown.unit_at file.layout file.cluster image (place_in Grid a)) x refl is

pub units_have_sums : UnitsHaveSums
units_have_sums file image place x whole is = has_sum file image whole place x is
