-- What a maker gives of a header obeys the rules of its kind, and a unit is what its maker would make again.
use Rattle.std.proofs.Common.{inl, inr, ◌≡◌, ◌↔◌, ℕ, ◌+◌, ◌^◌, ◌<◌, ◌≤◌, List, [], length, sym, ◌∙◌, ap, subst, arith, refl}
use Rattle.df_base.{specs.Fields.{check_of, spelled}, proofs.Laws.{so_check, so_many_zeros}}
use Rattle.df_format.specs.{declared.header.Header.{Header}, declared.kind.Kind.{Kind}, declared.kind.Kind.TheVariants.{Reserved, Prepare as AsPrepare, Reply, Block, Trailer}, Making.{for_body, of_kind}, Rules.{FitsFields, HasBoot, HasGroup, IsCounter, IsGroup, IsSealed, IsUngrouped, ObeysKind, ObeysRules, ObeysVersion}, Spelling.{IsCheck, no_checksum, sealed, spelling_rest, tail_of}, Valid.{IsBodyOf}}

-- ---- what a maker sees to, of the fields that its kind names

pub record GivesPrepare (h : Header) : Type 0 where
  pub parent : IsCheck h.parent
  pub first : h.op ≡ 1 → h.parent ≡ no_checksum
  pub client : (0 < h.client) × (h.client < 2 ^ 128)
  pub op : IsCounter h.op
  pub request : IsCounter h.request
  pub mark : h.mark < h.op
  pub checkpoint : IsCounter h.checkpoint
  pub slot : h.slot < 2 ^ 32

pub record GivesReply (h : Header) : Type 0 where
  pub parent : IsCheck h.parent
  pub client : (0 < h.client) × (h.client < 2 ^ 128)
  pub op : IsCounter h.op
  pub request : IsCounter h.request
  pub mark : (h.op ≤ h.mark) × (h.mark ≤ 2 ^ 62)
  pub checkpoint : IsCounter h.checkpoint
  pub slot : h.slot < 2 ^ 32

pub record GivesBlock (h : Header) : Type 0 where
  pub op : (0 < h.op) × (h.op < 2 ^ 64)
  pub block_kind : (0 < h.block_kind) × (h.block_kind < 256)

pub record GivesTrailer (h : Header) : Type 0 where
  pub parent : IsCheck h.parent
  pub first : h.mark ≡ 0 → h.parent ≡ no_checksum
  pub op : (0 < h.op) × (h.op < 2 ^ 64)
  pub request : ((h.request ≡ 0) ↔ (h.mark ≡ 0)) × (h.request < 2 ^ 64)
  pub mark : h.mark < 2 ^ 64
  pub checkpoint : (2 ≤ h.checkpoint) × (h.checkpoint ≤ 2 ^ 62)

-- a reserved header has no body, and a body of any other kind ends below 2 ^ 32
abbrev pub Gives : Kind → Header → List ℕ → Type 0
Gives Reserved h body = (h.slot < 2 ^ 32) × (body ≡ [])
Gives AsPrepare h body = GivesPrepare h × (256 + length body < 2 ^ 32)
Gives Reply h body = GivesReply h × (256 + length body < 2 ^ 32)
Gives Block h body = GivesBlock h × (256 + length body < 2 ^ 32)
Gives Trailer h body = GivesTrailer h × (256 + length body < 2 ^ 32)

-- no checksum is sixteen bytes too
pub no_check : IsCheck no_checksum
unfolding no_checksum
no_check = so_many_zeros 16

pub zeros_are : spelled 16 0 ≡ no_checksum
unfolding spelled no_checksum
zeros_are = refl

-- ---- the version

-- a header of version 1 as its maker leaves it
pub of_first : (kind : Kind) (h : Header) → h.version ≡ 1 → h.boot ≡ 0 → h.group ≡ 0 → h.group_last ≡ 0 → ObeysVersion kind h
of_first kind h version boot group group_last = inl (record { version = version; boot = boot; group = group; group_last = group_last })

-- and one of version 2, whose maker gives it the boot and the group that its kind asks for
pub of_second : (kind : Kind) (h : Header)
    → h.version ≡ 2 → HasBoot kind h.boot → HasGroup kind h.op h.group h.group_last → ObeysVersion kind h
of_second kind h version boot group = inr (record { version = version; boot = boot; group = group })

record FitsVersion (h : Header) : Type 0 where
  version : h.version < 2 ^ 16
  boot : h.boot < 2 ^ 64
  group : h.group < 2 ^ 64
  group_last : h.group_last < 2 ^ 64

boot_fits : (kind : Kind) (boot : ℕ) → HasBoot kind boot → boot < 2 ^ 64
boot_fits Reserved boot is = omega (arith, is)
boot_fits _ boot is = omega (arith, is.1)

-- the numbers of a group, or of none
abbrev BothFit : ℕ → ℕ → Type 0
BothFit first last = (first < 2 ^ 64) × (last < 2 ^ 64)

group_fits : (op first last : ℕ) → op ≤ 2 ^ 62 → IsGroup op first last → BothFit first last
group_fits op first last small is = (omega (arith, small, is.begins.1), omega (arith, small, is.begins.1, is.ends.1))

none_fits : (first last : ℕ) → IsUngrouped first last → BothFit first last
none_fits first last is = (omega (arith, is.none_first), omega (arith, is.none_last))

version_fits : (kind : Kind) (g : Header)
    → (HasGroup kind g.op g.group g.group_last → BothFit g.group g.group_last) → ObeysVersion kind g → FitsVersion g
version_fits kind g small is = elim is [
  | inl first ↦ record { version = omega (arith, first.version); boot = omega (arith, first.boot); group = omega (arith, first.group); group_last = omega (arith, first.group_last) }
  | inr second ↦ let both = small second.group in
      record { version = omega (arith, second.version); boot = boot_fits kind g.boot second.boot; group = both.0; group_last = both.1 }
]

fits_body : (g : Header) (body : List ℕ) → g.cluster < 2 ^ 128
    → IsCheck g.parent → g.client < 2 ^ 128 → g.op < 2 ^ 64 → g.request < 2 ^ 64 → g.mark < 2 ^ 64 → g.checkpoint < 2 ^ 64
    → 256 + length body < 2 ^ 32 → g.slot < 2 ^ 32 → g.block_kind < 256 → FitsVersion g → FitsFields (for_body g body)
fits_body g body cluster parent client op request mark checkpoint size slot block_kind version = assumption (so_check body)

-- ---- it obeys the rules

module _ (cluster : ℕ) (named : (0 < cluster) × (cluster < 2 ^ 128)) (h : Header) (body : List ℕ) where
  abbrev made : Kind → Header
  made kind = of_kind kind cluster h

  version_made : (kind : Kind) → ObeysVersion kind h → ObeysVersion kind (made kind)
  version_made Reserved is = elim is [ inl first ↦ inl assumption | inr second ↦ inr assumption ]
  version_made _ is = elim is [ inl first ↦ inl assumption | inr second ↦ inr assumption ]

  -- and so with its body
  version_obeys : (kind : Kind) (g : Header) → ObeysVersion kind g → ObeysVersion kind (for_body g body)
  version_obeys kind g is = elim is [ inl first ↦ inl assumption | inr second ↦ inr assumption ]

  obeys_kind : (kind : Kind) → Gives kind h body → ObeysKind kind (for_body (made kind) body)
  obeys_kind Reserved is = let size : 256 + length body ≡ 256 = omega (arith, ap length is.1) in assumption (ap check_of is.1)
  obeys_kind _ is = assumption

  fits : (kind : Kind) → ObeysVersion kind h → Gives kind h body → FitsFields (for_body (made kind) body)
  fits Reserved version is = fits_body (made Reserved) body named.1
      no_check (omega arith) (omega arith) (omega arith) (omega arith) (omega arith) (omega (arith, ap length is.1)) is.0 (omega arith)
      (version_fits Reserved (made Reserved) (none_fits 0 0) (version_made Reserved version))
  fits AsPrepare version is = fits_body (made AsPrepare) body named.1 is.0.parent is.0.client.1 (omega (arith, is.0.op.1))
      (omega (arith, is.0.request.1)) (omega (arith, is.0.mark, is.0.op.1)) (omega (arith, is.0.checkpoint.1)) is.1 is.0.slot (omega arith)
      (version_fits AsPrepare (made AsPrepare) (group_fits h.op h.group h.group_last is.0.op.1) (version_made AsPrepare version))
  fits Reply version is = fits_body (made Reply) body named.1 is.0.parent is.0.client.1 (omega (arith, is.0.op.1))
      (omega (arith, is.0.request.1)) (omega (arith, is.0.mark.1)) (omega (arith, is.0.checkpoint.1)) is.1 is.0.slot
      (omega arith) (version_fits Reply (made Reply) (none_fits 0 0) (version_made Reply version))
  fits Block version is = fits_body (made Block)
      body named.1 no_check (omega arith) is.0.op.1 (omega arith) (omega arith) (omega arith) is.1 (omega arith) is.0.block_kind.1
      (version_fits Block (made Block) (none_fits 0 0) (version_made Block version))
  fits Trailer version is = fits_body (made Trailer) body named.1
      is.0.parent (omega arith) is.0.op.1 is.0.request.1 is.0.mark (omega (arith, is.0.checkpoint.1)) is.1 (omega arith) (omega arith)
      (version_fits Trailer (made Trailer) (none_fits 0 0) (version_made Trailer version))

  whole : (g : Header) → FitsFields (for_body g body)
      → 0 < g.cluster → ObeysKind g.kind (for_body g body) → ObeysVersion g.kind g → ObeysRules (for_body g body)
  whole g fits cluster kind version =
      record { fits = fits; cluster = cluster; size = omega arith; kind = kind; version = version_obeys g.kind g version }

  pub given_obeys : (kind : Kind) → ObeysVersion kind h → Gives kind h body → ObeysRules (for_body (of_kind kind cluster h) body)
  given_obeys Reserved version is =
      whole (made Reserved) (fits Reserved version is) named.0 (obeys_kind Reserved is) (version_made Reserved version)
  given_obeys kind version is = whole (made kind) (fits kind version is) named.0 (obeys_kind kind is) (version_made kind version)

-- ---- a unit has what its kind names, and nothing else

-- a unit that isn't appended with others has no group, in either version
ungrouped : (kind : Kind) (h : Header)
    → (HasGroup kind h.op h.group h.group_last → IsUngrouped h.group h.group_last) → ObeysVersion kind h → IsUngrouped h.group h.group_last
ungrouped kind h alone is =
    elim is [ inl first ↦ record { none_first = first.group; none_last = first.group_last } | inr second ↦ alone second.group ]

-- its sizes are those of its body
bodied : (kind : Kind) (h : Header) (body : List ℕ) → h.kind ≡ kind
    → IsBodyOf h body → record h { checksum = no_checksum } ≡ for_body (record h { checksum = no_checksum; kind = kind }) body
bodied kind h body same has i = record h { checksum = no_checksum; checksum_body = has.checksum i; size = has.size i; kind = same i }

ungroup : (kind : Kind) (h : Header) (body : List ℕ)
    → h.kind ≡ kind → IsBodyOf h body → (HasGroup kind h.op h.group h.group_last → IsUngrouped h.group h.group_last) → ObeysVersion kind h
    → record h { checksum = no_checksum } ≡ for_body (record h { checksum = no_checksum; kind = kind; group = 0; group_last = 0 }) body
ungroup kind h body same has alone is i = let none = ungrouped kind h alone is in
    record (bodied kind h body same has i) { group = none.none_first i; group_last = none.none_last i }

-- nor a message's fields, where its kind has none
bare : (kind : Kind) (h : Header) (body : List ℕ)
    → h.kind ≡ kind → IsBodyOf h body → (HasGroup kind h.op h.group h.group_last → IsUngrouped h.group h.group_last) → ObeysVersion kind h
    → h.parent ≡ no_checksum → h.client ≡ 0 → h.request ≡ 0 → h.mark ≡ 0 → h.checkpoint ≡ 0
    → record h { checksum = no_checksum } ≡ for_body (record h { checksum = no_checksum; kind = kind; parent = no_checksum; client = 0; request = 0; mark = 0; checkpoint = 0; group = 0; group_last = 0 }) body
bare kind h body same has alone is parent client request mark checkpoint i = record (ungroup kind
    h body same has alone is i) { parent = parent i; client = client i; request = request i; mark = mark i; checkpoint = checkpoint i }

-- a reserved header no boot
pub unbooted : (h : Header) → ObeysVersion Reserved h → h.boot ≡ 0
unbooted h is = elim is [ inl first ↦ first.boot | inr second ↦ second.boot ]

again : (kind : Kind) (h : Header) (body : List ℕ) → h.kind ≡ kind → ObeysKind kind h
    → ObeysVersion kind h → IsBodyOf h body → record h { checksum = no_checksum } ≡ for_body (of_kind kind h.cluster h) body
again Reserved h body same is version has i = record (bare Reserved h body same has (λ group. group) version
    is.parent is.client is.request is.mark is.checkpoint i) { op = is.op i; block_kind = is.block_kind i; boot = unbooted h version i }
again AsPrepare h body same is version has i = record (bodied AsPrepare h body same has i) { block_kind = is.block_kind i }
again Reply h body same is version has i = record (ungroup Reply h body same has (λ group. group) version i) { block_kind = is.block_kind i }
again Block h body same is version has i =
    record (bare Block h body same has (λ group. group) version is.parent is.client is.request is.mark is.checkpoint i) { slot = is.slot i }
again Trailer h body same is version has i = record (ungroup Trailer h body same has (λ group.
    group) version i) { client = is.client i; slot = is.slot i; block_kind = is.block_kind i }

resealed : (h : Header) → IsSealed h → sealed (record h { checksum = no_checksum }) ≡ h
unfolding spelling_rest tail_of
resealed h is = λ i. record h { checksum = sym is.checksum i }

-- a sealed header with its body is what is made of the fields that its kind names
pub made_again : (kind : Kind) (h : Header) (body : List ℕ)
    → h.kind ≡ kind → IsSealed h → IsBodyOf h body → sealed (for_body (of_kind kind h.cluster h) body) ≡ h
made_again kind h body same is has = let kind_of = subst (λ (k : Kind). ObeysKind k h) same is.rules.kind in
    let version = subst (λ (k : Kind). ObeysVersion k h) same is.rules.version in
    ap sealed (sym (again kind h body same kind_of version has)) ∙ resealed h is
