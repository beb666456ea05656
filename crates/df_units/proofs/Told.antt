-- What the units of the theory tell of those of the file.
use Rattle.std.{proofs.{Common.{◌≡◌, inl, inr, ◌+◌, ◌*◌, ◌/◌, ◌%◌, ◌==◌, refl, sym, ◌∙◌, ap, subst, arith}, lemmas.Bool.{eqb-true}}, specs.Prelude.{slice_get}}
use Rattle.df_layout.specs.declared.places.Zone.TheVariants.{Grid}
use Rattle.df_format.{specs.{declared.header.Header.{Header}, declared.kind.Kind.{Kind}, declared.kind.Kind.TheVariants.{Block, Reserved, Trailer}, Message.{Message}, Own.{place_in}, Rules.{ObeysBlock, ObeysKind, ObeysReserved, ObeysTrailer, ObeysVersion}}, proofs.Laws.{valid_belongs, unbooted}}
use Rattle.df_theory.specs.Units.{BlockPlace, CopyPlace, HeaderPlace, HeaderUnit, PreparePlace, ReplyPlace}
use Rattle.df_units.{specs.{Meaning.{header_of}, Tells.{ReservedArePut, SectorPuts, TableIsPut, TrailersTell}}, proofs.Writes.{put_is}}

pub trailer_rules : (u : Message) → ObeysKind u.header.kind u.header → u.header.kind ≡ Trailer → ObeysTrailer u.header
trailer_rules u rules kind = subst (λ (k : Kind). ObeysKind k u.header) kind rules

pub block_rules : (u : Message) → ObeysKind u.header.kind u.header → u.header.kind ≡ Block → ObeysBlock u.header
block_rules u rules kind = subst (λ (k : Kind). ObeysKind k u.header) kind rules

pub trailers_tell : TrailersTell
trailers_tell layout cluster address u is = elim (valid_belongs layout cluster (place_in Grid address) u is).belongs.kind [
  | inl block ↦ let rules = block_rules u is.sealed.rules.kind block in (
    (λ trailer. absurd (let both : Block ≡ Trailer = sym block ∙ trailer in cc), λ some. absurd (omega (arith, rules.checkpoint, some))),
    (λ trailer. absurd (let both : Block ≡ Trailer = sym block ∙ trailer in cc), λ none. absurd (omega (arith, rules.block_kind, none))),
  )
  | inr trailer ↦ let rules = trailer_rules u is.sealed.rules.kind trailer in (
    (λ _. omega (arith, rules.checkpoint.0), λ some. trailer),
    (λ _. rules.block_kind, λ none. trailer),
  )
]

pub sector_puts : SectorPuts
sector_puts sector headers (HeaderPlace s) y is = let put = put_is sector s headers (s / 16 == sector) (slice_get headers (s % 16)) y is in
    (s, put.1.0, refl, sym put.1.2, eqb-true (s / 16) sector put.0, put.1.1)
sector_puts sector headers (CopyPlace n) y is = absurd (cc)
sector_puts sector headers (PreparePlace n) y is = absurd (cc)
sector_puts sector headers (ReplyPlace n) y is = absurd (cc)
sector_puts sector headers (BlockPlace n) y is = absurd (cc)

reserved_version : (h : Header) → ObeysVersion h.kind h → h.kind ≡ Reserved → ObeysVersion Reserved h
reserved_version h rules kind = subst (λ (k : Kind). ObeysVersion k h) kind rules

reserved_rules : (h : Header) → ObeysKind h.kind h → h.kind ≡ Reserved → ObeysReserved h
reserved_rules h rules kind = subst (λ (k : Kind). ObeysKind k h) kind rules

pub reserved_put : ReservedArePut
reserved_put sector headers sixteen reserved place y is = let put = sector_puts sector headers place y is in let h : Header = put.1 in
    let obeys = (sixteen.each (put.0 % 16) h put.5).rules in let kind = reserved (put.0 % 16) h put.5 in
    let rules = reserved_rules h obeys.kind kind in
    (put.0, header_of h, put.2, put.3, record { op = rules.op; checkpoint = rules.checkpoint; boot = unbooted h (reserved_version h obeys.version kind) })

pub table_put : TableIsPut
table_put sector headers table are place y is = let put = sector_puts sector headers place y is in
    let slot : 16 * sector + put.0 % 16 ≡ put.0 = omega (arith, put.4) in
    let same : put.1 ≡ table put.0 = are (put.0 % 16) put.1 put.5 ∙ ap table slot in
    (put.0, put.2, put.3 ∙ ap (λ (h : Header). HeaderUnit (header_of h)) same)
