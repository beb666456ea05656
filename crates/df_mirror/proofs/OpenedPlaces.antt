-- What a place shows of a file of which known units alone are hurt, and what mends leave there.
use Rattle.std.{proofs.{Common.{◌≡◌, ◌⊎◌, inl, inr, ℕ, zero, suc, ◌+◌, ◌<◌, ◌≤◌, true, false, List, [], ◌∷◌, Option, Some, None, refl, sym, ◌∙◌, ap, subst, arith}, lemmas.Bool.{cases_Bool, cases_lt, and_from, and_parts, le-leb, lt-ltb, leb-true, ltb-true}}, specs.Prelude.{nat_le}}
use Rattle.{df_base.{specs.{Image.{Image, IsImage}, Log.{now}}, proofs.Laws.{written_is_image}}, df_disk.specs.Told.{Told}}
use Rattle.df_layout.{specs.{declared.layout.Layout.{Layout}, declared.places.Place.{Place as FilePlace}, declared.places.Zone.{Zone}, declared.places.Zone.TheVariants.{ClientReplies, Grid, Superblock, WalHeaders, WalPrepares}, Zones.{first_sector, zone_sectors}}, proofs.Laws.{are_apart, lies_inside, zones_follow}}
use Rattle.{df_format.{proofs.Laws.{has-true}, specs.declared.kind.Kind.{Kind}}, df_damage.specs.{Anew.{told_after}, Hurt.{IsUnhurt}}}
use Rattle.df_format.specs.declared.kind.Kind.TheVariants as kinds
use Rattle.df_theory.{specs.{Shape.{Shape}, UnitLog.{put_one}, Units.{AnyUnit, BlockPlace, Content, CopyPlace, HeaderPlace, Place, PreparePlace, ReplyPlace, Units, or_else}}, proofs.Laws.{put_one_law}}
use Rattle.df_units.{specs.{Bytes.{first_at, has, has_place, span_at}, Meaning.{place_of}, Wanted.{IsOfKind, checksum_of}}, proofs.Laws.{is_format}}
use Rattle.df_opening.specs.Below.{DataFile, shape}
use Rattle.df_mirror.specs.{Known.{IsKnownAt, IsNamedPrepare, IsRecordedReply}, Laws.{IsHurtKnown, IsOfKnown}, Mends.{AreMends, Mend, mirrored_events, units_shown}}

-- ---- where units are known

-- what holds of each of the five kinds
each_kind : (P : Kind → Type 0) → P kinds.Reserved → P kinds.Prepare → P kinds.Reply → P kinds.Block → P kinds.Trailer → (kind : Kind) → P kind
each_kind P reserved prepare reply block trailer kinds.Reserved = reserved
each_kind P reserved prepare reply block trailer kinds.Prepare = prepare
each_kind P reserved prepare reply block trailer kinds.Reply = reply
each_kind P reserved prepare reply block trailer kinds.Block = block
each_kind P reserved prepare reply block trailer kinds.Trailer = trailer

module _ (sh : Shape) (image : Units) (c : Content) where
  -- none is in the superblock or in the header ring
  pub no_copy : (kind : Kind) (n sum : ℕ) → IsKnownAt sh image c kind (CopyPlace n) sum → ⊥
  no_copy kind n sum = each_kind (λ k. IsKnownAt sh image c k (CopyPlace n) sum
      → ⊥) (λ none. none) (λ none. none) (λ none. none) (λ none. none) (λ none. none) kind

  pub no_header : (kind : Kind) (s sum : ℕ) → IsKnownAt sh image c kind (HeaderPlace s) sum → ⊥
  no_header kind s sum = each_kind (λ k. IsKnownAt sh image c k (HeaderPlace s) sum
      → ⊥) (λ none. none) (λ none. none) (λ none. none) (λ none. none) (λ none. none) kind

  pub known_prepare : (kind : Kind) (s sum : ℕ) → IsKnownAt sh image c kind (PreparePlace s) sum → IsNamedPrepare sh image c s sum
  known_prepare kind s sum = each_kind (λ k. IsKnownAt sh image c k (PreparePlace s) sum → IsNamedPrepare sh image c s sum) (λ none.
      absurd none) (λ known. known) (λ none. absurd none) (λ none. absurd none) (λ none. absurd none) kind

  pub known_reply : (kind : Kind) (k sum : ℕ)
      → IsKnownAt sh image c kind (ReplyPlace k) sum → (kind ≡ kinds.Reply) × IsRecordedReply sh image c k sum
  known_reply kind k sum =
      each_kind (λ j. IsKnownAt sh image c j (ReplyPlace k) sum → (j ≡ kinds.Reply) × IsRecordedReply sh image c k sum) (λ none.
      absurd none) (λ none. absurd none) (λ known. (refl, known)) (λ none. absurd none) (λ none. absurd none) kind

  outside_header : (kind : Kind) (place : Place) (sum : ℕ) → IsKnownAt sh image c kind place sum → (place_of place).zone ≡ WalHeaders → ⊥
  outside_header kind (CopyPlace n) sum known zone = no_copy kind n sum known
  outside_header kind (HeaderPlace s) sum known zone = no_header kind s sum known
  outside_header kind (PreparePlace s) sum known zone = (let both : WalPrepares ≡ WalHeaders = zone in cc)
  outside_header kind (ReplyPlace k) sum known zone = (let both : ClientReplies ≡ WalHeaders = zone in cc)
  outside_header kind (BlockPlace a) sum known zone = (let both : Grid ≡ WalHeaders = zone in cc)

-- ---- sectors

abbrev place_in : Zone → ℕ → Place
place_in Superblock n = CopyPlace n
place_in WalHeaders n = HeaderPlace n
place_in WalPrepares n = PreparePlace n
place_in ClientReplies n = ReplyPlace n
place_in Grid n = BlockPlace n

abbrev place_from : FilePlace → Place
place_from place = place_in place.zone place.index

back : (place : Place) → place_from (place_of place) ≡ place
back (CopyPlace n) = refl
back (HeaderPlace s) = refl
back (PreparePlace s) = refl
back (ReplyPlace k) = refl
back (BlockPlace a) = refl

inside_span : (layout : Layout) (place : Place) (sector : ℕ) → has layout place sector ≡ true → (has_place layout place ≡ true)
    × ((span_at layout place).first ≤ sector) × (sector < (span_at layout place).first + (span_at layout place).count)
inside_span layout place sector here = let parts = and_parts (has_place layout place) _ here in
    let run = and_parts (nat_le (span_at layout place).first sector) _ parts.1 in
    (parts.0, leb-true (span_at layout place).first sector run.0, ltb-true sector ((span_at layout place).first + (span_at layout place).count) run.1)

-- of a place beside the header ring no sector is another's
one_place : (layout : Layout) (a b : Place) (sector : ℕ)
    → ((place_of b).zone ≡ WalHeaders → ⊥) → has layout a sector ≡ true → has layout b sector ≡ true → a ≡ b
one_place layout a b sector beside in_a in_b = let one = inside_span layout a sector in_a in let two = inside_span layout b sector in_b in
    elim (are_apart layout (place_of a) (place_of b)
    (has-true layout (place_of a).zone (place_of a).index one.0) (has-true layout (place_of b).zone (place_of b).index two.0)) [
      | inl same ↦ sym (back a) ∙ ap place_from same ∙ back b
      | inr (inl shared) ↦ absurd (beside shared.1)
      | inr (inr (inl before)) ↦ absurd (omega (arith, one.1, one.2, two.1, two.2))
      | inr (inr (inr after)) ↦ absurd (omega (arith, one.1, one.2, two.1, two.2))
    ]

-- each zone but the superblock begins after its four sectors
behind_copies : (layout : Layout) (zone : Zone) → (zone ≡ Superblock → ⊥) → 4 ≤ first_sector layout zone
unfolding zone_sectors
behind_copies layout Superblock beside = absurd (beside refl)
behind_copies layout WalHeaders beside = let order = zones_follow layout in omega arith
behind_copies layout WalPrepares beside = let order = zones_follow layout in omega arith
behind_copies layout ClientReplies beside = let order = zones_follow layout in omega arith
behind_copies layout Grid beside = let order = zones_follow layout in omega arith

module _ (file : DataFile) (c : Content) (t : Told) (hurt : IsHurtKnown file c t) where
  -- a sector that is the superblock's, or of a known unit
  abbrev MayBeHurt : ℕ → Type 0
  MayBeHurt sector = (sector < 4) ⊎ IsOfKnown file c (now t.log) sector

  -- of a run of sectors one may be hurt, or none is
  search : (first count : ℕ) → ((sector : ℕ) × (first ≤ sector) × (sector < first + count) × MayBeHurt sector)
      ⊎ ((sector : ℕ) → first ≤ sector → sector < first + count → IsUnhurt t sector)
  search first zero = inr (λ sector from below. absurd (omega arith))
  search first (suc count) = elim (search first count) [
    | inl found ↦ inl (found.0, found.1, omega (arith, found.2), found.3)
    | inr same ↦ elim (hurt (first + count)) [
      | inl last ↦ inr (λ sector from below. elim (cases_lt sector (first + count)) [
        | inl earlier ↦ same sector from earlier
        | inr later ↦ let is : first + count ≡ sector = omega arith in rw is at last
      ])
      | inr may ↦ inl (first + count, omega arith, omega arith, may)
    ]
  ]

  -- a place beside the superblock shows what was left, or a unit is known there
  pub place_left : (place : Place) → ((place_of place).zone ≡ Superblock → ⊥) → (units_shown file t.shown place ≡ units_shown
      file (now t.log) place) ⊎ ((kind : Kind) × (sum : ℕ) × IsKnownAt (shape file) (units_shown file (now t.log)) c kind place sum)
  place_left place beside = elim (cases_Bool (has_place file.layout place)) [
    | inl there ↦ elim (search (span_at file.layout place).first (span_at file.layout place).count) [
      | inl found ↦ inr (known_there there found.0 found.1 found.2 found.3)
      | inr same ↦ inl (local (λ sector here. let run = inside_span file.layout place sector here in same sector run.1 run.2))
    ]
    | inr outside ↦ inl (local (λ sector here.
        absurd (let yes = (inside_span file.layout place sector here).0 in let both : true ≡ false = sym yes ∙ outside in cc)))
  ]
    where
      local : ((sector : ℕ) → has file.layout place sector ≡ true → IsUnhurt t sector)
          → units_shown file t.shown place ≡ units_shown file (now t.log) place
      local same = (is_format file.layout file.cluster).local t.shown (now t.log) place same

      known_there : has_place file.layout place ≡ true → (sector : ℕ) → (span_at file.layout place).first ≤ sector
          → sector < (span_at file.layout place).first + (span_at file.layout place).count → MayBeHurt sector
          → (kind : Kind) × (sum : ℕ) × IsKnownAt (shape file) (units_shown file (now t.log)) c kind place sum
      known_there there sector from below (inl copy) =
          absurd (omega (arith, behind_copies file.layout (place_of place).zone beside, (lies_inside file.layout (place_of place) (has-true file.layout (place_of place).zone (place_of place).index there)).begins))
      known_there there sector from below (inr of) =
          let here : has file.layout place sector ≡ true = and_from _ _ there (and_from _ _ (le-leb (span_at file.layout place).first
          sector from) (lt-ltb sector ((span_at file.layout place).first + (span_at file.layout place).count) below)) in
          let same = one_place file.layout place
          of.place sector (outside_header (shape file) (units_shown file (now t.log)) c of.kind of.place of.sum of.known) here of.has_it in
          (of.kind, of.sum, rw (sym same) at of.known)

-- ---- mends

-- a unit was known there, as the place showed this
pub record WasKnown (file : DataFile) (c : Content) (place : Place) (old : Option AnyUnit) : Type 0 where
  pub image : Image
  pub kind : Kind
  pub sum : ℕ
  pub known : IsKnownAt (shape file) (units_shown file image) c kind place sum
  pub old_is : units_shown file image place ≡ old

-- the place shows a unit that was known there
pub record WasPut (file : DataFile) (c : Content) (place : Place) (new : Option AnyUnit) : Type 0 where
  pub image : Image
  pub kind : Kind
  pub unit : AnyUnit
  pub of_kind : IsOfKind kind unit
  pub known : IsKnownAt (shape file) (units_shown file image) c kind place (checksum_of unit)
  pub new_is : new ≡ Some unit

-- units were mended there, the first as the place showed what it did at first, and the last is shown
pub record IsMendedAt (file : DataFile) (c : Content) (place : Place) (old new : Option AnyUnit) : Type 0 where
  pub first : WasKnown file c place old
  pub last : WasPut file c place new

-- after mends a place shows what it did, or a unit that was mended there
pub mends_left : (file : DataFile) (c : Content) (second : Image) (t : Told) (ms : List Mend)
    → AreMends file c second t ms → IsImage t.shown → (place : Place)
    → (units_shown file (told_after (mirrored_events file ms) t).shown place ≡ units_shown file t.shown place)
    ⊎ IsMendedAt file c place (units_shown file t.shown place) (units_shown file (told_after (mirrored_events file ms) t).shown place)
mends_left file c second t [] are whole place = inl refl
mends_left file c second t (m ∷ ms) are whole place = go (put_one m.place m.unit place) refl
    (mends_left file c second next ms are.1 (written_is_image (first_at file.layout m.place) m.bytes t.shown are.0.puts.piece whole) place)
  where
    next : Told
    next = told_after (mirrored_events file (m ∷ [])) t

    old : Option AnyUnit
    old = units_shown file t.shown place

    new : Option AnyUnit
    new = units_shown file (told_after (mirrored_events file (m ∷ ms)) t).shown place

    shows : (o : Option AnyUnit) → put_one m.place m.unit place ≡ o → units_shown file next.shown place ≡ or_else o old
    shows o put = are.0.puts.shows t.shown place whole ∙ ap (λ (p : Option AnyUnit). or_else p old) put

    go : (o : Option AnyUnit) → put_one m.place m.unit place ≡ o → (new ≡ units_shown file next.shown place)
        ⊎ IsMendedAt file c place (units_shown file next.shown place) new → (new ≡ old) ⊎ IsMendedAt file c place old new
    go None put rest = subst (λ (o : Option AnyUnit). (new ≡ o) ⊎ IsMendedAt file c place o new) (shows None put) rest
    go (Some y) put rest = let is = (put_one_law m.place m.unit).only place y put in
        let known : IsKnownAt (shape file) (units_shown file t.shown) c m.kind place (checksum_of m.unit) = rw (sym is.0) at are.0.known in
        inr (record {
          first = record { image = t.shown; kind = m.kind; sum = checksum_of m.unit; known = known; old_is = refl };
          last = elim rest [
            | inl same ↦ record { image = t.shown; kind = m.kind; unit = m.unit; of_kind = are.0.of_kind; known = known; new_is = same ∙ shows (Some y) put ∙ ap Some is.1 }
            | inr later ↦ later.last
          ];
        })
