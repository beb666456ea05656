-- Sixteen headers in one sector, one of them new.
use Rattle.std.{proofs.{Common.{◌≡◌, inl, inr, ℕ, zero, suc, ◌+◌, ◌*◌, ◌/◌, ◌%◌, ◌^◌, ◌<◌, ◌==◌, [], length, Option, Some, None, refl, sym, ◌∙◌, ap, subst, arith}, lemmas.Bool.{cases_eq, cond-false, cond-true, eq-eqb, ne_eqb}, lemmas.Option.{same_Some}}, specs.Prelude.{slice_get}}
use Rattle.df_base.{specs.Image.{IsImage, blank}, proofs.Laws.{written_is_image, blank_is_image}}
use Rattle.df_layout.specs.{declared.layout.Layout.{Layout}, declared.places.Zone.TheVariants.{WalHeaders}}
use Rattle.df_format.{specs.{declared.header.Header.{Header}, declared.kind.Kind.TheVariants.{Reserved}, Making.{blank_header, for_body}, Own.{place_in}, Rules.{IsSealed}, Valid.{IsUnit}}, proofs.Laws.{given_obeys, of_second, headers_fill, is_own, sealed_is, valid_belongs}}
use Rattle.df_theory.specs.{Units.{AnyUnit, HeaderPlace, HeaderUnit, or_else}, UnitLog.{put_one}}
use Rattle.df_units.{specs.{Meaning.{header_of}, Bytes.{unit_at}, Puts.{AreHeaders, IsNextSector, header_unit, put_headers}, Sample.{OneOfSixteenIsNew, ReservedIsUnit, SampleTableIsWritten, headers_of, reserved_header, reserved_image, sector_of, with_new}}, proofs.Writes.{headers_put, one_new}}

-- ---- headers of a table

headers_count : (table : ℕ → Header) (slot n : ℕ) → length (headers_of table slot n) ≡ n
headers_count table slot zero = refl
headers_count table slot (suc n) = ap suc (headers_count table (slot + 1) n)

header_in : (table : ℕ → Header) (slot n i : ℕ) → i < n → slice_get (headers_of table slot n) i ≡ Some (table (slot + i))
header_in table slot zero i inside = absurd (omega (arith, inside))
header_in table slot (suc n) zero inside = let same : slot ≡ slot + 0 = omega arith in ap (λ (s : ℕ). Some (table s)) same
header_in table slot (suc n) (suc i) inside = let same : (slot + 1) + i ≡ slot + suc i = omega arith in
    header_in table (slot + 1) n i (omega (arith, inside)) ∙ ap (λ (s : ℕ). Some (table s)) same

inside_of : (table : ℕ → Header) (slot n i : ℕ) (h : Header) → slice_get (headers_of table slot n) i ≡ Some h → i < n
inside_of table slot zero i h is = absurd (let none : None ≡ Some h = is in cc)
inside_of table slot (suc n) zero h is = omega arith
inside_of table slot (suc n) (suc i) h is = omega (arith, inside_of table (slot + 1) n i h is)

-- what stands at a place of a sector is the table's header of its slot
is_of_table : (table : ℕ → Header) (sector i : ℕ) (h : Header)
    → slice_get (sector_of table sector) i ≡ Some h → (i < 16) × (table (16 * sector + i) ≡ h)
is_of_table table sector i h is = let inside = inside_of table (16 * sector) 16 i h is in
    (inside, same_Some _ _ (sym (header_in table (16 * sector) 16 i inside) ∙ is))

pub table_written : SampleTableIsWritten
table_written layout cluster sector table inside valid = record {
  sixteen = record {
    count = headers_count table (16 * sector) 16;
    each = λ i h is. let here = is_of_table table sector i h is in
        subst IsSealed here.1 (valid (16 * sector + i) (omega (arith, inside, here.0, layout.slots_within.2))).sealed;
  };
  inside = inside;
  each = λ i h is. let here = is_of_table table sector i h is in
      rw here.1 at (valid (16 * sector + i) (omega (arith, inside, here.0, layout.slots_within.2)));
}

-- ---- reserved headers

reserved_sealed : (cluster slot : ℕ) → 0 < cluster → cluster < 2 ^ 128 → slot < 2 ^ 32 → IsSealed (reserved_header cluster slot)
reserved_sealed cluster slot named small inside =
    let given : Header = record (blank_header Reserved cluster) { slot = slot; version = 2 } in
    sealed_is (for_body given []) (given_obeys cluster
    (named, small) given [] Reserved (of_second Reserved given refl refl (record { none_first = refl; none_last = refl })) (inside, refl))

pub reserved_unit : ReservedIsUnit
reserved_unit layout cluster slot named small inside = record {
  sealed = reserved_sealed cluster slot named small (omega (arith, inside, layout.slots_within.1));
  owner = refl;
  fits = omega (arith, layout.message_size_within.0);
  body = refl;
  own = is_own layout WalHeaders (reserved_header cluster slot) (place_in WalHeaders slot) (record { op = refl; named = refl; has = inside });
}

-- ---- one of them is new

module _ (layout : Layout) (cluster : ℕ) (new : Header) (named : 0 < cluster)
    (small : cluster < 2 ^ 128) (valid : IsUnit layout cluster (place_in WalHeaders new.slot) (record { header = new; body = [] })) where
  abbrev sector : ℕ
  sector = new.slot / 16

  inside_ring : new.slot < layout.slots
  inside_ring = (valid_belongs layout cluster (place_in WalHeaders new.slot) (record { header = new; body = [] }) valid).has

  inside : sector < layout.slots / 16
  inside = omega (arith, inside_ring, layout.slots_within.2)

  own_new : (slot : ℕ) → slot ≡ new.slot → with_new cluster new slot ≡ new
  own_new slot is = cond-true (slot == new.slot) new (reserved_header cluster slot) (eq-eqb slot new.slot is)

  other_new : (slot : ℕ) → (slot ≡ new.slot → ⊥) → with_new cluster new slot ≡ reserved_header cluster slot
  other_new slot other = cond-false (slot == new.slot) new (reserved_header cluster slot) (ne_eqb slot new.slot other)

  table_valid : (slot : ℕ)
      → slot < layout.slots → IsUnit layout cluster (place_in WalHeaders slot) (record { header = with_new cluster new slot; body = [] })
  table_valid slot below = elim (cases_eq slot new.slot) [
    | inl is ↦ rw ((own_new slot is)) (rw is valid)
    | inr other ↦ rw (sym (other_new slot other)) at (reserved_unit layout cluster slot named small below)
  ]

  reserved_are : AreHeaders layout cluster sector (sector_of (reserved_header cluster) sector)
  reserved_are = table_written layout cluster sector (reserved_header cluster) inside (λ slot below.
      reserved_unit layout cluster slot named small below)

  -- what the first write shows
  reserved_shown : (slot : ℕ) → slot / 16 ≡ sector → unit_at layout cluster (reserved_image layout cluster sector) (HeaderPlace slot)
      ≡ Some (HeaderUnit (header_of (reserved_header cluster slot)))
  reserved_shown slot here = let same : 16 * sector + slot % 16 ≡ slot = omega (arith, here) in
      let got : slice_get (sector_of (reserved_header cluster) sector) (slot % 16) ≡ Some (reserved_header cluster slot) = header_in
      (reserved_header cluster) (16 * sector) 16 (slot % 16) (omega arith) ∙ ap (λ (s : ℕ). Some (reserved_header cluster s)) same in
      let put : put_headers sector (sector_of (reserved_header cluster) sector) (HeaderPlace slot)
      ≡ Some (HeaderUnit (header_of (reserved_header cluster slot))) =
      cond-true (slot / 16 == sector) (header_unit (slice_get (sector_of (reserved_header cluster) sector) (slot % 16)))
      None (eq-eqb (slot / 16) sector here) ∙ ap header_unit got in
      (headers_put layout cluster sector (sector_of (reserved_header cluster) sector) reserved_are).shows blank (HeaderPlace slot) blank_is_image
      ∙ ap (λ (o : Option AnyUnit). or_else o (unit_at layout cluster blank (HeaderPlace slot))) put

  next_sector : IsNextSector layout cluster (reserved_image layout cluster sector) new sector (sector_of (with_new cluster new) sector)
  next_sector = record {
    are = table_written layout cluster sector (with_new cluster new) inside table_valid;
    here = refl;
    has = let same : 16 * sector + new.slot % 16 ≡ new.slot = omega arith in
        header_in (with_new cluster new) (16 * sector) 16 (new.slot % 16) (omega arith)
        ∙ ap (λ (s : ℕ). Some (with_new cluster new s)) same ∙ ap Some (own_new new.slot refl);
    others = λ slot h here is. elim (cases_eq slot new.slot) [
      | inl own ↦ inl own
      | inr other ↦ let same : 16 * sector + slot % 16 ≡ slot = omega (arith, here) in
          let table = is_of_table (with_new cluster new) sector (slot % 16) h is in
          let reserved : reserved_header cluster slot ≡ h = sym (other_new slot other) ∙ ap (with_new cluster new) (sym same) ∙ table.1 in
          inr (reserved_shown slot here ∙ ap (λ (x : Header). Some (HeaderUnit (header_of x))) reserved)
    ];
  }

  shown_by : (slot : ℕ) → slot / 16 ≡ sector → or_else (put_one (HeaderPlace new.slot) (HeaderUnit (header_of new)) (HeaderPlace slot)) (unit_at layout cluster (reserved_image layout cluster sector) (HeaderPlace slot)) ≡ Some (HeaderUnit (header_of (with_new cluster new slot)))
  shown_by slot here = elim (cases_eq slot new.slot) [
    | inl own ↦ ap (λ (o : Option AnyUnit). or_else o (unit_at layout cluster (reserved_image layout cluster sector) (HeaderPlace slot)))
        (cond-true (new.slot == slot) (Some (HeaderUnit (header_of new))) None (eq-eqb new.slot slot (sym own)))
        ∙ ap (λ (x : Header). Some (HeaderUnit (header_of x))) (sym (own_new slot own))
    | inr other ↦ ap (λ (o : Option AnyUnit). or_else o (unit_at layout cluster (reserved_image layout cluster sector) (HeaderPlace slot)))
        (cond-false (new.slot == slot) (Some (HeaderUnit (header_of new))) None (ne_eqb new.slot slot (λ same. other (sym same))))
        ∙ reserved_shown slot here ∙ ap (λ (x : Header). Some (HeaderUnit (header_of x))) (sym (other_new slot other))
  ]

  reserved_whole : IsImage (reserved_image layout cluster sector)
  reserved_whole = written_is_image
      _ _ blank (headers_fill layout (16 * sector) (sector_of (reserved_header cluster) sector) reserved_are.sixteen).piece blank_is_image

pub one_of_sixteen : OneOfSixteenIsNew
one_of_sixteen layout cluster slot new named small valid here =
    one_new layout cluster (reserved_image layout cluster (new.slot / 16)) new (new.slot / 16)
    (sector_of (with_new cluster new) (new.slot / 16)) (HeaderPlace slot) (reserved_whole layout cluster new named small valid)
    (next_sector layout cluster new named small valid) ∙ shown_by layout cluster new named small valid slot here
