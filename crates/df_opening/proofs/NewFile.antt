-- A new file is made by writes of reserved headers and of four copies: these are the theory's making, at every moment and at its end.
use Rattle.std.{proofs.{Common.{◌≡◌, inl, ℕ, zero, suc, ◌+◌, ◌*◌, ◌/◌, ◌^◌, ◌<◌, ◌≤◌, List, length, Option, Some, None, refl, sym, ◌∙◌, ap, subst, arith, Result, Ok, Err}, lemmas.List.{ext_get_or}, lemmas.List.FromFn.{get_or-map-range_with_len, length-map-range_with_len}, lemmas.Option.{get_or_from_slice_get, slice_get-get_or, slice_get_within, same_Some}}, specs.Prelude.{slice_get}}
use Rattle.{df_base.{specs.{Log.{Event, Log}, Moments.{adds}}, proofs.Laws.{zero_plus}}, df_layout.specs.declared.layout.Layout.{Layout}}
use Rattle.df_disk.{specs.{Told.{Told, after}, Adds.{Adds, AddsPart, after_all}}, proofs.Laws.{adds_part, nothing_is_part}}
use Rattle.df_format.specs.{declared.header.Header.{Header}, declared.kind.Kind.TheVariants.{Reserved}, First.{first_super}, SuperRules.{IsUsable}}
use Rattle.df_theory.{specs.{MakingLaws.{all_puts}, Device.{AreSteps, IsSafeDisk}}, proofs.Laws.{steps_join_law}}
use Rattle.df_units.{specs.{Format.{format_of}, Meaning.{layout_of}, Making.{AreReservedSectors, IsMadeOnDisk, first_view, header_puts, header_writes}, Sample.{reserved_header}}, proofs.Laws.{all_added, copy_put, format_on_disk, part_moments, headers_are_steps}}
use Rattle.{df_trailer.specs.Text.{parse_of}, df_damage.specs.Below.{shape}}
use Rattle.df_headers.specs.Ring
use Rattle.df_headers.{specs.Ring.{IsHeaderTable, in_sector}, proofs.Laws.{reserved_table as reserved_is_table, sector_at, table_written}}
use Rattle.df_model.specs.{declared.errors.FormatError.{FormatError}, declared.errors.FormatError.TheVariants.{ClusterZero, NotBlank, DiskFault}}
use Rattle.df_opening.specs.{Formatting.{AddsFormat, OnlyOnBlank}, Making.{AreWritable, MakingLeaves, MayMakeOn, file_of, making_events, making_steps, reserved_table, sectors_in, sectors_of}}

-- ---- the table of reserved headers

-- a table that was cleared is this one
pub cleared : (layout : Layout) (cluster : ℕ) (table : List Header)
    → length table ≡ layout.slots → Ring.AreReserved cluster table → table ≡ reserved_table layout cluster
cleared layout cluster table count are = ext_get_or (reserved_header cluster 0)
    table (reserved_table layout cluster) (count ∙ sym (length-map-range_with_len (reserved_header cluster) 0 layout.slots))
    (λ i inside. get_or_from_slice_get table i (reserved_header cluster i) (reserved_header cluster 0) (are i inside)
    ∙ sym (get_or-map-range_with_len
    (reserved_header cluster) 0 layout.slots i i (reserved_header cluster 0) (omega (arith, inside, count)) (zero_plus i)))

module _ (layout : Layout) (cluster : ℕ) (named : 0 < cluster)
    (small : cluster < 2 ^ 128) (table : List Header) (count : length table ≡ layout.slots) (are : Ring.AreReserved cluster table) where
  is_table : IsHeaderTable layout cluster table
  is_table = reserved_is_table layout cluster table named small count are

  pub writable : AreWritable layout table
  writable sector inside = (table_written layout cluster sector table is_table inside).sixteen

  kinds : (sector i : ℕ) (h : Header) → slice_get (in_sector sector table) i ≡ Some h → h.kind ≡ Reserved
  kinds sector i h at = let there : slice_get table (16 * sector + i) ≡ Some h = (sector_at sector i table h at).1 in
      let own = are (16 * sector + i) (slice_get_within table (16 * sector + i) h there) in
      ap (λ (k : Header). k.kind) (same_Some _ _ (sym there ∙ own))

  from_sector : (s n : ℕ) → s + n ≤ layout.slots / 16 → AreReservedSectors layout cluster s (sectors_of s n table)
  from_sector s zero inside = tt
  from_sector s (suc n) inside =
      (table_written layout cluster s table is_table (omega (arith, inside)), kinds s, from_sector (s + 1) n (omega (arith, inside)))

  pub reserved : AreReservedSectors layout cluster 0 (sectors_in layout table)
  reserved = from_sector 0 (layout.slots / 16) (omega arith)

pub how_many : (s n : ℕ) (table : List Header) → length (sectors_of s n table) ≡ n
how_many s zero table = refl
how_many s (suc n) table = ap suc (how_many (s + 1) n table)

own_table : (layout : Layout) (cluster : ℕ) → Ring.AreReserved cluster (reserved_table layout cluster)
own_table layout cluster slot inside = slice_get-get_or (reserved_table layout cluster) slot (reserved_header cluster 0) inside
    ∙ ap (λ (h : Header). Some h) (get_or-map-range_with_len (reserved_header cluster) 0 layout.slots slot slot (reserved_header cluster 0)
    (subst (λ (n : ℕ). slot < n) (length-map-range_with_len (reserved_header cluster) 0 layout.slots) inside) (zero_plus slot))

-- each of its sectors has reserved headers
abbrev All : Layout → ℕ → Type 0
All layout cluster = AreReservedSectors layout cluster 0 (sectors_in layout (reserved_table layout cluster))

pub ring_reserved : (layout : Layout) (cluster : ℕ) → 0 < cluster → cluster < 2 ^ 128 → All layout cluster
ring_reserved layout cluster named small = reserved layout cluster named
    small (reserved_table layout cluster) (length-map-range_with_len (reserved_header cluster) 0 layout.slots) (own_table layout cluster)

-- ---- the making

pub making_is_steps : (layout : Layout) (cluster : ℕ) → IsUsable (first_super layout cluster)
    → All layout cluster → AreSteps (format_of layout cluster) (making_events layout cluster) (making_steps layout cluster)
making_is_steps layout cluster is all = let f = first_super layout cluster in
    let sectors = sectors_in layout (reserved_table layout cluster) in steps_join_law (format_of layout cluster)
    (header_writes layout 0 sectors) _ (all_puts (header_puts 0 sectors)) _ (headers_are_steps layout cluster 0 sectors all)
    (copy_put layout cluster 0 f (omega arith) is, (copy_put layout cluster 1 f (omega arith) is, (copy_put layout cluster 2 f (omega arith) is, (copy_put layout cluster 3 f (omega arith) is, tt))))

on_disk : (layout : Layout) (cluster : ℕ)
    → IsUsable (first_super layout cluster) → All layout cluster → (before : Told) (may : MayMakeOn layout cluster before)
    → IsMadeOnDisk (format_of layout cluster)
    (shape (file_of layout cluster may.named)) before.log (adds (making_events layout cluster) before.log) (first_view layout cluster)
on_disk layout cluster is all before may =
    format_on_disk layout cluster may.named (parse_of (layout_of layout)) (sectors_in layout (reserved_table layout cluster))
    before.log is (how_many 0 (layout.slots / 16) (reserved_table layout cluster)) all may.is_log may.making

-- where a part was done
pub makes_part : {T E : Type 0} → (layout : Layout) (cluster : ℕ) → IsUsable (first_super layout cluster)
    → All layout cluster → (before : Told) (may : MayMakeOn layout cluster before) (after : Told) (e : E)
    → AddsPart (making_events layout cluster) (Some before) (Some after) → MakingLeaves {T = T} layout cluster before may after (Err e)
makes_part layout cluster is all before may after e part = record {
  moments = part_moments (making_events layout cluster) before after (IsSafeDisk
      (format_of layout cluster) (shape (file_of layout cluster may.named))) part (on_disk layout cluster is all before may).moments;
  made = tt;
}

-- and where all of it was
pub makes_all : {T E : Type 0} → (layout : Layout) (cluster : ℕ) → IsUsable (first_super layout cluster)
    → All layout cluster → (before : Told) (may : MayMakeOn layout cluster before) (after : Told) (x : T)
    → Some after ≡ after_all (making_events layout cluster) (Some before) → MakingLeaves {T = T} {E = E} layout cluster before may after (Ok x)
makes_all layout cluster is all before may after x adds_all = let whole = on_disk layout cluster is all before may in record {
  moments = part_moments (making_events layout cluster)
      before after (IsSafeDisk (format_of layout cluster) (shape (file_of layout cluster may.named))) (all_part adds_all) whole.moments;
  made = subst (λ (log : Log). IsMadeOnDisk (format_of layout cluster) (shape (file_of layout cluster may.named))
      before.log log (first_view layout cluster)) (sym (all_added (making_events layout cluster) before after adds_all)) whole;
}
  where
    all_part : Some after ≡ after_all (making_events layout cluster) (Some before)
        → AddsPart (making_events layout cluster) (Some before) (Some after)
    all_part is = adds_part {T = Unit {0}} {E = Unit {0}} (making_events layout cluster) (Some before) (Some after) (Ok tt) is

-- ---- of a superblock that can be used

pub named_of : (layout : Layout) (cluster : ℕ) → IsUsable (first_super layout cluster) → 0 < cluster
unfolding first_super
named_of layout cluster is = is.rules.cluster

pub small_of : (layout : Layout) (cluster : ℕ) → IsUsable (first_super layout cluster) → cluster < 2 ^ 128
unfolding first_super
small_of layout cluster is = is.fits.cluster

pub all_reserved : (layout : Layout) (cluster : ℕ) → IsUsable (first_super layout cluster) → All layout cluster
all_reserved layout cluster is = ring_reserved layout cluster (named_of layout cluster is) (small_of layout cluster is)

pub steps_of_making : (layout : Layout) (cluster : ℕ) → IsUsable (first_super layout cluster)
    → AreSteps (format_of layout cluster) (making_events layout cluster) (making_steps layout cluster)
steps_of_making layout cluster is = making_is_steps layout cluster is (all_reserved layout cluster is)

pub makes_call : {T E : Type 0} → (layout : Layout) (cluster : ℕ)
    → IsUsable (first_super layout cluster) → (before : Told) (may : MayMakeOn layout cluster before) (after : Told) (result : Result T E)
    → Adds (making_events layout cluster) (Some before) (Some after) result → MakingLeaves layout cluster before may after result
makes_call layout cluster is before may after (Ok x) adds = makes_all layout cluster is (all_reserved layout cluster is) before may after x adds
makes_call layout cluster is before may after (Err e) adds =
    makes_part layout cluster is (all_reserved layout cluster is) before may after e adds

untouched : (old new : Option Told) → new ≡ old → OnlyOnBlank old new
untouched None new is = tt
untouched (Some t) new is = inl is

pub unchanged_adds : (es : List Event) (old new : Option Told) (e : FormatError) → new ≡ old → AddsFormat {T = Unit {0}} es old new (Err e)
unchanged_adds es old new DiskFault is = (nothing_is_part es old new is, untouched old new is)
unchanged_adds es old new ClusterZero is = is
unchanged_adds es old new (NotBlank copy) is = is
