-- The making of a file on a disk is one of the theory.
use Rattle.std.{proofs.{Common.{◌≡◌, inl, inr, ℕ, ◌+◌, ◌/◌, ◌%◌, ◌<◌, ◌≤◌, ◌==◌, true, List, [], ◌∷◌, length, Option, Some, None, refl, sym, ◌∙◌, subst, arith}, lemmas.Bool.{cases_eq, cond-true, eq-eqb}}, specs.Prelude.{slice_get}}
use Rattle.df_base.specs.{Image.{blank}, Log.{Log, Stop, Sync, Write, new_log}, Moments.{adds}}
use Rattle.df_layout.specs.declared.layout.Layout.{Layout}
use Rattle.df_format.{specs.{declared.header.Header.{Header}, SuperRules.{IsUsable}, First.{first_content, first_super}, Super.{no_checksums}}, proofs.Laws.{no_names}}
use Rattle.df_theory.specs.Units
use Rattle.df_theory.{specs.{Units.{AnyUnit, HeaderPlace, is_some}, First.{IsFirst}, UnitLog.{UnitLog}, Runs.{Step, after_steps}, MakingLaws.{AllReserved, IsMaking, all_puts, blank_log, format_steps}, MendLaws.{Reaches}, TidyLaws.{IsTidy}, WholeLaws.{IsStanding}, Device.{AreSteps, units_log}}, proofs.Laws.{blank_law, format_law, is_first_of, making_sync_law, new_disk_law, safe_moments_law, same_log, steps_join_law, tidy_format_law}}
use Rattle.df_units.{specs.{Meaning.{content_of}, Format.{format_of, shape_of}, Puts.{header_unit, put_copies}, Superblocks.{AreFieldsOf}, Making.{AreReservedSectors, FormatOnDisk, NewIsMaking, first_view, format_events, header_puts, header_writes}}, proofs.{Numbers.{no_number}, Usable.{second_usable_passes}, Versions.{none_zero}, Local.{blank_empty, is_format}, Told.{reserved_put}, Writes.{copy_put, headers_put, some_header}}}

pub headers_are_steps : (layout : Layout) (cluster sector : ℕ) (sectors : List (List Header)) → AreReservedSectors layout cluster
    sector sectors → AreSteps (format_of layout cluster) (header_writes layout sector sectors) (all_puts (header_puts sector sectors))
headers_are_steps layout cluster sector [] are = tt
headers_are_steps layout cluster sector (headers ∷ rest) are =
    (headers_put layout cluster sector headers are.0, headers_are_steps layout cluster (sector + 1) rest are.2)

pub all_reserved : (layout : Layout) (cluster sector : ℕ) (sectors : List (List Header))
    → AreReservedSectors layout cluster sector sectors → AllReserved (header_puts sector sectors)
all_reserved layout cluster sector [] are = tt
all_reserved layout cluster sector (headers ∷ rest) are =
    (reserved_put sector headers are.0.sixteen are.1, all_reserved layout cluster (sector + 1) rest are.2)

pub some_unit : (o : Option AnyUnit) → is_some o ≡ true → (y : AnyUnit) × (o ≡ Some y)
some_unit None is = absurd (cc)
some_unit (Some y) is = (y, refl)

pub reached : (layout : Layout) (cluster sector : ℕ) (sectors : List (List Header)) → AreReservedSectors layout cluster sector sectors
    → (s : ℕ) → sector ≤ s / 16 → s / 16 < sector + length sectors → Reaches (header_puts sector sectors) (HeaderPlace s)
reached layout cluster sector [] are s from upto = absurd (omega arith)
reached layout cluster sector (headers ∷ rest) are s from upto = elim (cases_eq (s / 16) sector) [
  | inl here ↦ let one = some_unit (header_unit (slice_get headers (s % 16)))
      (some_header headers (s % 16) (slice_get headers (s % 16)) refl (omega (arith, are.0.sixteen.count))) in
      inl (one.0, cond-true (s / 16 == sector) (header_unit (slice_get headers (s % 16))) None (eq-eqb (s / 16) sector here) ∙ one.1)
  | inr later ↦ inr (reached layout cluster (sector + 1) rest are.2 s (omega arith) (omega arith))
]

own_fields : (layout : Layout) (cluster : ℕ) → AreFieldsOf layout cluster (first_super layout cluster)
unfolding first_super
own_fields layout cluster = record { slots = refl; message_size = refl; clients = refl; block_size = refl; blocks = refl; cluster_is = refl }

is_first : (layout : Layout) (cluster : ℕ) (named : 0 < cluster) (parse : ℕ → List ℕ → Option Units.Parts)
    → IsUsable (first_super layout cluster) → IsFirst (shape_of layout cluster named parse) (first_view layout cluster)
unfolding first_super
is_first layout cluster named parse is = is_first_of (shape_of layout cluster named parse) (content_of (first_content layout cluster)) (record {
  tests = (second_usable_passes layout cluster named parse (first_content layout cluster) (own_fields layout cluster) refl is.rules).0;
  sequence = refl;
  numbers = (refl, no_number, refl, refl);
  pin = (refl, refl, no_number);
  named = none_zero no_checksums no_names;
  trailer = (refl, no_number, refl);
})

pub new_is_making : NewIsMaking
new_is_making layout cluster named parse [] is syncs = let sh = shape_of layout cluster named parse in
    let c : Units.Content = content_of (first_content layout cluster) in
    let empty : units_log (format_of layout cluster) new_log ≡ blank_log =
    new_disk_law (format_of layout cluster) (blank_empty layout cluster) in
    subst (λ (l : UnitLog). IsMaking sh l c) (sym empty) (blank_law sh c (is_first layout cluster named parse is).content).0
new_is_making layout cluster named parse (Sync ∷ events) is syncs = let earlier : Log = record { start = blank; events = events } in
    (making_sync_law (shape_of layout cluster named parse) (units_log (format_of layout cluster) earlier)
    (content_of (first_content layout cluster)) (new_is_making layout cluster named parse events is syncs)).0
new_is_making layout cluster named parse ((Write at bytes) ∷ events) is syncs = absurd syncs
new_is_making layout cluster named parse ((Stop changes) ∷ events) is syncs = absurd syncs

pub format_on_disk : FormatOnDisk
format_on_disk layout cluster named parse sectors log is count reserved whole making = let fmt = format_of layout cluster in
    let sh = shape_of layout cluster named parse in let f = first_super layout cluster in let v = first_view layout cluster in
    let puts = header_puts 0 sectors in let es = format_events layout sectors f in let ss : List Step = format_steps puts (put_copies f) in
    let first = is_first layout cluster named parse is in let all = all_reserved layout cluster 0 sectors reserved in
    let are : AreSteps fmt es ss =
    steps_join_law fmt (header_writes layout 0 sectors) _ (all_puts puts) _ (headers_are_steps layout cluster 0 sectors reserved)
    (copy_put layout cluster 0 f (omega arith) is, (copy_put layout cluster 1 f (omega arith) is, (copy_put layout cluster 2 f (omega arith) is, (copy_put layout cluster 3 f (omega arith) is, tt)))) in
    let safe = (format_law sh (units_log fmt log) v puts (put_copies f) making first all).0 in let ends =
    tidy_format_law sh (units_log fmt log) v puts (put_copies f) making first all (λ s inside.
    reached layout cluster 0 sectors reserved s (omega arith) (omega (arith, inside, count, layout.slots_within.2))) in
    let same : units_log fmt (adds es log) ≡ after_steps ss (units_log fmt log) = same_log fmt es ss log whole are in record {
      moments = safe_moments_law fmt sh log es ss (is_format layout cluster) whole are safe;
      tidy = rw (sym same) at ends.0;
      standing = rw (sym same) at ends.1;
    }
