-- Up to the write of the first copy a target on which nothing was written shows no copy of the superblock, whatever a stop leaves.
use Rattle.std.proofs.Common.{◌≡◌, inl, inr, ℕ, ◌<◌, ◌≤◌, ◌||◌, Bool, false, List, [], ◌∷◌, Option, Some, None, refl, sym, ◌∙◌, ap, subst, arith}
use Rattle.df_base.{specs.{Image.{Image, blank}, Log.{Event, IsLog, Log, Stop, Sync, Write, add, loose, now, settled}, Moments.{EachMoment, Passed, adds}}, proofs.Laws.{adds_extends, adds_on, extends_on, goes_on, stands, written_else}}
use Rattle.{df_disk.specs.{Told.{Told, did}, Adds.{AddsPart}}, df_layout.specs.declared.layout.Layout.{Layout}}
use Rattle.df_format.{specs.Copies.{is_blank_copy}, proofs.Laws.{same_copy}}
use Rattle.df_theory.{specs.{Chance.{InImages}, Copies.{IsSplit}, Device.{AreSteps, Format, all_units}, Runs.{Puts, Step, Syncs}, Units.{AnyUnit, CopyPlace, CopyUnit, Units}, View.{View}}, proofs.Laws.{settled_law}}
use Rattle.df_units.{specs.Bytes.{copy_unit, unit_at}, proofs.Laws.{blank_empty}}
use Rattle.df_model.specs.declared.errors.OpenError.TheVariants.{NotFormatted}
use Rattle.df_opening.specs.Below.{DataFile, Refuses, format_of, restarted, told_after}
use Rattle.df_copy.{specs.{Stops.{AreSplit, IsLeftAt, LeavesCopy, Progress, StopsCopy, progress}, Stops.Progress.{NotBegun}, Views.{IsEmptyImage}}, proofs.{HowFar.{blank_is_blank, not_begun, units_distinct}, Spares.{SpareSuper, front_of_part, uncovered}}}

-- ---- the sectors of the superblock

abbrev pub IsBlankSuper : Image → Type 0
IsBlankSuper image = (n : ℕ) → n < 4 → image n ≡ blank n

abbrev AreBlankSuper : List Image → Type 0
AreBlankSuper [] = Unit {0}
AreBlankSuper (image ∷ images) = IsBlankSuper image × AreBlankSuper images

-- none of them was written: they are firm, and blank now and in all that was settled
pub record IsUntouched (log : Log) : Type 0 where
  pub firm : (n : ℕ) → n < 4 → loose log n ≡ false
  pub shown : IsBlankSuper (now log)
  pub durable : AreBlankSuper (settled log)

untouched_write : (at : ℕ) (bytes : List ℕ) (log : Log) → 4 ≤ at → IsUntouched log → IsUntouched (add (Write at bytes) log)
untouched_write at bytes log from is = record {
  firm = λ n inside. ap (λ (b : Bool). b || loose log n) (uncovered at bytes n from inside) ∙ is.firm n inside;
  shown = λ n inside. written_else at bytes (now log) n (uncovered at bytes n from inside) ∙ is.shown n inside;
  durable = is.durable;
}

pub untouched_sync : (log : Log) → IsUntouched log → IsUntouched (add Sync log)
untouched_sync log is = record { firm = λ n inside. refl; shown = is.shown; durable = (is.shown, is.durable) }

pub untouched_begun : (o : Told) → IsEmptyImage o.shown → IsUntouched (restarted o).log
untouched_begun o empty = record { firm = λ n inside. refl; shown = λ n inside. empty n; durable = ((λ n inside. empty n), tt) }

-- it stays so by writes after them
pub untouched_on : (es : List Event) (log : Log) → SpareSuper es → IsUntouched log → IsUntouched (adds es log)
untouched_on [] log spare is = is
untouched_on ((Write at bytes) ∷ es) log spare is = untouched_on es (add (Write at bytes) log) spare.1 (untouched_write at bytes log spare.0 is)
untouched_on (Sync ∷ es) log spare is = untouched_on es (add Sync log) spare (untouched_sync log is)
untouched_on ((Stop changes) ∷ es) log spare is = absurd spare

-- what it gives is so at each moment of them, and then at each of what follows
pub untouched_then : (Q : Log → Type 0) → ((log : Log) → IsUntouched log → Q log)
    → (es : List Event) (log exit : Log) → SpareSuper es → IsUntouched log → Passed (adds es log) exit Q → Passed log exit Q
untouched_then Q gives [] log exit spare is later = later
untouched_then Q gives ((Write at bytes) ∷ es) log exit spare is later = goes_on Q (Write at bytes) log
    exit (gives log is) (untouched_then Q gives es (add (Write at bytes) log) exit spare.1 (untouched_write at bytes log spare.0 is) later)
untouched_then Q gives (Sync ∷ es) log exit spare is later =
    goes_on Q Sync log exit (gives log is) (untouched_then Q gives es (add Sync log) exit spare (untouched_sync log is) later)
untouched_then Q gives ((Stop changes) ∷ es) log exit spare is later = absurd spare

-- ---- its units

-- no two copies agree where at most copy 0 is shown
pub split_beside : (image : Units) → ((n : ℕ) → 0 < n → n < 4 → image (CopyPlace n) ≡ None) → IsSplit image
split_beside image none c agree =
    let both : None ≡ Some (CopyUnit c) = sym (none agree.second (omega (arith, agree.apart)) agree.inside) ∙ agree.at_second in cc

module _ (layout : Layout) (cluster : ℕ) where
  pub no_copy : (image : Image) → IsBlankSuper image → (n : ℕ) → n < 4 → unit_at layout cluster image (CopyPlace n) ≡ None
  no_copy image blanks n inside = ap copy_unit (same_copy image blank n (blanks n inside)) ∙ blank_empty layout cluster (CopyPlace n)

  split_blank : (image : Image) → IsBlankSuper image → IsSplit (unit_at layout cluster image)
  split_blank image blanks = split_beside (unit_at layout cluster image) (λ n above inside. no_copy image blanks n inside)

  pub all_split : (images : List Image) → AreBlankSuper images → AreSplit (all_units (format_of layout cluster) images)
  all_split [] blanks = tt
  all_split (image ∷ images) blanks = (split_blank image blanks.0, all_split images blanks.1)

  pub none_in : (images : List Image)
      → AreBlankSuper images → (n : ℕ) (x : AnyUnit) → n < 4 → InImages (all_units (format_of layout cluster) images) (CopyPlace n) x → ⊥
  none_in [] blanks n x inside at = at
  none_in (image ∷ images) blanks n x inside (inl here) = let both : None ≡ Some x = sym (no_copy image blanks.0 n inside) ∙ here in cc
  none_in (image ∷ images) blanks n x inside (inr there) = none_in images blanks.1 n x inside there

-- ---- what a stop leaves

module _ (layout : Layout) (file : DataFile) (source : Image) (v : View) where
  pub untouched_leaves : (log : Log) → IsUntouched log → LeavesCopy layout file source v log
  untouched_leaves log is image left chance = let zeros : Refuses image NotFormatted =
      λ n inside. ap is_blank_copy (left.kept n (is.firm n inside) ∙ is.shown n inside) ∙ blank_is_blank n in record {
        is = rw ((not_begun log 0 (is.shown 0 (omega arith)))) (rw ((not_begun log 1 (is.shown 1 (omega arith)))) zeros);
        early = λ split.
            subst AreSplit (sym (settled_law (format_of layout file.cluster) log)) (all_split layout file.cluster (settled log) is.durable);
        distinct = units_distinct layout file.cluster log image chance;
      }

  -- what is told after these events, and the log of it
  told_log : (es : List Event) (t : Told) → (told_after es t).log ≡ adds es t.log
  told_log [] t = refl
  told_log (e ∷ es) t = told_log es (did e t)

  -- of what leaves a copy at each moment a part does
  pub stops_part : (o : Told) (new : Option Told) (es : List Event) → AddsPart es (Some o) new
      → EachMoment (restarted o).log (adds es (restarted o).log) (LeavesCopy layout file source v) → StopsCopy layout file source v o new
  stops_part o new es part each = let front = front_of_part es (Some o) new part in let log : Log = (restarted o).log in
      let whole : adds es log ≡ adds front.rest (adds front.part log) =
      ap (λ (l : List Event). adds l log) front.both ∙ adds_on front.part front.rest log in record {
        events = front.part;
        told = front.is;
        moments = rw ((told_log front.part (restarted o)))
            (λ l moment. subst (λ (exit : Log). EachMoment log exit (LeavesCopy layout file source v)) whole each l
            (record { since = moment.since; until = extends_on (adds front.rest (adds front.part log)) (adds front.part log) l (adds_extends front.rest (adds front.part log)) moment.until }));
      }

  pub stops_spare : (o : Told) (new : Option Told) (es : List Event)
      → IsEmptyImage o.shown → SpareSuper es → AddsPart es (Some o) new → StopsCopy layout file source v o new
  stops_spare o new es empty spare part = let log : Log = (restarted o).log in let end : Log = adds es log in
      let is = untouched_begun o empty in stops_part o new es part (untouched_then (LeavesCopy layout file source v) untouched_leaves
      es log end spare is (stands (LeavesCopy layout file source v) end (untouched_leaves end (untouched_on es log spare is)))).moments

-- ---- logs

-- after writes of whole sectors a log is one
pub log_on : (f : Format) (es : List Event) (ss : List Step) (log : Log) → IsLog log → AreSteps f es ss → IsLog (adds es log)
log_on f [] [] log whole are = whole
log_on f ((Write at bytes) ∷ es) ((Puts put) ∷ ss) log whole are =
    log_on f es ss (add (Write at bytes) log) (record { start = whole.start; events = (are.0.piece, whole.events) }) are.1
log_on f (Sync ∷ es) (Syncs ∷ ss) log whole are = log_on f es ss (add Sync log) (record { start = whole.start; events = whole.events }) are
log_on f [] (s ∷ ss) log whole are = absurd are
log_on f ((Write at bytes) ∷ es) [] log whole are = absurd are
log_on f ((Write at bytes) ∷ es) (Syncs ∷ ss) log whole are = absurd are
log_on f (Sync ∷ es) [] log whole are = absurd are
log_on f (Sync ∷ es) ((Puts put) ∷ ss) log whole are = absurd are
log_on f ((Stop changes) ∷ es) ss log whole are = absurd are
