-- A log of sectors is a log of units.
use Rattle.std.proofs.{Common.{◌≡◌, inl, inr, ℕ, Option, Some, None, Bool, true, false, ◌||◌, List, [], ◌∷◌, refl, sym, ◌∙◌, ap, arith}, lemmas.Bool.{cases_eq, cond-false, cond-true}, lemmas.Bool.Decides.{nat_tests}}
use Rattle.df_theory.specs.UnitLog
use Rattle.df_theory.specs.{Units.{AnyUnit, Place, Units, is_some, or_else, overlay}, Next.{kept}, UnitLog.{IsLeftBy, UnitLog, Wrote, loose_of, now, now_of, wrote}, Grown.{IsSafe}, Rests.{IsGoodLog}, Runs.{AtEach, IsPartWay, Puts, Step, Syncs, after_steps}, Device.{AreSteps, Format, IsFormat, IsGoodDisk, IsPartWayDisk, IsSafeDisk, all_units, stands, units_log, units_of}, DeviceLaws.{UnitMomentsLaw, StepsJoinLaw, ShownLaw, SettledLaw, DiskLaw, MomentsLaw, NewDiskLaw, PutLaw, RunMomentsLaw, SafeDiskLaw, SafeMomentsLaw}}
use Rattle.df_base.{specs.{Image.{Image, blank, written, changed, IsPiece}, Log.{Event, Write, Sync, Stop, AreLoose}, Moments.{EachMoment, adds}}, proofs.Laws.{now_is_image, adds_extends, started, from_before, blank_is_image}}
use Rattle.df_base.specs.Log

pub now_units : (f : Format) (start : Image) (es : List Event)
    → now_of (f.unit_at start) (units_of f start es) ≡ f.unit_at (Log.now_of start es)
now_units f start [] = refl
now_units f start ((Write at bytes) ∷ es) = refl
now_units f start (Sync ∷ es) = now_units f start es
now_units f start ((Stop changes) ∷ es) = refl

pub shown_law : ShownLaw
shown_law f log shown is same place =
    is.local shown (Log.now log) place (λ sector has. same sector) ∙ (λ i. sym (now_units f log.start log.events) i place)

settled_units : (f : Format) (start : Image) (es : List Event)
    → UnitLog.settled_of (f.unit_at start) (units_of f start es) ≡ all_units f (Log.settled_of start es)
settled_units f start [] = refl
settled_units f start ((Write at bytes) ∷ es) = settled_units f start es
settled_units f start (Sync ∷ es) = λ i. now_units f start es i ∷ settled_units f start es i
settled_units f start ((Stop changes) ∷ es) =
    ap (λ (images : List Units). f.unit_at (changed changes (Log.now_of start es)) ∷ images) (settled_units f start es)

pub settled_law : SettledLaw
settled_law f log = settled_units f log.start log.events

both_false : (a b : Bool) → a || b ≡ false → (a ≡ false) × (b ≡ false)
both_false true b is = absurd (let no_unit : true ≡ false = is in cc)
both_false false b is = (refl, is)

-- a place that isn't loose has no loose sector
firm_sector : (f : Format) → IsFormat f → (start : Image) (es : List Event) (place : Place) (sector : ℕ)
    → loose_of (units_of f start es) place ≡ false → f.has place sector ≡ true → Log.loose_of es sector ≡ false
firm_sector f is start [] place sector firm has = refl
firm_sector f is start ((Write at bytes) ∷ es) place sector firm has =
    let parts = both_false (f.touches at bytes place) (loose_of (units_of f start es) place) firm in
    let one = is.apart at bytes place sector parts.0 has in let two = firm_sector f is start es place sector parts.1 has in
    λ i. one i || two i
firm_sector f is start (Sync ∷ es) place sector firm has = refl
firm_sector f is start ((Stop changes) ∷ es) place sector firm has = refl

-- equal at each firm sector, equal at each firm place
pub firm_units : (f : Format) → IsFormat f → (log : Log.Log) (image : Image)
    → ((sector : ℕ) → Log.loose log sector ≡ false → image sector ≡ Log.now log sector) → IsLeftBy (units_log f log) (f.unit_at image)
firm_units f is log image kept place firm =
    is.local image (Log.now log) place (λ sector has. kept sector (firm_sector f is log.start log.events place sector firm has))
    ∙ (λ i. sym (now_units f log.start log.events) i place)

pub changed_kept : (es : List Event) (changes : List (ℕ × List ℕ)) (image : Image) (sector : ℕ)
    → AreLoose es changes → Log.loose_of es sector ≡ false → changed changes image sector ≡ image sector
changed_kept es [] image sector are firm = refl
changed_kept es (c ∷ changes) image sector are firm = changed_kept es changes _ sector are.2 firm ∙ elim (cases_eq sector c.0) [
  | inl here ↦ absurd (let wet : Log.loose_of es sector ≡ true = rw (sym here) at are.0 in cc)
  | inr elsewhere ↦ grind (arith, nat_tests)
]

pub safe_disk_law : SafeDiskLaw
safe_disk_law f sh log is whole safe = record {
  is_log = whole;
  grown = safe.grown;
  synced = safe.synced;
  stopped = λ changes are chance. let image : Image = changed changes (Log.now log) in safe.stopped
      (f.unit_at image) (firm_units f is log image (λ sector firm. changed_kept log.events changes (Log.now log) sector are firm)) chance;
}

pub disk_law : DiskLaw
disk_law f sh v u log is whole good = record {
  safe = safe_disk_law f sh log is whole good.safe;
  left = λ image left chance. good.left (f.unit_at image) (firm_units f is log image left.kept) chance;
}

whole_write : (log : Log.Log) (at : ℕ) (bytes : List ℕ) → Log.IsLog log → IsPiece bytes → Log.IsLog (Log.add (Write at bytes) log)
whole_write log at bytes whole piece = record { start = whole.start; events = (piece, whole.events) }

whole_sync : (log : Log.Log) → Log.IsLog log → Log.IsLog (Log.add Sync log)
whole_sync log whole = record { start = whole.start; events = whole.events }

pub put_law : PutLaw
put_law f log at bytes put whole is = λ i. record {
  start = f.unit_at log.start;
  events = Wrote (λ place. is.touches place i) (λ place. brings place (put place) refl i) (λ place. shows place i)
      ∷ units_of f log.start log.events;
}
  where
    brings : (place : Place) (o : Option AnyUnit) → put place ≡ o → stands f at bytes place ≡ put place
    brings place None none = cond-false (f.touches at bytes place) _ _ (is.touches place ∙ ap is_some none) ∙ sym none
    brings place (Some x) some = cond-true (f.touches at bytes place) _ _ (is.touches place ∙ ap is_some some)
        ∙ is.shows blank place blank_is_image ∙ ap (λ (o : Option AnyUnit). or_else o (f.unit_at blank place)) some ∙ sym some

    shows : (place : Place) → f.unit_at (written at bytes (Log.now log)) place ≡ overlay put (now (units_log f log)) place
    shows place = is.shows (Log.now log) place (now_is_image log.start log.events whole.start whole.events)
        ∙ (λ i. or_else (put place) (sym (now_units f log.start log.events) i place))

pub new_disk_law : NewDiskLaw
new_disk_law f none = λ i. record { start = λ place. none place i; events = [] }

-- what the steps have at each moment, the device calls have at each of theirs
module _ (f : Format)
    (P : UnitLog → Type 0) (Q : Log.Log → Type 0) (implies : (log : Log.Log) → Log.IsLog log → P (units_log f log) → Q log) where
  pub moments : (es : List Event) (ss : List Step) (log : Log.Log)
      → Log.IsLog log → AreSteps f es ss → AtEach P (units_log f log) ss → EachMoment log (adds es log) Q
  moments [] [] log whole are each = started log Q (implies log whole each)
  moments ((Write at bytes) ∷ es) ((Puts put) ∷ ss) log whole are each =
      let same : units_log f (Log.add (Write at bytes) log) ≡ wrote put (units_log f log) = put_law f log at bytes put whole are.0 in
      from_before (Write at bytes)
      log (adds es (Log.add (Write at bytes) log)) Q (implies log whole each.0) (adds_extends es (Log.add (Write at bytes) log))
      (moments es ss (Log.add (Write at bytes) log) (whole_write log at bytes whole are.0.piece) are.1 (rw (sym same) at each.1))
  moments (Sync ∷ es) (Syncs ∷ ss) log whole are each = from_before Sync log (adds es (Log.add Sync log))
      Q (implies log whole each.0) (adds_extends es (Log.add Sync log)) (moments es ss (Log.add Sync log) (whole_sync log whole) are each.1)
  moments [] (s ∷ ss) log whole are each = absurd are
  moments ((Write at bytes) ∷ es) [] log whole are each = absurd are
  moments ((Write at bytes) ∷ es) (Syncs ∷ ss) log whole are each = absurd are
  moments (Sync ∷ es) [] log whole are each = absurd are
  moments (Sync ∷ es) ((Puts put) ∷ ss) log whole are each = absurd are
  moments ((Stop changes) ∷ es) ss log whole are each = absurd are

pub same_log : (f : Format) (es : List Event) (ss : List Step) (log : Log.Log)
    → Log.IsLog log → AreSteps f es ss → units_log f (adds es log) ≡ after_steps ss (units_log f log)
same_log f [] [] log whole are = refl
same_log f ((Write at bytes) ∷ es) ((Puts put) ∷ ss) log whole are =
    same_log f es ss (Log.add (Write at bytes) log) (whole_write log at bytes whole are.0.piece) are.1
    ∙ ap (λ (l : UnitLog). after_steps ss l) (put_law f log at bytes put whole are.0)
same_log f (Sync ∷ es) (Syncs ∷ ss) log whole are = same_log f es ss (Log.add Sync log) (whole_sync log whole) are
same_log f [] (s ∷ ss) log whole are = absurd are
same_log f ((Write at bytes) ∷ es) [] log whole are = absurd are
same_log f ((Write at bytes) ∷ es) (Syncs ∷ ss) log whole are = absurd are
same_log f (Sync ∷ es) [] log whole are = absurd are
same_log f (Sync ∷ es) ((Puts put) ∷ ss) log whole are = absurd are
same_log f ((Stop changes) ∷ es) ss log whole are = absurd are

pub moments_law : MomentsLaw
moments_law f sh v u log es ss is whole are = (same_log f es ss log whole are, moments f (IsGoodLog sh v u) (IsGoodDisk f sh v u) (λ l one good. disk_law f sh v u l is one good) es ss log whole are)

pub run_moments_law : RunMomentsLaw
run_moments_law f sh v cs log es ss is whole are = moments f (IsPartWay sh v cs) (IsPartWayDisk f sh v cs) (λ l one part. record {
  safe = safe_disk_law f sh l is one part.safe;
  left = λ image left chance. part.left (f.unit_at image) (firm_units f is l image left.kept) chance;
}) es ss log whole are

pub safe_moments_law : SafeMomentsLaw
safe_moments_law f sh log es ss is whole are =
    moments f (IsSafe sh) (IsSafeDisk f sh) (λ l one safe. safe_disk_law f sh l is one safe) es ss log whole are

pub unit_moments_law : UnitMomentsLaw
unit_moments_law f sh v u log es ss whole are =
    moments f (IsGoodLog sh v u) (λ l. IsGoodLog sh v u (units_log f l)) (λ l one good. good) es ss log whole are

pub steps_join_law : StepsJoinLaw
steps_join_law f [] fs [] ts one two = two
steps_join_law f ((Write at bytes) ∷ es) fs ((Puts put) ∷ ss) ts one two = (one.0, steps_join_law f es fs ss ts one.1 two)
steps_join_law f (Sync ∷ es) fs (Syncs ∷ ss) ts one two = steps_join_law f es fs ss ts one two
steps_join_law f [] fs (s ∷ ss) ts one two = absurd one
steps_join_law f ((Write at bytes) ∷ es) fs [] ts one two = absurd one
steps_join_law f ((Write at bytes) ∷ es) fs (Syncs ∷ ss) ts one two = absurd one
steps_join_law f (Sync ∷ es) fs [] ts one two = absurd one
steps_join_law f (Sync ∷ es) fs ((Puts put) ∷ ss) ts one two = absurd one
steps_join_law f ((Stop changes) ∷ es) fs ss ts one two = absurd one
