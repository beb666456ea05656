-- Units of the source are copied one after the other, replies or blocks: what stands after each turn, and how what ends one of them ends
-- the copy.
use Rattle.std.{proofs.{Common.{◌≡◌, ℕ, ◌≤◌, Bool, true, if◌then◌else◌, List, [], ◌∷◌, ◌++◌, Option, Some, None, Ok, refl, sym, ◌∙◌, ap, subst}, lemmas.Bool.{le-ltb}}, specs.Prelude.{nat_lt}}
use Rattle.{df_base.specs.Log.{Event}, df_disk.{specs.{Told.{Told}, Adds.{AddsPart, after_all}}, proofs.Laws.{after_append, all_then}}}
use Rattle.{df_layout.specs.declared.layout.Layout.{Layout}, df_format.specs.Message.{Message}, df_opening.specs.Below.{DataFile, State}}
use Rattle.df_model.specs.{Refusals.{first_refusal}, Supply.{Shown}}
use Rattle.df_copy.{specs.{declared.ending.Ending.{Ending}, Acts.{Beside, CopyStopsAt, LeavesSource, StopsBehind}, Units.{OverShown}}, proofs.{Blamed.{by_ending}, Listed.{over_both, over_by}}}

-- ---- the source and the target at the entry

-- nothing was done yet
pub leaves_self : {at : Beside} {x : Unit {0}} → LeavesSource at at (Ok x)
leaves_self = record { kept = refl; same = refl; blames_source = refl; blames_target = refl }

-- what is said of a turn is said of them too
pub at_entry : {at kept : Beside} {x : Unit {0}} (P : Layout → State → Option Told → Type 0) (layout l : Layout)
    → l ≡ layout → LeavesSource at kept (Ok x) → P l kept.source kept.told → P layout at.source at.told
at_entry {at = at} {kept = kept} P layout l same leaves is =
    subst (λ (k : Layout). P k at.source at.told) same (rw leaves.kept at (rw leaves.same at is))

-- ---- a turn

-- these units fit and are written, and of all tests those that are left decide
pub record AreWritten (file : DataFile) (from : Option Told) (Fit : List Message → Type 0) (events : List Message → List Event) (tests left : Shown → List (Bool × Ending)) (old new : Option Told) (us : List Message) : Type 0 where
  pub fit : Fit us
  pub added : new ≡ after_all (events us) old
  pub decide : OverShown file from (λ shown. first_refusal (tests shown) ≡ first_refusal (left shown))

module _ (file : DataFile) (from : Option Told)
    (Fit : List Message → Type 0) (events : List Message → List Event) (tests : Shown → List (Bool × Ending)) (old : Option Told) where
  -- of all tests these decide
  abbrev Decide : (left : Shown → List (Bool × Ending)) → Shown → Type 0
  Decide left shown = first_refusal (tests shown) ≡ first_refusal (left shown)

  module _ (left : Shown → List (Bool × Ending))
      (new : Option Told) (us : List Message) (is : AreWritten file from Fit events tests left old new us) where
    -- no unit is there: nothing is written or tested
    pub turn_skips : (rest : Shown → List (Bool × Ending)) (newer : Option Told)
        → ((shown : Shown) → left shown ≡ rest shown) → newer ≡ new → AreWritten file from Fit events tests rest old newer us
    turn_skips rest newer next same = record { fit = is.fit; added = same ∙ is.added; decide = over_by file from (Decide left) (Decide rest) is.decide (λ shown decide. decide ∙ ap (λ (l : List (Bool × Ending)). first_refusal l) (next shown)) }

    -- after the last no test holds
    pub turns_end : ((shown : Shown) → left shown ≡ []) → OverShown file from (λ shown. first_refusal (tests shown) ≡ None)
    turns_end none = over_by file from (Decide left) (λ shown. first_refusal (tests shown) ≡ None) is.decide (λ shown decide.
        decide ∙ ap (λ (l : List (Bool × Ending)). first_refusal l) (none shown))

    -- the test of the next unit, those after it, and what it adds
    module _ (test : Shown → Bool × Ending) (rest : Shown → List (Bool × Ending)) (next : (shown : Shown) → left shown ≡ test shown ∷ rest shown)
        (Fits : Message → Type 0) (one : Message → List Event)
        (push : (u : Message) → Fits u → Fit (us ++ u ∷ [])) (joins : (u : Message) → events (us ++ u ∷ []) ≡ events us ++ one u) where
      by_next : (shown : Shown) → Decide left shown → first_refusal (tests shown) ≡ first_refusal (test shown ∷ rest shown)
      by_next shown decide = decide ∙ ap (λ (l : List (Bool × Ending)). first_refusal l) (next shown)

      -- it is written, and passes
      pub turn_on : (u : Message) (newer : Option Told) (limit size : ℕ) (e : Ending)
          → Fits u → newer ≡ after_all (one u) new → size ≤ limit → OverShown file from (λ shown. test shown ≡ (nat_lt limit size, e))
          → AreWritten file from Fit events tests rest old newer (us ++ u ∷ [])
      turn_on u newer limit size e fits adds small tested = record {
        fit = push u fits;
        added = adds ∙ ap (after_all (one u)) is.added
            ∙ sym (after_append (events us) (one u) old) ∙ ap (λ (l : List Event). after_all l old) (sym (joins u));
        decide = over_both file from (Decide left) (λ shown.
            test shown ≡ (nat_lt limit size, e)) (Decide rest) is.decide tested (λ shown decide there.
            by_next shown decide ∙ ap (λ (t : Bool × Ending). first_refusal (t ∷ rest shown)) there
            ∙ ap (λ (b : Bool). if b then Some e else first_refusal (rest shown)) (le-ltb limit size small));
      }

      abbrev Written : Type 0
      Written = (vs : List Message) × Fit vs

      fails : (newer : Option Told) → ((u : Message) × Fits u × AddsPart (one u) new newer) → ((x : Written) × AddsPart (events x.0) old newer)
      fails newer stops = ((us ++ stops.0 ∷ [], push stops.0 stops.1), rw (sym (joins stops.0)) at (all_then (events us) (one stops.0) old new newer is.added stops.2))

      unread : (newer : Option Told) → newer ≡ new → ((x : Written) × (newer ≡ after_all (events x.0) old))
      unread newer same = ((us, is.fit), same ∙ is.added)

      refused : (newer : Option Told) (e : Ending) → OverShown file from (λ shown. test shown ≡ (true, e)) × (newer ≡ new)
          → OverShown file from (λ shown. first_refusal (tests shown) ≡ Some e) × (x : Written) × (newer ≡ after_all (events x.0) old)
      refused newer e stops = (
        over_both file from (Decide left) (λ shown. test shown ≡ (true, e)) (λ shown. first_refusal (tests shown) ≡ Some e) is.decide stops.0
            (λ shown decide there. by_next shown decide ∙ ap (λ (t : Bool × Ending). first_refusal (t ∷ rest shown)) there),
        (us, is.fit),
        stops.1 ∙ is.added,
      )

      -- or the copy ends with it
      pub turn_stops : (newer : Option Told) (e : Ending)
          → CopyStopsAt file from Fits one test new newer e → StopsBehind {X = Written} file from (λ x. events x.0) tests old newer e
      turn_stops newer e stops = by_ending (fails newer) (unread newer) (refused newer) e stops

-- ---- a copy of some within one of more

module _ {X Y : Type 0} (file : DataFile) (from : Option Told)
    (events : X → List Event) (more : Y → List Event) (tests all : Shown → List (Bool × Ending)) (old mid : Option Told) (within : X → Y)
    (whole : (x : X) (new : Option Told) → new ≡ after_all (events x) mid → new ≡ after_all (more (within x)) old)
    (part : (x : X) (new : Option Told) → AddsPart (events x) mid new → AddsPart (more (within x)) old new)
    (decide : (e : Ending) → OverShown file from (λ shown.
    first_refusal (tests shown) ≡ Some e) → OverShown file from (λ shown. first_refusal (all shown) ≡ Some e)) where
  -- where it stops, that does
  pub stops_within : (new : Option Told) (e : Ending)
      → StopsBehind file from events tests mid new e → StopsBehind file from more all old new e
  stops_within new e stops = by_ending fails unread refused e stops
    where
      fails : ((x : X) × AddsPart (events x) mid new) → ((y : Y) × AddsPart (more y) old new)
      fails is = (within is.0, part is.0 new is.1)

      unread : ((x : X) × (new ≡ after_all (events x) mid)) → ((y : Y) × (new ≡ after_all (more y) old))
      unread is = (within is.0, whole is.0 new is.1)

      refused : (z : Ending) → OverShown file from (λ shown. first_refusal (tests shown) ≡ Some z) × (x : X) × (new ≡ after_all
          (events x) mid) → OverShown file from (λ shown. first_refusal (all shown) ≡ Some z) × (y : Y) × (new ≡ after_all (more y) old)
      refused z is = (decide z is.0, within is.1, whole is.1 new is.2)
