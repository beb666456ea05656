-- Device calls that are steps lie within the zones of the file, and so do a part of such calls, and some of them after others.
use Rattle.std.proofs.{Common.{◌≡◌, ◌≤◌, ◌<◌, ◌+◌, inl, inr, List, [], ◌∷◌, ◌++◌, Option, sym, ◌∙◌, ap, arith}, lemmas.Bool.{and_parts, leb-true, ltb-true}}
use Rattle.{df_base.specs.Log.{Event, Stop, Sync, Write}, df_format.proofs.Laws.{has-true}, df_theory.specs.Runs.{Puts, Syncs}}
use Rattle.df_disk.{proofs.Laws.{after_append}, specs.{Adds.{AddsPart, after_all}, Told.{Told, after}}}
use Rattle.df_layout.{proofs.Laws.{lies_inside}, specs.declared.layout.Layout.{Layout}}
use Rattle.df_units.specs.{Bytes.{span_at}, Meaning.{place_of}, Within.{AddsWithin, AreWithin, PlacesLieInZones, StepsLieWithin}}

pub steps_within : StepsLieWithin
steps_within layout cluster [] [] are = tt
steps_within layout cluster [] (p ∷ ss) are = absurd are
steps_within layout cluster ((Write at bytes) ∷ es) ((Puts put) ∷ ss) are = (are.0.within, steps_within layout cluster es ss are.1)
steps_within layout cluster ((Write at bytes) ∷ es) [] are = absurd are
steps_within layout cluster ((Write at bytes) ∷ es) (Syncs ∷ ss) are = absurd are
steps_within layout cluster (Sync ∷ es) (Syncs ∷ ss) are = (tt, steps_within layout cluster es ss are)
steps_within layout cluster (Sync ∷ es) [] are = absurd are
steps_within layout cluster (Sync ∷ es) ((Puts put) ∷ ss) are = absurd are
steps_within layout cluster ((Stop changes) ∷ es) ss are = absurd are

pub places_in_zones : PlacesLieInZones
places_in_zones layout place sector here = let parts = and_parts _ _ here in let run = and_parts _ _ parts.1 in
    let inside = lies_inside layout (place_of place) (has-true layout (place_of place).zone (place_of place).index parts.0) in
    let from : (span_at layout place).first ≤ sector = leb-true _ _ run.0 in
    let upto : sector < (span_at layout place).first + (span_at layout place).count = ltb-true _ _ run.1 in
    (omega (arith, inside.begins, from), omega (arith, inside.ends, upto))

module _ (layout : Layout) where
  -- where nothing was done
  pub none_within : (old new : Option Told) → new ≡ old → AddsWithin layout old new
  none_within old new same = record { events = []; told = same; within = tt }

  -- where a part was done
  pub part_within : (events : List Event) (old new : Option Told)
      → AreWithin layout events → AddsPart events old new → AddsWithin layout old new
  part_within [] old new are part = none_within old new part
  part_within (e ∷ es) old new are (inl same) = none_within old new same
  part_within (e ∷ es) old new are (inr more) = let rest = part_within es (after e old) new are.1 more in
      record { events = e ∷ rest.events; told = rest.told; within = (are.0, rest.within) }

  both_within : (es fs : List Event) → AreWithin layout es → AreWithin layout fs → AreWithin layout (es ++ fs)
  both_within [] fs one two = two
  both_within (e ∷ es) fs one two = (one.0, both_within es fs one.1 two)

  -- and where others came after
  pub then_within : (old mid new : Option Told) → AddsWithin layout old mid → AddsWithin layout mid new → AddsWithin layout old new
  then_within old mid new one two = record {
    events = one.events ++ two.events;
    told = two.told ∙ ap (after_all two.events) one.told ∙ sym (after_append one.events two.events old);
    within = both_within one.events two.events one.within two.within;
  }
