-- A call adds its events, or a part of them from the first on.
use Rattle.std.proofs.{Common.{◌≡◌, inl, inr, List, [], ◌∷◌, Some, sym, ◌∙◌, ap, subst}, lemmas.Option.{same_Some}}
use Rattle.df_base.{specs.{Log.{Event, Log}, Moments.{EachMoment, Extends, adds}}, proofs.Laws.{adds_extends, extends_self, extends_on}}
use Rattle.df_disk.specs.{Told.{Told, did}, Adds.{AddsPart, after_all}}
use Rattle.df_theory.{specs.{Rests.{IsGoodLog}, Device.{IsGoodDisk, IsGoodWholeDisk, IsSafeDisk, units_log}}, proofs.Laws.{moments_law, safe_moments_law, same_log, standing_moments_law, unit_moments_law}}
use Rattle.df_units.specs.Calls.{CallEnds, CallIsGood, CallIsGoodByUnits, CallIsSafe, CallIsWhole}

part_grows : (es : List Event) (before after : Told) → AddsPart es (Some before) (Some after) → Extends (adds es before.log) after.log
part_grows [] before after is = subst (λ (t : Told). Extends before.log t.log) (sym (same_Some _ _ is)) (extends_self before.log)
part_grows (e ∷ es) before after (inl is) =
    subst (λ (t : Told). Extends (adds (e ∷ es) before.log) t.log) (sym (same_Some _ _ is)) (adds_extends (e ∷ es) before.log)
part_grows (e ∷ es) before after (inr more) = part_grows es (did e before) after more

-- the moments of a part are moments of the whole
pub part_moments : (es : List Event) (before after : Told) (Q : Log → Type 0)
    → AddsPart es (Some before) (Some after) → EachMoment before.log (adds es before.log) Q → EachMoment before.log after.log Q
part_moments es before after Q part each log moment = each log
    (record { since = moment.since; until = extends_on (adds es before.log) after.log log (part_grows es before after part) moment.until })

pub call_good : CallIsGood
call_good f sh v u es ss before after is call good =
    part_moments es before after (IsGoodDisk f sh v u) call.adds ((moments_law f sh v u before.log es ss is call.log call.steps).1 good)

pub call_good_units : CallIsGoodByUnits
call_good_units f sh v u es ss before after call good = part_moments es before after (λ log.
    IsGoodLog sh v u (units_log f log)) call.adds (unit_moments_law f sh v u before.log es ss call.log call.steps good)

pub call_safe : CallIsSafe
call_safe f sh es ss before after is call safe =
    part_moments es before after (IsSafeDisk f sh) call.adds (safe_moments_law f sh before.log es ss is call.log call.steps safe)

pub call_whole : CallIsWhole
call_whole f sh v c es before after is call keeps = part_moments
    es before after (IsGoodWholeDisk f sh v c.view) call.adds (standing_moments_law f sh v c before.log es is call.log call.steps keeps).0

pub all_added : (es : List Event) (before after : Told) → Some after ≡ after_all es (Some before) → after.log ≡ adds es before.log
all_added [] before after is = ap (λ (t : Told). t.log) (same_Some _ _ is)
all_added (e ∷ es) before after is = all_added es (did e before) after is

pub call_ends : CallEnds
call_ends f es ss before after whole are all = ap (units_log f) (all_added es before after all) ∙ same_log f es ss before.log whole are
