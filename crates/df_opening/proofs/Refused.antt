-- What an open answers where its mending or its boot update failed; and that another refusal than the disk's is one of the superblock,
-- where no more was read.
use Rattle.std.{proofs.Common.{◌≡◌, ◌∙◌, ℕ, List, ◌++◌, Option, Some, None, refl, ap, subst, sym}, specs.Prelude.{Result, Ok, Err}}
use Rattle.{df_base.specs.{Causes.{Blamed}, Log.{Event, Sync}}, df_format.specs.declared.superblock.SuperFields.{SuperFields}}
use Rattle.df_disk.{specs.{Adds.{AddsPart, after_all}, Told.{Told, after, did}}, proofs.Laws.{after_append, all_is_part, all_then, none_after, part_then}}
use Rattle.df_layout.specs.{declared.damage.Class.{Class}, declared.layout.Layout.{Layout}, declared.places.Place.{Place}}
use Rattle.df_model.specs.{Faults.{is_mend_fault, is_open_fault}, declared.errors.MendError.{MendError, TheVariants.{Damaged, DiskFault}}}
use Rattle.df_model.specs.declared.errors.OpenError.TheVariants as opens
use Rattle.df_superblock.specs.{Calls.{IsUndamaged}, declared.updates.UpdateError.{UpdateError}}
use Rattle.df_superblock.specs.declared.updates.UpdateError.TheVariants as updates
use Rattle.df_damage.{proofs.Laws.{added_is_told}, specs.Surveying.{TellsSurveyAs}}
use Rattle.df_opening.specs.{Mending.{AddsRaising, AddsUpdating, IsReadBack, IsUnharmed}, Opened.{refusal_of}}

-- events, and a mending that adds others after them
pub raising_then : {T : Type 0} (es fs : List Event) (old mid new : Option Told) (result : Result T MendError)
    → mid ≡ after_all es old → AddsRaising fs mid new result → AddsRaising (es ++ fs) old new result
raising_then es fs old mid new (Ok x) is adds = adds ∙ ap (after_all fs) is ∙ sym (after_append es fs old)
raising_then es fs old mid new (Err (Damaged place kind)) is adds = adds ∙ ap (after_all fs) is ∙ sym (after_append es fs old)
raising_then es fs old mid new (Err DiskFault) is adds = all_then es fs old mid new is adds

-- where an open answers a fault, a part of them was added
pub fault_adds : (T : Type 0) (events : List Event) (old new : Option Told) (error : MendError)
    → refusal_of error ≡ opens.DiskFault → AddsRaising {T = T} events old new (Err error) → AddsPart events old new
fault_adds T events old new DiskFault is adds = adds
fault_adds T events old new (Damaged place kind) is adds = all_is_part events old new adds

-- no harm but damage
pub unharmed_ok : {T : Type 0} (told : Option Told) (x : T) → IsUnharmed told (Ok x)
unharmed_ok None x = tt
unharmed_ok (Some t) x = tt

pub unharmed_fault : (T : Type 0) (told : Option Told) → IsUnharmed {T = T} told (Err DiskFault)
unharmed_fault T None = tt
unharmed_fault T (Some t) = tt

-- the update's own word on it, whatever place and class are told of
pub unharmed_of : (S T : Type 0) (told : Option Told) (error : UpdateError) (place other : Place) (kind what : Class)
    → error ≡ updates.Damaged place kind → IsUndamaged {T = S} told (Err error) → IsUnharmed {T = T} told (Err (Damaged other what))
unharmed_of S T None error place other kind what same is = tt
unharmed_of S T (Some t) error place other kind what same is = subst (λ (e : UpdateError). IsUndamaged {T = S} (Some t) (Err e)) same is

-- what an error says is no matter of what would have been handed out
pub unharmed_error : (S T : Type 0) (told : Option Told) (error : MendError)
    → IsUnharmed {T = S} told (Err error) → IsUnharmed {T = T} told (Err error)
unharmed_error S T None error is = tt
unharmed_error S T (Some t) DiskFault is = tt
unharmed_error S T (Some t) (Damaged place kind) is = is

pub adds_error : (S T : Type 0) (events : List Event) (old new : Option Told) (error : MendError)
    → AddsRaising {T = S} events old new (Err error) → AddsRaising {T = T} events old new (Err error)
adds_error S T events old new DiskFault is = is
adds_error S T events old new (Damaged place kind) is = is

pub read_error : (S T : Type 0) (f : SuperFields) (told : Option Told) (error : MendError)
    → IsReadBack {T = S} f told (Err error) → IsReadBack {T = T} f told (Err error)
read_error S T f told DiskFault is = tt
read_error S T f told (Damaged place kind) is = is

-- an update after device calls that were made, whatever is handed out
pub updating_then : {T : Type 0} (es fs : List Event) (d : SuperFields) (old mid new : Option Told) (result : Result T MendError)
    → mid ≡ after_all es old → AddsUpdating fs d mid new result → AddsUpdating (es ++ fs) d old new result
updating_then es fs d old mid new result is adds =
    record { events = raising_then es fs old mid new result is adds.events; read_back = adds.read_back; unharmed = adds.unharmed }

pub updating_ok : {S T : Type 0} (es : List Event) (d : SuperFields) (old new : Option Told) (x : S) (y : T)
    → AddsUpdating es d old new (Ok x) → AddsUpdating es d old new (Ok y)
updating_ok es d old new x y adds = record { events = adds.events; read_back = adds.read_back; unharmed = unharmed_ok new y }

pub updating_error : (S T : Type 0) (es : List Event) (d : SuperFields) (old new : Option Told) (error : MendError)
    → AddsUpdating {T = S} es d old new (Err error) → AddsUpdating {T = T} es d old new (Err error)
updating_error S T es d old new error adds = record {
  events = adds_error S T es old new error adds.events;
  read_back = read_error S T d new error adds.read_back;
  unharmed = unharmed_error S T new error adds.unharmed;
}

-- where the disk failed before it, nothing of it was done
pub updating_fault : (T : Type 0) (es fs : List Event) (d : SuperFields) (old new : Option Told)
    → AddsPart es old new → AddsUpdating {T = T} (es ++ fs) d old new (Err DiskFault)
updating_fault T es fs d old new part = record { events = part_then es fs old new part; read_back = tt; unharmed = unharmed_fault T new }

-- an open blames the disk where the mending did
pub blamed_open : (error : MendError) (before now : ℕ)
    → Blamed (is_mend_fault error) before now → Blamed (is_open_fault (refusal_of error)) before now
blamed_open DiskFault before now is = is
blamed_open (Damaged place kind) before now is = is

-- a disk that tells is told of no damage
unharmed_none : (T : Type 0) (t : Told) (events : List Event) (new : Option Told) (place : Place) (kind : Class)
    → new ≡ after_all events (Some t) → IsUnharmed {T = T} new (Err (Damaged place kind)) → ⊥
unharmed_none T t events new place kind adds unharmed =
    subst (λ (o : Option Told). IsUnharmed {T = T} o (Err (Damaged place kind))) (adds ∙ added_is_told events t) unharmed

pub refused_tells : (T : Type 0) (version : ℕ) (layout : Layout) (old synced new : Option Told) (events : List Event) (error : MendError)
    → synced ≡ after Sync old → AddsRaising {T = T} events synced new (Err error) → IsUnharmed {T = T} new (Err error)
    → TellsSurveyAs version layout old (Err (refusal_of error))
refused_tells T version layout None synced new events error barrier adds unharmed = tt
refused_tells T version layout (Some t) synced new events DiskFault barrier adds unharmed = λ whole. tt
refused_tells T version layout (Some t) synced new events (Damaged place kind) barrier adds unharmed =
    λ whole. absurd (unharmed_none T (did Sync t) events new place kind (adds ∙ ap (after_all events) barrier) unharmed)

pub no_refusal : (T : Type 0) (old synced new : Option Told) (events : List Event) (error : MendError)
    → synced ≡ after Sync old → AddsRaising {T = T} events synced new (Err error) → IsUnharmed {T = T} new (Err error)
    → (refusal_of error ≡ opens.DiskFault → ⊥) → new ≡ after Sync old
no_refusal T old synced new events DiskFault barrier adds unharmed other = absurd (other refl)
no_refusal T None synced new events (Damaged place kind) barrier adds unharmed other = adds ∙ ap (after_all events) barrier ∙ none_after events
no_refusal T (Some t) synced new events (Damaged place kind) barrier adds unharmed other =
    absurd (unharmed_none T (did Sync t) events new place kind (adds ∙ ap (after_all events) barrier) unharmed)
