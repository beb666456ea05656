-- A file that isn't opened: what is said of it, and what it blames.
use Rattle.{std.proofs.Common.{◌≡◌, inl, inr, ℕ, List, Option, Some, refl, ◌∙◌, ap, Err}, df_disk.specs.Told.{Told, after}}
use Rattle.{df_base.specs.{Causes.{IsBlamed}, Image.{IsImage}, Log.{Sync}}, df_layout.specs.declared.layout.Layout.{Layout}}
use Rattle.df_model.specs.{declared.errors.OpenError.{OpenError}, Faults.{is_open_fault}}
use Rattle.df_model.specs.declared.errors.OpenError.TheVariants as opens
use Rattle.df_session.specs.{Opened.{StopsOpening}, Surveying.{TellsSurvey}}
use Rattle.df_program.proofs.Laws.{open_causes, open_fault, refusal_ends}
use Rattle.df_table.specs.{declared.status.Status.{Status}, declared.status.Status.TheVariants.{DiskFault, Memory, ReadFault, Refused, Words, WriteFault}, Outside.{Blames, EndsWithFile, HasTableCauses, Outside, PrintsTableError, counts}, Run.{DoesTable, FailsToFindTable, RefusesTableFile}}

-- ---- how it ends, and what it blames

-- neither by want of memory nor by other words
pub refused_never : (e : OpenError) (old new : Option (List ℕ)) (status : Status) → PrintsTableError e old new status → EndsWithFile status
refused_never e old new status prints = (
  refusal_ends Refused DiskFault WriteFault Memory e old new status prints (λ no. cc) (λ no. cc) (λ no. cc),
  refusal_ends Refused DiskFault WriteFault Words e old new status prints (λ no. cc) (λ no. cc) (λ no. cc),
)

pub refused_causes : (disk disk_now source sink sink_now : ℕ) (old new : Option (List ℕ)) (status : Status) (T : Type 0) (e : OpenError)
    → IsBlamed {T = T} is_open_fault disk disk_now (Err e) → PrintsTableError e old new status → Blames WriteFault sink sink_now status
    → HasTableCauses (counts disk source sink) (counts disk_now source sink_now) status
refused_causes disk disk_now source sink sink_now old new status T e blamed prints blame =
    open_causes DiskFault ReadFault WriteFault (record { disk_source = λ no. cc; sink_disk = λ no. cc; sink_source = λ no. cc })
    (counts disk source sink) (counts disk_now source sink_now) old new status refl blame T e Refused (λ no. cc) (λ no. cc) blamed prints

-- ---- what becomes of it

refuses : (layout : Layout) (t : Told) (old new : Outside) (status : Status) (e : OpenError) → (e ≡ opens.DiskFault → ⊥)
    → IsImage t.shown → old.told ≡ Some t → TellsSurvey layout old.told (Err e) → new.left ≡ old.left → new.told ≡ after Sync old.told
    → PrintsTableError e old.written new.written status → RefusesTableFile layout t old new status
refuses layout t old new status e other whole told answer unread barrier prints = record {
  error = e;
  is = (rw told at answer) whole;
  other = other;
  refuse = record { prints = prints.other other; unread = unread };
  barrier = barrier ∙ ap (after Sync) told;
}

fails : (layout : Layout) (t : Told) (old new : Outside) (status : Status) (e : OpenError) → e ≡ opens.DiskFault → StopsOpening
    layout t new.told → new.left ≡ old.left → PrintsTableError e old.written new.written status → FailsToFindTable layout t old new status
fails layout t old new status e is stops unread prints =
    record { fault = (prints.failing is).0; silent = record { written = (prints.failing is).1; unread = unread }; disk = stops }

pub not_found : (layout : Layout) (t : Told) (old new : Outside) (status : Status) (e : OpenError) → IsImage t.shown → old.told ≡ Some t
    → TellsSurvey layout old.told (Err e) → new.left ≡ old.left → ((e ≡ opens.DiskFault → ⊥) → new.told ≡ after Sync old.told)
    → (IsImage t.shown → e ≡ opens.DiskFault → StopsOpening layout t new.told)
    → PrintsTableError e old.written new.written status → DoesTable layout t old new status
not_found layout t old new status e whole told answer unread barrier stops prints = elim (open_fault e) [
  | inl is ↦ inr (inl (fails layout t old new status e is (stops whole is) unread prints))
  | inr other ↦ inl (refuses layout t old new status e other.0 whole told answer unread (barrier other.0) prints)
]
