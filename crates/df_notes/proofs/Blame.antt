-- What an ending blames: a call of the replica blames the disk, and never the sink.
use Rattle.std.{proofs.{Common.{◌≡◌, ◌∙◌, ℕ, Bool, true, false, refl, ap, Result, Ok, Err}, lemmas.Result.{err_from_is_err_and}}, specs.{Prelude.{OnOk, Option}, Result.{IsErr, IsErrAnd}}}
use Rattle.{df_base.specs.Causes.{Blamed}, df_disk.specs.Told.{Told}, df_model.specs.Commands.{Command}}
use Rattle.df_session.specs.{Below.{State as Replica}, Endings.{is_disk_fault}, declared.hearing.Fault.{Fault}}
use Rattle.df_session.specs.declared.hearing.Fault.TheVariants as faults
use Rattle.df_notes.specs.{Calling.{EndsIn, Fails, IsRefusal}, Ending.{IsOfRun, ended_at, ended_by, is_disk_at_fault, is_sink}, declared.ended.Ended.{Ended}}

pub on_ok : {T P : Type 0} (r : Result T Ended) → P → OnOk r P
on_ok (Ok x) p = p
on_ok (Err e) p = tt

-- an error that is handed on
pub handed_on : (r : Result (Unit {0}) Ended) (ended : Ended) → IsErr r × IsErrAnd r (λ e. e ≡ ended) → r ≡ Err ended
handed_on r ended is = let p = err_from_is_err_and r is.1 in p.1 ∙ ap (λ (e : Ended). Err e) p.2

-- ---- by an error of the replica

pub blames_disk : (b : Bool) (before now : ℕ) → Blamed b before now → Blamed (is_disk_at_fault (ended_by b)) before now
blames_disk true before now blamed = blamed
blames_disk false before now blamed = blamed

pub spares_sink : (b : Bool) (before : ℕ) → Blamed (is_sink (ended_by b)) before before
spares_sink true before = refl
spares_sink false before = refl

pub of_run : (b : Bool) → IsOfRun (ended_by b)
of_run true = tt
of_run false = tt

-- ---- by what is heard of a call

pub blamed_at : (fault : Fault) (before now : ℕ)
    → Blamed (is_disk_fault fault) before now → Blamed (is_disk_at_fault (ended_at fault)) before now
blamed_at faults.Disk before now blamed = blamed
blamed_at (faults.Damaged place class) before now blamed = blamed

module _ (command : Command) (s t : Replica) (old new : Option Told) where
  pub ends_calm : (ended : Ended) (before : ℕ) → EndsIn command s t old new ended → Blamed (is_sink ended) before before
  ends_calm ended before (Fails makes) = refl
  ends_calm ended before (IsRefusal answer is makes) = refl

  pub ends_of_run : (ended : Ended) → EndsIn command s t old new ended → IsOfRun ended
  ends_of_run ended (Fails makes) = tt
  ends_of_run ended (IsRefusal answer is makes) = tt
