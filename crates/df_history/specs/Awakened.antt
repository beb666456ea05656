-- A log that was restarted, from its open on: the open raises its boot, and after that the history stays lived however the log grows.
use Rattle.std.specs.Prelude.{◌≡◌, ◌<◌, ℕ, List, ◌∷◌, ◌++◌}
use Rattle.df_theory.specs.{CopyPuts.{PutsCopies}, Units.{Content, Header, Units}, Shape.{Shape}, View.{View, boot_of}, Next.{MayBoot}, UnitLog.{UnitEvent, UnitLog}, Grown.{Grown, IsSafe}}
use Rattle.df_theory.specs.{Rests.{IsDry}, Runs.{AtEach, after_steps}, MendLaws.{MayMend}, Upgrades.{raise_steps}}
use Rattle.df_history.specs.Histories.{IsBegunAnew, IsLived, IsLivedMoment}

-- the log was restarted after these logs, and its boot was raised since
pub record IsAwakened (sh : Shape) (log before : UnitLog) (logs : List UnitLog) : Type 0 where
  pub begun : IsBegunAnew sh log before logs
  pub raised : boot_of begun.view < boot_of begun.newest

-- a later moment of the same log: it began as this one did, and more happened
abbrev pub IsLaterMoment : UnitLog → UnitLog → Type 0
IsLaterMoment later log = (new : List UnitEvent) × (later.events ≡ new ++ log.events) × (later.start ≡ log.start)

-- An open of a log that rests on a view: at each moment of its mending and its boot update the history is lived, and at the end the log is awake.
abbrev pub RaiseLivedLaw : Type 0
RaiseLivedLaw =
    (sh : Shape) (log before : UnitLog) (logs : List UnitLog) (w : View) (table : ℕ → Header) (headers : List Units) (copies : List (ℕ × Units)) (d : Content) (puts : PutsCopies d)
    → IsLived sh (log ∷ before ∷ logs) → MayMend sh log w table headers copies → IsDry log → MayBoot w d
    → AtEach (IsLivedMoment sh (before ∷ logs)) log (raise_steps headers copies puts) × IsAwakened sh (after_steps (raise_steps headers copies puts) log) before logs

-- From there on the history is lived wherever the log grew as it should, with no list of steps; and so it is a moment of a lived history wherever it is safe.
abbrev pub GrownLivedLaw : Type 0
GrownLivedLaw = (sh : Shape) (log later before : UnitLog) (logs : List UnitLog) → IsAwakened sh log before logs → IsLived sh (before ∷ logs) → IsLaterMoment later log → Grown sh later → IsAwakened sh later before logs

abbrev pub SafeLivedLaw : Type 0
SafeLivedLaw = (sh : Shape) (log later before : UnitLog) (logs : List UnitLog) → IsAwakened sh log before logs → IsLived sh (before ∷ logs) → IsLaterMoment later log → IsSafe sh later → IsLivedMoment sh (before ∷ logs) later
