-- Which calls of an object in memory are to fail, and how it counts them.
use Rattle.std.specs.{Prelude.{ℕ, ◌≡◌, ◌⊎◌, ◌==◌, Bool, true, List, Result, Ok, Err, IsErr, OnErr, OnOk}, List.{list_any}}
use Rattle.df_base.specs.Causes.{counted}

-- how many calls there were, the numbers of the calls that fail (counted from 1), and how many failed
pub record Plan : Type 0 where
  pub calls : ℕ
  pub failing : List ℕ
  pub faults : ℕ

-- no call yet
abbrev pub new_plan : List ℕ → Plan
new_plan failing = record { calls = 0; failing = failing; faults = 0 }

-- the number of the next call is listed
abbrev pub is_listed : Plan → Bool
is_listed plan = list_any (λ number. number == counted plan.calls) plan.failing

-- after a call with this answer: the call is counted, and a fault where it failed
abbrev pub after_call : {T E : Type 0} → Plan → Result T E → Plan
after_call plan (Ok value) = record { calls = counted plan.calls; failing = plan.failing; faults = plan.faults }
after_call plan (Err error) = record { calls = counted plan.calls; failing = plan.failing; faults = counted plan.faults }

-- a call fails exactly where its number is listed or the count of refused growths rose from before to now
pub record FailsExactly {T E : Type 0} (plan : Plan) (before now : ℕ) (result : Result T E) : Type 0 where
  pub listed : is_listed plan ≡ true → IsErr result
  pub cause : OnErr result (((is_listed plan ≡ true) × (now ≡ before)) ⊎ (now ≡ counted before))
  pub kept : OnOk result (now ≡ before)
