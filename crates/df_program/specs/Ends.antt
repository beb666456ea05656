-- The statuses that a program ends with, and their numbers.
use Rattle.std.specs.Prelude.{◌≡◌, ℕ}
use Rattle.df_program.specs.declared.shared.Shared.{Shared}

-- the number of each status, and the three that each program has; these have their numbers of `datafile`, so no two of them are one
pub record Statuses (S : Type 0) : Type 0 where
  pub number : S → ℕ
  pub refused : S
  pub disk_fault : S
  pub write_fault : S
  pub refused_is : number refused ≡ 4
  pub disk_is : number disk_fault ≡ 5
  pub sink_is : number write_fault ≡ 7

abbrev pub shared_in : {S : Type 0} → Statuses S → Shared S
shared_in s = record { refused = s.refused; disk_fault = s.disk_fault; write_fault = s.write_fault }
