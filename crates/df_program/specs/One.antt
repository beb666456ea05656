-- What a program over one file has around it: the disk, the source of its script, and the sink; and which of them failed.
use Rattle.std.specs.Prelude.{ℕ, List, Option}
use Rattle.std.specs.Borrow.{MutBor}
use Rattle.df_base.specs.Causes.{Rose}
use Rattle.df_disk.specs.Told.{Told}
use Rattle.df_program.specs.declared.outside.Outside as given
use Rattle.df_program.specs.Telling.{Blames}

-- what they tell: the disk's log and what it shows, what the source has left, and what the sink has taken
pub record Outside : Type 0 where
  pub told : Option Told
  pub left : Option (List ℕ)
  pub written : Option (List ℕ)

abbrev pub around : Option Told → (left written : Option (List ℕ)) → Outside
around told left written = record { told = told; left = left; written = written }

-- how often each of them failed
pub record Faults : Type 0 where
  pub disk : ℕ
  pub source : ℕ
  pub sink : ℕ

abbrev pub counts : (disk source sink : ℕ) → Faults
counts disk source sink = record { disk = disk; source = source; sink = sink }

-- what the three that a run is given tell, and how often each failed
abbrev pub seen : {D S W : Type 0} → (D → Option Told) → (S → Option (List ℕ)) → (W → Option (List ℕ)) → given.Outside D S W → Outside
seen told left written o = around (told o.disk.now) (left o.source.now) (written o.sink.now)

abbrev pub failed : {D S W : Type 0} → (D → ℕ) → (S → ℕ) → (W → ℕ) → given.Outside D S W → Faults
failed disk source sink o = counts (disk o.disk.now) (source o.source.now) (sink o.sink.now)

-- what a call that took the three leaves of them, which the checker has as pairs
abbrev pub back : {D S W E : Type 0} → MutBor D × (MutBor S × (MutBor W × E)) → given.Outside D S W
back exit = record { disk = exit.0; source = exit.1.0; sink = exit.1.1.0 }

-- no call of any of them failed
pub record NoneFailed (before now : Faults) : Type 0 where
  pub disk : Rose before.disk now.disk → ⊥
  pub source : Rose before.source now.source → ⊥
  pub sink : Rose before.sink now.sink → ⊥

-- each fault has its cause: of the three counts one at most rose, once, that of what the status blames
pub record HasCausesOfOne {S : Type 0} (on_disk on_source on_sink : S) (before now : Faults) (status : S) : Type 0 where
  pub disk : Blames on_disk before.disk now.disk status
  pub source : Blames on_source before.source now.source status
  pub sink : Blames on_sink before.sink now.sink status
