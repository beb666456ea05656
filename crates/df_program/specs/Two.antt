-- What a program over two files has around it: the disk of each, and the sink; and which of them failed.
use Rattle.std.specs.Prelude.{◌≡◌, ◌⊎◌, ◌≤◌, ℕ, List, Option}
use Rattle.df_base.specs.Causes.{Rose}
use Rattle.df_disk.specs.Told.{Told}
use Rattle.df_program.specs.Telling.{Blames}

-- what they tell: the log of each disk with what it shows, and what the sink has taken
pub record Outside : Type 0 where
  pub first : Option Told
  pub second : Option Told
  pub written : Option (List ℕ)

abbrev pub around : Option Told → Option Told → Option (List ℕ) → Outside
around first second written = record { first = first; second = second; written = written }

-- how often each of them failed
pub record Faults : Type 0 where
  pub first : ℕ
  pub second : ℕ
  pub sink : ℕ

abbrev pub counts : (first second sink : ℕ) → Faults
counts first second sink = record { first = first; second = second; sink = sink }

-- a fault of one of the two disks has its cause: the count of one rose, once, and the other is as it was; and without one both are
pub record BlamesDisks {S : Type 0} (fault : S) (before now : Faults) (status : S) : Type 0 where
  pub rose : status ≡ fault → (Rose before.first now.first × (now.second ≡ before.second)) ⊎ ((now.first ≡ before.first) × Rose before.second now.second)
  pub later : (before.first ≤ now.first) × (before.second ≤ now.second)
  pub same : (status ≡ fault → ⊥) → (now.first ≡ before.first) × (now.second ≡ before.second)

-- each fault has its cause: of the three counts one at most rose, once, that of what the status blames
pub record HasCausesOfTwo {S : Type 0} (disks sink : S) (before now : Faults) (status : S) : Type 0 where
  pub by_disks : BlamesDisks disks before now status
  pub by_sink : Blames sink before.sink now.sink status

-- neither the second disk nor the sink was touched
pub record TouchesNeither (old new : Outside) : Type 0 where
  pub second : new.second ≡ old.second
  pub written : new.written ≡ old.written
