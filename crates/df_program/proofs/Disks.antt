-- What a status blames after a program over two files: the disk of one of them, or of neither.
use Rattle.{std.proofs.Common.{◌≡◌, ◌≤◌, ℕ, Bool, List, Option, Err, inl, inr, arith, subst}, df_base.specs.Causes.{Blamed, IsBlamed, Rose}}
use Rattle.{df_inspect.specs.Opening.{open_refusal}, df_model.specs.{declared.errors.OpenError.{OpenError}, Faults.{is_open_fault}}}
use Rattle.df_program.{specs.{Telling.{Blames, PrintsError, Writes}, Two.{Faults, HasCausesOfTwo}}, proofs.Blame.{open_fault, text_ends}}

module _ {S : Type 0} (disks sink : S) (before now : Faults) (status : S) (blame : Blames sink before.sink now.sink status) where
  -- neither disk failed
  pub neither_causes : now.first ≡ before.first → now.second ≡ before.second → (status ≡ disks → ⊥) → HasCausesOfTwo disks sink before now status
  neither_causes one two other = record { by_disks = record { rose = λ is. absurd (other is); later = (omega (arith, one), omega (arith, two)); same = λ no. (one, two) }; by_sink = blame }

  -- the first one did
  pub first_causes : status ≡ disks
      → (before.first ≤ now.first) × Rose before.first now.first → now.second ≡ before.second → HasCausesOfTwo disks sink before now status
  first_causes is rose two = record { by_disks = record { rose = λ yes. inl (rose.1, two); later = (rose.0, omega (arith, two)); same = λ no. absurd (no is) }; by_sink = blame }

  -- or the second one
  pub second_causes : status ≡ disks → now.first ≡ before.first
      → (before.second ≤ now.second) × Rose before.second now.second → HasCausesOfTwo disks sink before now status
  second_causes is one rose = record { by_disks = record { rose = λ yes. inr (one, rose.1); later = (omega (arith, one), rose.0); same = λ no. absurd (no is) }; by_sink = blame }

  module _ (apart : sink ≡ disks → ⊥) (old new : Option (List ℕ)) where
    -- a text was printed
    pub printed_causes : (text : List ℕ) (given : S) → (given ≡ disks → ⊥) → now.first ≡ before.first
        → now.second ≡ before.second → Writes sink text given old new status → HasCausesOfTwo disks sink before now status
    printed_causes text given other one two printed = neither_causes one two (text_ends sink text given disks old new status printed other apart)

    -- the first file isn't opened
    pub unopened_causes : (T : Type 0) (e : OpenError) (refused : S) → (refused ≡ disks → ⊥) → IsBlamed {T = T}
        is_open_fault before.first now.first (Err e) → now.second ≡ before.second → PrintsError refused disks sink e old new status
        → HasCausesOfTwo disks sink before now status
    unopened_causes T e refused other blamed two prints = elim (open_fault e) [
      | inl fault ↦ first_causes
          (prints.failing fault).0 (subst (λ (x : OpenError). Blamed (is_open_fault x) before.first now.first) fault blamed) two
      | inr another ↦ printed_causes (open_refusal e)
          refused other (subst (λ (b : Bool). Blamed b before.first now.first) another.1 blamed) two (prints.other another.0)
    ]
