-- What a status blames: after a line that was printed, after a file that isn't opened, and where nothing failed.
use Rattle.std.proofs.Common.{◌≡◌, ◌⊎◌, ◌∙◌, ℕ, Bool, false, List, Option, Err, inl, inr, refl, sym, subst}
use Rattle.{df_base.specs.Causes.{Blamed, IsBlamed, Rose}, df_inspect.specs.Opening.{open_refusal}}
use Rattle.df_model.specs.{declared.errors.OpenError.{OpenError}, Faults.{is_open_fault}}
use Rattle.df_model.specs.declared.errors.OpenError.TheVariants as opens
use Rattle.df_program.specs.{One.{Faults, HasCausesOfOne, NoneFailed}, Telling.{Blames, PrintsError, Writes}}

-- ---- one fault

-- one that isn't answered is blamed on nothing
pub no_blame : {S : Type 0} (fault : S) (before now : ℕ) (status : S) → now ≡ before → (status ≡ fault → ⊥) → Blames fault before now status
no_blame fault before now status same other = record { rose = λ is. absurd (other is); same = λ no. same }

-- and one that is has its cause
pub its_blame : {S : Type 0} (fault : S) (before now : ℕ) (status : S) → status ≡ fault → Rose before now → Blames fault before now status
its_blame fault before now status is rose = record { rose = λ yes. rose; same = λ no. absurd (no is) }

-- ---- what is printed

-- a text, or a front of it, ends with no other status
pub text_ends : {S : Type 0} (sink : S) (text : List ℕ) (given other : S) (old new : Option (List ℕ)) (status : S)
    → Writes sink text given old new status → (given ≡ other → ⊥) → (sink ≡ other → ⊥) → status ≡ other → ⊥
text_ends sink text given other old new status (inl printed) one two is = one (sym printed.0 ∙ is)
text_ends sink text given other old new status (inr printed) one two is = two (sym printed.0 ∙ is)

-- a refusal is the disk's failure, or another one, which blames nothing
pub open_fault : (e : OpenError) → (e ≡ opens.DiskFault) ⊎ ((e ≡ opens.DiskFault → ⊥) × (is_open_fault e ≡ false))
open_fault opens.DiskFault = inl refl
open_fault opens.NotFormatted = inr (λ no. cc, refl)
open_fault (opens.NoQuorum a) = inr (λ no. cc, refl)
open_fault (opens.Version a) = inr (λ no. cc, refl)
open_fault (opens.BadField a b) = inr (λ no. cc, refl)
open_fault (opens.LayoutDiffers a b) = inr (λ no. cc, refl)
open_fault (opens.Damaged a b) = inr (λ no. cc, refl)
open_fault opens.BootSpent = inr (λ no. cc, refl)

-- and ends with no status but its own
pub refusal_ends : {S : Type 0} (refused disk sink other : S) (e : OpenError) (old new : Option (List ℕ)) (status : S)
    → PrintsError refused disk sink e old new status → (disk ≡ other → ⊥) → (refused ≡ other → ⊥) → (sink ≡ other → ⊥) → status ≡ other → ⊥
refusal_ends refused disk sink other e old new status prints one two three = elim (open_fault e) [
  | inl fault ↦ λ is. one (sym (prints.failing fault).0 ∙ is)
  | inr apart_from ↦ text_ends sink (open_refusal e) refused other old new status (prints.other apart_from.0) two three
]

-- ---- causes

-- those of a program over one file; no fault is another one
pub record AreApart {S : Type 0} (disk source sink : S) : Type 0 where
  pub disk_source : disk ≡ source → ⊥
  pub sink_disk : sink ≡ disk → ⊥
  pub sink_source : sink ≡ source → ⊥

module _ {S : Type 0} (disk source sink : S) (apart : AreApart disk source sink) (before now : Faults)
    (old new : Option (List ℕ)) (status : S) (unread : now.source ≡ before.source) (blame : Blames sink before.sink now.sink status) where
  -- a text was printed that ends with a status which blames neither the disk nor the source
  pub text_causes : (text : List ℕ) (given : S) → (given ≡ disk → ⊥) → (given ≡ source → ⊥)
      → now.disk ≡ before.disk → Writes sink text given old new status → HasCausesOfOne disk source sink before now status
  text_causes text given one two same printed = record {
    disk = no_blame disk before.disk now.disk status same (text_ends sink text given disk old new status printed one apart.sink_disk);
    source = no_blame
        source before.source now.source status unread (text_ends sink text given source old new status printed two apart.sink_source);
    sink = blame;
  }

  -- the disk failed
  pub fault_causes : status ≡ disk → Rose before.disk now.disk → HasCausesOfOne disk source sink before now status
  fault_causes is rose = record {
    disk = its_blame disk before.disk now.disk status is rose;
    source = no_blame source before.source now.source status unread (λ no. apart.disk_source (sym is ∙ no));
    sink = blame;
  }

  -- a file isn't opened
  pub open_causes : (T : Type 0) (e : OpenError) (refused : S) → (refused ≡ disk → ⊥) → (refused ≡ source → ⊥) → IsBlamed {T = T} is_open_fault before.disk now.disk (Err e) → PrintsError refused disk sink e old new status → HasCausesOfOne disk source sink before now status
  open_causes T e refused one two blamed prints = elim (open_fault e) [
    | inl fault ↦ fault_causes (prints.failing fault).0 (subst (λ (x : OpenError). Blamed (is_open_fault x) before.disk now.disk) fault blamed).1
    | inr apart_from ↦ text_causes (open_refusal e)
        refused one two (subst (λ (b : Bool). Blamed b before.disk now.disk) apart_from.1 blamed) (prints.other apart_from.0)
  ]

-- nothing failed
pub nothing_failed : {S : Type 0} (disk source sink : S) (before now : Faults) (status : S) → HasCausesOfOne
    disk source sink before now status → NoneFailed before now → (status ≡ disk → ⊥) × (status ≡ source → ⊥) × (status ≡ sink → ⊥)
nothing_failed disk source sink before now status causes none =
    (λ is. none.disk (causes.disk.rose is), λ is. none.source (causes.source.rose is), λ is. none.sink (causes.sink.rose is))
