-- What the end of a program says, for any type of statuses: the text, the status after it, and which fault it blames.
use Rattle.std.specs.Prelude.{◌≡◌, ◌⊎◌, ℕ, List, Option, Result, Ok, Err}
use Rattle.df_base.specs.{Causes.{Rose}, Streams.{Appends, AppendsPart}}
use Rattle.df_inspect.specs.Opening.{open_refusal}
use Rattle.df_model.specs.{declared.errors.OpenError.{OpenError}, declared.errors.OpenError.TheVariants.{DiskFault}}

-- it ended with this fault only where the count rose, once, and else the count is as it was
pub record Blames {S : Type 0} (fault : S) (before now : ℕ) (status : S) : Type 0 where
  pub rose : status ≡ fault → Rose before now
  pub same : (status ≡ fault → ⊥) → now ≡ before

-- a text is written, and it ended with this status; or a front of the text is there where the sink failed, and it ended with that fault
abbrev pub Writes : {S : Type 0} → (fault : S) → List ℕ → (given : S) → Option (List ℕ) → Option (List ℕ) → S → Type 0
Writes fault text given old new status = ((status ≡ given) × Appends old new text) ⊎ ((status ≡ fault) × AppendsPart old new text)

-- why a file isn't opened: the refusal's line is written; a failing disk has none
pub record PrintsError {S : Type 0} (refused disk fault : S) (error : OpenError) (old new : Option (List ℕ)) (status : S) : Type 0 where
  pub failing : error ≡ DiskFault → (status ≡ disk) × (new ≡ old)
  pub other : (error ≡ DiskFault → ⊥) → Writes fault (open_refusal error) refused old new status

-- how a run ends by the printing of its last text
abbrev pub status_or : {S T E : Type 0} → (fault given : S) → Result T E → S
status_or fault given (Ok x) = given
status_or fault given (Err e) = fault
