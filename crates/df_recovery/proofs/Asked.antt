-- A superblock that an open takes is of the version that is asked for and can be used, and so back.
use Rattle.std.proofs.{Common.{inl, inr, ℕ, ◌≡◌, ◌==◌, Some, None, sym, ◌∙◌}, lemmas.Bool.{cases_eq, cond-true, cond-false, eq-eqb, ne_eqb}}
use Rattle.df_format.{specs.{Copies.{content_with}, declared.superblock.SuperFields.{SuperFields}, declared.superblock.SuperFault.TheVariants.{Version as OtherVersion}, SuperRules.{IsSuper, fault_of}}, proofs.Laws.{faults}}
use Rattle.{df_theory.specs.{Trailer.{IsReference}, View.{PassesTests}}, df_trailer.specs.Text.{parse_of}}
use Rattle.df_units.{specs.{Format.{shape_as}, Meaning.{content_of, layout_of}, Superblocks.{AreFieldsOf}}, proofs.Laws.{usable_passes}}
use Rattle.{df_rooms.specs.{State.{shape}, declared.file.DataFile.{DataFile}}, df_recovery.specs.Opening.{fault_as}}

-- of the version that is asked for the fault is that of the fields, and any other version is one
pub fault_asked : (version : ℕ) (f : SuperFields) → f.version ≡ version → fault_as version f ≡ fault_of f
fault_asked version f of = cond-true (f.version == version) (fault_of f) (Some (OtherVersion f.version)) (eq-eqb f.version version of)

pub fault_other : (version : ℕ) (f : SuperFields) → (f.version ≡ version → ⊥) → fault_as version f ≡ Some (OtherVersion f.version)
fault_other version f other = cond-false (f.version == version) (fault_of f) (Some (OtherVersion f.version))
    (ne_eqb f.version version other)

pub super_as : (version : ℕ) (f : SuperFields) → fault_as version f ≡ None → (f.version ≡ version) × IsSuper f
super_as version f none = elim (cases_eq f.version version) [
  | inl of ↦ (of, (faults f).0 (sym (fault_asked version f of) ∙ none))
  | inr other ↦ absurd (let some = sym (fault_other version f other) ∙ none in cc)
]

pub as_none : (version : ℕ) (f : SuperFields) → f.version ≡ version → IsSuper f → fault_as version f ≡ None
as_none version f of is = fault_asked version f of ∙ (faults f).1 is

-- ---- in the theory

-- the fields of a file pass the theory's tests for its version
pub passes_as : (file : DataFile) (f : SuperFields) → AreFieldsOf file.layout file.cluster f → f.version ≡ file.version
    → IsSuper f → PassesTests (shape file) (content_of (content_with f)) × IsReference (layout_of file.layout) (content_of (content_with f))
passes_as file f of version rules = rw (← version)
    (usable_passes file.layout file.cluster file.named (parse_of (layout_of file.layout)) (content_with f) of rules)
