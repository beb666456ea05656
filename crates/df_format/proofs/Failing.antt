-- The first test that fails, of some tests and further ones after them.
use Rattle.std.{proofs.{Common.{◌≡◌, inl, inr, List, [], ◌∷◌, ◌++◌, Some, None, refl, sym, ◌∙◌, ap}, lemmas.Result.{err_from_is_err_and}, lemmas.Bool.{cases_Bool, cond-true, cond-false}}, specs.{Prelude.{Option, Result, IsErr, IsErrAnd, if◌then◌else◌}, Result.{result_err}}}
use Rattle.df_format.specs.{SuperRules.{Test, fault_of, field_tests, first_failing, is_known_version}, declared.superblock.SuperFault.{SuperFault}, declared.superblock.SuperFault.TheVariants.{BadField, Version}, declared.superblock.SuperFields.{SuperFields}}

-- the further ones aren't asked where one of the first fails
pub failing_front : (ts more : List Test) (fault : SuperFault) → Some fault ≡ first_failing ts → Some fault ≡ first_failing (ts ++ more)
failing_front [] more fault is = absurd (let both : Some fault ≡ None = is in cc)
failing_front (t ∷ ts) more fault is = elim (cases_Bool t.passes) [
  | inl good ↦ failing_front ts more fault (is ∙ cond-true t.passes (first_failing ts) (Some (BadField t.field t.value)) good)
      ∙ sym (cond-true t.passes (first_failing (ts ++ more)) (Some (BadField t.field t.value)) good)
  | inr bad ↦ is ∙ cond-false t.passes (first_failing ts) (Some (BadField t.field t.value)) bad
      ∙ sym (cond-false t.passes (first_failing (ts ++ more)) (Some (BadField t.field t.value)) bad)
]

-- they decide where all of the first pass
pub passing_front : (ts more : List Test) → None ≡ first_failing ts → first_failing more ≡ first_failing (ts ++ more)
passing_front [] more is = refl
passing_front (t ∷ ts) more is = elim (cases_Bool t.passes) [
  | inl good ↦ passing_front ts more (is ∙ cond-true t.passes (first_failing ts) (Some (BadField t.field t.value)) good)
      ∙ sym (cond-true t.passes (first_failing (ts ++ more)) (Some (BadField t.field t.value)) good)
  | inr bad ↦ absurd (let both : None ≡ Some (BadField
      t.field t.value) = is ∙ cond-false t.passes (first_failing ts) (Some (BadField t.field t.value)) bad in cc)
]

-- a fault that is handed on is the one of the part
pub handed_on : (r : Result (Unit {0}) SuperFault) (fault : SuperFault) → IsErr r × IsErrAnd r (λ e. e ≡ fault) → result_err r ≡ Some fault
handed_on r fault is = let p = err_from_is_err_and r is.1 in ap result_err p.1 ∙ ap Some p.2

-- the version is tested first
pub fault_of_version : (f : SuperFields) (fault : SuperFault)
    → Some fault ≡ (if is_known_version f.version then None else Some (Version f.version)) → Some fault ≡ fault_of f
unfolding fault_of
fault_of_version f fault is = elim (cases_Bool (is_known_version f.version)) [
  | inl known ↦ absurd (let both : Some fault ≡ None = is ∙ cond-true (is_known_version f.version) None (Some (Version f.version)) known in cc)
  | inr other ↦ is ∙ cond-false (is_known_version f.version) None (Some (Version f.version)) other
      ∙ sym (cond-false (is_known_version f.version) (first_failing (field_tests f)) (Some (Version f.version)) other)
]

-- and where it is known, the fields decide
pub fault_of_fields : (f : SuperFields) (o : Option SuperFault) → None ≡ (if is_known_version f.version then None else Some (Version f.version))
    → o ≡ first_failing (field_tests f) → o ≡ fault_of f
unfolding fault_of
fault_of_fields f o version is = elim (cases_Bool (is_known_version f.version)) [
  | inl known ↦ is ∙ sym (cond-true (is_known_version f.version) (first_failing (field_tests f)) (Some (Version f.version)) known)
  | inr other ↦ absurd (let both : None ≡ Some (Version
      f.version) = version ∙ cond-false (is_known_version f.version) None (Some (Version f.version)) other in cc)
]
