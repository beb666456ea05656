-- The first part that fails decides.
use Rattle.std.proofs.{Common.{◌≡◌, ◌≢◌, ◌==◌, ◌∙◌, List, ◌++◌, None, ap, sym}, lemmas.Bool.{cond-false, cond-true, eq-eqb, ne_eqb}}
use Rattle.df_format.{specs.{SuperRules.{Test, field_tests, first_failing, first_tests, second_tests, size_tests, checkpoint_tests, progress_tests, trailer_tests, version_tests}, declared.superblock.SuperFields.{SuperFields}}, proofs.Failing.{failing_front, handed_on, passing_front}}
use Rattle.df_format.proofs.super_rules.test_each.Goals as goal

abbrev trailer_on : SuperFields → List Test
trailer_on f = trailer_tests f ++ version_tests f

abbrev progress_on : SuperFields → List Test
progress_on f = progress_tests f ++ trailer_on f

abbrev checkpoint_on : SuperFields → List Test
checkpoint_on f = checkpoint_tests f ++ progress_on f

-- where the first parts pass, those that are left decide
sizes_pass : (f : SuperFields) → None ≡ first_failing (size_tests f) → first_failing (checkpoint_on f) ≡ first_failing (field_tests f)
sizes_pass f sizes = passing_front (size_tests f) (checkpoint_on f) sizes

checkpoint_passes : (f : SuperFields) → None ≡ first_failing (size_tests f)
    → None ≡ first_failing (checkpoint_tests f) → first_failing (progress_on f) ≡ first_failing (field_tests f)
checkpoint_passes f sizes checkpoint = passing_front (checkpoint_tests f) (progress_on f) checkpoint ∙ sizes_pass f sizes

progress_passes : (f : SuperFields)
    → None ≡ first_failing (size_tests f) → None ≡ first_failing (checkpoint_tests f) → None ≡ first_failing (progress_tests f)
    → first_failing (trailer_on f) ≡ first_failing (field_tests f)
progress_passes f sizes checkpoint progress = passing_front (progress_tests f) (trailer_on f) progress ∙ checkpoint_passes f sizes checkpoint

trailer_passes : (f : SuperFields) → None ≡ first_failing (size_tests f)
    → None ≡ first_failing (checkpoint_tests f) → None ≡ first_failing (progress_tests f) → None ≡ first_failing (trailer_tests f)
    → first_failing (version_tests f) ≡ first_failing (field_tests f)
trailer_passes f sizes checkpoint progress trailer =
    passing_front (trailer_tests f) (version_tests f) trailer ∙ progress_passes f sizes checkpoint progress

-- and of these the tests of the file's version
as_first : (f : SuperFields) → f.version ≡ 1 → first_failing (first_tests f) ≡ first_failing (version_tests f)
as_first f is = ap first_failing (sym (cond-true (f.version == 1) (first_tests f) (second_tests f) (eq-eqb f.version 1 is)))

as_second : (f : SuperFields) → f.version ≢ 1 → first_failing (second_tests f) ≡ first_failing (version_tests f)
as_second f other = ap first_failing (sym (cond-false (f.version == 1) (first_tests f) (second_tests f) (ne_eqb f.version 1 other)))

pub returns-in_err-test_sizes : goal.returns-in_err-test_sizes
returns-in_err-test_sizes c = let f = c.args.fields.now in
    handed_on _ _ c.from_residual.ensures ∙ failing_front (size_tests f) (checkpoint_on f) _ c.in_err-test_sizes.ensures

pub returns-in_err-test_checkpoint : goal.returns-in_err-test_checkpoint
returns-in_err-test_checkpoint c = let f = c.args.fields.now in handed_on _ _ c.from_residual-in_err-test_checkpoint.ensures
    ∙ failing_front (checkpoint_tests f) (progress_on f) _ c.in_err-test_checkpoint.ensures ∙ sizes_pass f c.in_ok-test_sizes.ensures

pub returns-in_err-test_progress : goal.returns-in_err-test_progress
returns-in_err-test_progress c = let f = c.args.fields.now in handed_on _ _ c.from_residual-in_err-test_progress.ensures
    ∙ failing_front (progress_tests f) (trailer_on f) _ c.in_err-test_progress.ensures
    ∙ checkpoint_passes f c.in_ok-test_sizes.ensures c.in_ok-test_checkpoint.ensures

pub returns-in_err-test_trailer : goal.returns-in_err-test_trailer
returns-in_err-test_trailer c = let f = c.args.fields.now in handed_on _ _ c.from_residual-in_err-test_trailer.ensures
    ∙ failing_front (trailer_tests f) (version_tests f) _ c.in_err-test_trailer.ensures
    ∙ progress_passes f c.in_ok-test_sizes.ensures c.in_ok-test_checkpoint.ensures c.in_ok-test_progress.ensures

pub returns-then-fields-eq-FIRST_VERSION : goal.returns-then-fields-eq-FIRST_VERSION
returns-then-fields-eq-FIRST_VERSION c = c.test_first.ensures ∙ as_first c.args.fields.now c.if-fields-eq-FIRST_VERSION.true
    ∙ trailer_passes
    c.args.fields.now c.in_ok-test_sizes.ensures c.in_ok-test_checkpoint.ensures c.in_ok-test_progress.ensures c.in_ok-test_trailer.ensures

pub returns-else-fields-eq-FIRST_VERSION : goal.returns-else-fields-eq-FIRST_VERSION
returns-else-fields-eq-FIRST_VERSION c = c.test_second.ensures ∙ as_second c.args.fields.now c.if-fields-eq-FIRST_VERSION.false
    ∙ trailer_passes
    c.args.fields.now c.in_ok-test_sizes.ensures c.in_ok-test_checkpoint.ensures c.in_ok-test_progress.ensures c.in_ok-test_trailer.ensures
