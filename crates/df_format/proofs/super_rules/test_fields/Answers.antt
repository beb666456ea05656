use Rattle.std.proofs.{Common.{sym}, lemmas.Result.{err_from_is_err_and}}
use Rattle.df_format.proofs.{Failing.{fault_of_fields, fault_of_version}, SuperFaults.{obeys}}
use Rattle.df_format.proofs.super_rules.test_fields.Goals as goal

pub returns-in_err-test_version-clause-fault : goal.returns-in_err-test_version-clause-fault
returns-in_err-test_version-clause-fault c = let p = err_from_is_err_and c.from_residual.result c.from_residual.ensures.1 in
    rw (p.1, p.2) (sym (fault_of_version c.args.fields.now _ c.in_err-test_version.ensures))

pub returns-in_err-test_each-clause-fault : goal.returns-in_err-test_each-clause-fault
returns-in_err-test_each-clause-fault c =
    let p = err_from_is_err_and c.from_residual-in_err-test_each.result c.from_residual-in_err-test_each.ensures.1 in
    rw (p.1, p.2) (sym (fault_of_fields c.args.fields.now _ c.in_ok-test_version.ensures c.in_err-test_each.ensures))

pub usable-requires : goal.usable-requires
usable-requires c = obeys c.args.fields.now (sym (fault_of_fields c.args.fields.now _ c.in_ok-test_version.ensures c.in_ok-test_each.ensures))

pub returns-clause-usable : goal.returns-clause-usable
returns-clause-usable c = sym (fault_of_fields c.args.fields.now _ c.in_ok-test_version.ensures c.in_ok-test_each.ensures)
