-- What is read as a header obeys the rules of its kind.
use Rattle.std.proofs.Common.{arith, sym}
use Rattle.df_tests_units.proofs.tests.headers.rewritten.Goals as goal

pub written-requires : goal.written-requires
written-requires c = ((c.headers_have_one_spelling.ensures c.args.bytes.now c.in_ok-header.header c.requires (λ i.
    omega (arith, c.type_inv.bytes i))).0 (sym c.in_ok-header.ensures)).0.rules
