use Rattle.{std.proofs.Common.{arith, rules}, df_buffers.proofs.Finds.{found_by, valid_class}}
use Rattle.df_buffers.proofs.find.find.Goals as goal

pub returns-then-is_wanted-clause-found : goal.returns-then-is_wanted-clause-found
returns-then-is_wanted-clause-found c = found_by c.args.identity.now c.args.bytes.now c.in_ok-header.header c.requires.size (λ i.
    omega (arith, c.type_inv.bytes i)) c.in_ok-header.ensures (c.is_wanted.ensures.0 (search rules))

pub returns-else-is_wanted-clause-class : goal.returns-else-is_wanted-clause-class
returns-else-is_wanted-clause-class c = valid_class c.args.identity.now c.args.bytes.now c.in_ok-header.header c.in_ok-header.ensures
