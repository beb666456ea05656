-- Its fields are in range.
use Rattle.{std.proofs.Common.{sym, subst, arith, rules}, df_grid.proofs.Writing.{header_obeys}}
use Rattle.df_format.specs.{declared.header.Header.{Header}, Making.{for_body}, Rules.{ObeysRules}, Spelling.{IsCheck}}
use Rattle.df_grid.proofs.writes.trailer_header.Goals as goal

pub returns-clause-header : goal.returns-clause-header
returns-clause-header c = search rules

pub returns-clause-rules : goal.returns-clause-rules
returns-clause-rules c = subst (λ (h : Header). ObeysRules (for_body h c.args.piece.now)) (sym (returns-clause-header c))
    (header_obeys c.args.cluster c.args.boot c.args.address c.args.index c.args.sequence c.args.before c.args.piece.now (c.requires.cluster, omega (arith, c.ranges.cluster.fits)) c.requires.boot (c.requires.address, omega (arith, c.ranges.address.fits)) (omega (arith, c.ranges.index.fits)) c.requires.sequence c.requires.before
    (subst IsCheck c.parent_of-parent.ensures.value c.parent_of-parent.ensures.check)
    (omega (arith, c.address_of-before.ensures, c.address_of-before.type_inv)) c.requires.size)
