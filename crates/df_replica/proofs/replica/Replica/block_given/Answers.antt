-- What the maker says obeys the rules of a block, with any body that fits.
use Rattle.{std.proofs.Common.{sym, subst, arith, rules, refl}, df_opening.{proofs.Laws.{boot_made}, specs.Below.{IsState, memory}}}
use Rattle.df_format.{specs.{declared.header.Header.{Header}, declared.kind.Kind.TheVariants.{Block as AsBlock}, Making.{for_body}, Rules.{ObeysRules}}, proofs.Laws.{given_obeys, of_second}}
use Rattle.{df_model.specs.Making.{next_address}, df_replica.specs.Blocks.{block_header_given}}
use Rattle.df_replica.proofs.replica.Replica.block_given.Goals as goal

pub returns-clause-value : goal.returns-clause-value
returns-clause-value c = search rules

pub returns-clause-rules : goal.returns-clause-rules
returns-clause-rules c = let s = c.args.self.now in let is = subst IsState c.self.view_is c.self.invariant.state in
    subst (λ (h : Header). ObeysRules (for_body h c.args.body.now)) (sym (returns-clause-value c))
    (given_obeys s.file.cluster (s.file.named, is.cluster) (block_header_given s (next_address (memory s)) c.args.kind)
    c.args.body.now AsBlock (of_second AsBlock (block_header_given s (next_address (memory s)) c.args.kind)
    refl (boot_made s (is.booted c.requires.may.live), is.second.rules.boot) (record { none_first = refl; none_last = refl })) (
      record {
        op = (omega (arith, c.requires.may.free.inside.0, c.requires.address), omega (arith, c.requires.address, c.ranges.address.fits));
        block_kind = (c.requires.may.named, c.ranges.kind.fits);
      },
      omega (arith, c.requires.may.fits, s.file.layout.block_size_within.1),
    ))
