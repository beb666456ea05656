-- What the maker says obeys the rules of a prepare, with any body that fits.
use Rattle.std.proofs.Common.{[], sym, subst, arith, rules, refl}
use Rattle.df_format.{specs.{declared.header.Header.{Header}, declared.kind.Kind.TheVariants.{Prepare as AsPrepare}, Making.{for_body}, Rules.{ObeysRules}}, proofs.Laws.{given_obeys, of_second}}
use Rattle.df_replica.{specs.Flushing.{header_in, request_made}, proofs.AppendTests.{small_slot}}
use Rattle.df_replica.proofs.flush.header_in.Goals as goal

pub returns-clause-value : goal.returns-clause-value
returns-clause-value c = search rules

pub returns-clause-rules : goal.returns-clause-rules
returns-clause-rules c = λ body fits. let g = c.args.group.now in let may = c.requires.may in
    let h : Header = header_in g c.args.op c.args.parent (request_made c.args.client c.args.request []) in
    subst (λ (x : Header). ObeysRules (for_body x body)) (sym (returns-clause-value c))
    (given_obeys g.file.cluster (g.file.named, may.group.cluster) h body AsPrepare (of_second AsPrepare h refl may.group.boot
    (record { begins = (omega (arith, may.group.mark), may.from); ends = (c.requires.last, omega (arith, may.group.few, may.from)) })) (
      record {
        parent = may.parent_is;
        first = may.first;
        client = (c.requires.client, c.ranges.client.fits);
        op = (omega (arith, may.from, may.group.mark), omega (arith, c.requires.last, may.group.unspent));
        request = c.requires.request;
        mark = omega (arith, may.group.mark, may.from);
        checkpoint = may.group.sequence;
        slot = small_slot
            c.args.op g.file.layout.slots (omega (arith, g.file.layout.slots_within.0)) (omega (arith, g.file.layout.slots_within.1));
      },
      omega (arith, fits, g.file.layout.message_size_within.1),
    ))
