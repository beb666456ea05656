-- A finding stands after those before it.
use Rattle.{std.proofs.Common.{◌++◌, ◌∙◌, Option, ap, sym, take}, df_layout.specs.declared.damage.Finding.{Finding}}
use Rattle.df_top.{specs.Findings.{items_of}, proofs.RingTurns.{take_set}}
use Rattle.df_top.proofs.ring.keep.Goals as goal

pub returns-in-Some-clause-kept : goal.returns-in-Some-clause-kept
returns-in-Some-clause-kept c = take_set c.args.row.now c.args.count c.in-Some.finding c.requires
    ∙ ap (λ (o : Option Finding). take c.args.count c.args.row.now ++ items_of o) (sym c.in-Some.is)
