-- The last of them is the one after which there is none.
use Rattle.{std.proofs.Common.{◌/◌, ◌-◌, ℕ, length, ◌∙◌, ap, arith}, df_format.specs.declared.header.Header.{Header}}
use Rattle.df_journal.proofs.GroupWrites.{last_held, stands_at}
use Rattle.df_journal.proofs.flushing.ends.Goals as goal

pub returns-clause-last : goal.returns-clause-last
returns-clause-last c =
    ap (λ (h : Header). h.slot / 16) c.header-2.ensures.header ∙ ap (λ (s : ℕ). s / 16) (last_held 0 c.args.group.now (length c.args.group.now - 1) c.index-group-group.result (omega (arith, c.requires)) (stands_at c.args.group.now (length c.args.group.now - 1) c.index-group-group.result (omega (arith, c.requires)) c.index-group-group.is))
