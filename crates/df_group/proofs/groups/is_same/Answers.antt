-- Two checksums of sixteen bytes are one exactly where their numbers are.
use Rattle.{std.proofs.{Common.{rules, ap, sym, ◌∙◌}, lemmas.Slice.Eq.{bytes_eq-Decides}}, df_format.specs.Spelling.{IsCheck}}
use Rattle.df_units.{specs.Meaning.{number_of}, proofs.Laws.{one_number}}
use Rattle.df_group.proofs.groups.is_same.Goals as goal

pub returns : goal.returns
returns c = let parent : IsCheck c.args.parent = search rules in let checksum : IsCheck c.args.checksum = search rules in (
  λ yes. ap number_of ((bytes_eq-Decides c.args.parent c.args.checksum).0 (sym c.eq.ensures ∙ yes)),
  λ same. c.eq.ensures ∙ (bytes_eq-Decides c.args.parent c.args.checksum).1 (one_number c.args.parent c.args.checksum parent checksum same),
)
