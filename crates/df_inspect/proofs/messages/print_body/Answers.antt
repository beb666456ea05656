-- The digits, then the end of the line.
use Rattle.{std.proofs.Common.{ap}, df_script_model.specs.Texts.{line_of}}
use Rattle.df_inspect.proofs.{Fronts.{digits_shown}, Written.{prints_more, prints_of, prints_same}}
use Rattle.df_inspect.proofs.messages.print_body.Goals as goal

pub returns-clause-prints : goal.returns-clause-prints
returns-clause-prints g c =
    prints_same _ _ _ _ _ (ap line_of (digits_shown c.args.body.now c.is_empty.result c.is_empty.ensures c.if-is_empty.false))
    (prints_more _ _ _ _ _ _ c.in_ok-print_digits.ensures.prints.whole (prints_of _ _ _ _ c.write-2.ensures.whole c.write-2.ensures.part))
