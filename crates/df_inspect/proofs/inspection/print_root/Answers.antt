-- The word, then the body.
use Rattle.{std.proofs.Common.{codes, refl}, df_script_model.specs.Texts.{body_text, line_of}}
use Rattle.df_inspect.proofs.Written.{prints_front, prints_more}
use Rattle.df_inspect.proofs.inspection.print_root.Goals as goal

pub returns-in_err-print_root_word-clause-prints : goal.returns-in_err-print_root_word-clause-prints
returns-in_err-print_root_word-clause-prints g c = prints_front (codes "root ")
    (line_of (body_text c.args.root.now)) _ _ _ _ c.from_residual.ensures.0 refl c.in_err-print_root_word.ensures.prints.part

pub returns-clause-prints : goal.returns-clause-prints
returns-clause-prints g c = prints_more (codes "root ") _ _ _ _ _ c.in_ok-print_root_word.ensures.prints.whole c.print_body.ensures.prints
