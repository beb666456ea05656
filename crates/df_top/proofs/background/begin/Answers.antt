-- The root is the durable one.
use Rattle.{std.proofs.Common.{List, ℕ, ◌∙◌}, df_model.specs.Commands.{Begin}, df_top.specs.Turning.{DoesPiece}}
use Rattle.df_top.proofs.background.begin.Goals as goal

pub returns-clause-does : goal.returns-clause-does
returns-clause-does g c = rw (c.as_slice-root.ensures.value ∙ c.root_of-root.ensures ∙ c.root.ensures.is) at c.make_piece.ensures.does
