-- The front, then the body.
use Rattle.{std.proofs.Common.{ℕ, List, subst}, df_base.specs.Streams.{Appends, AppendsPart}}
use Rattle.df_script_model.specs.Texts.{body_text, line_of}
use Rattle.df_inspect.{specs.Messages.{block_front}, proofs.{Fronts.{block_and_body}, Written.{prints_front, prints_more, prints_same}}}
use Rattle.df_inspect.proofs.blocks.print_block.Goals as goal

pub returns-in_err-write_line-clause-prints : goal.returns-in_err-write_line-clause-prints
returns-in_err-write_line-clause-prints g c =
    prints_front (block_front c.args.address c.args.header.now) (line_of (body_text c.args.body.now))
    _ _ _ _ c.from_residual.ensures.0 (block_and_body c.args.address c.args.header.now c.args.body.now)
    (subst (λ (l : List ℕ). AppendsPart (g.W.Sink.written c.args.sink.now) (g.W.Sink.written c.write_line.new.sink) l)
    c.block_line.ensures c.in_err-write_line.ensures.prints.part)

pub returns-clause-prints : goal.returns-clause-prints
returns-clause-prints g c = prints_same _ _ _ _ _ (block_and_body c.args.address c.args.header.now c.args.body.now) (prints_more _ _ _ _ _ _
    (subst (λ (l : List ℕ). Appends (g.W.Sink.written c.args.sink.now) (g.W.Sink.written c.write_line.new.sink) l)
    c.block_line.ensures c.in_ok-write_line.ensures.prints.whole) c.print_body.ensures.prints)
