use Rattle.std.proofs.Common.{ℕ, Option, ap, sym, ◌∙◌, arith}
use Rattle.df_trailer.{specs.Rooms.{number_in}, proofs.{BitBytes.{bit_for}, Shown.{captured_bit, captured_past}}}
use Rattle.df_trailer.proofs.writer.bit_of.Goals as goal

pub returns-in-Some : goal.returns-in-Some
returns-in-Some g c = sym (captured_bit (g.G.CapturedBlocks.captured c.args.grid.now) c.args.blocks c.args.place (omega arith)
    ∙ ap (λ (o : Option ℕ). bit_for o) (sym c.captured.ensures ∙ ap (λ o. number_in o) c.in-Some.is))

pub returns-in-None : goal.returns-in-None
returns-in-None g c = sym (captured_bit (g.G.CapturedBlocks.captured c.args.grid.now) c.args.blocks c.args.place (omega arith)
    ∙ ap (λ (o : Option ℕ). bit_for o) (sym c.captured.ensures ∙ ap (λ o. number_in o) c.in-None.is))

pub returns-then-place-from : goal.returns-then-place-from
returns-then-place-from g c = sym (captured_past (g.G.CapturedBlocks.captured c.args.grid.now) c.args.blocks c.args.place (omega arith))
