use Rattle.std.proofs.Common.{◌∙◌, subst, arith}
use Rattle.df_lines.{specs.{Window.{FindsLine}, contracts.reader.LineRoom.{the_view}}, proofs.Texts.{gives_refusal, next_line}}
use Rattle.df_lines.proofs.reader.LineRoom.next.Goals as goal

pub returns-in-Line-clause-gives : goal.returns-in-Line-clause-gives
returns-in-Line-clause-gives g c = rw (← c.self.view_is) (λ text tells. (next_line g.L.LineKind.grammar
    (the_view c.self.inside) c.find.new.self c.take_line.new.window _ _ c.take_line.new.budget _ _ text _ c.take_line.result (omega arith)
    (subst (FindsLine c.find.new.self) c.in-Line.is c.in_ok-length.ensures.found)
    c.in_ok-length.ensures.same_text c.in_ok-length.ensures.ended c.take_line.ensures.takes tells).0)

pub returns-in-TooLong-clause-gives : goal.returns-in-TooLong-clause-gives
returns-in-TooLong-clause-gives g c = rw (← c.self.view_is) (λ text tells.
    gives_refusal g.L.LineKind.grammar (the_view c.self.inside) c.find.new.self _ text c.self.inside.body.items (omega arith) (omega arith)
    (subst (FindsLine c.find.new.self) c.in-TooLong.is c.in_ok-length.ensures.found) (c.in_ok-length.ensures.same_text ∙ tells.is))

pub returns-in-Line-clause-tells : goal.returns-in-Line-clause-tells
returns-in-Line-clause-tells g c = rw (← c.self.view_is) (λ text tells. (next_line g.L.LineKind.grammar
    (the_view c.self.inside) c.find.new.self c.take_line.new.window _ _ c.take_line.new.budget _ _ text _ c.take_line.result (omega arith)
    (subst (FindsLine c.find.new.self) c.in-Line.is c.in_ok-length.ensures.found)
    c.in_ok-length.ensures.same_text c.in_ok-length.ensures.ended c.take_line.ensures.takes tells).1)
