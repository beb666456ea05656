use Rattle.{std.proofs.Common.{◌-◌, ◌∙◌, ap, arith}, df_lines.{specs.Room.{Contents}, proofs.Pieces.{read_on}}}
use Rattle.df_lines.proofs.window.Window.fill.Goals as goal

pub returns-clause-same_text : goal.returns-clause-same_text
returns-clause-same_text g c = let w = c.self.inside in
    let held = c.in_ok-count.ensures.front ∙ c.to_front.ensures.moved ∙ ap (λ (v : Contents). v.bytes) c.self.view_is in
    read_on c.args.self.now.bytes
    c.read_behind.new.buffer.items (w.end - w.start) _ c.in_ok-count.count _ _ held (omega arith) c.in_ok-count.ensures.gives
