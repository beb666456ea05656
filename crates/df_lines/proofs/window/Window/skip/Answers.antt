use Rattle.{std.proofs.Common.{◌≤◌, length, sym, refl}, df_lines.{specs.Room.{Contents}, proofs.Pieces.{taken_front}}}
use Rattle.df_lines.proofs.window.Window.skip.Goals as goal

pub returns : goal.returns
returns c = let w = c.self.inside in let within = rw (sym c.self.view_is) at c.requires in
    rw (← c.self.view_is) (rw (taken_front w.buffer.items w.start w.end c.args.count c.self.invariant.0 within) refl)
