use Rattle.std.proofs.{Common.{◌≡◌, ◌-◌, ◌*◌, ℕ, List, length, take, drop, arith, ap}, lemmas.List.{length-take-le}}
use Rattle.{df_units.specs.Meaning.{layout_of}, df_trailer.{specs.{Spelling.{spell}, Writing.{captured_parts}}, proofs.Shown.{piece_is}}}
use Rattle.df_trailer.proofs.writer.piece.Goals as goal

pub returns-clause-piece : goal.returns-clause-piece
returns-clause-piece g c = let body : ℕ = c.args.layout.now.block_size - 256 in let front : List ℕ = take body c.args.into.now in
    let size : length front ≡ body = length-take-le body c.args.into.now c.requires.room in piece_is
    c.put_window.result (length front) (c.from.result * c.args.index) body c.args.index c.put_window.new.room (drop body c.args.into.now)
    (spell (layout_of c.args.layout.now) (captured_parts c.args.root.now c.args.sessions.now (g.G.CapturedBlocks.captured c.args.grid.now)))
    (omega (arith, c.put_window.ensures.within, c.put_window.ensures.length))
    c.put_window.ensures.shown size (ap (λ (b : ℕ). b * c.args.index) c.from.ensures)
