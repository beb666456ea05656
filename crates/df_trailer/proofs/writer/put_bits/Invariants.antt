use Rattle.{std.proofs.Common.{◌≡◌, ℕ, ◌++◌, List, length}, df_base.specs.Fields.{spelled}}
use Rattle.df_trailer.specs.Writing.{IsPieceShown, captured_bits}
use Rattle.df_trailer.proofs.writer.put_bits.Given as goal

abbrev pub invariant-loop-number : goal.invariant-loop-number
invariant-loop-number g l = (length l.room ≡ length l.fn.room)
    × ((text : List ℕ) → length text ≡ l.fn.start → IsPieceShown text l.fn.from l.fn.room
    → IsPieceShown (text ++ spelled l.number (captured_bits (g.G.CapturedBlocks.captured l.grid) l.blocks)) l.fn.from l.room)
