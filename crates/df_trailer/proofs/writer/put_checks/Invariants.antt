use Rattle.std.proofs.Common.{◌≡◌, ℕ, ◌+◌, ◌++◌, List, length}
use Rattle.df_trailer.specs.{Spelling.{spell_checks}, Writing.{IsPieceShown, captured_blocks}}
use Rattle.df_trailer.proofs.writer.put_checks.Given as goal

abbrev pub invariant-loop-place : goal.invariant-loop-place
invariant-loop-place g l = (l.at ≡ l.fn.start + length (spell_checks (captured_blocks (g.G.CapturedBlocks.captured l.grid) l.place)))
    × (length l.room ≡ length l.fn.room) × ((text : List ℕ) → length text ≡ l.fn.start → IsPieceShown text l.fn.from l.fn.room
    → IsPieceShown (text ++ spell_checks (captured_blocks (g.G.CapturedBlocks.captured l.grid) l.place)) l.fn.from l.room)
