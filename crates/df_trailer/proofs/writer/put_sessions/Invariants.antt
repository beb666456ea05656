use Rattle.std.proofs.Common.{◌≡◌, ℕ, ◌+◌, ◌*◌, ◌++◌, List, length, take}
use Rattle.df_trailer.specs.{Spelling.{spell_sessions}, Writing.{IsPieceShown, sessions_of}}
use Rattle.df_trailer.proofs.writer.put_sessions.Given as goal

abbrev pub invariant-loop-session : goal.invariant-loop-session
invariant-loop-session l = (l.at ≡ l.fn.start + 32 * l.session-index) × (length l.room ≡ length l.fn.room)
    × ((text : List ℕ) → length text ≡ l.fn.start → IsPieceShown text l.fn.from l.fn.room
    → IsPieceShown (text ++ spell_sessions (sessions_of (take l.session-index l.sessions))) l.fn.from l.room)
