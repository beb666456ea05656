-- What stands in a window of a text, as the text is put item by item, and of what a piece is made.
use Rattle.std.specs.Prelude.{◌≡◌, ℕ, suc, ◌+◌, ◌*◌, ◌<◌, List, length, take, drop, map, slice_index, Option}
use Rattle.df_sessions.specs.declared.session.Session as table
use Rattle.df_theory.specs.Units as model
use Rattle.df_trailer.specs.{Rooms.{trailer_session}, Spelling.{is_referenced, listed, number_of_bits}, Text.{ones}}

-- what a text has from an offset on stands at the front of a room
abbrev pub IsPieceShown : List ℕ → ℕ → List ℕ → Type 0
IsPieceShown text from room = (i : ℕ) → i < length room → from + i < length text → slice_index room i ≡ slice_index text (from + i)

abbrev pub sessions_of : List table.Session → List model.Session
sessions_of ss = map trailer_session ss

-- the blocks that were captured, in order of address
abbrev pub captured_blocks : (ℕ → Option ℕ) → ℕ → List (Option ℕ)
captured_blocks captured blocks = listed (λ place. captured (suc place)) blocks

-- how many of the first n addresses are captured
abbrev pub referenced_among : (ℕ → Option ℕ) → ℕ → ℕ
referenced_among captured n = ones (map is_referenced (captured_blocks captured n))

-- their bits as one number
abbrev pub captured_bits : (ℕ → Option ℕ) → ℕ → ℕ
captured_bits captured blocks = number_of_bits (map is_referenced (captured_blocks captured blocks))

-- the parts of a checkpoint that captured this
abbrev pub captured_parts : List ℕ → List table.Session → (ℕ → Option ℕ) → model.Parts
captured_parts root ss captured = record { root = root; sessions = sessions_of ss; references = captured }

-- the piece of a text with an index, where a block has room for this many bytes
abbrev pub piece_of : ℕ → ℕ → List ℕ → List ℕ
piece_of room index text = take room (drop (room * index) text)
