-- How the parts of a trailer are spelled: numbers with their lowest byte first, with nothing between them.
use Rattle.std.specs.Prelude.{ℕ, zero, suc, ◌+◌, ◌*◌, ◌/◌, Bool, true, false, if◌then◌else◌, List, [], ◌∷◌, ◌++◌, length, map, Option, Some, None}
use Rattle.df_base.specs.{Fields.{spelled}, Text.{Piece, text}, Text.Piece.{Number, Bytes}}
use Rattle.df_theory.specs.Units.{Layout, Parts, Session}

abbrev pub is_referenced : Option ℕ → Bool
is_referenced (Some checksum) = true
is_referenced None = false

-- the first n values
abbrev pub listed : {X : Type 0} → (ℕ → X) → ℕ → List X
listed f zero = []
listed f (suc n) = f 0 ∷ listed (λ k. f (suc k)) n

-- what is known of each block, in order of address
abbrev pub block_checksums : Layout → Parts → List (Option ℕ)
block_checksums l parts = listed (λ place. parts.references (suc place)) l.blocks

-- the number whose bits these are, the lowest first
abbrev pub number_of_bits : List Bool → ℕ
number_of_bits [] = 0
number_of_bits (b ∷ bs) = (if b then 1 else 0) + 2 * number_of_bits bs

abbrev pub bits_size : Layout → ℕ
bits_size l = (l.blocks + 7) / 8

-- the 32 bytes of a session: its client, its request and its op
abbrev pub session_pieces : List (Piece Session)
session_pieces = Number 16 (λ s. s.client) ∷ Number 8 (λ s. s.request) ∷ Number 8 (λ s. s.op) ∷ []

abbrev pub spell_sessions : List Session → List ℕ
spell_sessions [] = []
spell_sessions (s ∷ ss) = text session_pieces s (spell_sessions ss)

-- the checksum of each referenced block
abbrev pub spell_checks : List (Option ℕ) → List ℕ
spell_checks [] = []
spell_checks (None ∷ bs) = spell_checks bs
spell_checks (Some checksum ∷ bs) = spelled 16 checksum ++ spell_checks bs

-- what stands before the checksums, with a root of this many bytes and this many sessions: both, each after its count, and the bits of all
-- blocks, as one number
abbrev pub trailer_pieces : Layout → (root sessions : ℕ) → List (Piece Parts)
trailer_pieces l root sessions =
    Number 4 (λ p. length p.root)
    ∷ Bytes root (λ p. p.root)
    ∷ Number 4 (λ p. length p.sessions)
    ∷ Bytes (32 * sessions) (λ p. spell_sessions p.sessions)
    ∷ Number (bits_size l) (λ p. number_of_bits (map is_referenced (block_checksums l p)))
    ∷ []

-- the text of a trailer
abbrev pub spell : Layout → Parts → List ℕ
spell l parts = text (trailer_pieces l (length parts.root) (length parts.sessions)) parts (spell_checks (block_checksums l parts))

-- how long the text is, of a root of this many bytes, this many sessions and this many referenced blocks
abbrev pub text_size : Layout → (root sessions references : ℕ) → ℕ
text_size l root sessions references = 4 + root + 4 + 32 * sessions + bits_size l + 16 * references
