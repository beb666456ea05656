-- The one spelling of a header, field by field.
use Rattle.std.specs.Prelude.{ℕ, List, [], ◌∷◌, ◌++◌, replicate}
use Rattle.df_base.specs.{Fields.{check_of}, Text.{Piece, AreSo, zeros, text}, Text.Piece.{Byte, Number, Bytes}}
use Rattle.df_format.specs.{declared.header.Header.{Header}, declared.kind.Kind.{Kind}, declared.kind.Kind.TheVariants.{Reserved, Prepare, Reply, Block, Trailer}}

-- sixteen zeros, where a checksum would stand
unfoldable pub no_checksum : List ℕ
no_checksum = replicate 16 0

-- the byte of each kind
abbrev pub code_of : Kind → ℕ
code_of Reserved = 1
code_of Prepare = 2
code_of Reply = 3
code_of Block = 4
code_of Trailer = 5

-- bytes 122 to 256 of a header: its version, the boot in which it was made, the group that it was appended with, and zeros; in
-- version 1, which has neither boots nor groups, all after the version is zero
abbrev pub tail : List (Piece Header)
tail = Number 2 (λ h. h.version) ∷ Number 8 (λ h. h.boot) ∷ Number 8 (λ h. h.group) ∷ Number 8 (λ h. h.group_last) ∷ zeros 108 ∷ []

unfoldable pub tail_of : Header → List ℕ
tail_of h = text tail h []

-- bytes 16 to 122: one piece for each field that a kind may name
abbrev pub fields : List (Piece Header)
fields =
    Bytes 16 (λ h. h.checksum_body)
    ∷ Number 16 (λ h. h.cluster)
    ∷ Bytes 16 (λ h. h.parent)
    ∷ Number 16 (λ h. h.client)
    ∷ Number 8 (λ h. h.op)
    ∷ Number 8 (λ h. h.request)
    ∷ Number 8 (λ h. h.mark)
    ∷ Number 8 (λ h. h.checkpoint)
    ∷ Number 4 (λ h. h.size)
    ∷ Number 4 (λ h. h.slot)
    ∷ Byte (λ h. code_of h.kind)
    ∷ Byte (λ h. h.block_kind)
    ∷ []

-- bytes 16 to 256: the fields, then the tail
unfoldable pub spelling_rest : Header → List ℕ
spelling_rest h = text fields h (tail_of h)

-- the 256 bytes of a header
abbrev pub spelling : Header → List ℕ
spelling h = h.checksum ++ spelling_rest h

-- bytes of a checksum
abbrev pub IsCheck : List ℕ → Type 0
IsCheck bytes = AreSo 16 bytes

-- the header with the checksum that its other fields give
abbrev pub sealed : Header → Header
sealed h = record h { checksum = check_of (spelling_rest h) }
