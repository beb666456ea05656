-- The one spelling of a copy of the superblock, field by field.
use Rattle.std.specs.Prelude.{◌≡◌, ◌<◌, ◌^◌, ℕ, List, [], ◌∷◌, ◌++◌, All, length, replicate}
use Rattle.df_base.specs.{Fields.{check_of}, Text.{Piece, zeros, text}, Text.Piece.{Number, Bytes}}
use Rattle.df_format.specs.{Spelling.{IsCheck, no_checksum}, declared.superblock.SuperFields.{SuperFields}, declared.superblock.SuperCopy.{SuperCopy}}

-- a checksum for each of the 64 places that sessions can have
pub record AreChecks (checks : List (List ℕ)) : Type 0 where
  pub size : length checks ≡ 64
  pub each : All IsCheck checks

-- zeros for each of them
unfoldable pub no_checksums : List (List ℕ)
no_checksums = replicate 64 no_checksum

-- zeros stand for each
abbrev pub AreNone : List (List ℕ) → Type 0
AreNone checks = All (λ check. check ≡ no_checksum) checks

-- neither the prepare of the head nor a reply is named
pub record NamesNone (f : SuperFields) : Type 0 where
  pub head : f.head_checksum ≡ no_checksum
  pub replies : AreNone f.reply_checksums

-- each field fits its bytes
pub record FitsSuper (f : SuperFields) : Type 0 where
  pub version : f.version < 2 ^ 32
  pub slots : f.slots < 2 ^ 32
  pub message_size : f.message_size < 2 ^ 32
  pub clients : f.clients < 2 ^ 32
  pub block_size : f.block_size < 2 ^ 32
  pub blocks : f.blocks < 2 ^ 32
  pub cluster : f.cluster < 2 ^ 128
  pub sequence : f.sequence < 2 ^ 64
  pub op : f.op < 2 ^ 64
  pub op_checksum : IsCheck f.op_checksum
  pub head : f.head < 2 ^ 64
  pub replies : f.replies < 2 ^ 64
  pub trailer_address : f.trailer_address < 2 ^ 64
  pub trailer_checksum : IsCheck f.trailer_checksum
  pub trailer_size : f.trailer_size < 2 ^ 64
  pub boot : f.boot < 2 ^ 64
  pub head_checksum : IsCheck f.head_checksum
  pub reply_checksums : AreChecks f.reply_checksums

-- bytes 32 to 160, one piece for each field of both versions
abbrev pub fields : List (Piece SuperFields)
fields =
    Number 4 (λ f. f.version)
    ∷ Number 4 (λ f. f.slots)
    ∷ Number 4 (λ f. f.message_size)
    ∷ Number 4 (λ f. f.clients)
    ∷ Number 16 (λ f. f.cluster)
    ∷ Number 4 (λ f. f.block_size)
    ∷ Number 4 (λ f. f.blocks)
    ∷ Number 8 (λ f. f.sequence)
    ∷ Number 8 (λ f. f.op)
    ∷ Number 8 (λ f. f.head)
    ∷ Number 8 (λ f. f.replies)
    ∷ Number 8 (λ f. f.trailer_address)
    ∷ Bytes 16 (λ f. f.op_checksum)
    ∷ Bytes 16 (λ f. f.trailer_checksum)
    ∷ Number 8 (λ f. f.trailer_size)
    ∷ Number 8 (λ f. f.boot)
    ∷ []

unfoldable pub fields_bytes : SuperFields → List ℕ
fields_bytes f = text fields f []

-- checksums, one after the other
unfoldable pub checks_bytes : List (List ℕ) → List ℕ
checks_bytes [] = []
checks_bytes (check ∷ checks) = check ++ checks_bytes checks

-- bytes 160 to 4096: what version 2 names, with zeros between and after; all zeros in version 1, which names nothing
abbrev pub named : List (Piece SuperFields)
named = Bytes 16 (λ f. f.head_checksum) ∷ zeros 16 ∷ Bytes 1024 (λ f. checks_bytes f.reply_checksums) ∷ zeros 2880 ∷ []

unfoldable pub named_bytes : SuperFields → List ℕ
named_bytes f = text named f []

-- bytes 32 to 4096, which the checksum covers
unfoldable pub covered_bytes : SuperFields → List ℕ
covered_bytes f = text fields f (named_bytes f)

-- bytes 0 to 32 of a copy: its checksum, its number and zeros
abbrev pub front : List (Piece SuperCopy)
front = Bytes 16 (λ c. c.checksum) ∷ Number 4 (λ c. c.number) ∷ zeros 12 ∷ []

-- a copy with this number and these fields, with the checksum that they give
abbrev pub copy_with : ℕ → SuperFields → SuperCopy
copy_with number f = record { number = number; checksum = check_of (covered_bytes f); fields = f }

-- the sector of such a copy
unfoldable pub copy_bytes : ℕ → SuperFields → List ℕ
copy_bytes number f = text front (copy_with number f) (covered_bytes f)
