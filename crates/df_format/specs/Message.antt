-- A unit of the file, and the bytes that it is written as.
use Rattle.std.specs.Prelude.{◌+◌, ◌-◌, ◌*◌, ◌/◌, ℕ, List, ◌++◌, length, replicate}
use Rattle.df_base.specs.declared.TheConstants.{HEADER, SECTOR}
use Rattle.df_format.specs.{declared.header.Header.{Header}, Spelling.{spelling}}

-- a unit of any kind: a header, and the body that follows it
pub record Message : Type 0 where
  pub header : Header
  pub body : List ℕ

-- the bytes of a whole unit
abbrev pub unit_bytes : Message → List ℕ
unit_bytes u = spelling u.header ++ u.body

-- how many bytes of whole sectors n bytes cover
abbrev pub sectors_end : ℕ → ℕ
sectors_end n = SECTOR * ((n + 4095) / SECTOR)

-- the whole sectors of a unit, filled with zeros
unfoldable pub sectors_of : Message → List ℕ
sectors_of u = unit_bytes u ++ replicate (sectors_end (HEADER + length u.body) - (HEADER + length u.body)) 0
