-- What holds of every copy of the superblock, sector and image: what the layers above rest on.
use Rattle.std.specs.Prelude.{◌≡◌, ◌≢◌, ◌↔◌, ◌<◌, ℕ, List, replicate, Some, None}
use Rattle.df_base.specs.{declared.TheConstants.{VERSION}, Fields.{check_of}, Image.{Image, IsSector, IsPiece, blank, written}}
use Rattle.df_layout.specs.declared.damage.Class.TheVariants.{Stale}
use Rattle.df_format.specs.{Super.{FitsSuper, NamesNone, covered_bytes, copy_bytes, named_bytes}, SuperRules.{IsUsable}, Copies.{copy_in, copy_at, content_at, content_with, class_of_copy}}
use Rattle.df_format.specs.{declared.superblock.SuperFields.{SuperFields}, declared.superblock.SuperCopy.{SuperCopy}}

-- a copy as it is written: one of the four, with the checksum that its fields give, and zeros where its version has no fields
pub record IsWrittenCopy (copy : SuperCopy) : Type 0 where
  pub number : copy.number < 4
  pub fits : FitsSuper copy.fields
  pub named : copy.fields.version ≢ VERSION → NamesNone copy.fields
  pub checksum : copy.checksum ≡ check_of (covered_bytes copy.fields)

-- a sector is read as a copy with zeros where its version has no fields exactly where it is that copy's spelling
abbrev pub CopiesHaveOneSpelling : Type 0
CopiesHaveOneSpelling =
    (bytes : List ℕ) (copy : SuperCopy) → IsSector bytes → copy.fields.first_nonzero ≡ None
    → (copy_in bytes ≡ Some copy) ↔ (IsWrittenCopy copy × (bytes ≡ copy_bytes copy.number copy.fields))

-- after its boot a copy that names nothing ends in zeros
abbrev pub NamelessEndsInZeros : Type 0
NamelessEndsInZeros = (f : SuperFields) → FitsSuper f → NamesNone f → named_bytes f ≡ replicate 3936 0

-- a copy that is written is shown at its own place, whatever was there before
abbrev pub WrittenCopyIsShown : Type 0
WrittenCopyIsShown =
    (image : Image) (number : ℕ) (f : SuperFields) → number < 4 → IsUsable f → content_at (written number (copy_bytes number f) image) number ≡ Some (content_with f)

-- its write changes no other sector
abbrev pub OtherSectorsStay : Type 0
OtherSectorsStay = (image : Image) (number other : ℕ) (f : SuperFields) → other ≢ number → FitsSuper f → written number (copy_bytes number f) image other ≡ image other

-- and so what the other places show stays
abbrev pub OtherCopiesStay : Type 0
OtherCopiesStay =
    (image : Image) (number other : ℕ) (f : SuperFields) → other ≢ number → FitsSuper f → content_at (written number (copy_bytes number f) image) other ≡ content_at image other

-- the bytes of a copy are one sector, and so a write
pub record AreOneSector (bytes : List ℕ) : Type 0 where
  pub sector : IsSector bytes
  pub piece : IsPiece bytes

abbrev pub CopyIsOneSector : Type 0
CopyIsOneSector = (number : ℕ) (f : SuperFields) → FitsSuper f → AreOneSector (copy_bytes number f)

-- what a copy's place shows depends on its sector alone
abbrev pub SameSectorSameCopy : Type 0
SameSectorSameCopy = (one two : Image) (number : ℕ) → one number ≡ two number → content_at one number ≡ content_at two number

-- a copy that is valid at its place is neither blank nor elsewhere
abbrev pub ValidCopyIsStale : Type 0
ValidCopyIsStale = (image : Image) (number : ℕ) (copy : SuperCopy) → copy_at image number ≡ Some copy → class_of_copy number (image number) ≡ Stale

-- and what is stale is a copy that is valid there
abbrev pub StaleIsCopy : Type 0
StaleIsCopy = (image : Image) (number : ℕ) → class_of_copy number (image number) ≡ Stale → (copy : SuperCopy) × (copy_at image number ≡ Some copy)

-- a blank image shows no copy
abbrev pub BlankShowsNoCopy : Type 0
BlankShowsNoCopy = (number : ℕ) → content_at blank number ≡ None
