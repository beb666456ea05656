-- Which reply a superblock takes in the slot of a place.
use Rattle.std.specs.Prelude.{◌≡◌, ◌<◌, ◌≤◌, ℕ, slice_index}
use Rattle.df_format.specs.{declared.header.Header.{Header}, declared.superblock.SuperFields.{SuperFields}}
use Rattle.df_units.specs.Meaning.{answered_of, number_of, reply_checksums_of}

-- one that it names by the checksum that it has for the place, and each later one of its boot
pub record IsNamedBy (f : SuperFields) (place : ℕ) (h : Header) : Type 0 where
  pub old : h.op < answered_of f → slice_index (reply_checksums_of f) place ≡ number_of h.checksum
  pub new : answered_of f ≤ h.op → h.boot ≡ f.boot
