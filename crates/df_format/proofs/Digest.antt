-- The checksum of a blank sector's covered part, computed.
use Rattle.{std.proofs.Common.{◌≡◌, [], ◌∷◌, replicate, refl}, df_base.specs.Fields.{check_of}}
use Rattle.sha2.specs.Sha256.{compress, schedule, first_words, rounds, hash_after, digest_bytes, sha256}

-- 4064 zeros, bytes 32 to 4096 of a sector
pub check_of-zeros : check_of (replicate 4064 0) ≡ 129 ∷ 172 ∷ 72 ∷ 169 ∷ 212 ∷ 167 ∷ 142 ∷ 190 ∷ 212 ∷ 98 ∷ 131 ∷ 116 ∷ 83 ∷ 157 ∷ 187 ∷ 47 ∷ []
unfolding check_of sha256 digest_bytes hash_after compress rounds schedule first_words
check_of-zeros = refl
