-- What of the two versions is asked where both are spoken of.
use Rattle.{std.proofs.Common.{◌≡◌, ◌⊎◌, inl, inr, ℕ, ◌<◌, ◌^◌, ◌∙◌, arith}, df_theory.specs.View.{PassesTests, View, boot_of}}
use Rattle.{df_recovery.specs.Below.{DataFile, shape}, df_damage.specs.Versions.{IsKnownVersion, IsUnspent}}

-- the file of a version that is known has one
pub known_file : (version : ℕ) (file : DataFile) → IsKnownVersion version → file.version ≡ version → (file.version ≡ 1) ⊎ (file.version ≡ 2)
known_file version file (inl one) of = inl (of ∙ one)
known_file version file (inr two) of = inr (of ∙ two)

-- a boot that isn't spent can be raised, in both: in version 1 there is none
pub below_spent : (version : ℕ) (file : DataFile) (view : View) → IsKnownVersion version
    → file.version ≡ version → IsUnspent version view → PassesTests (shape file) view.checkpoint.content → boot_of view < 2 ^ 62
below_spent version file view (inl one) of unspent tests = omega (arith, (tests.of.one (tests.version ∙ of ∙ one)).0)
below_spent version file view (inr two) of unspent tests = unspent two
