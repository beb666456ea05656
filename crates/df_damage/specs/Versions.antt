-- The two versions of a file, and what of an open is said of one alone.
use Rattle.std.specs.Prelude.{◌≡◌, ◌⊎◌, ◌<◌, ℕ}
use Rattle.df_base.specs.declared.TheConstants.{FIRST_VERSION, GREATEST, VERSION}
use Rattle.df_theory.specs.View.{View, boot_of}

-- a version that an open may ask for
abbrev pub IsKnownVersion : ℕ → Type 0
IsKnownVersion version = (version ≡ FIRST_VERSION) ⊎ (version ≡ VERSION)

-- an open may take this view once more, since its boot can be raised; in version 1 there is no boot
abbrev pub IsUnspent : ℕ → View → Type 0
IsUnspent version view = version ≡ VERSION → boot_of view < GREATEST
