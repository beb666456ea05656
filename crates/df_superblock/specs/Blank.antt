-- Which of the four sectors of the superblock hold zeros alone: a disk on which all do has no file.
use Rattle.std.specs.Prelude.{◌≡◌, ◌<◌, ℕ, true, List, get_or}
use Rattle.df_base.specs.Image.{Image}
use Rattle.df_layout.specs.declared.damage.Class.TheVariants.{Blank}
use Rattle.df_format.specs.Copies.{is_blank_copy}
use Rattle.df_quorum.specs.{declared.slot.Slot.{Slot}, declared.slot.Slot.TheVariants.{Bad}, Quorum.{nothing}}

-- all four sectors of the superblock are zeros
abbrev pub IsUnformatted : Image → Type 0
IsUnformatted image = (n : ℕ) → n < 4 → is_blank_copy (image n) ≡ true

-- the first n places are blank
abbrev pub AreBlank : List Slot → ℕ → Type 0
AreBlank slots count = (n : ℕ) → n < count → get_or slots n nothing ≡ Bad Blank

-- the first place that isn't blank
pub record IsFirstWrittenOf (slots : List Slot) (first : ℕ) : Type 0 where
  pub inside : first < 4
  pub written : ¬ (get_or slots first nothing ≡ Bad Blank)
  pub before : AreBlank slots first
