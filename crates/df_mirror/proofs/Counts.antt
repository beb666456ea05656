-- How many blocks the trailer of a superblock has.
use Rattle.{std.proofs.{Common.{ℕ, ◌-◌, ◌<◌, ◌≤◌, arith, inl, inr}, lemmas.Bool.{cases_lt}}, df_theory.specs.Trailer.{IsCount, IsReference}}
use Rattle.{df_format.specs.{Copies.{content_with}, SuperRules.{IsSuper}}, df_trailer.specs.Text.{parse_of}}
use Rattle.{df_units.{specs.Meaning.{layout_of}, proofs.Laws.{usable_passes}}, df_grid.specs.Laws.{ChainsHaveRoom}}
use Rattle.df_mirror.specs.{declared.superblock.Superblock.{Superblock}, Walks.{IsInsideGrid, content_of_superblock}}

module _ (b : Superblock) (usable : IsSuper b.content) where
  pub reference : IsReference (layout_of b.file.layout) (content_of_superblock b)
  reference = (usable_passes
      b.file.layout b.file.cluster b.file.named (parse_of (layout_of b.file.layout)) (content_with b.content) b.fields usable).1

  module _ (n : ℕ) (counts : IsCount (b.file.layout.block_size - 256) b.content.trailer_size n) where
    pub count_few : ChainsHaveRoom → n ≤ 70
    count_few room = elim (cases_lt 0 b.content.trailer_address) [
      | inl some ↦ room b.file.layout b.content.trailer_size n (reference.size some).1 counts
      | inr none ↦ room b.file.layout b.content.trailer_size n (let zero = (reference.none (omega arith)).1 in omega (arith, zero)) counts
    ]

    pub count_inside : 0 < n → IsInsideGrid b b.content.trailer_address
    count_inside some = elim (cases_lt 0 b.content.trailer_address) [
      | inl named ↦ (named, reference.address)
      | inr none ↦ absurd (let zero = (reference.none (omega arith)).1 in omega (arith, zero, counts.needed some))
    ]
