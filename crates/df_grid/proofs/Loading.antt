-- What is read into a room is what the machine reads.
use Rattle.{std.{proofs.Common.{◌≡◌, Option, Some, None, List, ℕ, refl}, specs.Prelude.{Result, Ok, Err, IfOk}}, df_disk.specs.Told.{Told}}
use Rattle.{df_base.specs.declared.Failed.{Failed}, df_layout.specs.declared.{damage.Class.{Class}, layout.Layout.{Layout}}}
use Rattle.{df_format.specs.{declared.kind.Kind.TheVariants.{Block}, Spelling.{IsCheck}}, df_places.specs.Shelves.{HoldsFound, IsRead}}
use Rattle.{df_buffers.specs.{declared.identity.Identity.{Identity}, Sounds.{Holding}}, df_units.specs.Meaning.{number_of}}
use Rattle.df_grid.{specs.Reads.{HoldsKnown, Loads, at_address}, proofs.Reading.{shows_block, shows_other_block, shows_valid}}

module _ (layout : Layout) (cluster a : ℕ) (check : List ℕ) (fits : IsCheck check) (told : Option Told) (identity : Identity)
    (there : identity ≡ at_address layout cluster a check) (known : Option ℕ) (same : known ≡ Some (number_of check)) where
  pub loads : (wrong : Option Class) (held : Option Holding)
      → HoldsFound Block identity wrong held → IsRead Block identity told wrong held → Loads layout cluster told a known wrong held
  loads None None holds read = holds
  loads None (Some h) holds read = shows_block layout cluster a check fits told identity there None (Some h) known h refl refl holds read same
  loads (Some class) held holds read =
      shows_other_block layout cluster a check fits told identity there (Some class) held known class refl read same

  pub holds_known : (wrong : Option Class) (held : Option Holding)
      → HoldsFound Block identity wrong held → HoldsKnown layout cluster a known wrong held
  holds_known None None holds = holds
  holds_known None (Some h) holds = shows_valid layout cluster a check fits told identity there None (Some h) Block known h refl refl holds same
  holds_known (Some class) held holds = tt

  pub loads_all : (result : Result (Option Class) Failed) (held : Option Holding) → IfOk result (λ wrong. HoldsFound Block identity wrong held) → IfOk result (λ wrong. IsRead Block identity told wrong held) → IfOk result (λ wrong. Loads layout cluster told a known wrong held)
  loads_all (Ok wrong) held holds read = loads wrong held holds read
  loads_all (Err failed) held holds read = tt

  pub holds_all : (result : Result (Option Class) Failed) (held : Option Holding)
      → IfOk result (λ wrong. HoldsFound Block identity wrong held) → IfOk result (λ wrong. HoldsKnown layout cluster a known wrong held)
  holds_all (Ok wrong) held holds = holds_known wrong held holds
  holds_all (Err failed) held holds = tt
