-- Why a repair must be told of the history: copies that grew step by step from a chosen content, and whose repair a stop misleads.
use Rattle.std.specs.Prelude.{◌≡◌, ◌⊎◌, ◌<◌, ℕ, false, List, [], ◌∷◌, ◌++◌, Some}
use Rattle.df_theory.specs.{Units.{CopyPlace, Content, CopyUnit, Units}, Copies.{IsNextContent, IsChosen}, UnitLog.{UnitLog, loose, now, settled, wrote, PutsOne}, Chance.{InImages, InPool, InWrites}}

-- a stop now may leave these copies: any at the loose ones, and at all others what is shown now
abbrev pub MayLeaveCopies : UnitLog → Units → Type 0
MayLeaveCopies log image = (n : ℕ) → n < 4 → loose log (CopyPlace n) ≡ false → image (CopyPlace n) ≡ now log (CopyPlace n)

-- each copy shown was settled there or is being written there
abbrev pub KnowsCopies : UnitLog → Units → Type 0
KnowsCopies log image = (n : ℕ) (d : Content) → n < 4 → image (CopyPlace n) ≡ Some (CopyUnit d) → InPool log (CopyPlace n) (CopyUnit d)

-- no copy is being written
pub record AreIdle (log : UnitLog) : Type 0 where
  pub dry : (n : ℕ) → n < 4 → loose log (CopyPlace n) ≡ false
  pub idle : (n : ℕ) (d : Content) → n < 4 → InWrites log.events (CopyPlace n) (CopyUnit d) → ⊥

-- the settled copies grew from these, newest first: each later image chooses the content before it or the next one, and shows beside what was there before only that, or at copy 0 a next one
abbrev pub GrowFrom : List Units → Content → List Units → Content → Type 0
GrowFrom base first [] c = c ≡ first
GrowFrom base first (image ∷ later) c =
    IsChosen image c × ((v : Content) × (GrowFrom base first later v × (((c ≡ v) ⊎ IsNextContent v c) × ((n : ℕ) (d : Content) → n < 4 → image (CopyPlace n) ≡ Some (CopyUnit d) → InImages (later ++ base) (CopyPlace n) (CopyUnit d) ⊎ ((d ≡ c) ⊎ ((n ≡ 0) × IsNextContent c d))))))

-- copies that grew from a chosen content, and whose repair a stop misleads
pub record Misleads : Type 0 where
  pub log : UnitLog
  pub first : Content
  pub c : Content
  pub d : Content
  pub later : List Units
  pub put : Units
  pub image : Units
  pub history : settled log ≡ later ++ log.start ∷ []
  pub began : IsChosen log.start first
  pub grew : GrowFrom (log.start ∷ []) first later c
  pub idle : AreIdle log
  pub chosen : IsChosen (now log) c
  pub outside : now log (CopyPlace 0) ≡ Some (CopyUnit c) → ⊥
  pub one : PutsOne put (CopyPlace 0) (CopyUnit c)
  pub left : MayLeaveCopies (wrote put log) image
  pub known : KnowsCopies (wrote put log) image
  pub other : IsChosen image d
  pub differs : d ≡ c → ⊥

-- so the first image matters: where a copy beside copy 0 shows a content above the choice, a repair may be misled to it much later
abbrev pub MisleadsLaw : Type 0
MisleadsLaw = Misleads
