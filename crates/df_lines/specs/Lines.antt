-- Which lines a text has, of a grammar in which a line means this.
use Rattle.std.specs.Prelude.{◌≡◌, ◌≢◌, ◌⊎◌, ◌-◌, ℕ, List, [], ◌∷◌}
use Rattle.df_lines.specs.Text.{IsLineWithin, line_of, after_line, taken}

module _ {Said : Type 0} (means : List ℕ → Said → Type 0) where
  -- The lines of a text, each ended by byte 10; the last may end with the text instead. A text that ends after a byte 10 has no
  -- further line.
  abbrev pub AreLines : List ℕ → List Said → Type 0
  AreLines text [] = text ≡ []
  AreLines text (said ∷ more) = (text ≢ []) × means (line_of text) said × AreLines (after_line text) more

  -- the first line of the text says this, within the bound and the budget
  pub record IsLine (bound budget : ℕ) (text : List ℕ) (said : Said) : Type 0 where
    pub within : IsLineWithin bound budget text
    pub says : means (line_of text) said

  -- there is a next line, and it is no line of a script, too long, or past the budget
  pub record IsRefused (bound budget : ℕ) (text : List ℕ) : Type 0 where
    pub some : text ≢ []
    pub none : (said : Said) → IsLine bound budget text said → ⊥

  -- The text begins with these lines, within the bound and the budget. So much of the budget is left then, and this text.
  abbrev pub Begins : ℕ → ℕ → List ℕ → List Said → ℕ → List ℕ → Type 0
  Begins bound budget text [] left rest = (left ≡ budget) × (rest ≡ text)
  Begins bound budget text (said ∷ more) left rest = IsLine bound budget text said × Begins bound (budget - taken text) (after_line text) more left rest

  -- The script of a text: its first lines, and then it ends, or the next line is refused.
  pub record IsScript (bound budget : ℕ) (text : List ℕ) (lines : List Said) : Type 0 where
    pub left : ℕ
    pub rest : List ℕ
    pub begins : Begins bound budget text lines left rest
    pub ends : (rest ≡ []) ⊎ IsRefused bound left rest
