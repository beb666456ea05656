-- What a text says is determined.
use Rattle.std.specs.Prelude.{◌≡◌, ℕ, List, []}
use Rattle.df_lines.specs.{Grammar.{Said, SaysLine}, Script.{AreLines, BeginsWithLines, IsScript}}

-- a line says one thing
abbrev pub OneLineMeaning : Type 0
OneLineMeaning = (line : List ℕ) (one other : Said) → SaysLine line one → SaysLine line other → one ≡ other

-- a text has one list of lines
abbrev pub OneListOfLines : Type 0
OneListOfLines = (text : List ℕ) (one other : List Said) → AreLines text one → AreLines text other → one ≡ other

-- and one script
abbrev pub OneScript : Type 0
OneScript = (bound budget : ℕ) (text : List ℕ) (one other : List Said) → IsScript bound budget text one → IsScript bound budget text other → one ≡ other

-- what is read of a text to its end is its list of lines
abbrev pub WholeScript : Type 0
WholeScript = (bound budget : ℕ) (text : List ℕ) (lines : List Said) (left : ℕ) → BeginsWithLines bound budget text lines left [] → AreLines text lines
