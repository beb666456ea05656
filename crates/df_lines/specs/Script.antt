-- Which lines of `datafile`'s grammar a text has.
use Rattle.std.specs.Prelude.{ℕ, List}
use Rattle.df_lines.specs.Grammar.{Said, SaysLine}
use Rattle.df_lines.specs.Lines as lines

-- these are all its lines
abbrev pub AreLines : List ℕ → List Said → Type 0
AreLines = lines.AreLines SaysLine

-- within a bound on a line and a budget: its first line, or that this one is refused
abbrev pub IsLine : (bound budget : ℕ) → List ℕ → Said → Type 0
IsLine = lines.IsLine SaysLine

abbrev pub IsRefused : (bound budget : ℕ) → List ℕ → Type 0
IsRefused = lines.IsRefused SaysLine

-- the lines that it begins with, then so much of the budget and this text; and its script
abbrev pub BeginsWithLines : (bound budget : ℕ) → List ℕ → List Said → ℕ → List ℕ → Type 0
BeginsWithLines = lines.Begins SaysLine

abbrev pub IsScript : (bound budget : ℕ) → List ℕ → List Said → Type 0
IsScript = lines.IsScript SaysLine
