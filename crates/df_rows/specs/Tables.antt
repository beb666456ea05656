-- A table: the standard's map from keys to values, and how many rows it may have.
use Rattle.std.specs.{Prelude.{◌≡◌, ℕ, ◌<◌, ◌⊎◌, ⊤, List, [], ◌∷◌, IsTrue, None, refl}, Coded.{Coded, code_by, coded_ℕ, coded_list, coded×}}
use Rattle.std.specs.FinMap as map
use Rattle.df_rows.specs.{declared.command.Command.{Command}, declared.command.Command.TheVariants.{Put, Drop}, Commands.{Map, applied}, Rows.{Entry}}

pub record Table : Type 0 where
  pub max : ℕ
  pub rows : Map

-- a table is stored as the pair of its fields
abbrev pub table_code : Coded Table
table_code =
    code_by (ℕ × Map) (coded× coded_ℕ (map.code coded_ℕ (coded_list coded_ℕ))) (λ t. (t.max, t.rows)) (λ p. record { max = p.0; rows = p.1 }) (λ _. refl)

-- the map has the key
abbrev pub HasKey : Table → ℕ → Type 0
HasKey t key = IsTrue (map.contains_key t.rows key)

-- a row of this key may be put: the map has the key, or isn't full
abbrev pub HasRoom : Table → ℕ → Type 0
HasRoom t key = HasKey t key ⊎ (map.len t.rows < t.max)

-- a command may be applied: a put needs room for its row
abbrev pub CanApply : Table → Command → Type 0
CanApply t (Put entry) = HasRoom t entry.0
CanApply t (Drop key) = ⊤

-- the key is none of the map's, which isn't full
pub record IsNew (t : Table) (key : ℕ) : Type 0 where
  pub absent : map.get t.rows key ≡ None
  pub room : map.len t.rows < t.max

-- the table with a row put
abbrev pub with_row : Entry → Table → Table
with_row entry t = record { max = t.max; rows = map.insert t.rows entry.0 entry.1 }

-- the table with rows put, in order
abbrev pub with_rows : List Entry → Table → Table
with_rows [] t = t
with_rows (entry ∷ more) t = with_rows more (with_row entry t)

-- each row has a key that is new when it is put, and there is room for it
abbrev pub AreNew : List Entry → Table → Type 0
AreNew [] t = ⊤
AreNew (entry ∷ more) t = IsNew t entry.0 × AreNew more (with_row entry t)

-- the table after a command, and after commands, in order
abbrev pub with_command : Command → Table → Table
with_command command t = record { max = t.max; rows = applied command t.rows }

abbrev pub with_commands : List Command → Table → Table
with_commands [] t = t
with_commands (command ∷ more) t = with_commands more (with_command command t)
