-- Rows in order of their keys.
use Rattle.std.specs.Prelude.{◌≡◌, ℕ, ◌<◌, ◌≤◌, List, [], length, slice_index_or, All}
use Rattle.df_rows.specs.Rows.{Entry, IsEntry}

-- the key at a place
abbrev pub key_at : List Entry → ℕ → ℕ
key_at entries i = let entry = slice_index_or entries i (0, []) in entry.0

-- the keys rise, so none comes twice
abbrev pub KeysRise : List Entry → Type 0
KeysRise entries = (i j : ℕ) → i < j → j < length entries → key_at entries i < key_at entries j

-- the key stands at this place
pub record IsAt (entries : List Entry) (key i : ℕ) : Type 0 where
  pub inside : i < length entries
  pub has : key_at entries i ≡ key

-- the key would go here: smaller keys before it, and greater ones from here on
pub record IsGap (entries : List Entry) (key i : ℕ) : Type 0 where
  pub inside : i ≤ length entries
  pub before : (j : ℕ) → j < i → key_at entries j < key
  pub behind : (j : ℕ) → i ≤ j → j < length entries → key < key_at entries j

-- the rows of a table, in a vector that is reserved for as many as it may have
pub record AreRows (max room : ℕ) (entries : List Entry) : Type 0 where
  pub rise : KeysRise entries
  pub fit : All IsEntry entries
  pub few : length entries ≤ max
  pub reserved : max ≤ room
