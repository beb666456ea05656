-- What is known of a file before it is read.
use Rattle.std.specs.Prelude.{◌<◌, ℕ, List, Option}
use Rattle.df_theory.specs.Units.{Layout, Parts}

-- the file's version, cluster and layout, within the layout's limits, and how the text of a trailer is read, given the op of its checkpoint (a session with a later op is a bad field)
pub record Shape : Type 0 where
  pub version : ℕ
  pub cluster : ℕ
  pub layout : Layout
  pub named : 0 < cluster
  pub some : 0 < layout.slots
  pub parse : ℕ → List ℕ → Option Parts

abbrev pub slots : Shape → ℕ
slots sh = sh.layout.slots

abbrev pub clients : Shape → ℕ
clients sh = sh.layout.clients
