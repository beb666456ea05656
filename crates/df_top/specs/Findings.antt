-- What a place of the ring of findings adds to the list of them.
use Rattle.std.specs.Prelude.{List, [], ◌∷◌, Option, Some, None}
use Rattle.df_layout.specs.declared.damage.Finding.{Finding}

abbrev pub items_of : Option Finding → List Finding
items_of None = []
items_of (Some f) = f ∷ []
