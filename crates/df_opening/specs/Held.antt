-- The rooms of the log zones that a replica has, as its calls are lent them.
use Rattle.std.specs.Prelude.{◌≡◌, ℕ}
use Rattle.df_layout.specs.declared.layout.Layout.{Layout}
use Rattle.df_headers.specs.Ring.{IsHeaderTable}
use Rattle.df_damage.specs.Below.{LogRooms}

-- they are of this layout, and their table has headers of this cluster, each valid in its slot
pub record AreLogRoomsOf (layout : Layout) (cluster : ℕ) (rooms : LogRooms) : Type 0 where
  -- the layout that they were reserved for
  pub layout_is : rooms.layout ≡ layout
  -- the header ring, as it is or as it is to be
  pub table : IsHeaderTable layout cluster rooms.headers

-- a call leaves the layout and the table that they had
pub record AreAsBefore (old new : LogRooms) : Type 0 where
  -- the layout
  pub layout : new.layout ≡ old.layout
  -- the table of headers
  pub headers : new.headers ≡ old.headers
