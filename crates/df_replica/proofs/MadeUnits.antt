-- A unit that was made in a room, of a header and a body, is what the room holds.
use Rattle.{std.proofs.Common.{◌≡◌, ℕ, List, Option, Some, subst}, df_layout.specs.declared.layout.Layout.{Layout}}
use Rattle.{df_format.specs.declared.header.Header.{Header}, df_buffers.specs.Sounds.{Holding}}
use Rattle.df_places.specs.Shelves.{HoldsMade, IsUnitMade}

pub is_made : (layout : Layout) (h : Header) (body : List ℕ) (held : Option Holding) (unit : Holding)
    → held ≡ Some unit → HoldsMade layout h body held → IsUnitMade layout h body unit
is_made layout h body held unit same holds = subst (HoldsMade layout h body) same holds
