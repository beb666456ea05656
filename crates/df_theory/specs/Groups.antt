-- Groups of prepares, of which a stop may leave a part.
use Rattle.std.specs.Prelude.{◌≡◌, ◌<◌, ◌≤◌, ◌+◌, ◌%◌, ℕ, List, length, Some}
use Rattle.df_theory.specs.{Units.{PreparePlace, Content, Message, PrepareUnit, Units}, Sessions.{sessions_after}, Tails.{In, Chain, last_mark, last_checksum, AreGroups, AreWholeGroups}}
use Rattle.df_theory.specs.{Shape.{Shape, slots, clients}, View.{Checkpoint, View}}

-- prepares after this tail, each of which is shown and fits what precedes it
pub record AreBehind (sh : Shape) (Shown : Message → Type 0) (b : Checkpoint) (tail ps : List Message) : Type 0 where
  pub room : length tail + length ps ≤ slots sh
  pub shown : (p : Message) → In p ps → Shown p
  pub chain : Chain (clients sh) (b.content.op + 1 + length tail) (last_checksum b.content.op_checksum tail) (last_mark 0 tail) (sessions_after b.parts.sessions tail) ps
  pub grouped : AreGroups 0 (b.content.op + length tail) (b.content.op + 1 + length tail) ps

-- and they end a group
pub record AreMore (sh : Shape) (Shown : Message → Type 0) (b : Checkpoint) (tail ps : List Message) : Type 0 where
  pub behind : AreBehind sh Shown b tail ps
  pub some : 0 < length ps
  pub ends : AreWholeGroups (b.content.op + length tail + length ps) ps

-- the prepare is shown at its slot, and is of this content's boot
pub record ShowsOwn (n : ℕ) (image : Units) (c : Content) (p : Message) : Type 0 where
  pub shown : image (PreparePlace (p.header.op % n)) ≡ Some (PrepareUnit p)
  pub own : p.header.boot ≡ c.boot

-- what survived above the head makes up no whole group
abbrev pub IsShort : Shape → Units → View → Type 0
IsShort sh image v = (ps : List Message) → AreMore sh (ShowsOwn (slots sh) image v.checkpoint.content) v.checkpoint v.tail ps → ⊥
