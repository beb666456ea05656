-- The table of a file: the rows of the blocks that its checkpoint references, in order of address, changed by the commands of its tail.
use Rattle.std.specs.Prelude.{◌≡◌, ◌≤◌, ◌<◌, ℕ, List, [], ◌∷◌, length, Some}
use Rattle.std.specs.FinMap as map
use Rattle.df_layout.specs.declared.layout.Layout.{Layout}
use Rattle.df_theory.specs.{Units.{AnyUnit, Block, BlockPlace, BlockUnit, Message, Place, Units}, View.{View}, Holds.{Held}}
use Rattle.df_base.specs.Image.{Image}
use Rattle.df_model.specs.Blocks.{addresses, entries}
use Rattle.df_rows.specs.{declared.command.Command.{Command}, Blocks.{TakesAll}, Commands.{IsCommand, body_of}, Limits.{blocks_of_table, most_rows}}
use Rattle.df_rows.specs.Tables.{CanApply, Table, with_command, with_commands}
use Rattle.df_session.specs.{Below.{DataFile, shape}, Serving.{format}}

-- ---- blocks

-- what the checkpoint references, in order of address, each with the checksum of its block
abbrev pub references_of : DataFile → View → List (ℕ × ℕ)
references_of file v = entries v.checkpoint.parts.references (addresses (shape file).layout)

-- a block with this checksum, no trailer's, is said to be at this address, and this is its body
pub record HasBlockBody (At : Place → AnyUnit → Type 0) (x : ℕ × ℕ) (body : List ℕ) : Type 0 where
  pub block : Block
  pub there : At (BlockPlace x.0) (BlockUnit block)
  pub sum : block.checksum ≡ x.1
  pub own : 0 < block.kind
  pub body_is : block.body ≡ body

-- so it is of each of these, in order
abbrev pub HaveBodies : (Place → AnyUnit → Type 0) → List (ℕ × ℕ) → List (List ℕ) → Type 0
HaveBodies At [] [] = Unit {0}
HaveBodies At (x ∷ more) (body ∷ bodies) = HasBlockBody At x body × HaveBodies At more bodies
HaveBodies At references bodies = ⊥

-- the image shows them
abbrev pub ShowsBody : Units → (ℕ × ℕ) → List ℕ → Type 0
ShowsBody image x body = HasBlockBody (λ place unit. image place ≡ Some unit) x body

abbrev pub ShowsBodies : Units → List (ℕ × ℕ) → List (List ℕ) → Type 0
ShowsBodies image references bodies = HaveBodies (λ place unit. image place ≡ Some unit) references bodies

-- ---- commands

-- a body is a command's, and the table has room for what it puts
pub record CommandFollows (t : Table) (body : List ℕ) (c : Command) : Type 0 where
  pub body_is : body ≡ body_of c
  pub fits : IsCommand c
  pub room : CanApply t c

-- so it is of the bodies of prepares, each after those before it
abbrev pub FollowAll : Table → List Message → List Command → Type 0
FollowAll t [] [] = Unit {0}
FollowAll t (p ∷ ps) (c ∷ more) = CommandFollows t p.body c × FollowAll (with_command c t) ps more
FollowAll t ps cs = ⊥

-- ---- the table

abbrev pub empty_table : Layout → Table
empty_table layout = record { max = most_rows layout; rows = map.empty }

-- the table of a view, whose blocks are said to be where the view references them
pub record IsTableBy (At : Place → AnyUnit → Type 0) (file : DataFile) (v : View) (t : Table) : Type 0 where
  pub bodies : List (List ℕ)
  pub there : HaveBodies At (references_of file v) bodies
  pub few : length bodies ≤ blocks_of_table file.layout
  pub base : Table
  pub rows : TakesAll (empty_table file.layout) bodies base
  pub commands : List Command
  pub tail : FollowAll base v.tail commands
  pub is : t ≡ with_commands commands base

-- over an image that shows them
abbrev pub IsObjectTable : DataFile → Units → View → Table → Type 0
IsObjectTable file image v t = IsTableBy (λ place unit. image place ≡ Some unit) file v t

-- an image of the disk has a view whose table this is
pub record HasTable (file : DataFile) (t : Table) (image : Image) : Type 0 where
  pub view : View
  pub held : Held (shape file) ((format file).unit_at image) view
  pub table : IsObjectTable file ((format file).unit_at image) view t
