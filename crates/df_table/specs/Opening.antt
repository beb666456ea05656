-- What an opening finds in a file: its table, or the first thing that shows that the file has none.
use Rattle.std.specs.{Prelude.{◌≡◌, ◌⊎◌, ◌<◌, ◌≤◌, ◌%◌, ◌+◌, ℕ, List, [], ◌∷◌, ◌++◌, length, Option, Some, None, Result, Ok, Err}, List.{slice_get}}
use Rattle.df_layout.specs.{declared.damage.Class.{Class}, declared.layout.Layout.{Layout}, declared.places.Place.{Place}, declared.places.Zone.{Zone}}
use Rattle.df_layout.specs.declared.places.Zone.TheVariants.{ClientReplies, Grid, WalPrepares}
use Rattle.df_theory.specs.Units.{Block, Message, Session}
use Rattle.df_model.specs.{Commands.{ReadBlock, ReadPrepare}, declared.reading.PrepareError.{PrepareError}, declared.reading.ReadError.{ReadError}, Memory.{Memory}}
use Rattle.df_model.specs.Supply.{Shown, block_read, message_given}
use Rattle.df_model.specs.declared.reading.PrepareError.TheVariants as prepare
use Rattle.df_model.specs.declared.reading.ReadError.TheVariants as read
use Rattle.df_rows.specs.{declared.command.Command.{Command}, Blocks.{TableTakes, TakesAll}, Limits.{blocks_of_table}, Rows.{Entry}, Tables.{Table, with_command, with_commands, with_rows}}
use Rattle.df_table.specs.{declared.ending.Ending.{Ending}, declared.ending.Ending.TheVariants.{Damaged, Disk, NotTable}, declared.opening.Taken.{Taken}, Policy.{the_client}}
use Rattle.df_table.specs.Table.{CommandFollows, FollowAll, empty_table}

abbrev pub place_at : Zone → ℕ → Place
place_at zone index = record { zone = zone; index = index }

-- ---- what is read

-- these blocks are read over what is shown, and these are their bodies
abbrev pub AreReadBlocks : Shown → Memory → List (ℕ × ℕ) → List (List ℕ) → Type 0
AreReadBlocks shown m [] [] = Unit {0}
AreReadBlocks shown m (x ∷ more) (body ∷ bodies) = ((b : Block) × (block_read shown m (ReadBlock x.0) ≡ Ok b) × (b.body ≡ body)) × AreReadBlocks shown m more bodies
AreReadBlocks shown m references bodies = ⊥

-- the prepares from this op on are read, and these are they
abbrev pub ArePrepares : Shown → Memory → (op : ℕ) → List Message → Type 0
ArePrepares shown m op [] = Unit {0}
ArePrepares shown m op (p ∷ ps) = (message_given shown m (ReadPrepare op) ≡ Ok p) × ArePrepares shown m (op + 1) ps

-- ---- how far it comes

-- the session at this place is another client's
pub record IsOtherClient (m : Memory) (place : ℕ) : Type 0 where
  pub session : Session
  pub at : slice_get m.sessions place ≡ Some session
  pub other : session.client ≡ the_client → ⊥

-- no session before this place is
abbrev pub NoneIsOther : Memory → (place : ℕ) → Type 0
NoneIsOther m place = (k : ℕ) → k < place → IsOtherClient m k → ⊥

-- All sessions are the one client's, and the referenced blocks, all but these last ones, are a table.
pub record AreTakenBlocks (layout : Layout) (shown : Shown) (m : Memory) (rest : List (ℕ × ℕ)) (t : Table) : Type 0 where
  pub own : NoneIsOther m (length m.sessions)
  pub before : List (ℕ × ℕ)
  pub of : m.blocks.live ≡ before ++ rest
  pub few : length before ≤ blocks_of_table layout
  pub bodies : List (List ℕ)
  pub read : AreReadBlocks shown m before bodies
  pub taken : TakesAll (empty_table layout) bodies t

-- All of them are, and the prepares after the checkpoint, up to this op, are commands, after which this is the table.
pub record AreFollowed (layout : Layout) (shown : Shown) (m : Memory) (op : ℕ) (t : Table) : Type 0 where
  pub base : Table
  pub blocks : AreTakenBlocks layout shown m [] base
  pub prepares : List Message
  pub upto : op ≡ m.content.op + length prepares
  pub read : ArePrepares shown m (m.content.op + 1) prepares
  pub commands : List Command
  pub follow : FollowAll base prepares commands
  pub is : t ≡ with_commands commands base

-- the body isn't whole rows with new keys for which there is room, or as many blocks as a table may have stand before it
abbrev pub NoRows : Layout → Table → (before : List (ℕ × ℕ)) → List ℕ → Type 0
NoRows layout t before body = ((entries : List Entry) → TableTakes t body entries → ⊥) ⊎ (blocks_of_table layout ≤ length before)

-- it is no command's, or there is no room for what that puts
abbrev pub NoCommand : Table → List ℕ → Type 0
NoCommand t body = (c : Command) → CommandFollows t body c → ⊥

-- ---- what it finds

-- In this order: the least place with a session of another client; of each referenced block, in order of address, that it isn't shown, or has no rows of the table; of each prepare
-- after the checkpoint, in order of op, that it isn't shown, or is no command. Else the file is a table's, and this is the table.
pub data FindsTable (layout : Layout) (shown : Shown) (m : Memory) : Result Table Ending → Type 0 where
  OtherClient : (place : ℕ) → IsOtherClient m place → NoneIsOther m place → FindsTable layout shown m (Err (NotTable (place_at ClientReplies place)))
  BlockHurt : (x : ℕ × ℕ) (rest : List (ℕ × ℕ)) (t : Table) (class : Class) → AreTakenBlocks layout shown m (x ∷ rest) t → block_read shown m (ReadBlock x.0) ≡ Err class
      → FindsTable layout shown m (Err (Damaged (place_at Grid x.0) class))
  OtherBlock : (x : ℕ × ℕ) (rest : List (ℕ × ℕ)) (t : Table) (b : Block) → (taken : AreTakenBlocks layout shown m (x ∷ rest) t) → block_read shown m (ReadBlock x.0) ≡ Ok b → NoRows layout t taken.before b.body
      → FindsTable layout shown m (Err (NotTable (place_at Grid x.0)))
  PrepareHurt : (op : ℕ) (t : Table) (class : Class) → AreFollowed layout shown m op t → op < m.head → message_given shown m (ReadPrepare (op + 1)) ≡ Err class
      → FindsTable layout shown m (Err (Damaged (place_at WalPrepares ((op + 1) % layout.slots)) class))
  OtherPrepare : (op : ℕ) (t : Table) (p : Message) → AreFollowed layout shown m op t → op < m.head → message_given shown m (ReadPrepare (op + 1)) ≡ Ok p → NoCommand t p.body
      → FindsTable layout shown m (Err (NotTable (place_at WalPrepares ((op + 1) % layout.slots))))
  Found : (t : Table) → AreFollowed layout shown m m.head t → FindsTable layout shown m (Ok t)

-- what an opening finds, unless the disk failed in it
abbrev pub FindsOf : Layout → Shown → Memory → Result Table Ending → Type 0
FindsOf layout shown m opened = (opened ≡ Err Disk) ⊎ FindsTable layout shown m opened

-- ---- its parts

-- why a block that is live isn't read; it is never refused
abbrev pub block_ending : ReadError → Ending
block_ending (read.Damaged place class) = Damaged place class
block_ending read.DiskFault = Disk
block_ending read.NotLive = Disk

-- nor is a prepare after the checkpoint
abbrev pub prepare_ending : PrepareError → Ending
prepare_ending (prepare.Damaged place class) = Damaged place class
prepare_ending prepare.DiskFault = Disk
prepare_ending (prepare.NotKept first last) = Disk

-- the body of a unit that was read: it is taken so, or it shows in this way that the file is no table's
abbrev pub TakesBody : {A : Type 0} → (taken : A → Type 0) → (other : Place → Type 0) → Result A Ending → Type 0
TakesBody taken other (Ok x) = taken x
TakesBody taken other (Err (NotTable place)) = other place
TakesBody taken other (Err ending) = ⊥

-- the body of a block, after this many: its rows are taken; or it has no rows of the table, or is one too many
abbrev pub GivesRows : (before most : ℕ) → Table → List ℕ → Table → Type 0
GivesRows before most t body new = (before < most) × ((entries : List Entry) × TableTakes t body entries × (new ≡ with_rows entries t))

abbrev pub LacksRows : (address before most : ℕ) → Table → List ℕ → Place → Type 0
LacksRows address before most t body place = (place ≡ place_at Grid address) × (((entries : List Entry) → TableTakes t body entries → ⊥) ⊎ (most ≤ before))

abbrev pub TakesRows : (address before most : ℕ) → Table → List ℕ → Result Table Ending → Type 0
TakesRows address before most t body result = TakesBody (GivesRows before most t body) (LacksRows address before most t body) result

-- a block that is read, after this many: it is taken; or it isn't shown, has no rows of the table, or is one too many; or the disk fails
abbrev pub ReadsTableBlock : Shown → Memory → (address before most : ℕ) → Table → Result Table Ending → Type 0
ReadsTableBlock shown m address before most t (Ok new) = (b : Block) × (block_read shown m (ReadBlock address) ≡ Ok b) × TakesRows address before most t b.body (Ok new)
ReadsTableBlock shown m address before most t (Err (Damaged place class)) = (place ≡ place_at Grid address) × (block_read shown m (ReadBlock address) ≡ Err class)
ReadsTableBlock shown m address before most t (Err (NotTable place)) = (b : Block) × (block_read shown m (ReadBlock address) ≡ Ok b) × TakesRows address before most t b.body (Err (NotTable place))
ReadsTableBlock shown m address before most t (Err Disk) = Unit {0}
ReadsTableBlock shown m address before most t (Err ending) = ⊥

-- what is known of an address: no block is live there, and nothing is read; or one is
abbrev pub ReadsNext : Shown → Memory → (address most : ℕ) → Taken → Option ℕ → Result Taken Ending → Type 0
ReadsNext shown m address most t None result = result ≡ Ok t
ReadsNext shown m address most t (Some c) (Ok next) = ReadsTableBlock shown m address t.count most t.table (Ok next.table) × (next.count ≡ t.count + 1)
ReadsNext shown m address most t (Some c) (Err ending) = ReadsTableBlock shown m address t.count most t.table (Err ending)

-- the body of a prepare in this slot: its command is applied, or it is none
abbrev pub GivesCommand : {A : Type 0} → (t new : Table) → List ℕ → A → Type 0
GivesCommand t new body done = (c : Command) × CommandFollows t body c × (new ≡ with_command c t)

abbrev pub LacksCommand : Place → Table → List ℕ → Place → Type 0
LacksCommand slot t body place = (place ≡ slot) × NoCommand t body

abbrev pub TakesCommand : {A : Type 0} → Place → (t new : Table) → List ℕ → Result A Ending → Type 0
TakesCommand slot t new body result = TakesBody (GivesCommand t new body) (LacksCommand slot t body) result

-- a prepare that is read: its command is applied; or it isn't shown, or is none; or the disk fails
abbrev pub ReadsPrepare : {A : Type 0} → Layout → Shown → Memory → (op : ℕ) → (t new : Table) → Result A Ending → Type 0
ReadsPrepare layout shown m op t new (Ok done) = (p : Message) × (message_given shown m (ReadPrepare op) ≡ Ok p) × TakesCommand (place_at WalPrepares (op % layout.slots)) t new p.body (Ok done)
ReadsPrepare layout shown m op t new (Err (Damaged place class)) = (place ≡ place_at WalPrepares (op % layout.slots)) × (message_given shown m (ReadPrepare op) ≡ Err class)
ReadsPrepare {A} layout shown m op t new (Err (NotTable place)) =
    (p : Message) × (message_given shown m (ReadPrepare op) ≡ Ok p) × TakesCommand {A = A} (place_at WalPrepares (op % layout.slots)) t new p.body (Err (NotTable place))
ReadsPrepare layout shown m op t new (Err Disk) = Unit {0}
ReadsPrepare layout shown m op t new (Err ending) = ⊥

-- all blocks are read, and all prepares
abbrev pub TakesBlocks : Layout → Shown → Memory → Result Table Ending → Type 0
TakesBlocks layout shown m (Ok t) = AreTakenBlocks layout shown m [] t
TakesBlocks layout shown m (Err ending) = FindsOf layout shown m (Err ending)

abbrev pub TakesTail : {A : Type 0} → Layout → Shown → Memory → (new : Table) → Result A Ending → Type 0
TakesTail layout shown m new (Ok done) = AreFollowed layout shown m m.head new
TakesTail layout shown m new (Err ending) = FindsOf layout shown m (Err ending)
