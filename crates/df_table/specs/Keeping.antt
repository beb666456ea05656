-- What is kept of the table of a file after the barrier of an open: the puts and drops that were answered are there from their answers on, wherever a stop falls.
use Rattle.std.specs.Prelude.{◌≡◌, ℕ, List, [], ◌∷◌, ◌++◌, take, drop, Option, Some, None, Ok}
use Rattle.df_base.specs.{Image.{Image, IsImage}, Log.{Event, IsLeft, Log, Sync}, Moments.{EachMoment}}
use Rattle.df_disk.specs.Told.{Told, did}
use Rattle.df_theory.specs.{Device.{IsSafeDisk, NoChanceOf}, Found.{IsFound}, View.{View}}
use Rattle.df_units.specs.Bytes.{unit_at}
use Rattle.df_model.specs.Commands.{Advance, Answer, Append, Command, Flush, Stage, ToAppend}
use Rattle.df_rows.specs.{declared.command.Command.{Command as Change}, Commands.{IsCommand, body_of}, Tables.{Table, with_commands}}
use Rattle.df_session.specs.{Acknowledging.{IsUntil, WereAnswered}, Anew.{begun_after}, Below.{AreDistinctUnits, DataFile, State as Replica, shape}, Following.{MayOpen}, Keeping.{over}}
use Rattle.df_session.specs.{Links.{CallsMade, events_made, list_of}, Serving.{format}, Session.{Act, Exchange, acts_in}}
use Rattle.df_table.specs.{Policy.{the_client}, Table.{HasTable, IsObjectTable}}

-- ---- puts and drops among calls

-- the put or drop of an append that is accepted; no other call has one
abbrev pub Changes : Command → Answer → List Change → Type 0
Changes (Append client request body) (ToAppend (Ok done)) changes = (c : Change) × IsCommand c × (body ≡ body_of c) × (changes ≡ c ∷ [])
Changes command answer changes = changes ≡ []

-- those of calls that were answered, in order
abbrev pub AreChanges : List Exchange → List Change → Type 0
AreChanges [] changes = changes ≡ []
AreChanges (x ∷ exchanges) changes = (some : List Change) × (more : List Change) × Changes x.act.command x.answer some × AreChanges exchanges more × (changes ≡ some ++ more)

-- that of a call that was not answered, were it accepted
abbrev pub IsPending : Option Act → List Change → Type 0
IsPending None changes = changes ≡ []
IsPending (Some a) changes = Changes a.command (ToAppend (Ok (0, 0))) changes

-- ---- whose calls they are

-- no session but the one client's comes of it: an append is that client's, and no request is staged
abbrev pub IsClients : Command → Type 0
IsClients (Append client request body) = client ≡ the_client
IsClients (Stage client request body) = ⊥
IsClients Flush = ⊥
IsClients command = Unit {0}

abbrev pub AreClients : List Act → Type 0
AreClients [] = Unit {0}
AreClients (a ∷ acts) = IsClients a.command × AreClients acts

-- neither a prepare nor a step of a checkpoint comes of it, as of each read
abbrev pub LeavesTable : Command → Type 0
LeavesTable (Append client request body) = ⊥
LeavesTable (Stage client request body) = ⊥
LeavesTable Flush = ⊥
LeavesTable Advance = ⊥
LeavesTable command = Unit {0}

abbrev pub LeaveTable : List Act → Type 0
LeaveTable [] = Unit {0}
LeaveTable (a ∷ acts) = LeavesTable a.command × LeaveTable acts

-- ---- moments

-- the log is safe, and whatever a stop leaves, under no chance, has the table after some of these puts and drops, from the first on
pub record IsTableMidway (file : DataFile) (t : Table) (changes : List Change) (log : Log) : Type 0 where
  pub safe : IsSafeDisk (format file) (shape file) log
  pub left : (image : Image) → IsLeft log image → NoChanceOf (format file) log image → (n : ℕ) × HasTable file (with_commands (take n changes) t) image

-- From the barrier on, where the file had this table: at each moment every image left has it after some of the puts and drops, at each moment after an answer with all that
-- were answered by then, and at the end with all that were answered, but perhaps for the one in which the disk failed.
pub record KeepsFrom (file : DataFile) (t : Table) (base : Told) (mending : List Event) (c : CallsMade) (changes pending : List Change) (after : Told) : Type 0 where
  pub is : over mending (events_made c) base ≡ Some after
  pub moments : EachMoment (did Sync base).log after.log (IsTableMidway file t (changes ++ pending))
  pub answered : (k : ℕ) (log : Log) (some more : List Change) → AreChanges (take k c.exchanges) some → AreChanges (drop k c.exchanges) more
      → WereAnswered k (over mending [] base) log c → IsUntil (Some after) log → IsTableMidway file (with_commands some t) (more ++ pending) log
  pub end_safe : IsTableMidway file (with_commands changes t) pending after.log

-- By each log that shows what was shown, and by which the file may be opened, the told one or one that is restarted there; and whatever was done to the disk before, by the log that is
-- begun at the end of the open, where one checksum is one unit. No session but the one client's comes of it.
pub record KeepsTable (t : Told) (s : Replica) (mending : List Event) (c : CallsMade) : Type 0 where
  pub changes : List Change
  pub pending : List Change
  pub are : AreChanges c.exchanges changes
  pub is_pending : IsPending c.failed pending
  pub own : AreClients (acts_in c.exchanges ++ list_of c.failed)
  pub keeps : (view : View) (base : Told) (table : Table) → base.shown ≡ t.shown → MayOpen s.file view base → IsObjectTable s.file (unit_at s.file.layout s.file.cluster t.shown) view table
      → (after : Told) × KeepsFrom s.file table base mending c changes pending after
  pub anew : (view : View) (table : Table) → IsImage t.shown → IsFound (shape s.file) (unit_at s.file.layout s.file.cluster t.shown) view → AreDistinctUnits (unit_at s.file.layout s.file.cluster t.shown)
      → IsObjectTable s.file (unit_at s.file.layout s.file.cluster t.shown) view table → (after : Told) × KeepsFrom s.file table (begun_after mending t) [] c changes pending after
