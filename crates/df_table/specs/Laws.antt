-- What holds of tables of files: an image and a view have one, an opening finds one thing, a table that it finds is the file's, rows stand in their order in blocks, and a session that appends nothing leaves the table.
use Rattle.std.specs.Prelude.{◌≡◌, ℕ, [], ◌++◌, Option, None, Some, Result, Ok}
use Rattle.std.specs.FinMap as map
use Rattle.df_base.specs.{Image.{IsImage}, Log.{Sync}}
use Rattle.df_disk.specs.Told.{Told, did}
use Rattle.df_layout.specs.declared.layout.Layout.{Layout}
use Rattle.df_theory.specs.{Found.{IsFound}, Units.{Units}, View.{View}}
use Rattle.df_units.specs.{Bytes.{unit_at}, Making.{first_view}}
use Rattle.df_rows.specs.{Blocks.{bodies_of}, Commands.{Map}, Limits.{rows_in_block}, Tables.{Table}}
use Rattle.df_model.specs.{Memory.{Memory, memory_of}, Supply.{Shown}, Work.{Work, kept}}
use Rattle.df_session.specs.{Begun.{begun_work}, Below.{DataFile, State as Replica, memory, shape, spelling}, Laws.{CallsKeep}, Links.{CallsMade, list_of}, Opened.{Mends}, Reading.{shown_of}}
use Rattle.df_session.specs.{Serving.{Firm, Keeps}, Session.{acts_in}}
use Rattle.df_table.specs.{declared.ending.Ending.{Ending}, Keeping.{KeepsTable, LeaveTable}, Opening.{FindsTable}, Policy.{checkpoint}, Ready.{IsReadyReplica}}
use Rattle.df_table.specs.{Table.{IsObjectTable, ShowsBodies, empty_table, references_of}, Turns.{MakeAll}}

-- ---- one table

-- an image and a view have one table
abbrev pub TableIsOne : Type 0
TableIsOne = (file : DataFile) (image : Units) (v : View) (t u : Table) → IsObjectTable file image v t → IsObjectTable file image v u → t ≡ u

-- the opening of what a disk shows, where this view is found in it, finds this table: no session is another client's, each block that is referenced has rows, and each prepare of the
-- tail is a command
abbrev pub FindsIn : DataFile → Told → View → Table → Type 0
FindsIn file t view table = FindsTable file.layout (shown_of file t.shown) (memory_of (shape file) (spelling file) (begun_work file t.shown view)) (Ok table)

-- what an opening finds is it
abbrev pub FoundIsTable : Type 0
FoundIsTable =
    (file : DataFile) (t : Told) (v : View) (table : Table) → IsImage t.shown → IsFound (shape file) (unit_at file.layout file.cluster t.shown) v
    → FindsIn file t v table → IsObjectTable file (unit_at file.layout file.cluster t.shown) v table

-- and it finds one thing
abbrev pub FindsOne : Type 0
FindsOne = (layout : Layout) (shown : Shown) (m : Memory) (one other : Result Table Ending) → FindsTable layout shown m one → FindsTable layout shown m other → one ≡ other

-- a file that was just made has the empty one
abbrev pub FirstIsEmpty : Type 0
FirstIsEmpty = (file : DataFile) (image : Units) → IsObjectTable file image (first_view file.layout file.cluster) (empty_table file.layout)

-- ---- the order of rows

-- after a checkpoint of a table that is done the referenced blocks, in order of address, have its rows, in order of key: the k-th row of the table is row k of its blocks
abbrev pub RowsInOrder : Type 0
RowsInOrder =
    (layout : Layout) (s t : Replica) (o n : Told) (rows : Map) (steps : ℕ) (w : Work) → IsReadyReplica layout s → IsImage o.shown → MakeAll (checkpoint layout (memory s) rows steps) s t (Some o) (Some n) → (memory t).running ≡ None → Keeps Firm t w None
    → ShowsBodies (unit_at t.file.layout t.file.cluster n.shown) (references_of t.file (kept w)) (bodies_of (rows_in_block layout) (map.entries rows))

-- ---- sessions that leave the table

-- Calls of which neither a prepare nor a step of a checkpoint comes, as reads alone, or none at all, keep the table of an open file, whichever program made them: nothing of it changes.
abbrev pub LeavingKeepsTable : Type 0
LeavingKeepsTable =
    (t : Told) (s : Replica) (mended : Option Told) (mending : Mends s.file (Some (did Sync t)) mended) (c : CallsMade) → CallsKeep t s mended mending c → LeaveTable (acts_in c.exchanges ++ list_of c.failed)
    → (keeps : KeepsTable t s mending.events c) × (keeps.changes ≡ []) × (keeps.pending ≡ [])
