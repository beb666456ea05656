-- What is true of the replica of a table's file between two lines: so no call is refused but for want of ops or sequences.
use Rattle.std.specs.{Prelude.{◌≡◌, ◌≤◌, ◌+◌, ◌*◌, ℕ, true, false, List, [], length, map, vec_len, Some, None}, List.{slice_get}}
use Rattle.std.specs.FinMap as maps
use Rattle.df_layout.specs.declared.layout.Layout.{Layout}
use Rattle.df_sessions.specs.Requests.{sessions_of}
use Rattle.df_theory.specs.Units.{Session}
use Rattle.df_model.specs.{Blocks.{Blocks}, Memory.{Memory}, Work.{Work}}
use Rattle.df_rows.specs.{Limits.{blocks_of_table, most_rows}, Tables.{Table}}
use Rattle.df_session.specs.{Below.{RunningState, State as Replica, memory}, Serving.{Firm, Keeps}}
use Rattle.df_table.specs.{Policy.{is_full, the_client}, declared.session.Session.{Session as Serving}}

-- what a session keeps of memory: no checkpoint runs, nothing waits for its reply or is staged, and all sessions are the one client's
pub record IsOwnMemory (m : Memory) : Type 0 where
  pub idle : m.running ≡ None
  pub answered : m.replies ≡ m.head
  pub unstaged : m.staged ≡ []
  pub alone : (place : ℕ) (s : Session) → slice_get m.sessions place ≡ Some s → s.client ≡ the_client

-- the addresses of entries
abbrev pub places : List (ℕ × ℕ) → List ℕ
places entries = map (λ x. x.0) entries

-- The live blocks are those of the durable checkpoint, as many as a table has at most; and its trailer and one more have room in what three tables leave.
pub record HasSpace (layout : Layout) (m : Memory) : Type 0 where
  pub live : places m.blocks.live ≡ places m.blocks.durable
  pub few : length m.blocks.durable ≤ blocks_of_table layout
  pub chain : 2 * length m.blocks.chain ≤ blocks_of_table layout + 4

-- the replica without a live block
abbrev pub without_live : Replica → Replica
without_live s = record s { blocks = record s.blocks { live = [] } }

-- calls may go on, and the replica stands for a state of the machine that makes sense
pub record IsReadyReplica (layout : Layout) (s : Replica) : Type 0 where
  pub live : s.live ≡ true
  pub work : Work
  pub stands : Keeps Firm s work None
  pub layout_is : s.file.layout ≡ layout
  pub own : IsOwnMemory (memory s)
  pub space : HasSpace layout (memory s)

-- so it is, and the table has no more rows than the layout allows
pub record IsSteady (layout : Layout) (s : Replica) (t : Table) : Type 0 where
  pub ready : IsReadyReplica layout s
  pub max : t.max ≡ most_rows layout
  pub few : maps.len t.rows ≤ most_rows layout

-- an open found it: it stands for this state, in which no checkpoint runs, nothing is staged, and all that is referenced is live
pub record IsBegun (layout : Layout) (w : Work) (s : Replica) : Type 0 where
  pub stands : Keeps Firm s w None
  pub layout_is : s.file.layout ≡ layout
  pub idle : w.running ≡ None
  pub unstaged : w.staged ≡ []
  pub live : w.live ≡ w.view.checkpoint.parts.references

-- what waited was replied to, and nothing else has changed but the replies
pub record HasCaughtUp (s t : Replica) : Type 0 where
  pub head : t.head ≡ s.head
  pub replies : s.replies ≤ s.head → t.replies ≡ s.head
  pub staged : t.staged ≡ s.staged
  pub file : t.file ≡ s.file
  pub blocks : t.blocks ≡ s.blocks
  pub running : t.running ≡ s.running
  pub sessions : sessions_of t.table.sessions ≡ sessions_of s.table.sessions

-- no checkpoint runs, and this many blocks more may be written
pub record HasFree (layout : Layout) (b : Blocks) (more : ℕ) : Type 0 where
  pub captured : b.captured ≡ []
  pub written : b.written ≡ []
  pub left : b.left ≡ []
  pub free : more + (length b.live + (length b.durable + length b.chain)) ≤ layout.blocks

-- this many blocks were written, and nothing else has changed
pub record WroteBlocks (count : ℕ) (s t : Replica) : Type 0 where
  pub same : t ≡ record s { blocks = record s.blocks { live = t.blocks.live } }
  pub few : length t.blocks.live ≤ length s.blocks.live + count

-- all live blocks of a replica that was ready were let go
pub record IsEmptied (layout : Layout) (s t : Replica) : Type 0 where
  pub ready : IsReadyReplica layout s
  pub state : t ≡ without_live s
  pub work : Work
  pub stands : Keeps Firm t work None

-- a checkpoint that captured this ran on, and was finished: it is the durable one, and nothing else has changed
pub record IsFinished (r : RunningState) (s t : Replica) : Type 0 where
  pub idle : t.running ≡ None
  pub file : t.file ≡ s.file
  pub head : t.head ≡ s.head
  pub replies : t.replies ≡ s.replies
  pub staged : t.staged ≡ s.staged
  pub table : t.table ≡ s.table
  pub op : t.fields.op ≡ r.op
  pub live : t.blocks.live ≡ s.blocks.live
  pub durable : t.blocks.durable ≡ s.blocks.captured
  pub chain : length t.blocks.chain ≡ length s.blocks.written + length s.blocks.left

-- so it is, and the ring has a slot for the next op, where neither the head nor the sessions have changed
pub record HasRingRoom (layout : Layout) (s t : Replica) : Type 0 where
  pub ready : IsReadyReplica layout t
  pub room : is_full (memory t) ≡ false
  pub head : t.head ≡ s.head
  pub sessions : (memory t).sessions ≡ (memory s).sessions

-- a line leaves the layout, the script's reader, the size of the block's memory and the count of lines
pub record LeavesScript (old new : Serving) : Type 0 where
  pub layout : new.layout ≡ old.layout
  pub lines : new.lines ≡ old.lines
  pub block : vec_len new.block ≡ vec_len old.block
  pub count : new.count ≡ old.count
