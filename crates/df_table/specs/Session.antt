-- A session: the calls of the opening, the lines that were executed, how it ended, and what was written.
use Rattle.std.specs.Prelude.{◌≡◌, ◌⊎◌, ◌<◌, ◌+◌, ◌^◌, ℕ, Bool, true, false, List, [], ◌∷◌, ◌++◌, length, Option, Some, None, Result, Ok, Err}
use Rattle.df_base.specs.Streams.{Appends, AppendsPart}
use Rattle.df_disk.specs.Told.{Told}
use Rattle.df_inspect.specs.Opening.{script_text}
use Rattle.df_layout.specs.declared.layout.Layout.{Layout}
use Rattle.df_lines.specs.{Room.{line_bound}, Text.{line_of}, Lines.{Begins, IsRefused}}
use Rattle.df_rows.specs.{Grammar.{Said, SaysTableLine}, Tables.{Table}, Lines.{accepted, map_text}}
use Rattle.df_session.specs.{Below.{State as Replica, memory}, Links.{CallsMade}, Session.{Act, Exchange}, Reading.{shown_of}}
use Rattle.df_table.specs.{declared.ending.Ending.{Ending}, declared.status.Status.{Status}, declared.status.Status.TheVariants.{Done, Script, ReadFault, WriteFault}, Opening.{FindsOf}}
use Rattle.df_table.specs.{Outside.{Outside, WritesTableText}, Policy.{opening}, Statuses.{ending_text, status_of}}
use Rattle.df_table.specs.Turns.{AreFit, AreTurns, EndIn, IsOfCall, MakeAll, TableTurn, commands_of, table_exchanges, table_said}

-- how many bytes a script may have
abbrev pub script_budget : ℕ
script_budget = 2 ^ 32

-- ---- how the lines end

-- a line within which the session ended, and why
pub record Halt : Type 0 where
  pub said : Said
  pub ending : Ending

-- the lines that were executed, the last of them perhaps in part
abbrev pub said_in : Option Halt → List Said
said_in None = []
said_in (Some h) = h.said ∷ []

-- of this rest of a text, of which the source has so much left, its first line was read, or more of it than the bound
pub record HoldsTableLine (bound : ℕ) (rest left : List ℕ) : Type 0 where
  pub held : List ℕ
  pub is : rest ≡ held ++ left
  pub line : (line_of held ≡ line_of rest) ⊎ (bound < length (line_of held))

-- what is unread at the end: where the script is cut, a line that is refused, and the source was read as far as that takes; at Done nothing at all
pub record EndsTableText (bound budget : ℕ) (rest : List ℕ) (left : Option (List ℕ)) (cut : Bool) (status : Status) : Type 0 where
  pub refused : cut ≡ true → IsRefused SaysTableLine bound budget rest
  pub held : cut ≡ true → (remains : List ℕ) → left ≡ Some remains → HoldsTableLine bound rest remains
  pub finished : status ≡ Done → (rest ≡ []) × (left ≡ Some [])

-- what is written last: nothing; the line that refuses the next one, after n of them; or why the session ended within a line
abbrev pub closing : (n : ℕ) → Option Halt → (cut : Bool) → List ℕ
closing n None false = []
closing n None true = script_text (n + 1)
closing n (Some h) cut = ending_text h.ending

-- how it ends, where the sink doesn't fail: the script was read to its end, or the source failed; it is cut; or the status of what ended the session within a line
abbrev pub EndsAs : Option Halt → (cut : Bool) → Status → Type 0
EndsAs None false status = (status ≡ Done) ⊎ (status ≡ ReadFault)
EndsAs None true status = status ≡ Script
EndsAs (Some h) cut status = (cut ≡ false) × (status ≡ status_of h.ending)

-- the text is written, whole; or a front of it, where the sink failed
abbrev pub ServingEndsWith : List ℕ → Option Halt → (cut : Bool) → (old new : Option (List ℕ)) → Status → Type 0
ServingEndsWith text halt cut old new status = (EndsAs halt cut status × Appends old new text) ⊎ ((status ≡ WriteFault) × AppendsPart old new text)

-- the calls of the line within which it ended
abbrev pub HaltsIn : Layout → (s : Replica) (old : Option Told) (t : Table) → Option Halt → (u : Replica) (new : Option Told) → Type 0
HaltsIn layout s old t None u new = (u ≡ s) × (new ≡ old)
HaltsIn layout s old t (Some h) u new = (steps : ℕ) × EndIn (commands_of layout s t steps h.said) s u old new h.ending × AreFit (accepted t h.said) × IsOfCall new h.ending

-- ---- the lines of a script

-- From a replica and a table on the lines of the script were executed, to its end or until something ended them: what is printed of those that were is the text of a map.
pub record ServesLines (layout : Layout) (t : Table) (s : Replica) (told : Option Told) (old new : Outside) (status : Status) : Type 0 where
  pub turns : List TableTurn
  pub replica : Replica
  pub mid : Option Told
  pub table : Table
  pub are : AreTurns layout s told t turns replica mid table
  pub halt : Option Halt
  pub cut : Bool
  pub last : Replica
  pub halts : HaltsIn layout replica mid table halt last new.told
  pub text : (text : List ℕ) → old.left ≡ Some text
      → (budget : ℕ) × (rest : List ℕ) × Begins SaysTableLine (line_bound layout) script_budget text (table_said turns ++ said_in halt) budget rest × EndsTableText (line_bound layout) budget rest new.left cut status
  pub written : ServingEndsWith (map_text t s.head (table_said turns) ++ closing (length (table_said turns)) halt cut) halt cut old.written new.written status

-- ---- a session

-- The opening ended before the first line was read, and said why; or it found this table, and the lines were served.
pub data ServesFoundTable (layout : Layout) (s : Replica) (told : Option Told) (old new : Outside) (status : Status) : Result Table Ending → Type 0 where
  NotOpened : (ending : Ending) (last : Replica) → EndIn (opening (memory s)) s last told new.told ending → new.left ≡ old.left → WritesTableText (ending_text ending) (status_of ending) old.written new.written status
      → ServesFoundTable layout s told old new status (Err ending)
  Served : (t : Table) (u : Replica) (mid : Option Told) → MakeAll (opening (memory s)) s u told mid → ServesLines layout t u mid old new status → ServesFoundTable layout s told old new status (Ok t)

-- over a replica that was just opened, and what the disk then shows: what the opening finds, and the session
pub record ServesOpened (layout : Layout) (s : Replica) (t : Told) (old new : Outside) (status : Status) : Type 0 where
  pub opened : Result Table Ending
  pub finds : FindsOf layout (shown_of s.file t.shown) (memory s) opened
  pub serves : ServesFoundTable layout s old.told old new status opened

-- ---- its calls

abbrev pub halted_exchanges : (layout : Layout) (s : Replica) (old : Option Told) (t : Table) (halt : Option Halt) (u : Replica) (new : Option Told) → HaltsIn layout s old t halt u new → List Exchange
halted_exchanges layout s old t None u new halts = []
halted_exchanges layout s old t (Some h) u new halts = halts.1.exchanges

abbrev pub halted_failed : (layout : Layout) (s : Replica) (old : Option Told) (t : Table) (halt : Option Halt) (u : Replica) (new : Option Told) → HaltsIn layout s old t halt u new → Option Act
halted_failed layout s old t None u new halts = None
halted_failed layout s old t (Some h) u new halts = halts.1.failed

-- These are all the calls of a session, in order.
abbrev pub AreCallsOf : (layout : Layout) (s : Replica) (told : Option Told) (old new : Outside) (status : Status) (opened : Result Table Ending) → ServesFoundTable layout s told old new status opened → CallsMade → Type 0
AreCallsOf layout s told old new status opened (NotOpened ending last ends unread writes) c =
    (c.from ≡ s) × (c.old ≡ told) × (c.new ≡ new.told) × (c.exchanges ≡ ends.exchanges) × (c.failed ≡ ends.failed)
AreCallsOf layout s told old new status opened (Served t u mid opens lines) c =
    (c.from ≡ s) × (c.old ≡ told) × (c.new ≡ new.told)
    × (c.exchanges ≡ opens.exchanges ++ (table_exchanges lines.turns ++ halted_exchanges layout lines.replica lines.mid lines.table lines.halt lines.last new.told lines.halts))
    × (c.failed ≡ halted_failed layout lines.replica lines.mid lines.table lines.halt lines.last new.told lines.halts)
