-- The call that a line of a script asks for, the calls of a session, and what their answers print.
use Rattle.std.specs.Prelude.{◌+◌, ℕ, Bool, true, false, List, [], ◌∷◌, ◌++◌, length, map, Option, Some, None}
use Rattle.df_inspect.specs.Opening.{script_text}
use Rattle.df_lines.specs.Grammar.{Said}
use Rattle.df_lines.specs.Grammar as lines
use Rattle.df_model.specs.Commands.{Advance, Answer, Append, Begin, Command, Flush, ReadBlock, ReadPrepare, ReadReply, Recent, Release, Reply, Scrub, Stage, WriteBlock}
use Rattle.df_pace.specs.declared.beat.Piece.{Piece}
use Rattle.df_session.specs.Session.{Act, Exchange}
use Rattle.df_script_model.specs.Script.{answer_text}

-- the call that a line asks for
abbrev pub command_of_line : Said → Command
command_of_line (lines.Append client request body) = Append client request body
command_of_line (lines.Stage client request body) = Stage client request body
command_of_line lines.Flush = Flush
command_of_line (lines.Reply op body) = Reply op body
command_of_line (lines.Block kind body) = WriteBlock kind body
command_of_line (lines.Release address) = Release address
command_of_line (lines.Checkpoint root) = Begin root
command_of_line lines.Step = Advance
command_of_line (lines.Prepare op) = ReadPrepare op
command_of_line (lines.Lookup client) = ReadReply client
command_of_line (lines.Read address) = ReadBlock address
command_of_line lines.Scrub = Scrub
command_of_line lines.Recent = Recent

-- ---- a call that was made

-- who asked for it: a line of the script, or the loop beside it, for a piece of its work
pub data Asker : Type 0 where
  ByLine : Said → Asker
  ByLoop : Piece → Asker

-- a call that was answered, and who asked for it
pub record Turned : Type 0 where
  pub asker : Asker
  pub exchange : Exchange

-- and one that was not answered
pub record Failing : Type 0 where
  pub asker : Asker
  pub act : Act

abbrev pub act_of : Option Failing → Option Act
act_of None = None
act_of (Some f) = Some f.act

abbrev pub exchange_of : Turned → Exchange
exchange_of t = t.exchange

-- all calls with their answers, in order
abbrev pub exchanges_in : List Turned → List Exchange
exchanges_in turns = map exchange_of turns

-- ---- the lines among them

abbrev pub said_by : Asker → List Said
said_by (ByLine said) = said ∷ []
said_by (ByLoop piece) = []

abbrev pub all_said : List Turned → List Said
all_said [] = []
all_said (t ∷ turns) = said_by t.asker ++ all_said turns

abbrev pub said_of : Option Failing → List Said
said_of None = []
said_of (Some f) = said_by f.asker

-- ---- what is printed

-- an answer has its line where a line of the script asked for it; nothing is printed of the loop's work
abbrev pub told_by : Asker → Answer → List ℕ
told_by (ByLine said) answer = answer_text (command_of_line said) answer
told_by (ByLoop piece) answer = []

-- the lines that the answers print
abbrev pub all_text : List Turned → List ℕ
all_text [] = []
all_text (t ∷ turns) = told_by t.asker t.exchange.answer ++ all_text turns

-- and the line that refuses the next one, where the script is cut there, n lines before the first of them
abbrev pub printed : (n : ℕ) → List Turned → (cut : Bool) → List ℕ
printed n turns false = all_text turns
printed n turns true = all_text turns ++ script_text (n + length (all_said turns) + 1)
