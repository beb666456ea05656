-- The command that a generated run asks for at each of its points.
use Rattle.std.specs.Prelude.{ℕ, ◌+◌, ◌-◌, ◌/◌, ◌%◌, if◌then◌else◌, List, slice_index, Option, Some, None}
use Rattle.df_base.specs.Fields.{spelled}
use Rattle.df_model.specs.Commands.{Advance, Append, Begin, Command, Release, Reply, WriteBlock}
use Rattle.df_workload.specs.{Draw.{drawn_body}, declared.asked.Asked.{Asked}, declared.state.Point.{Point}}
use Rattle.df_workload.specs.{declared.state.Point.TheVariants.{Appending, Replying, Stepping, Writing, Releasing, Beginning, Ending}, declared.state.State.{State}}
use Rattle.df_workload.specs.declared.asked.Asked.TheVariants as asked

-- a number as 8 bytes, the lowest byte first
abbrev pub number_body : ℕ → List ℕ
number_body n = spelled 8 n

-- the client of a round and its request: the clients take turns
abbrev pub client_of_round : State → ℕ
client_of_round s = (s.round - 1) % s.clients + 1

abbrev pub request_of_round : State → ℕ
request_of_round s = (s.round - 1) / s.clients + 1

abbrev pub asks_at : Point → State → Option Command
asks_at Appending s = Some (Append (client_of_round s) (request_of_round s) (drawn_body s.number))
asks_at (Replying op) s = Some (Reply op (number_body op))
asks_at Stepping s = Some Advance
asks_at Writing s = Some (WriteBlock 1 (drawn_body s.number))
asks_at Releasing s = Some (Release (slice_index s.held 0))
asks_at Beginning s = Some (Begin (number_body s.round))
asks_at Ending s = if s.running then Some Advance else None

-- the next command: none at the end, where no checkpoint runs
abbrev pub asks : State → Option Command
asks s = asks_at s.point s

-- what is asked for, without its body, as a command
abbrev pub command_asked : State → Asked → Command
command_asked s (asked.Append client request) = Append client request (drawn_body s.number)
command_asked s (asked.Reply op) = Reply op (number_body op)
command_asked s asked.Step = Advance
command_asked s asked.Block = WriteBlock 1 (drawn_body s.number)
command_asked s (asked.Release address) = Release address
command_asked s (asked.Begin root) = Begin (number_body root)
