-- A call as the program makes it, in the words of the machine.
use Rattle.df_model.specs.Commands.{Advance, Append, Begin, Command, Flush, ReadBlock, ReadPrepare, ReadReply, Recent, Release, Reply, Scrub, Stage, WriteBlock}
use Rattle.df_model.specs.declared.commands.Command.{Command as Called}
use Rattle.df_model.specs.declared.commands.Command.TheVariants as calls

-- the machine's command
abbrev pub command_of : Called → Command
command_of (calls.Append client request body) = Append client request body.now
command_of (calls.Stage client request body) = Stage client request body.now
command_of calls.Flush = Flush
command_of (calls.Reply op body) = Reply op body.now
command_of (calls.WriteBlock kind body) = WriteBlock kind body.now
command_of (calls.Release address) = Release address
command_of (calls.Begin root) = Begin root.now
command_of calls.Advance = Advance
command_of (calls.ReadPrepare op) = ReadPrepare op
command_of (calls.ReadReply client) = ReadReply client
command_of (calls.ReadBlock address) = ReadBlock address
command_of calls.Scrub = Scrub
command_of calls.Recent = Recent
