-- The line that the answer of a call prints, by the answer as the call gives it.
use Rattle.std.specs.Prelude.{ℕ, List, [], codes}
use Rattle.df_model.specs.{Commands.{Command}, declared.commands.Answer.{Answer}}
pub use Rattle.df_model.specs.Called.{command_of}
use Rattle.df_model.specs.declared.commands.Answer.TheVariants as answers
use Rattle.df_script_model.specs.Script.{address_named, op_in}
use Rattle.df_script_model.specs.Texts.{append_refusal, begin_refusal_line, block_refusal, flush_refusal, line_of, lookup_refusal, numbered, prepare_refusal, progress_text, read_refusal, reply_refusal, scrubbed_text, step_refusal, text_or}

-- the line: what was done, or why the call is refused. A unit that was read is lent by its call, and so is what the ring holds: they have lines of their own
abbrev pub line_of_answer : Command → Answer → List ℕ
line_of_answer c (answers.Append answer) = text_or append_refusal (λ receipt. line_of (numbered (codes "appended") receipt.op)) answer
line_of_answer c (answers.Stage answer) = text_or append_refusal (λ op. line_of (numbered (codes "staged") op)) answer
line_of_answer c (answers.Flush answer) = text_or flush_refusal (λ count. line_of (numbered (codes "flushed") count)) answer
line_of_answer c (answers.Reply answer) = text_or reply_refusal (λ check. line_of (numbered (codes "replied") (op_in c))) answer
line_of_answer c (answers.WriteBlock answer) = text_or block_refusal (λ reference. line_of (numbered (codes "wrote") reference.address)) answer
line_of_answer c (answers.Release answer) = text_or (λ e. codes "refused NotLive\n") (λ done. line_of (numbered (codes "released") (address_named c))) answer
line_of_answer c (answers.Begin answer) = text_or begin_refusal_line (λ blocks. line_of (numbered (codes "begun") blocks)) answer
line_of_answer c (answers.Advance answer) = text_or step_refusal progress_text answer
line_of_answer c (answers.ReadPrepare answer) = text_or prepare_refusal (λ done. []) answer
line_of_answer c (answers.ReadReply answer) = text_or lookup_refusal (λ done. []) answer
line_of_answer c (answers.ReadBlock answer) = text_or read_refusal (λ done. []) answer
line_of_answer c (answers.Scrub answer) = scrubbed_text answer
line_of_answer c answers.Recent = []
