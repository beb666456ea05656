-- What a script prints: a fold of the machine over its lines.
use Rattle.std.specs.Prelude.{◌≡◌, ℕ, List, [], ◌∷◌, codes}
use Rattle.df_theory.specs.Shape.{Shape}
use Rattle.df_model.specs.{Work.{Work}, Memory.{memory_of}}
use Rattle.df_model.specs.Commands.{Answer, Command, ReadBlock, Release, Reply, ToAdvance, ToAppend, ToBegin, ToFlush, ToReadBlock, ToReadPrepare, ToReadReply, ToRecent, ToRelease, ToReply, ToScrub, ToStage, ToWriteBlock}
use Rattle.df_model.specs.Supply.{Codec, Shown, next, result, shown_after}
use Rattle.df_script_model.specs.Texts.{append_refusal, begin_refusal_line, block_refusal, block_text, flush_refusal, line_of, lookup_refusal, message_text, numbered, prepare_refusal, progress_text, read_refusal, recent_text, reply_refusal, scrubbed_text, step_refusal, text_or}

-- the number that a line names: a line `release ADDRESS` or `read ADDRESS` is answered with its address
abbrev pub address_named : Command → ℕ
address_named (Release address) = address
address_named (ReadBlock address) = address
address_named command = 0

-- the number of the op in a line `reply OP BODY`
abbrev pub op_in : Command → ℕ
op_in (Reply op body) = op
op_in command = 0

-- the line that the answer to a command is printed as
abbrev pub answer_text : Command → Answer → List ℕ
answer_text c (ToAppend answer) = text_or append_refusal (λ done. line_of (numbered (codes "appended") done.0)) answer
answer_text c (ToStage answer) = text_or append_refusal (λ op. line_of (numbered (codes "staged") op)) answer
answer_text c (ToFlush answer) = text_or flush_refusal (λ count. line_of (numbered (codes "flushed") count)) answer
answer_text c (ToReply answer) = text_or reply_refusal (λ sum. line_of (numbered (codes "replied") (op_in c))) answer
answer_text c (ToWriteBlock answer) = text_or block_refusal (λ done. line_of (numbered (codes "wrote") done.0)) answer
answer_text c (ToRelease answer) = text_or (λ e. codes "refused NotLive\n") (λ done. line_of (numbered (codes "released") (address_named c))) answer
answer_text c (ToBegin answer) = text_or begin_refusal_line (λ blocks. line_of (numbered (codes "begun") blocks)) answer
answer_text c (ToAdvance answer) = text_or step_refusal progress_text answer
answer_text c (ToReadPrepare answer) = text_or prepare_refusal (message_text (codes "prepare")) answer
answer_text c (ToReadReply answer) = text_or lookup_refusal (message_text (codes "reply")) answer
answer_text c (ToReadBlock answer) = text_or read_refusal (block_text (address_named c)) answer
answer_text c (ToScrub answer) = scrubbed_text answer
answer_text c (ToRecent findings) = recent_text findings

-- the lines that a script prints, one for each of its commands
abbrev pub printed : Shape → Codec → Shown → Work → List Command → List (List ℕ)
printed sh codec shown w [] = []
printed sh codec shown w (c ∷ more) = answer_text c (next sh codec shown w c).1 ∷ printed sh codec (shown_after codec shown (memory_of sh codec.spell w) c) (next sh codec shown w c).0 more

-- the texts of these answers
abbrev pub texts : List Command → List Answer → List (List ℕ)
texts [] answers = []
texts (c ∷ cs) [] = []
texts (c ∷ cs) (a ∷ more) = answer_text c a ∷ texts cs more

-- a script prints the texts of the machine's answers
abbrev pub PrintedLaw : Type 0
PrintedLaw = (sh : Shape) (codec : Codec) (shown : Shown) (w : Work) (cs : List Command) → printed sh codec shown w cs ≡ texts cs (result sh codec shown w cs)
