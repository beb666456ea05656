-- The sample: a file is made, a prepare appended and answered, and two blocks are written.
use Rattle.std.proofs.Common.{◌≡◌, ℕ, ◌==◌, if◌then◌else◌, List, [], ◌∷◌, Some, None, refl, arith}
use Rattle.df_theory.{specs.{Units.{Block, BlockPlace, BlockUnit, Content, Message, Parts, ReplyPlace, ReplyUnit, Session, Units}, Shape.{Shape}, View.{View}, Next.{MayAppend, MayReply, appended, replied}, UnitLog.{UnitLog, put_one}, First.{IsFirst}, Grown.{IsSafe}, Runs.{AtEach, Command, Step, after_steps}, Commands.{block_command, reply_command}, TidyLaws.{IsTidy, KeepsStanding, LeadsTidily}, MakingLaws.{blank_log, format_steps}, WholeLaws.{IsStanding}}, proofs.{PutOne.{put_one_law}, Tidy.{tidy_block_law, tidy_reply_law}, Births.{format_law}, SampleFiles.{all_reserved, bare, copies_of, first_of, is_first_bare, made_of, making_of, puts_reserved, shape_of, tidy_of}, SampleSteps.{append_leads, append_of, may_append}}}

abbrev pub session : Session
session = record { client = 7; request = 1; op = 1 }

-- block 2 is referenced
abbrev pub parts : Parts
parts = record { root = []; sessions = session ∷ []; references = λ a. if a == 2 then Some 9 else None }

abbrev pub shape : Shape
shape = shape_of 1 (λ op text. Some parts)

abbrev pub content1 : Content
content1 = bare 1 0 21 0

abbrev pub first : View
first = first_of content1

pub is_first : IsFirst shape first
is_first = is_first_bare 1 0 21 (λ op text.
    Some parts) (omega arith) (record { one = λ is. (refl, refl, refl, refl); two = λ is. absurd (omega arith) })

abbrev pub made_steps : List Step
made_steps = format_steps (all_reserved ∷ []) (copies_of content1)

abbrev pub made : UnitLog
made = made_of content1

pub safe_made : AtEach (IsSafe shape) blank_log made_steps
safe_made = (format_law
    shape blank_log first (all_reserved ∷ []) (copies_of content1) (making_of shape content1 is_first) is_first (puts_reserved, tt)).0

pub tidy_made : IsTidy shape made first × IsStanding made first
tidy_made = tidy_of shape content1 is_first

-- ---- an append

abbrev pub prepare1 : Message
prepare1 = record { header = record { checksum = 5; parent = 0; client = 7; op = 1; request = 1; mark = 0; checkpoint = 1; boot = 0; group = 1; group_last = 1 }; body = [] }

abbrev pub view1 : View
view1 = appended first (prepare1 ∷ [])

abbrev pub command1 : Command
command1 = append_of first prepare1

abbrev pub log1 : UnitLog
log1 = after_steps command1.steps made

may1 : MayAppend shape first (prepare1 ∷ [])
may1 = may_append shape first (prepare1 ∷ []) (omega arith) (refl, refl, tt) (record { mark = refl; checkpoint = refl; boot = refl; group = refl; group_last = refl }, tt) (omega arith, omega arith, omega arith) ((refl, omega arith), tt)

pub leads1 : LeadsTidily shape made first command1 × (IsStanding made first → KeepsStanding shape made first command1)
leads1 = append_leads 1 (λ op text. Some parts) made first prepare1 tidy_made.0 may1

-- ---- its reply

abbrev pub reply1 : Message
reply1 = record { header = record { checksum = 6; parent = 5; client = 7; op = 1; request = 1; mark = 1; checkpoint = 1; boot = 0; group = 1; group_last = 1 }; body = [] }

abbrev pub view2 : View
view2 = replied view1 0 reply1

abbrev pub put2 : Units
put2 = put_one (ReplyPlace 0) (ReplyUnit reply1)

abbrev pub command2 : Command
command2 = reply_command view1 0 reply1 put2

abbrev pub log2 : UnitLog
log2 = after_steps command2.steps log1

may2 : MayReply view1 0 reply1
may2 = record { is = record { op = refl; mark = refl; checkpoint = refl; boot = refl; alone = record { first = refl; last = refl }; session = (session, refl, record { client = refl; request = refl; op = refl }) }; waits = omega arith }

pub leads2 : LeadsTidily shape log1 view1 command2 × (IsStanding log1 view1 → KeepsStanding shape log1 view1 command2)
leads2 = tidy_reply_law shape log1 view1 put2 0 reply1 leads1.0.tidy may2 (put_one_law (ReplyPlace 0) (ReplyUnit reply1))

-- ---- a block, and the trailer

abbrev pub block : Block
block = record { checksum = 9; kind = 1; sequence = 0; index = 0; before = 0; before_checksum = 0; boot = 0; body = [] }

abbrev pub trailer : Block
trailer = record { checksum = 11; kind = 0; sequence = 2; index = 0; before = 0; before_checksum = 0; boot = 0; body = 0 ∷ [] }

abbrev pub put_block : ℕ → Block → Units
put_block a b = put_one (BlockPlace a) (BlockUnit b)

abbrev pub block_at : ℕ → Block → Command
block_at a b = block_command view2 (put_block a b)

block_leads : (a : ℕ) (b : Block) (log : UnitLog) → IsTidy shape log view2 → LeadsTidily shape log view2 (block_at a b)
    × (IsStanding log view2 → ((c : ℕ) → view2.checkpoint.parts.references a ≡ Some c → ⊥) → KeepsStanding shape log view2 (block_at a b))
block_leads a b log tidy = tidy_block_law shape log view2 (put_block a b) a b tidy (λ c none. none) (put_one_law (BlockPlace a) (BlockUnit b))

abbrev pub log3 : UnitLog
log3 = after_steps (block_at 2 block).steps log2

pub leads3 : LeadsTidily shape log2 view2 (block_at 2 block) × (IsStanding log2 view2
    → ((c : ℕ) → view2.checkpoint.parts.references 2 ≡ Some c → ⊥) → KeepsStanding shape log2 view2 (block_at 2 block))
leads3 = block_leads 2 block log2 leads2.0.tidy

abbrev pub log4 : UnitLog
log4 = after_steps (block_at 1 trailer).steps log3

pub leads4 : LeadsTidily shape log3 view2 (block_at 1 trailer) × (IsStanding log3 view2
    → ((c : ℕ) → view2.checkpoint.parts.references 1 ≡ Some c → ⊥) → KeepsStanding shape log3 view2 (block_at 1 trailer))
leads4 = block_leads 1 trailer log3 leads3.0.tidy
