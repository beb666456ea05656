-- Which notes are kept, in which order, by which calls, and what is printed of them.
use Rattle.std.specs.Prelude.{◌≡◌, ◌+◌, ◌<◌, ◌≤◌, ℕ, List, [], ◌∷◌, ◌++◌, codes, Option, Some, Result, Ok, Err}
use Rattle.df_base.specs.Streams.{Appends, AppendsPart}
use Rattle.df_disk.specs.Told.{Told}
use Rattle.df_model.specs.{Commands.{Append, Reply}, declared.answers.Receipt.{Receipt}, declared.commands.Answer.{Answer}}
use Rattle.df_model.specs.declared.commands.Answer.TheVariants as answers
use Rattle.df_script_model.specs.Texts.{line_of, numbered}
use Rattle.df_session.specs.{Answering.{as_append, as_reply}, Below.{State as Replica}, Links.{Makes}, Session.{Exchange}}
use Rattle.df_notes.specs.{Calling.{EndsIn, Made, answered, exchange, made_in, then_made}, declared.ended.Ended.{Ended}, declared.ended.Ended.TheVariants.{Refused, WriteFault}}

-- what the program has around it at one moment: the replica, what the disk tells, and what the sink has taken
pub record Moment : Type 0 where
  pub replica : Replica
  pub told : Option Told
  pub written : Option (List ℕ)

abbrev pub moment : Replica → Option Told → Option (List ℕ) → Moment
moment replica told written = record { replica = replica; told = told; written = written }

-- the line of a note that got this op
abbrev pub op_line : ℕ → List ℕ
op_line op = line_of (numbered (codes "appended") op)

-- ---- what is taken of answers

-- the receipt of an append, and that a reply was stored; else it is refused
abbrev pub receipt_in : Answer → Result Receipt Ended
receipt_in (answers.Append (Ok receipt)) = Ok receipt
receipt_in answer = Err Refused

abbrev pub stored_in : Answer → Result (Unit {0}) Ended
stored_in (answers.Reply (Ok check)) = Ok tt
stored_in answer = Err Refused

-- ---- the two calls

-- the note is the body of one append of client 1, which got an op; or it is refused, or the disk failed
abbrev pub AppendsNote : List ℕ → (s t : Replica) → (old new : Option Told) → Result Receipt Ended → Type 0
AppendsNote note s t old new (Ok receipt) = (request : ℕ) × Makes (Append 1 request note) s t old new (Some (as_append (Ok receipt)))
AppendsNote note s t old new (Err ended) = (request : ℕ) × EndsIn (Append 1 request note) s t old new ended

-- so it is with the empty reply to an op
abbrev pub StoresReply : (op : ℕ) → (s t : Replica) → (old new : Option Told) → Result (Unit {0}) Ended → Type 0
StoresReply op s t old new (Ok done) = (check : List ℕ) × Makes (Reply op []) s t old new (Some (as_reply (Ok check)))
StoresReply op s t old new (Err ended) = EndsIn (Reply op []) s t old new ended

-- ---- the op that waits

-- no op waits for its reply, or the reply to the first that does was stored
pub data HasCaughtUp (s t : Replica) (old new : Option Told) : Type 0 where
  NoneWaits : s.head ≤ s.replies → t ≡ s → new ≡ old → HasCaughtUp s t old new
  Replied : s.replies < s.head → StoresReply (s.replies + 1) s t old new (Ok tt) → HasCaughtUp s t old new

-- or it isn't stored
abbrev pub CatchesUp : (s t : Replica) → (old new : Option Told) → Result (Unit {0}) Ended → Type 0
CatchesUp s t old new (Ok done) = HasCaughtUp s t old new
CatchesUp s t old new (Err ended) = (s.replies < s.head) × EndsIn (Reply (s.replies + 1) []) s t old new ended

-- ---- one note

-- it was appended, the reply to its op was stored, and then the line of its op was printed
pub record IsNoteKept (note : List ℕ) (m n : Moment) : Type 0 where
  pub receipt : Receipt
  pub between : Replica
  pub mid : Option Told
  pub appended : AppendsNote note m.replica between m.told mid (Ok receipt)
  pub replied : StoresReply receipt.op between n.replica mid n.told (Ok tt)
  pub printed : Appends m.written n.written (op_line receipt.op)

-- where it isn't, nothing is printed while it isn't durable
pub data NoteFails (note : List ℕ) (m n : Moment) (ended : Ended) : Type 0 where
  InAppend : AppendsNote note m.replica n.replica m.told n.told (Err ended) → n.written ≡ m.written → NoteFails note m n ended
  InReply : (receipt : Receipt) (between : Replica) (mid : Option Told) → AppendsNote note m.replica between m.told mid (Ok receipt) → StoresReply receipt.op between n.replica mid n.told (Err ended)
      → n.written ≡ m.written → NoteFails note m n ended
  InLine : (receipt : Receipt) (between : Replica) (mid : Option Told) → AppendsNote note m.replica between m.told mid (Ok receipt) → StoresReply receipt.op between n.replica mid n.told (Ok tt)
      → AppendsPart m.written n.written (op_line receipt.op) → ended ≡ WriteFault → NoteFails note m n ended

abbrev pub KeepsNote : List ℕ → (m n : Moment) → Result (Unit {0}) Ended → Type 0
KeepsNote note m n (Ok done) = IsNoteKept note m n
KeepsNote note m n (Err ended) = NoteFails note m n ended

-- ---- all of them

-- from one moment to another these notes were kept, one after the other
pub data AreKept (m : Moment) : List (List ℕ) → Moment → Type 0 where
  Begun : AreKept m [] m
  Kept : (notes : List (List ℕ)) (note : List ℕ) (mid n : Moment) → AreKept m notes mid → IsNoteKept note mid n → AreKept m (notes ++ note ∷ []) n

-- the first notes were kept, in order, and the next one isn't
pub record KeepsSome (notes : List (List ℕ)) (m n : Moment) (ended : Ended) : Type 0 where
  pub kept : List (List ℕ)
  pub note : List ℕ
  pub rest : List (List ℕ)
  pub are : notes ≡ kept ++ note ∷ rest
  pub last : Moment
  pub calls : AreKept m kept last
  pub fails : NoteFails note last n ended

-- the notes that are kept are the first ones, in order; where the call is Ok, all of them
abbrev pub KeepsNotes : List (List ℕ) → (m n : Moment) → Result (Unit {0}) Ended → Type 0
KeepsNotes notes m n (Ok done) = AreKept m notes n
KeepsNotes notes m n (Err ended) = KeepsSome notes m n ended

-- ---- the calls that were made

abbrev pub append_exchange : {note : List ℕ} {s t : Replica} {old new : Option Told} (receipt : Receipt) → AppendsNote note s t old new (Ok receipt) → Exchange
append_exchange receipt appended = exchange (as_append (Ok receipt)) appended.1

abbrev pub reply_exchange : {op : ℕ} {s t : Replica} {old new : Option Told} → StoresReply op s t old new (Ok tt) → Exchange
reply_exchange replied = exchange (as_reply (Ok replied.0)) replied.1

abbrev pub caught_exchanges : {s t : Replica} {old new : Option Told} → HasCaughtUp s t old new → List Exchange
caught_exchanges (NoneWaits past is same) = []
caught_exchanges (Replied waits replied) = reply_exchange replied ∷ []

-- two calls a note
abbrev pub kept_exchanges : {m n : Moment} {notes : List (List ℕ)} → AreKept m notes n → List Exchange
kept_exchanges Begun = []
kept_exchanges (Kept notes note mid n kept is) = kept_exchanges kept ++ append_exchange is.receipt is.appended ∷ reply_exchange is.replied ∷ []

abbrev pub made_failing : {note : List ℕ} {m n : Moment} {ended : Ended} → NoteFails note m n ended → Made
made_failing (InAppend ends same) = made_in ends.1
made_failing (InReply receipt between mid appended ends same) = then_made (append_exchange receipt appended ∷ []) (made_in ends)
made_failing (InLine receipt between mid appended replied part is) = answered (append_exchange receipt appended ∷ reply_exchange replied ∷ [])

abbrev pub made_keeping : {notes : List (List ℕ)} {m n : Moment} {ended : Ended} → KeepsSome notes m n ended → Made
made_keeping some = then_made (kept_exchanges some.calls) (made_failing some.fails)
