-- A read of a prepare or of a reply, and what is printed of it.
use Rattle.std.{proofs.Common.{◌≡◌, ℕ, Bool, List, Option, Some, None, sym, ◌∙◌, ap, subst, Result, Ok, Err}, specs.Prelude.{codes}}
use Rattle.{df_base.specs.Causes.{IsBlamed}, df_disk.specs.Told.{Told}, df_inspect.specs.{Messages.{shown_text}, Prints.{Prints}}}
use Rattle.{df_format.specs.{declared.header.Header.{Header}, Message.{Message as Shown}}, df_theory.specs.Units.{Message}}
use Rattle.{df_units.specs.Meaning.{message_of}, df_script_model.specs.Texts.{message_text}}
use Rattle.df_model.specs.{Commands.{Command, ReadPrepare, ReadReply, ToReadPrepare, ToReadReply}, declared.commands.Answer.{Answer as Answered}, declared.reading.LookupError.{LookupError}, declared.reading.PrepareError.{PrepareError}, Faults.{is_lookup_fault, is_prepare_fault}}
use Rattle.df_model.specs.declared.commands.Answer.TheVariants as answers
use Rattle.df_model.specs.declared.reading.LookupError.TheVariants as lookup
use Rattle.df_model.specs.declared.reading.PrepareError.TheVariants as prepare
use Rattle.df_session.{specs.{Below.{State as Replica}, Answering.{ServesRead, answer_of}, Lookups.{reply_found}, Reading.{prepare_found}, Stopping.{left_by}, Endings.{heard}, declared.hearing.Fault.{Fault}}, proofs.Laws.{reads_prepare, reads_reply}}
use Rattle.df_top.{specs.{Turning.{IsPrinted, TellsAnswer, printed_turn}, Outside.{Turn}}, proofs.Answered.{Comes, comes_answered, comes_failed, prints_turn, told_fault}}

-- what was printed of a unit's header and body is the unit's text
pub shown_turn : {T E : Type 0} (word : List ℕ) (u : Shown) (h : Header) (b : List ℕ) (written took : Option (List ℕ))
    (r : Result T E) (turn : Turn) → h ≡ u.header → b ≡ u.body → turn ≡ printed_turn r → Prints (shown_text word h b) written took r
    → IsPrinted (message_text word (message_of u)) written took turn
shown_turn word u h b written took r turn h_is b_is turn_is prints =
    subst (λ (v : Turn). IsPrinted (message_text word (message_of u)) written took v) (sym turn_is)
    (prints_turn (message_text word (message_of u)) written took r (rw h_is at (rw b_is at prints)))

module _ (s t : Replica) (old new : Option Told) (same : new ≡ old) (written took : Option (List ℕ)) (before now : ℕ) (turn : Turn) where
  abbrev Reads : Command → Type 0
  Reads command = Comes command s t old new written took before now turn

  -- a prepare
  module _ (op : ℕ) where
    pub prepare_shown : (m : Message) → ServesRead (ReadPrepare op) s t old (prepare_found (Ok m)) (answer_of is_prepare_fault
        ToReadPrepare (Ok m)) → now ≡ before → IsPrinted (message_text (codes "prepare") m) written took turn → Reads (ReadPrepare op)
    prepare_shown m serves still printed = comes_answered (ReadPrepare op) s t old new written took before
        now turn (ToReadPrepare (Ok m)) (reads_prepare s t old new same op (Some (Ok m)) (Some (ToReadPrepare (Ok m))) serves) still printed

    pub prepare_refused : (e : PrepareError) → ServesRead (ReadPrepare op) s t old (prepare_found (Err e))
        (answer_of is_prepare_fault ToReadPrepare (Err e)) → IsBlamed {T = Message} is_prepare_fault before now (Err e)
        → TellsAnswer (ReadPrepare op) (heard (answers.ReadPrepare (Err e))) written took turn → Reads (ReadPrepare op)
    prepare_refused prepare.DiskFault serves blamed tells = comes_failed (ReadPrepare op) s t old new written took
        before now turn (reads_prepare s t old new same op None None serves) (told_fault (ReadPrepare op) written took turn tells) blamed.1
    prepare_refused (prepare.NotKept a b) serves still tells =
        comes_answered (ReadPrepare op) s t old new written took before now turn (ToReadPrepare (Err (prepare.NotKept a b)))
        (reads_prepare s t old new same op None (Some (ToReadPrepare (Err (prepare.NotKept a b)))) serves) still tells
    prepare_refused (prepare.Damaged a b) serves still tells =
        comes_answered (ReadPrepare op) s t old new written took before now turn (ToReadPrepare (Err (prepare.Damaged a b)))
        (reads_prepare s t old new same op (Some (Err b)) (Some (ToReadPrepare (Err (prepare.Damaged a b)))) serves) still tells

  -- a reply
  module _ (client : ℕ) where
    pub reply_shown : (m : Message) → ServesRead (ReadReply client) s t old (reply_found (Ok m)) (answer_of is_lookup_fault
        ToReadReply (Ok m)) → now ≡ before → IsPrinted (message_text (codes "reply") m) written took turn → Reads (ReadReply client)
    reply_shown m serves still printed = comes_answered (ReadReply client) s t old new written took before
        now turn (ToReadReply (Ok m)) (reads_reply s t old new same client (Some (Ok m)) (Some (ToReadReply (Ok m))) serves) still printed

    pub reply_refused : (e : LookupError) → ServesRead (ReadReply client) s t old
        (reply_found (Err e)) (answer_of is_lookup_fault ToReadReply (Err e)) → IsBlamed {T = Message} is_lookup_fault before now (Err e)
        → TellsAnswer (ReadReply client) (heard (answers.ReadReply (Err e))) written took turn → Reads (ReadReply client)
    reply_refused lookup.DiskFault serves blamed tells = comes_failed (ReadReply client) s t old new written took before
        now turn (reads_reply s t old new same client None None serves) (told_fault (ReadReply client) written took turn tells) blamed.1
    reply_refused lookup.NoClient serves still tells = comes_answered (ReadReply client) s t old new written took before now turn (ToReadReply (Err lookup.NoClient)) (reads_reply s t old new same client None (Some (ToReadReply (Err lookup.NoClient))) serves) still tells
    reply_refused (lookup.ReplyPending a) serves still tells =
        comes_answered (ReadReply client) s t old new written took before now turn (ToReadReply (Err (lookup.ReplyPending a)))
        (reads_reply s t old new same client None (Some (ToReadReply (Err (lookup.ReplyPending a)))) serves) still tells
    reply_refused (lookup.Damaged a b) serves still tells =
        comes_answered (ReadReply client) s t old new written took before now turn (ToReadReply (Err (lookup.Damaged a b)))
        (reads_reply s t old new same client (Some (Err b)) (Some (ToReadReply (Err (lookup.Damaged a b)))) serves) still tells

-- ---- a read as it came, where its result says what it leaves

pub came_as : {A E : Type 0} (asked command : Command) (is_fault : E → Bool) (s t : Replica) (r q : Result A E) (old new : Option Told)
    (written took : Option (List ℕ)) (before now : ℕ) (turn : Turn) → asked ≡ command → t ≡ left_by is_fault s r → r ≡ q
    → Comes command s (left_by is_fault s q) old new written took before now turn → Comes asked s t old new written took before now turn
came_as {A} {E} asked command is_fault s t r q old new written took before now turn is leaves came answers =
    subst (λ (c : Command). Comes c s t old new written took before now turn) (sym is)
    (rw (sym (leaves ∙ ap (λ (x : Result A E). left_by is_fault s x) came)) at answers)

-- and what was told of it, whatever asked for it
pub tells_as : (asked command : Command) (r q : Result Answered Fault) (written took : Option (List ℕ)) (turn : Turn)
    → asked ≡ command → q ≡ r → TellsAnswer asked q written took turn → TellsAnswer command r written took turn
tells_as asked command r q written took turn is same tells = rw is at (rw same at tells)
