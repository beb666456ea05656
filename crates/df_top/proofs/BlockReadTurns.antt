-- A read of a block, and what is printed of it.
use Rattle.{std.proofs.Common.{◌≡◌, ℕ, List, Option, Some, None, sym, subst, Result, Ok, Err}, df_base.specs.Causes.{IsBlamed}}
use Rattle.{df_disk.specs.Told.{Told}, df_format.specs.{declared.header.Header.{Header}, Message.{Message as Shown}}}
use Rattle.{df_inspect.specs.{Messages.{shown_block}, Prints.{Prints}}, df_theory.specs.Units.{Block}, df_units.specs.Meaning.{block_of}}
use Rattle.df_model.specs.{Commands.{ReadBlock, ToReadBlock}, declared.reading.ReadError.{ReadError}, Faults.{is_read_fault}}
use Rattle.df_model.specs.declared.commands.Answer.TheVariants as answers
use Rattle.df_model.specs.declared.reading.ReadError.TheVariants as read
use Rattle.df_session.{specs.{Below.{State as Replica}, Answering.{ServesBlockRead, answer_of}, BlockReads.{what_block}, Endings.{heard}}, proofs.Laws.{reads_block}}
use Rattle.df_script_model.specs.Texts.{block_text}
use Rattle.df_top.{specs.{Turning.{IsPrinted, TellsAnswer, printed_turn}, Outside.{Turn}}, proofs.Answered.{Comes, comes_answered, comes_failed, prints_turn, told_fault}}

-- what was printed of a block's header and body is the block's text
pub shown_turn : {T E : Type 0} (address : ℕ) (u : Shown) (h : Header) (b : List ℕ) (written took : Option (List ℕ))
    (r : Result T E) (turn : Turn) → h ≡ u.header → b ≡ u.body → turn ≡ printed_turn r → Prints (shown_block address h b) written took r
    → IsPrinted (block_text address (block_of u)) written took turn
shown_turn address u h b written took r turn h_is b_is turn_is prints =
    subst (λ (v : Turn). IsPrinted (block_text address (block_of u)) written took v) (sym turn_is)
    (prints_turn (block_text address (block_of u)) written took r (rw h_is at (rw b_is at prints)))

module _ (address : ℕ)
    (s t : Replica) (old new : Option Told) (same : new ≡ old) (written took : Option (List ℕ)) (before now : ℕ) (turn : Turn) where
  abbrev Reads : Type 0
  Reads = Comes (ReadBlock address) s t old new written took before now turn

  pub block_shown : (b : Block) → ServesBlockRead (ReadBlock address) s t old (what_block (Ok b))
      (answer_of is_read_fault ToReadBlock (Ok b)) → now ≡ before → IsPrinted (block_text address b) written took turn → Reads
  block_shown b serves still printed = comes_answered (ReadBlock address) s t old new written took before
      now turn (ToReadBlock (Ok b)) (reads_block s t old new same address (Some (Ok b)) (Some (ToReadBlock (Ok b))) serves) still printed

  pub block_refused : (e : ReadError) → ServesBlockRead (ReadBlock address)
      s t old (what_block (Err e)) (answer_of is_read_fault ToReadBlock (Err e)) → IsBlamed {T = Block} is_read_fault before now (Err e)
      → TellsAnswer (ReadBlock address) (heard (answers.ReadBlock (Err e))) written took turn → Reads
  block_refused read.DiskFault serves blamed tells = comes_failed (ReadBlock address) s t old new written took before
      now turn (reads_block s t old new same address None None serves) (told_fault (ReadBlock address) written took turn tells) blamed.1
  block_refused read.NotLive serves still tells = comes_answered (ReadBlock address) s t old new written took before now turn (ToReadBlock
      (Err read.NotLive)) (reads_block s t old new same address None (Some (ToReadBlock (Err read.NotLive))) serves) still tells
  block_refused (read.Damaged a b) serves still tells =
      comes_answered (ReadBlock address) s t old new written took before now turn (ToReadBlock (Err (read.Damaged a b)))
      (reads_block s t old new same address (Some (Err b)) (Some (ToReadBlock (Err (read.Damaged a b)))) serves) still tells
