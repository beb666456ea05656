-- The calls of a session go on, and so do their lines and what they print.
use Rattle.{std.proofs.Common.{◌≡◌, ℕ, ◌-◌, List, [], ◌∷◌, ◌++◌, Option, refl, sym, ◌∙◌, ap, append_assoc}, df_disk.specs.Told.{Told}}
use Rattle.df_lines.specs.{Grammar.{Said}, Script.{BeginsWithLines, IsLine}, Text.{after_line, taken}}
use Rattle.{df_pace.specs.declared.{beat.Beat.{Beat}, pace.Pace.{Pace}}, df_session.specs.Below.{State as Replica}}
use Rattle.df_top.specs.{Lines.{Turned, all_said, all_text, said_by, told_by}, Pacing.{AreTurns, NextTurn, NoTurns, beat_after}}

-- ---- calls more

pub text_more : (turns more : List Turned) → all_text (turns ++ more) ≡ all_text turns ++ all_text more
text_more [] more = refl
text_more (u ∷ turns) more = ap (λ (l : List ℕ). told_by u.asker u.exchange.answer ++ l) (text_more turns more)
    ∙ sym (append_assoc (told_by u.asker u.exchange.answer) (all_text turns) (all_text more))

pub said_more : (turns more : List Turned) → all_said (turns ++ more) ≡ all_said turns ++ all_said more
said_more [] more = refl
said_more (u ∷ turns) more = ap (λ (l : List Said). said_by u.asker ++ l) (said_more turns more)
    ∙ sym (append_assoc (said_by u.asker) (all_said turns) (all_said more))

-- what was made goes on
pub turns_join : (pace : Pace) (b c d : Beat) (s t u : Replica) (old mid new : Option Told) (turns more : List Turned)
    → AreTurns pace b s old turns c t mid → AreTurns pace c t mid more d u new → AreTurns pace b s old (turns ++ more) d u new
turns_join pace b c d s t u old mid new [] more NoTurns rest = rest
turns_join pace b c d s t u old mid new (x ∷ turns) more (NextTurn v between is call others) rest =
    NextTurn v between is call (turns_join pace (beat_after pace b x.asker v x.exchange.answer) c d v t u between mid new turns more others rest)

-- ---- one line more

pub begins_more : (bound budget : ℕ) (text : List ℕ) (asked : List Said) (left : ℕ) (rest : List ℕ) (said : Said)
    → BeginsWithLines bound budget text asked left rest → IsLine bound left rest said
    → BeginsWithLines bound budget text (asked ++ said ∷ []) (left - taken rest) (after_line rest)
begins_more bound budget text [] left rest said begins is = (
  rw begins.0 at (rw begins.1 at is),
  ((λ i. begins.0 i - taken (begins.1 i)), λ i. after_line (begins.1 i)),
)
begins_more bound budget text (x ∷ asked) left rest said begins is =
    (begins.0, begins_more bound (budget - taken text) (after_line text) asked left rest said begins.1 is)
