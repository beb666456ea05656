-- What a reader gives for the next line, of a grammar.
use Rattle.std.specs.Prelude.{◌≡◌, ◌⊎◌, ◌<◌, ◌≤◌, ◌-◌, ℕ, List, [], length, take, drop, Option, Some, Result, Ok, Err}
use Rattle.df_lines.specs.{declared.next.Next.{Next}, Kind.{Grammar}, Lines.{IsLine, IsRefused}, Text.{Reading, line_of, after_line, taken, unread}, Room.{Contents, ReaderParts}}
use Rattle.df_lines.specs.declared.next.Next.TheVariants as nexts

-- The text is at its end, and the source was read to its end.
pub record EndsReading (text : List ℕ) (after left : Option (List ℕ)) : Type 0 where
  pub none : text ≡ []
  pub rest : after ≡ Some []
  pub ended : left ≡ Some []

-- the text that is still to be executed after an answer
abbrev pub text_after : {L E : Type 0} → Result (Next L) E → List ℕ → List ℕ
text_after (Ok (nexts.Line l)) text = after_line text
text_after (Ok nexts.Refused) text = text
text_after (Ok nexts.End) text = text
text_after (Err e) text = text

-- a line costs at least one byte of the budget and has its body in the buffer; nothing else costs any
abbrev pub Spends : {L : Type 0} → Grammar L → ReaderParts → ReaderParts → Next L → Type 0
Spends grammar old new (nexts.Line l) = (new.reading.budget < old.reading.budget) × (grammar.body_length l ≤ length new.body)
Spends grammar old new nexts.Refused = new.reading.budget ≡ old.reading.budget
Spends grammar old new nexts.End = new.reading.budget ≡ old.reading.budget

module _ {Said : Type 0} (says : List ℕ → Said → Type 0) where
  -- A line was taken: it is the first of the text, its bytes went off the budget, and what follows is still unread.
  pub record TakesLine (old new : Reading) (text : List ℕ) (after : Option (List ℕ)) (said : Said) : Type 0 where
    pub line : IsLine says old.bound old.budget text said
    pub rest : after ≡ Some (after_line text)
    pub budget : new.budget ≡ old.budget - taken text

  -- The next line of the text is refused, and the text is still unread. The reader holds the line, or more of it than the
  -- bound.
  pub record RefusesNext (old new : Reading) (text : List ℕ) (after : Option (List ℕ)) : Type 0 where
    pub refuses : IsRefused says old.bound old.budget text
    pub rest : after ≡ Some text
    pub read : (line_of new.held ≡ line_of text) ⊎ (new.bound < length (line_of new.held))

module _ {L : Type 0} (grammar : Grammar L) where
  -- what a reader gives of a text, where left is what the source has left then
  abbrev pub GivesNext : ReaderParts → ReaderParts → List ℕ → Option (List ℕ) → Next L → Type 0
  GivesNext old new text left (nexts.Line l) =
      TakesLine grammar.says old.reading new.reading text (unread new.reading.held left) (grammar.said_with new.body l)
  GivesNext old new text left nexts.Refused =
      RefusesNext grammar.says old.reading new.reading text (unread new.reading.held left)
  GivesNext old new text left nexts.End = EndsReading text (unread new.reading.held left) left

  -- The line at the window's front, of this size and with its end of this many bytes, was taken; or nothing was, since the
  -- line is past the budget or says nothing.
  abbrev pub Takes : Contents → Contents → ℕ → ℕ → List ℕ → ℕ → ℕ → Next L → Type 0
  Takes old new budget rest body size taken (nexts.Line l) =
      (taken ≤ budget) × (rest ≡ budget - taken) × (new.bytes ≡ drop taken old.bytes) × (new.ended ≡ old.ended)
      × grammar.says (take size old.bytes) (grammar.said_with body l) × (grammar.body_length l ≤ length body)
  Takes old new budget rest body size taken nexts.Refused =
      (new ≡ old) × (rest ≡ budget) × ((said : grammar.Said) → taken ≤ budget → grammar.says (take size old.bytes) said → ⊥)
  Takes old new budget rest body size taken nexts.End = ⊥
