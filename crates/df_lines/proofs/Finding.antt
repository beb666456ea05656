-- How the search for a line's end goes on from read to read.
use Rattle.std.{proofs.{Common.{◌≡◌, ℕ, ◌+◌, ◌-◌, ◌<◌, ◌≤◌, IsTrue, List, length, take, drop, sym, ap, ◌∙◌, arith, length-drop}, lemmas.List.{take-append-drop, take_rest, length-take-le}}, specs.Prelude.{Option, None, Some, position}}
use Rattle.df_lines.{specs.{Room.{Contents, IsAtEnd}, Text.{unread}, Window.{is_feed, line_end}}, proofs.Cutting.{position_past, position_none, position_some}}

-- some reads after the start: nothing is lost, and the first bytes are known to have no byte 10
pub record Searches {S : Type 0} (first source : S) (start now : Contents) (before after : Option (List ℕ)) (faults_before faults_after seen : ℕ) : Type 0 where
  pub size : now.size ≡ start.size
  pub same_text : unread now.bytes after ≡ unread start.bytes before
  pub at_end : (IsTrue start.ended → IsAtEnd before) → IsTrue now.ended → IsAtEnd after
  pub unasked : IsTrue start.ended → (now ≡ start) × (source ≡ first)
  pub faults : faults_after ≡ faults_before
  pub within : seen ≤ length now.bytes
  pub none : line_end (take seen now.bytes) ≡ seen

end_behind : (bytes : List ℕ) (seen : ℕ)
    → seen ≤ length bytes → line_end (take seen bytes) ≡ seen → line_end bytes ≡ seen + line_end (drop seen bytes)
end_behind bytes seen within none = let size = length-take-le seen bytes within in ap line_end (sym (take-append-drop seen bytes))
    ∙ position_past is_feed (take seen bytes) (drop seen bytes) (none ∙ sym size) ∙ ap (λ (n : ℕ). n + line_end (drop seen bytes)) size

pub behind_none : (bytes : List ℕ) (seen : ℕ) → seen ≤ length bytes → line_end (take seen bytes) ≡ seen
    → position is_feed (take (length bytes - seen) (drop seen bytes)) ≡ None → line_end bytes ≡ length bytes
behind_none bytes seen within none is =
    let rest = position_none is_feed (drop seen bytes) (ap (position is_feed) (sym (take_rest bytes seen)) ∙ is) in
    omega (arith, end_behind bytes seen within none, rest, length-drop seen bytes)

pub behind_some : (bytes : List ℕ) (seen at : ℕ) → seen ≤ length bytes → line_end (take seen bytes) ≡ seen
    → position is_feed (take (length bytes - seen) (drop seen bytes)) ≡ Some at → (seen + at ≡ line_end bytes) × (seen + at < length bytes)
behind_some bytes seen at within none is =
    let rest = position_some is_feed (drop seen bytes) at (ap (position is_feed) (sym (take_rest bytes seen)) ∙ is) in
    (omega (arith, end_behind bytes seen within none, rest), omega (arith, rest, length-drop seen bytes))
