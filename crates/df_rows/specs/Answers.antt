-- Why a line is refused, and the texts of answers and refusals.
use Rattle.std.specs.Prelude.{ℕ, Bool, ◌&&◌, not, nat_lt, nat_le, if◌then◌else◌, List, codes, decimal, Option, Some, None}
use Rattle.std.specs.FinMap as map
use Rattle.df_layout.specs.declared.places.Place.{Place}
use Rattle.df_script_model.specs.Texts.{body_text, line_of, numbered, place_text, spaced}
use Rattle.df_rows.specs.{declared.answer.Answer.{Answer}, declared.refusal.Refusal.{Refusal}, declared.refusal.Refusal.TheVariants.{ValueTooLong, TableFull, NoKey}, declared.line.Line.{Line}}
use Rattle.df_rows.specs.{Rows.{longest_value}, Tables.{Table}}
use Rattle.df_rows.specs.declared.answer.Answer.TheVariants as answers
use Rattle.df_rows.specs.declared.line.Line.TheVariants as lines

-- a key that the table doesn't have, where it has as many rows as it may
abbrev pub is_full_for : Table → ℕ → Bool
is_full_for t key = not (map.contains_key t.rows key) && nat_le t.max (map.len t.rows)

-- why the key isn't there
abbrev pub missing : Table → ℕ → Option Refusal
missing t key = if map.contains_key t.rows key then None else Some NoKey

-- why a line is refused, by the first cause
abbrev pub refusal_of : Table → Line → Option Refusal
refusal_of t (lines.Put key n) =
    if nat_lt longest_value n then Some (ValueTooLong longest_value) else (if is_full_for t key then Some (TableFull t.max) else None)
refusal_of t (lines.Drop key) = missing t key
refusal_of t (lines.Get key) = missing t key
refusal_of t lines.Count = None

-- ---- texts

abbrev pub refusal_text : Refusal → List ℕ
refusal_text (ValueTooLong max) = line_of (numbered (codes "refused ValueTooLong max") max)
refusal_text (TableFull max) = line_of (numbered (codes "refused TableFull max") max)
refusal_text NoKey = codes "refused NoKey\n"

-- what was done, what was asked, or why the line is refused
abbrev pub table_answer_text : Answer → List ℕ
table_answer_text (answers.Put op) = line_of (numbered (codes "put") op)
table_answer_text (answers.Dropped op) = line_of (numbered (codes "dropped") op)
table_answer_text (answers.Found key value) = line_of (spaced (decimal key) (body_text value.now))
table_answer_text (answers.Counted rows) = line_of (numbered (codes "count") rows)
table_answer_text (answers.Refused refusal) = refusal_text refusal

-- a file of another program: the place that shows it
abbrev pub not_table_text : Place → List ℕ
not_table_text place = line_of (spaced (codes "refused NotTable") (place_text place))
