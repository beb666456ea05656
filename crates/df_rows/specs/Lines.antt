-- What the lines of a script do to a table, and what they are answered: a map from keys to values, with no file in sight.
use Rattle.std.specs.Prelude.{ℕ, ◌+◌, List, [], ◌∷◌, ◌++◌, length, codes, decimal, Option, Some, None}
use Rattle.std.specs.FinMap as map
use Rattle.df_script_model.specs.Texts.{body_text, line_of, numbered, spaced}
use Rattle.df_rows.specs.{declared.command.Command.{Command}, declared.line.Line.{Line}, declared.refusal.Refusal.{Refusal}, Answers.{refusal_of, refusal_text}, Grammar.{Said, Put, Drop, Get, Count}}
use Rattle.df_rows.specs.Tables.{Table, with_commands}
use Rattle.df_rows.specs.declared.command.Command.TheVariants as commands
use Rattle.df_rows.specs.declared.line.Line.TheVariants as lines

-- the line without its value's bytes
abbrev pub line_in : Said → Line
line_in (Put key value) = lines.Put key (length value)
line_in (Drop key) = lines.Drop key
line_in (Get key) = lines.Get key
line_in Count = lines.Count

-- ---- what it does

-- the command that a line asks for; a get and a count ask for none
abbrev pub asked_by_line : Said → List Command
asked_by_line (Put key value) = commands.Put (key, value) ∷ []
asked_by_line (Drop key) = commands.Drop key ∷ []
asked_by_line (Get key) = []
asked_by_line Count = []

abbrev pub unless_refused : Option Refusal → List Command → List Command
unless_refused (Some refusal) commands = []
unless_refused None commands = commands

-- a refused line does nothing
abbrev pub accepted : Table → Said → List Command
accepted t said = unless_refused (refusal_of t (line_in said)) (asked_by_line said)

abbrev pub table_after : Table → Said → Table
table_after t said = with_commands (accepted t said) t

-- the puts and drops of these lines that are accepted, in order, and the table after all of them
abbrev pub all_accepted : Table → List Said → List Command
all_accepted t [] = []
all_accepted t (said ∷ more) = accepted t said ++ all_accepted (table_after t said) more

abbrev pub all_behind : Table → List Said → Table
all_behind t [] = t
all_behind t (said ∷ more) = all_behind (table_after t said) more

-- ---- what it is answered

abbrev pub value_in : Option (List ℕ) → List ℕ
value_in None = []
value_in (Some value) = value

-- where it isn't refused, and n ops came before it
abbrev pub done_text : Table → (n : ℕ) → Said → List ℕ
done_text t n (Put key value) = line_of (numbered (codes "put") (n + 1))
done_text t n (Drop key) = line_of (numbered (codes "dropped") (n + 1))
done_text t n (Get key) = line_of (spaced (decimal key) (body_text (value_in (map.get t.rows key))))
done_text t n Count = line_of (numbered (codes "count") (map.len t.rows))

abbrev pub refusal_or : Option Refusal → List ℕ → List ℕ
refusal_or (Some refusal) text = refusal_text refusal
refusal_or None text = text

abbrev pub line_of_turn : Table → (n : ℕ) → Said → List ℕ
line_of_turn t n said = refusal_or (refusal_of t (line_in said)) (done_text t n said)

-- the text of a script over a table with n ops before it: that of a map
abbrev pub map_text : Table → (n : ℕ) → List Said → List ℕ
map_text t n [] = []
map_text t n (said ∷ more) = line_of_turn t n said ++ map_text (table_after t said) (n + length (accepted t said)) more
