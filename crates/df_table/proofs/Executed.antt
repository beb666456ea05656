-- A line that isn't refused, one that is, and one that asks for no command: what each comes to.
use Rattle.std.{proofs.{Common.{◌≡◌, inl, inr, ◌+◌, ◌≤◌, ◌&&◌, not, nat_le, nat_lt, ℕ, Bool, true, false, if◌then◌else◌, List, [], ◌∷◌, length, take, Option, Some, None, Ok, Err, refl, sym, ◌∙◌, ap, subst, arith}, lemmas.Bool.Decides.{nat_tests}, lemmas.List.{length-take-le}, lemmas.List.Elements.{All-nil}}, specs.Prelude.{decimal, is_some}}
use Rattle.std.specs.FinMap as map
use Rattle.{df_base.{specs.Streams.{Appends, AppendsPart}, proofs.Laws.{plus_zero}}, df_disk.specs.Told.{Told}}
use Rattle.{df_script_model.specs.Texts.{body_text, line_of, spaced}, df_layout.specs.declared.layout.Layout.{Layout}}
use Rattle.df_rows.specs.{declared.command.Command.{Command}, declared.line.Line.{Line}, declared.refusal.Refusal.{Refusal}, declared.refusal.Refusal.TheVariants.{NoKey, TableFull, ValueTooLong}, Answers.{is_full_for, missing, refusal_of, refusal_text}, Commands.{IsCommand}, Grammar.{Drop, Get, Put, Said, said_with, value_length}, Lines.{accepted, asked_by_line, done_text, line_in, line_of_turn, refusal_or, unless_refused, value_in}, Tables.{HasRoom, Table, with_command, with_commands}}
use Rattle.df_rows.specs.declared.command.Command.TheVariants as commands
use Rattle.df_rows.specs.declared.line.Line.TheVariants as lines
use Rattle.df_session.specs.{Below.{State as Replica, memory}, Links.{NoCalls}}
use Rattle.df_table.specs.{declared.ending.Ending.{Ending}, declared.status.Status.{Status}, Outside.{Step, WritesTableText}, Calls.{Changes}, Policy.{line_commands}, Serving.{AnswersLine, IsExecuted, TellsLine}, Statuses.{ending_text, status_of}, Turns.{AreFit, EndIn, IsOfCall, MakeAll, WasAccepted}}
use Rattle.df_program.specs.declared.turn.Turn.TheVariants.{Ends, GoesOn as Goes}

-- ---- what isn't refused may be done

has_room : (t : Table) (key : ℕ) (b : Bool) → map.contains_key t.rows key ≡ b → (not b && nat_le t.max (map.len t.rows)) ≡ false → HasRoom t key
has_room t key true is room = inl is
has_room t key false is room = inr (grind (arith, nat_tests))

put_case : (t : Table) (key n : ℕ) (p q : Bool) → nat_lt 47 n ≡ p → is_full_for t key ≡ q
    → (if p then Some (ValueTooLong 47) else (if q then Some (TableFull t.max) else None)) ≡ None → (n ≤ 47) × HasRoom t key
put_case t key n true q long full is = absurd (cc)
put_case t key n false true long full is = absurd (cc)
put_case t key n false false long full is = (grind (arith, nat_tests), has_room t key (map.contains_key t.rows key) refl full)

pub put_may : (t : Table) (key n : ℕ) → refusal_of t (lines.Put key n) ≡ None → (n ≤ 47) × HasRoom t key
put_may t key n fine = put_case t key n (nat_lt 47 n) (is_full_for t key) refl refl fine

pub put_short : (t : Table) (key n : ℕ) (body : List ℕ) → n ≤ length body → refusal_of t (lines.Put key n) ≡ None → length (take n body) ≤ 47
put_short t key n body within fine = omega (arith, (put_may t key n fine).0, length-take-le n body within)

-- the commands of a put and of a drop
pub put_asks : (t : Table) (key n : ℕ) (body : List ℕ)
    → n ≤ length body → refusal_of t (lines.Put key n) ≡ None → accepted t (Put key (take n body)) ≡ commands.Put (key, take n body) ∷ []
put_asks t key n body within fine =
    ap (λ (k : ℕ). unless_refused (refusal_of t (lines.Put key k)) (commands.Put (key, take n body) ∷ [])) (length-take-le n body within)
    ∙ ap (λ (o : Option Refusal). unless_refused o (commands.Put (key, take n body) ∷ [])) fine

pub drop_asks : (t : Table) (key : ℕ) → refusal_of t (lines.Drop key) ≡ None → accepted t (Drop key) ≡ commands.Drop key ∷ []
drop_asks t key fine = ap (λ (o : Option Refusal). unless_refused o (commands.Drop key ∷ [])) fine

-- and their texts
pub put_text : (t : Table) (n key size : ℕ) (body : List ℕ) → size ≤ length body
    → refusal_of t (lines.Put key size) ≡ None → line_of_turn t n (Put key (take size body)) ≡ done_text t n (Put key (take size body))
put_text t n key size body within fine =
    ap (λ (k : ℕ). refusal_or (refusal_of t (lines.Put key k)) (done_text t n (Put key (take size body)))) (length-take-le size body within)
    ∙ ap (λ (o : Option Refusal). refusal_or o (done_text t n (Put key (take size body)))) fine

pub drop_text : (t : Table) (n key : ℕ) → refusal_of t (lines.Drop key) ≡ None → line_of_turn t n (Drop key) ≡ done_text t n (Drop key)
drop_text t n key fine = ap (λ (o : Option Refusal). refusal_or o (done_text t n (Drop key))) fine

-- ---- a line with a command

module _ (layout : Layout) (said : Said) (c : Command)
    (s t : Replica) (old new : Option Told) (table later : Table) (asks_is : accepted table said ≡ c ∷ []) (fits : IsCommand c) where
  fit_is : AreFit (accepted table said)
  fit_is = subst AreFit (sym asks_is) (fits, tt)

  pub executed : (steps : ℕ) → MakeAll (line_commands layout (memory s) table.rows steps (c ∷ [])) s t old new
      → later ≡ with_command c table → t.head ≡ s.head + 1 → IsExecuted layout said s t old new table later
  executed steps made changed head = record {
    exchanges = made.exchanges;
    steps = steps;
    calls = made.calls;
    are = made.are ∙ ap (λ (l : List Command). line_commands layout (memory s) table.rows steps l) (sym asks_is);
    accepted = made.accepted;
    fit = fit_is;
    behind_is = changed ∙ ap (λ (l : List Command). with_commands l table) (sym asks_is);
    head = head ∙ ap (λ (l : List Command). s.head + length l) (sym asks_is);
  }

  pub ended : (steps : ℕ) (ending : Ending) (written took : Option (List ℕ)) (turn : Step) (ends : Status) → turn ≡ Ends ends → EndIn (line_commands layout (memory s) table.rows steps (c ∷ [])) s t old new ending → WritesTableText (ending_text ending) (status_of ending) written took ends
      → IsOfCall new ending → AnswersLine layout said s t old new table later written took turn
  ended steps ending written took turn ends is halts wrote of_call =
      subst (λ (u : Step). AnswersLine layout said s t old new table later written took u) (sym is)
      (inr (ending, steps, rw asks_is halts, wrote, fit_is, of_call))

-- ---- a line without one

none_asked : (table : Table) (o : Option Refusal) → unless_refused o [] ≡ []
none_asked table None = refl
none_asked table (Some refusal) = refl

module _ (layout : Layout) (said : Said) (s : Replica) (told : Option Told) (table : Table) (none : accepted table said ≡ []) where
  pub nothing_done : IsExecuted layout said s s told told table table
  nothing_done = record {
    exchanges = [];
    steps = 0;
    calls = NoCalls;
    are = ap (λ (l : List Command). line_commands layout (memory s) table.rows 0 l) (sym none);
    accepted = All-nil WasAccepted;
    fit = subst AreFit (sym none) tt;
    behind_is = ap (λ (l : List Command). with_commands l table) (sym none);
    head = plus_zero s.head ∙ ap (λ (l : List Command). s.head + length l) (sym none);
  }

pub refused_none : (table : Table) (said : Said) (refusal : Refusal) → refusal_of table (line_in said) ≡ Some refusal → accepted table said ≡ []
refused_none table said refusal is = ap (λ (o : Option Refusal). unless_refused o (asked_by_line said)) is

pub get_none : (table : Table) (key : ℕ) → accepted table (Get key) ≡ []
get_none table key = none_asked table (refusal_of table (lines.Get key))

-- ---- what is printed

pub from_tells : (layout : Layout) (said : Said) (s t : Replica) (old new : Option Told) (table later : Table) (written took : Option (List ℕ)) (text : List ℕ) (turn : Step) → IsExecuted layout said s t old new table later → line_of_turn table s.head said ≡ text → TellsLine text written took turn
    → AnswersLine layout said s t old new table later written took turn
from_tells layout said s t old new table later written took text Goes e is tells = (e, subst (Appends written took) (sym is) tells)
from_tells layout said s t old new table later written took text (Ends status) e is tells =
    inl (e, tells.0, subst (AppendsPart written took) (sym is) tells.1)

-- ---- a put or a drop to its end

module _ (layout : Layout) (said : Said) (c : Command) (s t : Replica) (old new : Option Told)
    (table later : Table) (written took : Option (List ℕ)) (asks_is : accepted table said ≡ c ∷ []) (fits : IsCommand c) where
  -- it was done and printed, or the sink failed
  pub changed_answers : {T : Type 0} (x : T) (text : List ℕ) (turn : Step) → line_of_turn table s.head said ≡ text → Changes layout table.rows c s t old new (Ok x) → later ≡ with_command c table → t.head ≡ s.head + 1 → TellsLine text written took turn → AnswersLine layout said s t old new table later written took turn
  changed_answers x text turn text_is makes changed head tells = from_tells layout said s t old new table
      later written took text turn (executed layout said c s t old new table later asks_is fits makes.0 makes.1 changed head) text_is tells

  -- or something ended the session within it
  pub changed_ends : (T : Type 0) (ending : Ending) (ends : Status) → Changes {T = T} layout table.rows c s t old new (Err ending) → WritesTableText (ending_text ending) (status_of ending) written took ends → IsOfCall new ending → AnswersLine layout said s t old new table later written took (Ends ends)
  changed_ends T ending ends makes wrote of_call =
      ended layout said c s t old new table later asks_is fits makes.0 ending written took (Ends ends) ends refl makes.1 wrote of_call

-- a line without a command was answered
module _ (layout : Layout) (said : Said)
    (s : Replica) (told : Option Told) (table : Table) (written took : Option (List ℕ)) (none : accepted table said ≡ []) where
  pub told_answers : (text : List ℕ) (turn : Step) → line_of_turn table s.head said ≡ text
      → TellsLine text written took turn → AnswersLine layout said s s told told table table written took turn
  told_answers text turn text_is tells =
      from_tells layout said s s told told table table written took text turn (nothing_done layout said s told table none) text_is tells

-- the text of a line that isn't refused, and of one that is
pub fine_text : (t : Table) (n : ℕ) (said : Said) → refusal_of t (line_in said) ≡ None → line_of_turn t n said ≡ done_text t n said
fine_text t n said fine = ap (λ (o : Option Refusal). refusal_or o (done_text t n said)) fine

pub refused_text : (t : Table) (n : ℕ) (said : Said) (refusal : Refusal)
    → refusal_of t (line_in said) ≡ Some refusal → line_of_turn t n said ≡ refusal_text refusal
refused_text t n said refusal is = ap (λ (o : Option Refusal). refusal_or o (done_text t n said)) is

-- of a line as it was read, whose value is in the buffer
pub line_back : (buffer : List ℕ) (line : Line) → value_length line ≤ length buffer → line_in (said_with buffer line) ≡ line
line_back buffer (lines.Put key n) within = ap (lines.Put key) (length-take-le n buffer within)
line_back buffer (lines.Drop key) within = refl
line_back buffer (lines.Get key) within = refl
line_back buffer lines.Count within = refl

-- ---- a key that is there

has_key : (t : Table) (key : ℕ) → missing t key ≡ None → map.contains_key t.rows key ≡ true
has_key t key fine = go (map.contains_key t.rows key) fine
  where
    go : (b : Bool) → (if b then None else Some NoKey) ≡ None → b ≡ true
    go true is = refl
    go false is = absurd (cc)

pub get_has : (t : Table) (key : ℕ) → refusal_of t (lines.Get key) ≡ None → map.contains_key t.rows key ≡ true
get_has t key fine = has_key t key fine

pub found_text : (t : Table) (n key : ℕ) (value : List ℕ)
    → map.get t.rows key ≡ Some value → line_of (spaced (decimal key) (body_text value)) ≡ done_text t n (Get key)
found_text t n key value is = ap (λ (o : Option (List ℕ)). line_of (spaced (decimal key) (body_text (value_in o)))) (sym is)

pub not_missing : (t : Table) (key : ℕ) → map.contains_key t.rows key ≡ true → map.get t.rows key ≡ None → ⊥
not_missing t key has none = let no : false ≡ true = sym (ap (λ (o : Option (List ℕ)). is_some o) none) ∙ has in cc
