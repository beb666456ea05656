-- However a session ends, what is written is a front of the text of its script.
use Rattle.std.{proofs.{Common.{◌≡◌, ◌⊎◌, inl, inr, ℕ, ◌+◌, ◌-◌, Bool, true, false, List, [], ◌∷◌, ◌++◌, append_assoc, length, length-append, map, Option, Some, None, refl, sym, ◌∙◌, ap, subst, arith}, Math.Seq.{take-length}, lemmas.List.{append-nil, take-append-le, map-append}}, specs.Prelude.{take}}
use Rattle.{df_base.specs.{Streams.{Appends, AppendsPart}, Log.{Sync}}, df_disk.specs.{Adds.{after_all}, Told.{Told, did}}}
use Rattle.{df_inspect.specs.Opening.{script_text}, df_layout.specs.declared.layout.Layout.{Layout}, df_theory.specs.Shape.{Shape}}
use Rattle.df_lines.{specs.{Grammar.{Said}, Room.{line_bound}, Script.{BeginsWithLines, IsRefused, IsScript}, Text.{after_line, line_of as first_line, taken}}, proofs.Laws.{one_said, one_script, no_line, begins_one}}
use Rattle.{df_model.specs.{Supply.{Codec, Shown}, Work.{Work}, Commands.{Command}}, df_script_model.specs.Script.{answer_text}}
use Rattle.df_session.{specs.{Below.{DataFile, shape, told_after}, Reading.{shown_of}, Codec.{codec}, Agreeing.{AgreeShown}, Begun.{begun_work}, Found.{FoundFile}, Links.{events_made}}, proofs.Laws.{added_is_told}}
use Rattle.df_pace.specs.{Loop.{Stand, answer_at, paced, passed, start as stand_at}, declared.pace.Pace.{Pace}}
use Rattle.df_top.specs.{Acknowledging.{script_calls}, Lines.{Failing, Turned, act_of, all_said, all_text, command_of_line, printed as prints, said_of}, OneText.{text_by}, Outside.{Outside}, Resulting.{joined, text_over}, Run.{ServesScript, script_budget, start}, Session.{EndsWith}, declared.status.Status.{Status}, declared.status.Status.TheVariants.{Done, Script, Words, Refused, Memory, DiskFault, ReadFault, WriteFault, Found}}
use Rattle.df_lifetime.specs.Printed.{FrontIsWritten, Scripted, whole_text}

-- ---- fronts

-- one list begins with the other
abbrev IsFront : {A : Type 0} → List A → List A → Type 0
IsFront xs ys = (more : List _) × (ys ≡ xs ++ more)

part_is_front : (old new : Option (List ℕ)) (xs ys : List ℕ) → AppendsPart old new xs → IsFront xs ys → AppendsPart old new ys
part_is_front old new xs ys (n, few, wrote) (more, is) =
    let same : take n xs ≡ take n ys = sym (ap (take n) is ∙ take-append-le n xs more few) in
    let count : length ys ≡ length xs + length more = ap length is ∙ length-append xs more in
    (n, omega (arith, few, count), subst (Appends old new) same wrote)

all_is_part : (old new : Option (List ℕ)) (xs : List ℕ) → Appends old new xs → AppendsPart old new xs
all_is_part old new xs wrote = (length xs, omega arith, subst (Appends old new) (sym (take-length xs)) wrote)

-- ---- the lines that were executed

-- lines with which a text begins are the first ones of its script
lines_front : (bound budget : ℕ) (text : List ℕ) (lines says : List Said) (left last : ℕ) (rest end : List ℕ) → BeginsWithLines bound budget
    text lines left rest → BeginsWithLines bound budget text says last end → (end ≡ []) ⊎ IsRefused bound last end → IsFront lines says
lines_front bound budget text [] says left last rest end first all ends = (says, refl)
lines_front bound budget text (a ∷ lines) [] left last rest end first all ends =
    absurd (no_line bound budget last text end a first.0 all.0 all.1 ends)
lines_front bound budget text (a ∷ lines) (b ∷ says) left last rest end first all ends =
    let more = lines_front bound (budget - taken text) (after_line text) lines says left last rest end first.1 all.1 ends in
    let same : b ≡ a = one_said (first_line text) b a all.0.says first.0.says in (more.0, (λ i. same i ∷ more.1 i))

begins_first : (bound budget : ℕ) (text : List ℕ) (lines more : List Said) (left : ℕ) (rest : List ℕ)
    → BeginsWithLines bound budget text (lines ++ more) left rest → (n : ℕ) × (end : List ℕ) × BeginsWithLines bound budget text lines n end
begins_first bound budget text [] more left rest begins = (budget, text, (refl, refl))
begins_first bound budget text (said ∷ lines) more left rest begins =
    let first = begins_first bound (budget - taken text) (after_line text) lines more left rest begins.1 in
    (first.0, first.1, (begins.0, first.2))

-- of a text that is cut: what its lines print, and the line that refuses the next one
cut_text : (bound budget : ℕ) (text : List ℕ) (lines says : List Said) (script : IsScript bound budget text says) (left : ℕ) (rest : List ℕ)
    → BeginsWithLines bound budget text lines left rest → IsRefused bound left rest
    → (lines ≡ says) × ((n : ℕ) (line : List ℕ) → text_by script.ends n line ≡ line ++ script_text (n + 1))
cut_text bound budget text lines says script left rest begins refused = (same, λ n line. by script.ends n line)
  where
    same : lines ≡ says
    same = one_script bound budget text lines says (record { left = left; rest = rest; begins = begins; ends = inr refused }) script

    by : (e : (script.rest ≡ []) ⊎ IsRefused bound script.left script.rest) (n : ℕ) (line : List ℕ)
        → text_by e n line ≡ line ++ script_text (n + 1)
    by (inl none) n line =
        absurd (refused.some (begins_one bound budget text says left script.left rest script.rest (rw same at begins) script.begins ∙ none))
    by (inr other) n line = refl

-- ---- what they print

-- the first lines print a front, with this work beside them
over_front : (sh : Shape) (by : Codec) (pace : Pace) (x : Stand) (xs ys : List Command)
    → IsFront (joined (paced sh by pace x xs)) (joined (paced sh by pace x (xs ++ ys)))
over_front sh by pace x [] ys = (joined (paced sh by pace x ys), refl)
over_front sh by pace x (c ∷ xs) ys = let line : List ℕ = answer_text c (answer_at sh by x c) in
    let more = over_front sh by pace (passed sh by pace x c) xs ys in
    (more.0, ap (λ (l : List ℕ). line ++ l) more.1 ∙ sym (append_assoc line (joined (paced sh by pace (passed sh by pace x c) xs)) more.0))

text_front : (pace : Pace) (file : DataFile) (shown : Shown) (w : Work) (lines says : List Said)
    → IsFront lines says → IsFront (text_over pace file shown w lines) (text_over pace file shown w says)
text_front pace file shown w lines says (more, is) =
    let front = over_front (shape file) (codec file) pace (stand_at shown w) (map command_of_line lines) (map command_of_line more) in
    (front.0, ap (λ (l : List Command). joined (paced (shape file) (codec file) pace (stand_at shown w) l)) (ap (map command_of_line) is ∙ map-append command_of_line lines more) ∙ front.1)

by_front : {A B : Type 0} (e : A ⊎ B) (n : ℕ) (line : List ℕ) → IsFront line (text_by e n line)
by_front (inl none) n line = ([], sym (append-nil line))
by_front (inr refused) n line = (script_text (n + 1), refl)

front_on : (xs ys zs : List ℕ) → IsFront xs ys → IsFront ys zs → IsFront xs zs
front_on xs ys zs (a, one) (b, two) = (a ++ b, two ∙ ap (λ (l : List ℕ). l ++ b) one ∙ append_assoc xs a b)

-- ---- a session

module _ (pace : Pace) (layout : Layout) (t : Told) (old new : Outside) (status : Status) (s : Scripted pace layout t old new status) where
  abbrev opening : FoundFile layout t
  opening = s.opening

  abbrev serves : ServesScript pace layout t opening old new status
  serves = s.serves

  abbrev file : DataFile
  file = opening.replica.file

  abbrev turns : List Turned
  turns = serves.session.turns

  abbrev says_over : List Said → List ℕ
  says_over says = text_over pace file (shown_of file t.shown) (begun_work file t.shown s.view) says

  agree_self : AgreeShown file.layout (shown_of file t.shown) (shown_of file t.shown)
  agree_self = record { units = record { prepare = λ k. refl; reply = λ k. refl; block = λ k. refl }; classes = λ place read none. refl }

  lines_text : all_text turns ≡ says_over (all_said turns)
  lines_text = (serves.result s.view (shown_of file t.shown) s.found agree_self).text

  -- the disk tells what it shows up to the end
  untold : new.told ≡ None → ⊥
  untold none = let mended = opening.mending.told ∙ added_is_told opening.mending.events (did Sync t) in
      let told = serves.adds ∙ ap (after_all (events_made (script_calls serves.session))) mended
      ∙ added_is_told (events_made (script_calls serves.session)) (told_after opening.mending.events (did Sync t)) in let no : None
      ≡ Some (told_after (events_made (script_calls serves.session)) (told_after opening.mending.events (did Sync t))) = sym none ∙ told in
      cc

  -- the lines that were executed print a front of the text
  printed_front : (left : ℕ) (rest : List ℕ) → BeginsWithLines (line_bound layout) script_budget s.text (all_said turns) left rest
      → (cut : Bool) → (cut ≡ true → IsRefused (line_bound layout) left rest) → IsFront (prints 0 turns cut) (whole_text s)
  printed_front left rest begins false refused = let lines = lines_front (line_bound layout)
      script_budget s.text (all_said turns) s.says left s.script.left rest s.script.rest begins s.script.begins s.script.ends in
      let text = text_front pace file (shown_of file t.shown) (begun_work file t.shown s.view) (all_said turns) s.says lines in
      front_on (all_text turns)
      (says_over s.says) (whole_text s) (rw (sym lines_text) at text) (by_front s.script.ends (length s.says) (says_over s.says))
  printed_front left rest begins true refused =
      let cut = cut_text (line_bound layout) script_budget s.text (all_said turns) s.says s.script left rest begins (refused refl) in
      let count : length s.says + 1 ≡ 0 + length (all_said turns) + 1 = omega (arith, sym (ap length cut.0)) in
      let line : says_over s.says ≡ all_text turns = sym (lines_text ∙ ap says_over cut.0) in (
        [],
        cut.1 (length s.says) (says_over s.says) ∙ (λ i. line i ++ script_text (count i)) ∙ sym (append-nil (prints 0 turns true)),
      )

  module _ (left : ℕ) (rest : List ℕ) where
    abbrev Writes : Type 0
    Writes = AppendsPart old.written new.written (whole_text s)

    abbrev Ends : Option Failing → Bool → Status → Type 0
    Ends failing cut how = EndsWith 0 (start opening.mended old opening.replica).outside new turns (act_of failing) cut how

    all_written : (cut : Bool) → IsFront (prints 0 turns cut) (whole_text s) → Appends old.written new.written (prints 0 turns cut) → Writes
    all_written cut front wrote = part_is_front
        old.written new.written (prints 0 turns cut) (whole_text s) (all_is_part old.written new.written (prints 0 turns cut) wrote) front

    -- each line was answered
    none_written : (cut : Bool) (how : Status) → IsFront (prints 0 turns cut) (whole_text s) → Ends None cut how → Writes
    none_written cut Done front ends = all_written cut front ends.1
    none_written cut Script front ends = all_written cut front ends.1
    none_written cut ReadFault front ends = all_written cut front ends.1
    none_written cut WriteFault front ends = part_is_front old.written new.written (prints 0 turns cut) (whole_text s) ends front
    none_written cut DiskFault front ends = absurd ends
    none_written cut Refused front ends = absurd ends
    none_written cut Words front ends = absurd ends
    none_written cut Memory front ends = absurd ends
    none_written cut Found front ends = absurd ends

    -- the disk failed in the last one
    some_written : (f : Failing) (cut : Bool) (how : Status) → IsFront (prints 0 turns false) (whole_text s) → Ends (Some f) cut how → Writes
    some_written f cut DiskFault front ends = all_written false front (rw ends.0 at ends.1)
    some_written f cut WriteFault front ends = absurd (untold ends.2.step.untold)
    some_written f cut Refused front ends = absurd (untold ends.2.step.untold)
    some_written f cut Done front ends = absurd ends
    some_written f cut Script front ends = absurd ends
    some_written f cut ReadFault front ends = absurd ends
    some_written f cut Words front ends = absurd ends
    some_written f cut Memory front ends = absurd ends
    some_written f cut Found front ends = absurd ends

    written : (failing : Option Failing) (cut : Bool) → BeginsWithLines (line_bound layout) script_budget s.text (all_said turns
        ++ said_of failing) left rest → (cut ≡ true → IsRefused (line_bound layout) left rest) → Ends failing cut status → Writes
    written None cut begins refused ends =
        none_written cut status (printed_front left rest (rw (append-nil (all_said turns)) at begins) cut refused) ends
    written (Some f) cut begins refused ends =
        let some = begins_first (line_bound layout) script_budget s.text (all_said turns) (said_of (Some f)) left rest begins in
        some_written f cut status (printed_front some.0 some.1 some.2 false (λ is. absurd (cc))) ends

  all_is_front : AppendsPart old.written new.written (whole_text s)
  all_is_front = let ended = serves.session.text s.text s.left in
      written ended.0 ended.1 serves.session.failing serves.session.cut ended.2 ended.3.refused
      (subst (λ (o : Outside). EndsWith 0 (start opening.mended old opening.replica).outside
      o turns (act_of serves.session.failing) serves.session.cut status) serves.last_is serves.session.written)

pub front_is_written : FrontIsWritten
front_is_written pace layout t old new status s = all_is_front pace layout t old new status s
