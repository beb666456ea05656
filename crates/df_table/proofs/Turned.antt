-- Lines that were executed one after the other: what one more line, and what an end, makes of all of them.
use Rattle.std.proofs.Common.{◌≡◌, inl, inr, ◌+◌, ◌-◌, ℕ, Bool, false, List, [], ◌∷◌, ◌++◌, length, Option, Some, None, refl, sym, ◌∙◌, ap, subst, arith, append_assoc, append-nil, length-append}
use Rattle.{df_base.{specs.Streams.{Appends, AppendsPart}, proofs.Laws.{appends_more, appends_part}}, df_inspect.proofs.Laws.{appends_none}}
use Rattle.{df_disk.specs.Told.{Told}, df_layout.specs.declared.layout.Layout.{Layout}, df_session.specs.Below.{State as Replica}}
use Rattle.df_lines.specs.{Room.{line_bound}, Text.{after_line, taken}, Lines.{Begins, IsLine}}
use Rattle.df_rows.{specs.{Grammar.{Said, SaysTableLine}, Lines.{accepted, all_accepted, all_behind, line_of_turn, map_text, table_after}, Tables.{Table}}, proofs.Laws.{accepted_more, text_more}}
use Rattle.df_table.specs.{declared.ending.Ending.{Ending}, declared.status.Status.{Status}, declared.status.Status.TheVariants.{Done, WriteFault}, Outside.{WritesTableText}, Serving.{IsExecuted, ServingEnded, ServingEndsIn, ServingExecuted, ServingGoesOn, ServingState}, Session.{EndsTableText, ServingEndsWith, closing}, Statuses.{ending_text, status_of}, Turns.{AreFit, AreTurns, EndIn, IsOfCall, NextTurn, NoTurns, TableTurn, commands_of, table_said}}

-- ---- lines

pub said_more : (turns more : List TableTurn) → table_said (turns ++ more) ≡ table_said turns ++ table_said more
said_more [] more = refl
said_more (x ∷ turns) more = ap (λ (l : List Said). x.said ∷ l) (said_more turns more)

pub begins_more : (bound budget : ℕ) (text : List ℕ) (says : List Said) (left : ℕ) (rest : List ℕ) (said : Said)
    → Begins SaysTableLine bound budget text says left rest → IsLine SaysTableLine bound left rest said
    → Begins SaysTableLine bound budget text (says ++ said ∷ []) (left - taken rest) (after_line rest)
begins_more bound budget text [] left rest said begins is = (
  rw begins.0 at (rw begins.1 at is),
  ((λ i. begins.0 i - taken (begins.1 i)), λ i. after_line (begins.1 i)),
)
begins_more bound budget text (x ∷ says) left rest said begins is =
    (begins.0, begins_more bound (budget - taken text) (after_line text) says left rest said begins.1 is)

-- ---- turns

module _ (layout : Layout) where
  -- a line that was executed, as a turn
  abbrev pub turn_of : (said : Said) (s t : Replica) (old new : Option Told) (table later : Table)
      → IsExecuted layout said s t old new table later → TableTurn
  turn_of said s t old new table later e = record { said = said; exchanges = e.exchanges }

  turns_more : (turns : List TableTurn) (s u w : Replica) (old mid new : Option Told) (t v later : Table) (said : Said)
      → AreTurns layout s old t turns u mid v → (e : IsExecuted layout said u w mid new v later)
      → AreTurns layout s old t (turns ++ turn_of said u w mid new v later e ∷ []) w new later
  turns_more [] s u w old mid new t v later said NoTurns e =
      subst (λ (k : Table). AreTurns layout s old t (turn_of said s w old new t later e ∷ []) w new k)
      (sym e.behind_is) (NextTurn w new e.steps e.are e.calls e.accepted e.fit NoTurns)
  turns_more (x ∷ turns) s u w old mid new t v later said (NextTurn r between steps are calls accepted fit rest) e =
      NextTurn r between steps are calls accepted fit (turns_more turns r u w between mid new (table_after t x.said) v later said rest e)

  -- the table after them
  table_is : (turns : List TableTurn) (s u : Replica) (old new : Option Told) (t v : Table)
      → AreTurns layout s old t turns u new v → v ≡ all_behind t (table_said turns)
  table_is [] s u old new t v NoTurns = refl
  table_is (x ∷ turns) s u old new t v (NextTurn r mid steps are calls accepted fit rest) =
      table_is turns r u mid new (table_after t x.said) v rest

-- what the text, the budget and the lines are after a line
pub record Takes (bound : ℕ) (old : ServingState) (said : Said) (text : Option (List ℕ)) (budget : ℕ) (rest : List ℕ) : Type 0 where
  pub line : IsLine SaysTableLine bound old.budget rest said
  pub rest_is : text ≡ Some (after_line rest)
  pub budget_is : budget ≡ old.budget - taken rest

module _ (layout : Layout) (old new : ServingState) (said : Said) (takes : (rest : List ℕ) → old.text ≡ Some rest → Takes (line_bound layout) old said new.text new.budget rest) (origin : ServingState) (turns : List TableTurn) (before : ServingExecuted layout origin old turns) where
  -- a text that begins with all these lines
  begins_too : (text : List ℕ) → origin.text ≡ Some text → (rest : List ℕ)
      × (new.text ≡ Some rest) × Begins SaysTableLine (line_bound layout) origin.budget text (table_said turns ++ said ∷ []) new.budget rest
  begins_too text is = let so_far = before.text text is in let taken_is = takes so_far.0 so_far.1 in (
    after_line so_far.0,
    taken_is.rest_is,
    rw (sym taken_is.budget_is) at
        (begins_more (line_bound layout) origin.budget text (table_said turns) old.budget so_far.0 said so_far.2 taken_is.line),
  )

  module _ (e : IsExecuted layout said old.replica new.replica old.outside.told new.outside.told old.table new.table) where
    abbrev turn : TableTurn
    turn = turn_of layout said old.replica new.replica old.outside.told new.outside.told old.table new.table e

    all_is : table_said (turns ++ turn ∷ []) ≡ table_said turns ++ said ∷ []
    all_is = said_more turns (turn ∷ [])

    table_so_far : old.table ≡ all_behind origin.table (table_said turns)
    table_so_far = table_is layout turns origin.replica old.replica origin.outside.told old.outside.told origin.table old.table before.calls

    -- what a map answers to all of them
    text_is : map_text origin.table origin.replica.head (table_said (turns ++ turn ∷ []))
        ≡ map_text origin.table origin.replica.head (table_said turns) ++ line_of_turn old.table old.replica.head said
    text_is =
        ap (map_text origin.table origin.replica.head) all_is ∙ text_more origin.table origin.replica.head (table_said turns) (said ∷ [])
        ∙ ap (λ (l : List ℕ). map_text origin.table origin.replica.head (table_said turns) ++ l) (append-nil (line_of_turn
        (all_behind origin.table (table_said turns)) (origin.replica.head + length (all_accepted origin.table (table_said turns))) said)
        ∙ ap (λ (t : Table). line_of_turn t (origin.replica.head + length (all_accepted origin.table (table_said turns))) said)
        (sym table_so_far) ∙ ap (λ (n : ℕ). line_of_turn old.table n said) (sym before.head))

    calls_is : AreTurns layout origin.replica origin.outside.told origin.table (turns ++ turn ∷ []) new.replica new.outside.told new.table
    calls_is = turns_more layout turns origin.replica
        old.replica new.replica origin.outside.told old.outside.told new.outside.told origin.table old.table new.table said before.calls e

    head_is : new.replica.head ≡ origin.replica.head + length (all_accepted origin.table (table_said (turns ++ turn ∷ [])))
    head_is = let more = ap (all_accepted origin.table) all_is ∙ accepted_more origin.table (table_said turns) (said ∷ []) in let last =
        append-nil (accepted (all_behind origin.table (table_said turns)) said) ∙ ap (λ (t : Table). accepted t said) (sym table_so_far) in
        omega (arith, e.head, before.head, ap length more, length-append (all_accepted origin.table (table_said turns)) (all_accepted (all_behind origin.table (table_said turns)) (said ∷ [])), ap length last)

    lines_is : new.lines ≡ old.lines + 1 → new.lines ≡ origin.lines + length (turns ++ turn ∷ [])
    lines_is more = omega (arith, more, before.lines, length-append turns (turn ∷ []))

    -- it was executed and answered: all of them were
    pub executed_more : new.lines ≡ old.lines + 1 → Appends old.outside.written
        new.outside.written (line_of_turn old.table old.replica.head said) → ServingExecuted layout origin new (turns ++ turn ∷ [])
    executed_more more wrote = record {
      text = λ text is. let begins = begins_too text is in (begins.0, begins.1, rw (sym all_is) at begins.2);
      written = subst (Appends origin.outside.written new.outside.written) (sym text_is) (appends_more origin.outside.written old.outside.written new.outside.written (map_text origin.table origin.replica.head (table_said turns)) (line_of_turn old.table old.replica.head said) before.written wrote);
      lines = lines_is more;
      calls = calls_is;
      head = head_is;
    }

    -- it was executed, and the sink failed
    pub ends_unanswered : (status : Status) → status ≡ WriteFault → AppendsPart
        old.outside.written new.outside.written (line_of_turn old.table old.replica.head said) → ServingEnded layout origin new status
    ends_unanswered status fault wrote = record {
      turns = turns ++ turn ∷ [];
      replica = new.replica;
      mid = new.outside.told;
      table = new.table;
      are = calls_is;
      halt = None;
      cut = false;
      halts = (refl, refl);
      text = λ text is. let begins = begins_too text is in (
        new.budget,
        begins.0,
        rw (sym (append-nil (table_said (turns ++ turn ∷ [])) ∙ all_is)) at begins.2,
        record { refused = λ no. absurd (cc); held = λ no. absurd (cc); finished = λ done. absurd (let apart : WriteFault ≡ Done = sym fault ∙ done in cc) },
      );
      written = inr (
        fault,
        subst (AppendsPart origin.outside.written new.outside.written)
            (sym (append-nil (map_text origin.table origin.replica.head (table_said (turns ++ turn ∷ []))) ∙ text_is))
            (appends_part origin.outside.written old.outside.written new.outside.written (map_text
            origin.table origin.replica.head (table_said turns)) (line_of_turn old.table old.replica.head said) before.written wrote),
      );
    }

  -- something ended it within the line
  pub ends_within : (ending : Ending) (steps : ℕ) (status : Status)
      → EndIn (commands_of layout old.replica old.table steps said) old.replica new.replica old.outside.told new.outside.told ending
      → WritesTableText (ending_text ending) (status_of ending) old.outside.written new.outside.written status
      → (status ≡ Done → ⊥) → AreFit (accepted old.table said) → IsOfCall new.outside.told ending → ServingEnded layout origin new status
  ends_within ending steps status ends wrote undone fit of_call = record {
    turns = turns;
    replica = old.replica;
    mid = old.outside.told;
    table = old.table;
    are = before.calls;
    halt = Some (record { said = said; ending = ending });
    cut = false;
    halts = (steps, ends, fit, of_call);
    text = λ text is. let begins = begins_too text is in
        (new.budget, begins.0, begins.2, record { refused = λ no. absurd (cc); held = λ no. absurd (cc); finished = λ done. absurd (undone done) });
    written = elim wrote [
      | inl told ↦ inl ((refl, told.0), appends_more origin.outside.written old.outside.written new.outside.written (map_text origin.table origin.replica.head (table_said turns)) (ending_text ending) before.written told.1)
      | inr fails ↦ inr (fails.0, appends_part origin.outside.written old.outside.written new.outside.written (map_text origin.table origin.replica.head (table_said turns)) (ending_text ending) before.written fails.1)
    ];
  }

-- ---- an end between two lines

module _ (layout : Layout)
    (old new : ServingState) (cut : Bool) (status : Status) (same : new.outside.told ≡ old.outside.told) (one : new.replica ≡ old.replica)
    (ends : (rest : List ℕ) → old.text ≡ Some rest → EndsTableText (line_bound layout) old.budget rest new.outside.left cut status)
    (wrote : ServingEndsWith (closing old.lines None cut) None cut old.outside.written new.outside.written status) where
  pub ends_between : ServingEndsIn layout old new status
  ends_between = λ origin turns before. record {
    turns = turns;
    replica = old.replica;
    mid = old.outside.told;
    table = old.table;
    are = before.calls;
    halt = None;
    cut = cut;
    halts = (one, same);
    text = λ text is. let so_far = before.text text is in
        (old.budget, so_far.0, rw (sym (append-nil (table_said turns))) at so_far.2, ends so_far.0 so_far.1);
    written = closes origin turns before wrote;
  }
    where
      closes : (origin : ServingState) (turns : List TableTurn) → ServingExecuted layout origin old turns
          → ServingEndsWith (closing old.lines None cut) None cut old.outside.written new.outside.written status
          → ServingEndsWith (map_text origin.table origin.replica.head (table_said turns)
          ++ closing (origin.lines + length turns) None cut) None cut origin.outside.written new.outside.written status
      closes origin turns before told = let all = map_text origin.table origin.replica.head (table_said turns) in
          subst (λ (n : ℕ). ServingEndsWith (all ++ closing n None cut) None cut origin.outside.written new.outside.written status) before.lines
          (elim told [
            | inl whole ↦ inl (whole.0, appends_more origin.outside.written old.outside.written new.outside.written all (closing old.lines None cut) before.written whole.1)
            | inr part ↦ inr (part.0, appends_part origin.outside.written old.outside.written new.outside.written all (closing old.lines None cut) before.written part.1)
          ])

-- ---- all lines

pub goes_on_more : (layout : Layout) (old mid new : ServingState)
    → ServingGoesOn layout old mid → ServingGoesOn layout mid new → ServingGoesOn layout old new
goes_on_more layout old mid new one two = λ origin turns before. let first = one origin turns before in
    let second = two origin (turns ++ first.0) first.1 in (first.0 ++ second.0, rw (append_assoc turns first.0 second.0) at second.1)

pub ends_later : (layout : Layout) (old mid new : ServingState) (status : Status)
    → ServingGoesOn layout old mid → ServingEndsIn layout mid new status → ServingEndsIn layout old new status
ends_later layout old mid new status one two = λ origin turns before. let first = one origin turns before in
    two origin (turns ++ first.0) first.1

pub goes_none : (layout : Layout) (s : ServingState) → ServingGoesOn layout s s
goes_none layout s = λ origin turns before. ([], rw (sym (append-nil turns)) at before)

executed_none : (layout : Layout) (s : ServingState) → ServingExecuted layout s s []
executed_none layout s = record {
  text = λ text is. (text, is, (refl, refl));
  written = appends_none s.outside.written;
  lines = omega arith;
  calls = NoTurns;
  head = omega arith;
}

pub ended_all : (layout : Layout) (start mid new : ServingState) (status : Status)
    → ServingGoesOn layout start mid → ServingEndsIn layout mid new status → ServingEnded layout start new status
ended_all layout start mid new status goes ends = ends_later layout start mid new status goes ends start [] (executed_none layout start)
