-- After a line the table has no more rows than it may, and the session may take the next line.
use Rattle.std.{proofs.Common.{◌≡◌, inl, inr, ℕ, ◌+◌, ◌-◌, ◌*◌, ◌<◌, ◌≤◌, Bool, true, false, IsTrue, List, [], ◌∷◌, length, Option, Some, None, Ok, Err, cond, refl, sym, ◌∙◌, ap, subst, arith}, specs.{FinMap.{len-insert, len-remove}, Cmp.{nat_cmp_total}}}
use Rattle.std.specs.FinMap as map
use Rattle.{df_disk.specs.Told.{Told}, df_layout.specs.declared.layout.Layout.{Layout}, df_lines.specs.Room.{IsAtEnd, ReaderParts}}
use Rattle.df_rows.specs.declared.line.Line.TheVariants as lines
use Rattle.df_rows.specs.{declared.refusal.Refusal.{Refusal}, Answers.{refusal_of}, Grammar.{Count, Drop, Get, Put, Said}, Commands.{IsCommand}, Limits.{most_rows, rows_in_block}, Lines.{accepted, line_of_turn, table_after, unless_refused}, Tables.{HasRoom, Table, with_command, with_commands}, declared.command.Command.{Command}}
use Rattle.df_rows.specs.declared.command.Command.TheVariants as commands
use Rattle.df_table.{specs.{declared.ending.Ending.{Ending}, declared.session.Session.{Session}, declared.status.Status.{Status}, Outside.{Step, WritesTableText}, Calls.{IsChanged}, Ready.{IsReadyReplica, IsSteady, LeavesScript}, Serving.{ExecutesLine, IsReadyForNext, IsServing, OnGoing, TellsLine}, Statuses.{ending_text, status_of}}, proofs.{Blamed.{on_going, tells_line, told_line}, Executed.{changed_answers, changed_ends, get_none, put_may, told_answers}}}
use Rattle.{df_program.specs.declared.turn.Turn.TheVariants.{Ends, GoesOn as Goes}, df_session.specs.Below.{State as Replica}}

-- ---- rows

-- a row is put where there is room
insert_case : (b : Bool) (n max : ℕ) → (b ≡ false → n < max) → n ≤ max → cond b n (n + 1) ≤ max
insert_case true n max room few = few
insert_case false n max room few = omega (arith, room refl)

remove_case : (b : Bool) (n max : ℕ) → n ≤ max → cond b (n - 1) n ≤ max
remove_case true n max few = omega (arith, few)
remove_case false n max few = few

room_is : (t : Table) (key : ℕ) → HasRoom t key → map.contains_key t.rows key ≡ false → map.len t.rows < t.max
room_is t key (inl has) none = absurd (let no : false ≡ true = sym none ∙ has in cc)
room_is t key (inr room) none = room

pub put_few : (t : Table) (key : ℕ) (value : List ℕ) → HasRoom t key → map.len t.rows ≤ t.max → map.len (map.insert t.rows key value) ≤ t.max
put_few t key value room few = subst (λ (n : ℕ). n ≤ t.max) (sym (len-insert nat_cmp_total t.rows key value))
    (insert_case (map.contains_key t.rows key) (map.len t.rows) t.max (room_is t key room) few)

pub drop_few : (t : Table) (key : ℕ) → map.len t.rows ≤ t.max → map.len (map.remove t.rows key) ≤ t.max
drop_few t key few = subst (λ (n : ℕ).
    n ≤ t.max) (sym (len-remove nat_cmp_total t.rows key)) (remove_case (map.contains_key t.rows key) (map.len t.rows) t.max few)

-- the table after a line
pub record HasFew (max : ℕ) (t : Table) : Type 0 where
  pub max_is : t.max ≡ max
  pub few : map.len t.rows ≤ max

by_refusal : (t : Table) (cs : List Command) (o : Option Refusal)
    → HasFew t.max t → (o ≡ None → HasFew t.max (with_commands cs t)) → HasFew t.max (with_commands (unless_refused o cs) t)
by_refusal t cs None here done = done refl
by_refusal t cs (Some refusal) here done = here

behind_few : (t : Table) (said : Said) → map.len t.rows ≤ t.max → HasFew t.max (table_after t said)
behind_few t (Put key value) few =
    by_refusal t (commands.Put (key, value) ∷ []) (refusal_of t (lines.Put key (length value))) (record { max_is = refl; few = few })
    (λ fine. record { max_is = refl; few = put_few t key value (put_may t key (length value) fine).1 few })
behind_few t (Drop key) few = by_refusal t (commands.Drop key
    ∷ []) (refusal_of t (lines.Drop key)) (record { max_is = refl; few = few }) (λ fine. record { max_is = refl; few = drop_few t key few })
behind_few t (Get key) few =
    subst (λ (cs : List Command). HasFew t.max (with_commands cs t)) (sym (get_none t key)) (record { max_is = refl; few = few })
behind_few t Count few = record { max_is = refl; few = few }

-- after a line that was executed the table is as it has to be
pub steady_behind : (layout : Layout) (s t : Replica) (table later : Table) (said : Said)
    → IsSteady layout s table → IsReadyReplica layout t → later ≡ table_after table said → IsSteady layout t later
steady_behind layout s t table later said steady ready is = let few = behind_few table said (rw (sym steady.max) at steady.few) in
    let after = rw (sym is) at few in record { ready = ready; max = after.max_is ∙ steady.max; few = rw steady.max at after.few }

-- ---- a session

-- a line without a command was answered: nothing has changed
pub told_executes : (layout : Layout) (said : Said) (s : Session) (told : Option Told) (written took : Option (List ℕ)) (text : List ℕ) (turn : Step) → accepted s.table said ≡ [] → line_of_turn s.table s.replica.head said ≡ text → TellsLine text written took turn → s.replica.live ≡ true
    → ExecutesLine layout said s s told told written took turn
told_executes layout said s told written took text turn none text_is tells live = record {
  answers = λ steady. told_answers layout said s.replica told s.table written took none text turn text_is tells;
  steady = λ steady. on_going turn (IsSteady layout s.replica s.table) steady;
  live = on_going turn (s.replica.live ≡ true) live;
  behind_is = on_going turn (s.table ≡ table_after s.table said) (sym (ap (λ (cs : List Command). with_commands cs s.table) none));
  leaves = record { layout = refl; lines = refl; block = refl; count = refl };
  ends = tells_line text written took turn tells;
}

-- the next line was taken: the session may execute it
module _ (layout : Layout) (s : Session) (left more : Option (List ℕ)) (serving : IsServing layout s left) (room : ReaderParts) (bound : room.reading.bound ≡ s.lines.reading.bound) (at_end : (IsTrue s.lines.ended → IsAtEnd left) → IsTrue room.ended → IsAtEnd more) (less : room.reading.budget < s.lines.reading.budget) where
  pub taken_line : IsServing layout (record s { lines = room }) more
  taken_line = record {
    live = serving.live;
    block = serving.block;
    bound = bound ∙ serving.bound;
    count = omega (arith, serving.count, less);
    at_end = at_end serving.at_end;
  }

  -- and when it was executed, the next one
  module _ (now : Session) (leaves : LeavesScript (record s { lines = room }) now) where
    executed_on : now.replica.live ≡ true → IsServing layout (record now { count = now.count + 1 }) more
    executed_on live = record {
      live = live;
      block = rw (sym leaves.block) at serving.block;
      bound = ap (λ (r : ReaderParts). r.reading.bound) leaves.lines ∙ bound ∙ serving.bound;
      count = omega (arith, serving.count, less, leaves.count, ap (λ (r : ReaderParts). r.reading.budget) leaves.lines);
      at_end = rw (sym leaves.lines) at (at_end serving.at_end);
    }

    pub ready_next : s.layout ≡ layout → (turn : Step)
        → OnGoing turn (now.replica.live ≡ true) → OnGoing turn (IsReadyForNext s (record now { count = now.count + 1 }) more)
    ready_next of Goes live = record {
      layout = leaves.layout;
      serving = rw (sym of) at (executed_on live);
      budget = rw (sym leaves.lines) at less;
    }
    ready_next of (Ends status) live = tt

-- a line with a command was executed
module _ (layout : Layout) (said : Said) (c : Command) (old new : Session) (told later : Option Told)
    (written took : Option (List ℕ)) (asks : accepted old.table said ≡ c ∷ []) (fits : IsCommand c) (leaves : LeavesScript old new) where
  -- it was done, and its answer printed, or the sink failed
  pub done_executes : (op : ℕ) (text : List ℕ) (turn : Step) → (IsReadyReplica layout old.replica
      → map.len old.table.rows ≤ most_rows layout → IsChanged layout old.table.rows c old.replica new.replica told later (Ok op))
      → new.table ≡ with_command c old.table → new.replica.live ≡ true → (op ≡ old.replica.head + 1 → line_of_turn old.table
      old.replica.head said ≡ text) → TellsLine text written took turn → ExecutesLine layout said old new told later written took turn
  done_executes op text turn changed table live text_is tells =
      let behind_is : new.table ≡ table_after old.table said = table ∙ sym (ap (λ (cs : List Command). with_commands cs old.table) asks) in
      record {
        answers = λ steady. let done = changed steady.ready steady.few in changed_answers layout said c old.replica new.replica
            told later old.table new.table written took asks fits op text turn (text_is done.op) done.makes table done.head tells;
        steady = λ steady. on_going turn (IsSteady layout new.replica new.table) (steady_behind
            layout old.replica new.replica old.table new.table said steady (changed steady.ready steady.few).ready behind_is);
        live = on_going turn (new.replica.live ≡ true) live;
        behind_is = on_going turn (new.table ≡ table_after old.table said) behind_is;
        leaves = leaves;
        ends = tells_line text written took turn tells;
      }

  -- something ended the session within it
  pub ended_executes : (ending : Ending) (status : Status) → (IsReadyReplica layout old.replica → map.len old.table.rows ≤ most_rows layout → IsChanged layout old.table.rows c old.replica new.replica told later (Err ending)) → WritesTableText (ending_text ending) (status_of ending) written took status
      → ExecutesLine layout said old new told later written took (Ends status)
  ended_executes ending status changed wrote = record {
    answers = λ steady. changed_ends layout said c old.replica new.replica told later old.table new.table
        written took asks fits ℕ ending status (changed steady.ready steady.few).makes wrote (changed steady.ready steady.few).ends;
    steady = λ steady. tt;
    live = tt;
    behind_is = tt;
    leaves = leaves;
    ends = told_line ending written took status wrote;
  }
