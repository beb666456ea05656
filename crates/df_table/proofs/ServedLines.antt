-- A session that was just opened, over a script that nothing was read of: what its lines come to is what the script is served by.
use Rattle.std.{proofs.Common.{◌≡◌, inl, inr, ℕ, ◌+◌, ◌≤◌, List, [], ◌∷◌, ◌++◌, length, Option, Some, Result, Ok, Err, refl, sym, ◌∙◌, ap, subst, arith}, specs.FinMap.{len-empty}}
use Rattle.std.specs.FinMap as map
use Rattle.{df_disk.specs.Told.{Told}, df_layout.specs.declared.layout.Layout.{Layout}, df_model.specs.{Memory.{Memory}, Supply.{Shown}}}
use Rattle.df_lines.{specs.{Room.{IsFresh, line_bound}, Text.{Reading, unread}, Lines.{Begins}}, proofs.Laws.{unread_none}}
use Rattle.{df_theory.specs.Units.{Message}, df_session.specs.Below.{State as Replica}}
use Rattle.df_rows.specs.{declared.command.Command.{Command}, declared.command.Command.TheVariants.{Drop, Put}, Blocks.{TakesAll}, Limits.{most_rows}, Lines.{map_text}, Rows.{Entry}, Grammar.{SaysTableLine}, Tables.{AreNew, CanApply, Table, with_command, with_commands, with_row, with_rows}}
use Rattle.df_table.{specs.{declared.ending.Ending.{Ending}, declared.ending.Ending.TheVariants.{Disk}, declared.session.Session.{Session}, declared.status.Status.{Status}, Opening.{AreFollowed, BlockHurt, FindsOf, FindsTable, Found, OtherBlock, OtherClient, OtherPrepare, PrepareHurt}, Outside.{Outside}, Ready.{IsReadyReplica, IsSteady}, Serving.{ServingEnded, state}, Session.{ServesLines, ServingEndsWith, closing, said_in, script_budget}, Table.{FollowAll, empty_table}, Turns.{TableTurn, table_said}}, proofs.{Behind.{HasFew, drop_few, put_few}, FoundTable.{unok}}}

-- one line a turn
as_many : (turns : List TableTurn) → length turns ≡ length (table_said turns)
as_many [] = refl
as_many (x ∷ turns) = omega (arith, as_many turns)

module _ (layout : Layout) (mid : Option Told)
    (before after : Outside) (s now : Session) (status : Status) (fresh : IsFresh (line_bound layout) s.lines) (none : s.count ≡ 0)
    (e : ServingEnded layout (state (record { told = mid; left = before.left; written = before.written }) s) (state after now) status) where
  counted : s.count + length e.turns ≡ length (table_said e.turns)
  counted = omega (arith, none, as_many e.turns)

  budget_is : s.lines.reading.budget ≡ script_budget
  budget_is = ap (λ (r : Reading). r.budget) fresh.reading

  text_is : (text : List ℕ) → before.left ≡ Some text → unread s.lines.reading.held before.left ≡ Some text
  text_is text is = ap (λ (r : Reading). unread r.held before.left) fresh.reading ∙ unread_none before.left ∙ is

  pub lines_served : ServesLines layout s.table s.replica mid before after status
  lines_served = record {
    turns = e.turns;
    are = e.are;
    halts = e.halts;
    text = λ text is. let so = e.text text (text_is text is) in (so.0, so.1, rw (← budget_is) so.2, so.3);
    replica = e.replica;
    mid = e.mid;
    table = e.table;
    halt = e.halt;
    written = rw counted at e.written;
    cut = e.cut;
    last = now.replica;
  }

-- ---- the table that was found

new_few : (max : ℕ) (t : Table) (es : List Entry) → AreNew es t → HasFew max t → HasFew max (with_rows es t)
new_few max t [] new few = few
new_few max t (e ∷ es) new few = new_few max (with_row e t) es
    new.1 (record { max_is = few.max_is; few = rw few.max_is at (put_few t e.0 e.1 (inr new.0.room) (omega (arith, few.few, few.max_is))) })

pub takes_few : (max : ℕ) (t u : Table) (bodies : List (List ℕ)) → TakesAll t bodies u → HasFew max t → HasFew max u
takes_few max t u [] takes few = subst (λ (x : Table). HasFew max x) (sym takes) few
takes_few max t u (body ∷ bodies) takes few = takes_few max (with_rows takes.0 t) u bodies takes.2 (new_few max t takes.0 takes.1.new few)

command_few : (max : ℕ) (t : Table) (c : Command) → CanApply t c → HasFew max t → HasFew max (with_command c t)
command_few max t (Put e) room few =
    record { max_is = few.max_is; few = rw few.max_is at (put_few t e.0 e.1 room (omega (arith, few.few, few.max_is))) }
command_few max t (Drop key) room few =
    record { max_is = few.max_is; few = rw few.max_is at (drop_few t key (omega (arith, few.few, few.max_is))) }

pub follow_few : (max : ℕ) (t : Table) (ps : List Message) (cs : List Command)
    → FollowAll t ps cs → HasFew max t → HasFew max (with_commands cs t)
follow_few max t [] [] follow few = few
follow_few max t [] (c ∷ cs) follow few = absurd follow
follow_few max t (p ∷ ps) [] follow few = absurd follow
follow_few max t (p ∷ ps) (c ∷ cs) follow few = follow_few max (with_command c t) ps cs follow.1 (command_few max t c follow.0.room few)

pub empty_few : (layout : Layout) → HasFew (most_rows layout) (empty_table layout)
empty_few layout = record { max_is = refl; few = omega (arith, len-empty) }

followed_few : (layout : Layout) (shown : Shown) (m : Memory) (op : ℕ) (t : Table)
    → AreFollowed layout shown m op t → HasFew (most_rows layout) t
followed_few layout shown m op t are =
    subst (λ (x : Table). HasFew (most_rows layout) x) (sym are.is) (follow_few (most_rows layout) are.base are.prepares are.commands
    are.follow (takes_few (most_rows layout) (empty_table layout) are.base are.blocks.bodies are.blocks.taken (empty_few layout)))

no_disk : (x : Table) (r : Result Table Ending) → r ≡ Ok x → r ≡ Err Disk → ⊥
no_disk x r one two = cc

finds_few : (layout : Layout) (shown : Shown) (m : Memory) (t : Table) (r : Result Table Ending)
    → r ≡ Ok t → FindsTable layout shown m r → HasFew (most_rows layout) t
finds_few layout shown m t r is (Found u are) = let same : u ≡ t = unok u t (Ok u) refl is in
    subst (λ (x : Table). HasFew (most_rows layout) x) same (followed_few layout shown m m.head u are)
finds_few layout shown m t r is (OtherClient place other none) = absurd (cc (is))
finds_few layout shown m t r is (BlockHurt x rest u class taken hurt) = absurd (cc (is))
finds_few layout shown m t r is (OtherBlock x rest u b taken read norows) = absurd (cc (is))
finds_few layout shown m t r is (PrepareHurt op u class are less hurt) = absurd (cc (is))
finds_few layout shown m t r is (OtherPrepare op u p are less read none) = absurd (cc (is))

pub found_steady : (layout : Layout) (shown : Shown) (m : Memory) (t : Table) (s : Replica)
    → FindsOf layout shown m (Ok t) → IsReadyReplica layout s → IsSteady layout s t
found_steady layout shown m t s (inl failed) ready = absurd (no_disk t (Ok t) refl failed)
found_steady layout shown m t s (inr finds) ready = let few = finds_few layout shown m t (Ok t) refl finds in
    record { ready = ready; max = few.max_is; few = few.few }
