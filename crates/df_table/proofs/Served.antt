-- A file that was opened is served: what the opening finds is that of what the disk showed at first, and all calls are calls on the file
-- that was opened.
use Rattle.std.proofs.{Common.{◌≡◌, inr, ℕ, ◌%◌, true, List, [], ◌∷◌, ◌++◌, Option, Some, None, Result, refl, sym, ◌∙◌, ap, subst, arith, lt-ltb}, Math.Nat.{mod-lt}, lemmas.Bool.{and_from, le-leb}}
use Rattle.{df_base.specs.Image.{IsImage}, df_disk.specs.Told.{Told}, df_theory.specs.{Found.{IsFound}, Units.{PreparePlace}, View.{View}}}
use Rattle.{df_layout.{specs.declared.layout.Layout.{Layout}, proofs.Laws.{some_slots}}, df_units.specs.Bytes.{unit_at}}
use Rattle.df_rows.specs.Tables.{Table}
use Rattle.df_session.{specs.{Begun.{begun_work}, Below.{IsOpened, State as Replica, memory, shape}, Agreeing.{AgreeShown}, Found.{FoundFile}, Laws.{CallsKeep}, Leaving.{IsReadPlace}, Links.{AreCalls, CallsMade, EndsCalls, NoCalls}, Opened.{MendsAll}, Reading.{shown_of}, Session.{Act, Exchange}}, proofs.Laws.{begun_here, calls_join, calls_keep, view_there}}
use Rattle.df_table.{specs.{declared.ending.Ending.{Ending}, declared.status.Status.{Status}, Opening.{FindsOf}, Outside.{Outside}, Ready.{IsBegun}, Run.{DoesTable, ServesTable}, Session.{AreCallsOf, Halt, HaltsIn, NotOpened, Served, ServesFoundTable, ServesLines, ServesOpened, halted_exchanges, halted_failed}, Turns.{AreTurns, NextTurn, NoTurns, TableTurn, table_exchanges}}, proofs.{Agreed.{AreInside, entries_inside, finds_of_same}, Begun.{begun_entries}, Joined.{ends_join}, Sessioned.{sessions_keep}}}

-- ---- all of its calls

turns_calls : (layout : Layout) (s : Replica) (old : Option Told) (t : Table) (turns : List TableTurn)
    (u : Replica) (new : Option Told) (v : Table) → AreTurns layout s old t turns u new v → AreCalls s old (table_exchanges turns) u new
turns_calls layout s old t [] u new v NoTurns = NoCalls
turns_calls layout s old t (x ∷ turns) u new v (NextTurn r mid steps are calls accepted_all fit rest) =
    calls_join s r u old mid new x.exchanges (table_exchanges turns) calls (turns_calls layout r mid _ turns u new v rest)

halt_calls : (layout : Layout) (s : Replica) (old : Option Told) (t : Table) (halt : Option Halt) (u : Replica) (new : Option Told)
    → (halts : HaltsIn layout s old t halt u new)
    → EndsCalls s u old new (halted_exchanges layout s old t halt u new halts) (halted_failed layout s old t halt u new halts)
halt_calls layout s old t None u new halts = subst (λ (r : Replica). AreCalls s old [] r new) (sym halts.0) (rw halts.1 NoCalls)
halt_calls layout s old t (Some h) u new halts = halts.1.calls

-- all of them, of a replica and over what a disk shows
record AllCalls (layout : Layout) (s : Replica) (told : Option Told) (old new : Outside) (status : Status) (opened : Result Table Ending) (serves : ServesFoundTable layout s told old new status opened) : Type 0 where
  to : Replica
  exchanges : List Exchange
  failed : Option Act
  calls : EndsCalls s to told new.told exchanges failed
  of : AreCallsOf layout s told old new
      status opened serves (record { from = s; to = to; old = told; new = new.told; exchanges = exchanges; failed = failed; calls = calls })

all_calls : (layout : Layout) (s : Replica) (told : Option Told) (old new : Outside) (status : Status) (opened : Result Table Ending)
    → (serves : ServesFoundTable layout s told old new status opened) → AllCalls layout s told old new status opened serves
all_calls layout s told old new status opened (NotOpened ending last ends unread writes) =
    record { to = last; exchanges = ends.exchanges; failed = ends.failed; calls = ends.calls; of = (refl, refl, refl, refl, refl) }
all_calls layout s told old new status opened (Served t u mid opens lines) =
    let turns = turns_calls layout u mid t lines.turns lines.replica lines.mid lines.table lines.are in
    let halts = halt_calls layout lines.replica lines.mid lines.table lines.halt lines.last new.told lines.halts in
    let halted = halted_exchanges layout lines.replica lines.mid lines.table lines.halt lines.last new.told lines.halts in
    let failed = halted_failed layout lines.replica lines.mid lines.table lines.halt lines.last new.told lines.halts in
    let behind = ends_join u lines.replica lines.last mid lines.mid new.told (table_exchanges lines.turns) halted failed turns halts in
    record {
      to = lines.last;
      exchanges = opens.exchanges ++ (table_exchanges lines.turns ++ halted);
      failed = failed;
      calls = ends_join s u lines.last told mid new.told opens.exchanges (table_exchanges lines.turns ++ halted) failed opens.calls behind;
      of = (refl, refl, refl, refl, refl);
    }

-- ---- what was around it

-- of what was outside before, the disk aside
module _ (layout : Layout) (s : Replica) (told : Option Told)
    (before old new : Outside) (status : Status) (left : before.left ≡ old.left) (written : before.written ≡ old.written) where
  same_outside : before ≡ record old { told = before.told }
  same_outside = λ i. record { told = before.told; left = left i; written = written i }

  lines_moved : (t : Table) (u : Replica) (mid : Option Told)
      → ServesLines layout t u mid (record old { told = before.told }) new status → ServesLines layout t u mid old new status
  lines_moved t u mid lines = record {
    turns = lines.turns;
    replica = lines.replica;
    mid = lines.mid;
    table = lines.table;
    are = lines.are;
    halt = lines.halt;
    cut = lines.cut;
    last = lines.last;
    halts = lines.halts;
    text = lines.text;
    written = lines.written;
  }

  there : (opened : Result Table Ending) → ServesFoundTable layout s told (record old { told = before.told }) new status opened
      → ServesFoundTable layout s told old new status opened
  there opened (NotOpened ending last ends unread writes) = NotOpened ending last ends unread writes
  there opened (Served t u mid opens lines) = Served t u mid opens (lines_moved t u mid lines)

  pub moved : (opened : Result Table Ending)
      → ServesFoundTable layout s told before new status opened → ServesFoundTable layout s told old new status opened
  moved opened serves = there opened (rw same_outside at serves)

-- ---- the file

module _ (layout : Layout) (t : Told) (s : Replica)
    (mended : Option Told) (whole : IsImage t.shown) (live : s.live ≡ true) (of : s.file.layout ≡ layout) (over : MendsAll t s mended) where
  pub opened_there : IsOpened layout t.shown over.found
  opened_there =
      subst (λ (l : Layout). IsOpened l t.shown over.found) (sym (ap (λ (r : Replica). r.file.layout) over.raised) ∙ of) (over.opened whole)

  abbrev found : FoundFile layout t
  found = record { found = over.found; is_opened = opened_there; replica = s; begun = inr over.raised; mended = mended; mending = over.mending }

  abbrev view : View
  view = found.is_opened.view

  is_found : IsFound (shape s.file) (unit_at s.file.layout s.file.cluster t.shown) view
  is_found = view_there layout t found

  -- the opening begins with it
  pub begun : IsBegun layout (begun_work s.file t.shown view) s
  begun = record { stands = begun_here t s mended over view whole is_found; layout_is = of; idle = refl; unstaged = refl; live = refl }

  -- what it finds over what the disk then shows it finds over what it showed at first
  slots_inside : (op : ℕ) → IsReadPlace s.file.layout (PreparePlace (op % s.file.layout.slots))
  slots_inside op = lt-ltb _ _ (mod-lt op (some_slots s.file.layout))

  blocks_inside : AreInside s.file.layout s.blocks.live
  blocks_inside = subst (AreInside s.file.layout) (sym (begun_entries layout (begun_work s.file t.shown view) s begun))
      (entries_inside s.file.layout (begun_work s.file t.shown view).live 1 layout.blocks (λ a from to.
      and_from _ _ (le-leb 1 a from) (le-leb a s.file.layout.blocks (omega (arith, to, ap (λ (l : Layout). l.blocks) of)))))

  finds_first : (mid : Told) (opened : Result Table Ending) → AgreeShown s.file.layout (shown_of s.file mid.shown) (shown_of s.file t.shown)
      → FindsOf layout (shown_of s.file mid.shown) (memory s) opened → FindsOf layout (shown_of s.file t.shown) (memory s) opened
  finds_first mid opened agree finds = subst (λ (l : Layout). FindsOf l (shown_of s.file t.shown) (memory s) opened) of
      (finds_of_same s.file.layout (shown_of s.file mid.shown) (shown_of s.file t.shown) agree (memory s)
      slots_inside blocks_inside opened (subst (λ (l : Layout). FindsOf l (shown_of s.file mid.shown) (memory s) opened) (sym of) finds))

  -- over what the disk then shows, which no read tells apart from what it showed at first
  module _ (mid : Told) (agree : AgreeShown s.file.layout (shown_of s.file mid.shown) (shown_of s.file t.shown)) (before old new : Outside)
      (status : Status) (there : before.told ≡ mended) (left : before.left ≡ old.left) (written : before.written ≡ old.written)
      (opens : ServesOpened layout s mid before new status) where
    serves : ServesFoundTable layout s mended old new status opens.opened
    serves = subst (λ (o : Option Told). ServesFoundTable layout s o old new status opens.opened)
        there (moved layout s before.told before old new status left written opens.opened opens.serves)

    all : AllCalls layout s mended old new status opens.opened serves
    all = all_calls layout s mended old new status opens.opened serves

    abbrev made : CallsMade
    made = record { from = s; to = all.to; old = mended; new = new.told; exchanges = all.exchanges; failed = all.failed; calls = all.calls }

    calls : CallsKeep t s mended over.mending made
    calls = calls_keep t s mended over all.to new.told all.exchanges all.failed all.calls whole live

    finds : FindsOf layout (shown_of s.file t.shown) (memory s) opens.opened
    finds = finds_first mid opens.opened agree opens.finds

    served : ServesTable layout t found old new status
    served = record {
      opened = opens.opened;
      finds = finds;
      serves = serves;
      made = made;
      of = all.of;
      calls = calls;
      keeps = sessions_keep layout t s mended over old new status opens.opened serves made whole live of finds all.of;
    }

    pub does : DoesTable layout t old new status
    does = inr (inr (found, served))
