-- What is kept of a table by the calls of a session, by each log by which the file might be opened: so it is of a session, whatever ended
-- it.
use Rattle.std.proofs.Common.{◌≡◌, inl, inr, ℕ, true, List, [], ◌++◌, take, drop, Option, Some, None, Result, Ok, Err, refl, sym, ◌∙◌, ap, subst}
use Rattle.df_base.{specs.{Image.{IsImage}, Log.{Event, Log, Sync}, Moments.{EachMoment, Extends}}, proofs.Laws.{started}}
use Rattle.{df_disk.specs.Told.{Told, did}, df_layout.specs.declared.layout.Layout.{Layout}, df_theory.specs.{Found.{IsFound}, View.{View}}}
use Rattle.{df_units.specs.Bytes.{unit_at}, df_model.specs.{Memory.{Memory}, Work.{Work}}}
use Rattle.df_rows.specs.{declared.command.Command.{Command as Change}, Tables.{Table, with_commands}}
use Rattle.df_session.{specs.{Acknowledging.{HadAnswers, WereAnswered}, Anew.{begun_after}, Begun.{begun_work}, Below.{DataFile, State as Replica, memory, shape, told_after}, Found.{FoundFile}, Links.{CallsMade, EndsCalls, call_events, events_made, events_to}, Opened.{MendsAll}, Reading.{shown_of}, Serving.{Firm, Keeps}, Session.{Act, Exchange}}, proofs.Laws.{begun_here, told_append, joined}}
use Rattle.df_table.{specs.{declared.ending.Ending.{Ending}, declared.ending.Ending.TheVariants.{Disk}, declared.status.Status.{Status}, Keeping.{AreChanges, IsPending, IsTableMidway, KeepsFrom, KeepsTable}, Opening.{FindsOf, FindsTable}, Outside.{Outside}, Policy.{opening}, Run.{ServesTable}, Session.{AreCallsOf, NotOpened, Served, ServesFoundTable, halted_exchanges, halted_failed}, Table.{IsObjectTable}, Turns.{table_exchanges}}, proofs.{Asking.{CallsHave, FailHas, asked_have, asks_ends, asks_made, calls_have, changes_there, clients_in, opening_has, pending_there}, FoundTable.{found_is_table}, Lasting.{At, at_end, each_moment, from_answer, grew, mid_kept}, Started.{at_anew, at_begin, found_there, mending_moments}, Tabled.{acts_stand, lines_have, lines_kept, opening_then, opening_to_end}, Tables.{table_is_one}, Walked.{KeptAll}}}

-- ---- all calls, the last of which perhaps failed

module _ (file : DataFile) (from to : Replica) (old new : Option Told) (xs : List Exchange)
    (w : Work) (n : Told) (t : Table) (at : At file from w n t) (changes pending : List Change) (are : AreChanges xs changes) where
  abbrev AllKept : Option Act → Type 0
  AllKept failed = (u : Replica) (mid : Option Told) → KeptAll file failed u mid from old w n t xs

  abbrev last : (failed : Option Act) → EndsCalls from to old new xs failed → Told
  last failed calls = told_after (events_to from to old new xs failed calls) n

  moments_all : (failed : Option Act) (calls : EndsCalls from to old new xs failed)
      → AllKept failed → IsPending failed pending → EachMoment n.log (last failed calls).log (IsTableMidway file t (changes ++ pending))
  moments_all None calls kept is = each_moment file None to to new new pending is tt xs from old calls w n t changes at (kept to new calls) are
  moments_all (Some a) calls kept is = subst (λ (o : Told).
      EachMoment n.log o.log (IsTableMidway file t (changes ++ pending))) (sym (told_append (call_events calls.2) calls.3.call.events n))
      (each_moment
      file (Some a) calls.0 to calls.1 new pending is calls.3 xs from old calls.2 w n t changes at (kept calls.0 calls.1 calls.2) are)

  end_all : (failed : Option Act) (calls : EndsCalls from to old new xs failed)
      → AllKept failed → IsPending failed pending → IsTableMidway file (with_commands changes t) pending (last failed calls).log
  end_all None calls kept is = at_end file None to to new new pending is tt xs from old calls w n t changes at (kept to new calls) are
  end_all (Some a) calls kept is = subst (λ (o : Told).
      IsTableMidway file (with_commands changes t) pending o.log) (sym (told_append (call_events calls.2) calls.3.call.events n))
      (at_end file (Some a) calls.0 to calls.1 new pending is calls.3 xs from old calls.2 w n t changes at (kept calls.0 calls.1 calls.2) are)

  answered_all : (failed : Option Act) (calls : EndsCalls from to old new xs failed) → AllKept failed
      → IsPending failed pending → (k : ℕ) (log : Log) (some more : List Change) → AreChanges (take k xs) some → AreChanges (drop k xs) more
      → HadAnswers k (Some n) log from to old new xs failed calls
      → Extends (last failed calls).log log → IsTableMidway file (with_commands some t) (more ++ pending) log
  answered_all None calls kept is k log some more before after had until = from_answer
      file None to to new new pending is tt k xs from old calls w n t some more log at (kept to new calls) before after had until
  answered_all (Some a) calls kept is k log some more before after had until = from_answer file (Some a)
      calls.0 to calls.1 new pending is calls.3 k xs from old calls.2 w n t some more log at (kept calls.0 calls.1 calls.2) before after had
      (rw (← (told_append (call_events calls.2) calls.3.call.events n)) until)

-- ---- after an open

module _ (t : Told) (s : Replica) (mended : Option Told) (over : MendsAll t s mended) (whole : IsImage t.shown) (live : s.live ≡ true) where
  abbrev begins : Told → Told
  begins base = told_after over.mending.events (did Sync base)

  -- these calls, however they were made, leave the table or change it by their commands
  abbrev EachKept : List Exchange → Option Act → Type 0
  EachKept xs failed = (u : Replica) (mid : Option Told) (view : View) (n : Told) (table : Table) → IsFound (shape s.file) (unit_at
      s.file.layout s.file.cluster t.shown) view → IsObjectTable s.file (unit_at s.file.layout s.file.cluster t.shown) view table
      → At s.file s (begun_work s.file t.shown view) n table → KeptAll s.file failed u mid s mended (begun_work s.file t.shown view) n table xs

  module _ (made : CallsMade) (xs : List Exchange) (failed : Option Act)
      (from_is : made.from ≡ s) (old_is : made.old ≡ mended) (exchanges_is : made.exchanges ≡ xs) (failed_is : made.failed ≡ failed)
      (have : CallsHave made.exchanges × FailHas made.failed) (each : EachKept xs failed) where
    abbrev there : (changes : List Change) × AreChanges made.exchanges changes
    there = changes_there made.exchanges have.0

    abbrev pends : (pending : List Change) × IsPending made.failed pending
    pends = pending_there made.failed have.1

    made_kept : (u : Replica) (mid : Option Told) (w : Work) (n : Told) (table : Table)
        → KeptAll s.file failed u mid s mended w n table xs → KeptAll s.file made.failed u mid made.from made.old w n table made.exchanges
    made_kept u mid w n table kept =
        subst (λ (f : Option Act). KeptAll s.file f u mid made.from made.old w n table made.exchanges) (sym failed_is) (rw from_is
        (rw (sym old_is) at (subst (KeptAll s.file failed u mid s mended w n table) (sym exchanges_is) kept)))

    -- from what the table is there on, whatever was told before
    module _ (view : View) (n : Told) (table : Table) (found : IsFound (shape s.file) (unit_at s.file.layout s.file.cluster t.shown) view)
        (is : IsObjectTable s.file (unit_at s.file.layout s.file.cluster t.shown) view table)
        (begun : At s.file s (begun_work s.file t.shown view) n table) where
      abbrev w : Work
      w = begun_work s.file t.shown view

      abbrev pub after : Told
      after = told_after (events_made made) n

      at : At s.file made.from w n table
      at = subst (λ (r : Replica). At s.file r w n table) (sym from_is) begun

      kept : (u : Replica) (mid : Option Told) → KeptAll s.file made.failed u mid made.from made.old w n table made.exchanges
      kept u mid = made_kept u mid w n table (each u mid view n table found is begun)

      pub kept_from : (base : Told) (mending : List Event) → told_after mending (did Sync base) ≡ n → EachMoment (did Sync base).log
          n.log (IsTableMidway s.file table (there.0 ++ pends.0)) → KeepsFrom s.file table base mending made there.0 pends.0 after
      kept_from base mending same opens = record {
        is = ap (λ (o : Told). Some (told_after (events_made made) o)) same;
        moments =
            joined (did Sync base).log n.log after.log (IsTableMidway s.file table (there.0 ++ pends.0)) (grew (events_made made) n) opens
            (moments_all s.file
            made.from made.to made.old made.new made.exchanges w n table at there.0 pends.0 there.1 made.failed made.calls kept pends.1);
        answered = λ k log some more before behind had until. answered_all s.file made.from made.to made.old
            made.new made.exchanges w n table at there.0 pends.0 there.1 made.failed made.calls kept pends.1 k log some more before behind
            (rw same at had) until;
        end_safe = end_all s.file
            made.from made.to made.old made.new made.exchanges w n table at there.0 pends.0 there.1 made.failed made.calls kept pends.1;
      }

    pub keeps_table : KeepsTable t s over.mending.events made
    keeps_table = record {
      changes = there.0;
      pending = pends.0;
      are = there.1;
      is_pending = pends.1;
      own = clients_in made.exchanges made.failed have.0 have.1;
      keeps = λ view base table same may is. let n = begins base in
          let found = found_there t s mended over whole live view base table same may is in
          let at = at_begin t s mended over whole live view base table same may is in (
            after view n table found is at,
            kept_from view n table found is at
                base over.mending.events refl (mending_moments t s mended over whole live view base table same may is (there.0 ++ pends.0)),
          );
      anew = λ view table image found distinct is. let base = begun_after over.mending.events t in let n = did Sync base in
          let at = at_anew t s mended over whole live view table found distinct is in (
            after view n table found is at,
            kept_from view n table found is at base [] refl (started n.log (IsTableMidway s.file table (there.0 ++ pends.0))
                (mid_kept s.file s (begun_work s.file t.shown view) n table (there.0 ++ pends.0) at)),
          );
    }

-- ---- a session

-- what is told before its calls, and after them
pub called_told : (layout : Layout) (s : Replica) (told : Option Told) (old new : Outside) (status : Status) (opened : Result Table Ending) (serves : ServesFoundTable layout s told old new status opened) (c : CallsMade) → AreCallsOf layout s told old new status opened serves c → (c.old ≡ told) × (c.new ≡ new.told)
called_told layout s told old new status opened (NotOpened ending last ends unread writes) c are = (are.1, are.2)
called_told layout s told old new status opened (Served found r mid opens lines) c are = (are.1, are.2)

-- and the replica on which they were made
called_from : (layout : Layout) (s : Replica) (told : Option Told) (old new : Outside) (status : Status) (opened : Result Table Ending) (serves : ServesFoundTable layout s told old new status opened) (c : CallsMade) → AreCallsOf layout s told old new status opened serves c → c.from ≡ s
called_from layout s told old new status opened (NotOpened ending last ends unread writes) c are = are.0
called_from layout s told old new status opened (Served found r mid opens lines) c are = are.0

-- so the calls of a run of the table were made on what was found
pub made_on_found : (layout : Layout)
    (t : Told) (found : FoundFile layout t) (old new : Outside) (status : Status) (serves : ServesTable layout t found old new status)
    → (serves.made.from ≡ found.replica) × (serves.made.old ≡ found.mended) × (serves.made.new ≡ new.told)
made_on_found layout t found old new status serves =
    let told = called_told layout found.replica found.mended old new status serves.opened serves.serves serves.made serves.of in
    (called_from layout found.replica found.mended old new status serves.opened serves.serves serves.made serves.of, told.0, told.1)

-- a table's program asks for each of them
pub called_have : (layout : Layout) (s : Replica) (told : Option Told) (old new : Outside) (status : Status) (opened : Result Table Ending) (serves : ServesFoundTable layout s told old new status opened) (c : CallsMade) → AreCallsOf layout s told old new status opened serves c → CallsHave c.exchanges × FailHas c.failed
called_have layout s told old new status opened (NotOpened ending last ends unread writes) c are =
    let have = asked_have (Unit {0}) ends.failed
    (opening (memory s)) ends.exchanges (asks_ends (opening (memory s)) s last told new.told ending ends) (opening_has (memory s)) in
    (subst CallsHave (sym are.3) have.0, subst FailHas (sym are.4) have.1)
called_have layout s told old new status opened (Served found r mid opens lines) c are =
    let asks = asks_made (opening (memory s)) opens.exchanges opens.are opens.accepted in
    let first = asked_have ⊥ None (opening (memory s)) opens.exchanges asks (opening_has (memory s)) in let rest =
    lines_have layout lines.turns r lines.replica lines.last mid lines.mid new.told found lines.table lines.halt lines.are lines.halts in
    (subst CallsHave (sym are.3) (calls_have opens.exchanges _ first.0 rest.0), subst FailHas (sym are.4) rest.1)

-- of all calls of a session the table is kept
abbrev pub SessionsKeepTable : Type 0
SessionsKeepTable =
    (layout : Layout) (t : Told) (s : Replica) (mended : Option Told) (over : MendsAll t s mended) (old new : Outside) (status : Status)
    (opened : Result Table Ending) (serves : ServesFoundTable layout s mended old new status opened) (made : CallsMade)
    → IsImage t.shown → s.live ≡ true → s.file.layout ≡ layout → FindsOf layout (shown_of s.file t.shown) (memory s) opened
    → AreCallsOf layout s mended old new status opened serves made → KeepsTable t s over.mending.events made

no_disk : (x : Table) → Ok x ≡ Err Disk → ⊥
no_disk x is = cc

pub sessions_keep : SessionsKeepTable
sessions_keep layout t s mended over old new status opened (NotOpened ending last ends unread writes) made whole live own finds are =
    let asks = asks_ends (opening (memory s)) s last mended new.told ending ends in
    keeps_table t s mended over whole live made ends.exchanges ends.failed
    are.0 are.1 are.3 are.4 (called_have layout s mended old new status opened (NotOpened ending last ends unread writes) made are)
    (λ u mid view n table there is at.
    opening_to_end s.file ends.failed u mid s mended (begun_work s.file t.shown view) n table at ends.exchanges (memory s) asks)
sessions_keep layout t s mended over old new status opened (Served found r mid opens lines) made whole live own finds are =
    let halted = halted_exchanges layout lines.replica lines.mid lines.table lines.halt lines.last new.told lines.halts in
    let failed = halted_failed layout lines.replica lines.mid lines.table lines.halt lines.last new.told lines.halts in
    let asks = asks_made (opening (memory s)) opens.exchanges opens.are opens.accepted in
    keeps_table t s mended over whole live made (opens.exchanges ++ (table_exchanges lines.turns ++ halted)) failed are.0 are.1 are.3 are.4
    (called_have layout s mended old new status opened (Served found r mid opens lines) made are) (λ u new_told view n table there is at.
    let w = begun_work s.file t.shown view in let stands : Keeps Firm s w None = begun_here t s mended over view whole there in
    let one : table ≡ found = elim finds [
      | inl disk ↦ absurd (no_disk found disk)
      | inr finds_it ↦ table_is_one s.file (unit_at s.file.layout s.file.cluster t.shown) view table found is
          (found_is_table s.file t view found whole there (rw stands.1 at (rw (sym own) at finds_it)))
    ] in let behind = acts_stand s.file opens.exchanges s r mended mid opens.calls w refl stands in
    opening_then s.file failed u new_told s mended w n table at opens.exchanges (table_exchanges lines.turns ++ halted) (memory s) asks
    (λ s' old' w' n' t' here so work. lines_kept s.file u new_told layout own lines.turns r lines.replica lines.last mid lines.mid
    new.told found lines.table lines.halt lines.are lines.halts behind.0 s' old' w' n' t' here (so ∙ one) (rw (sym work) at behind.1)))
