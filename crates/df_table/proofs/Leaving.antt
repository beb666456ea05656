-- A session of which neither a prepare nor a step of a checkpoint comes leaves the table of its file, by each log by which the file is
-- kept.
use Rattle.std.proofs.Common.{◌≡◌, inl, inr, ℕ, zero, suc, List, [], ◌∷◌, ◌++◌, take, drop, Option, Some, None, refl, sym, subst}
use Rattle.df_base.{specs.{Image.{Image}, Log.{Event, Log, Sync}, Moments.{EachMoment, Extends}}, proofs.Laws.{extends_on, extends_self, one_some}}
use Rattle.{df_disk.specs.Told.{Told, did}, df_theory.specs.Device.{NoChanceOf, units_log}}
use Rattle.df_model.specs.{Commands.{Advance, Answer, Append, Command, Flush, Stage}, Work.{Work, kept}}
use Rattle.df_rows.specs.{declared.command.Command.{Command as Change}, Tables.{Table, with_commands}}
use Rattle.df_session.{specs.{Acknowledging.{HadAnswers, HadReturned, WereAnswered}, Anew.{begun_after}, Begun.{begun_work}, Below.{DataFile, State as Replica, told_after}, Keeping.{KeepsFile, over}, Links.{AreCalls, CallsMade, EndsCalls, More, NoCalls, events_made, list_of}, Serving.{Whole, format, next}, Session.{Act, Exchange, HasView, HoldsSome, IsMidway, acts_in}}, proofs.Laws.{added_is_told}}
use Rattle.df_table.{specs.{Keeping.{AreChanges, AreClients, Changes, IsClients, IsPending, IsTableMidway, KeepsFrom, LeaveTable, LeavesTable}, Laws.{LeavingKeepsTable}, Table.{HasTable}, Written.{IsTableIn}}, proofs.{Lasting.{grew, has_table, table_later}, Leads.{table_bare, table_stays}, Started.{shown_there, stands_shown, table_anew, table_at}, Stayed.{IsPlain, plain_stays}}}

-- ---- its commands

is_plain : (c : Command) → LeavesTable c → IsPlain c
is_plain (Append client request body) leaves = leaves
is_plain (Stage client request body) leaves = absurd leaves
is_plain Flush leaves = leaves
is_plain Advance leaves = leaves
is_plain c leaves = tt

is_clients : (c : Command) → LeavesTable c → IsClients c
is_clients (Append client request body) leaves = absurd leaves
is_clients (Stage client request body) leaves = leaves
is_clients Flush leaves = leaves
is_clients Advance leaves = absurd leaves
is_clients c leaves = tt

are_clients : (acts : List Act) → LeaveTable acts → AreClients acts
are_clients [] leave = tt
are_clients (a ∷ acts) leave = (is_clients a.command leave.0, are_clients acts leave.1)

-- ---- no put or drop is among them

none_of : (c : Command) (x : Answer) → LeavesTable c → Changes c x []
none_of (Append client request body) x leaves = absurd leaves
none_of c x leaves = refl

only_none : (c : Command) (x : Answer) (some : List Change) → LeavesTable c → Changes c x some → some ≡ []
only_none (Append client request body) x some leaves changes = absurd leaves
only_none c x some leaves changes = changes

are_none : (xs : List Exchange) (more : List Act) → LeaveTable (acts_in xs ++ more) → AreChanges xs []
are_none [] more leave = refl
are_none (x ∷ xs) more leave = ([], [], none_of x.act.command x.answer leave.0, are_none xs more leave.1, refl)

pending_none : (xs : List Exchange) (failed : Option Act) → LeaveTable (acts_in xs ++ list_of failed) → IsPending failed []
pending_none [] None leave = refl
pending_none [] (Some a) leave = none_of a.command _ leave.0
pending_none (x ∷ xs) failed leave = pending_none xs failed leave.1

both_none : (some more : List Change) → some ≡ [] → more ≡ [] → some ++ more ≡ []
both_none some more one two = subst (λ (l : List Change). l ++ more ≡ []) (sym one) two

only_nones : (xs : List Exchange) (more : List Act) (changes : List Change)
    → LeaveTable (acts_in xs ++ more) → AreChanges xs changes → changes ≡ []
only_nones [] more changes leave are = are
only_nones (x ∷ xs) more changes leave are = subst (λ (l : List Change). l ≡ [])
    (sym are.4) (both_none are.0 are.1 (only_none x.act.command x.answer are.0 leave.0 are.2) (only_nones xs more are.1 leave.1 are.3))

first_leave : (k : ℕ) (xs : List Exchange) (more : List Act) → LeaveTable (acts_in xs ++ more) → LeaveTable (acts_in (take k xs) ++ [])
first_leave zero [] more leave = tt
first_leave zero (x ∷ xs) more leave = tt
first_leave (suc k) [] more leave = tt
first_leave (suc k) (x ∷ xs) more leave = (leave.0, first_leave k xs more leave.1)

rest_leave : (k : ℕ) (xs : List Exchange) (more : List Act) → LeaveTable (acts_in xs ++ more) → LeaveTable (acts_in (drop k xs) ++ more)
rest_leave zero [] more leave = leave
rest_leave zero (x ∷ xs) more leave = leave
rest_leave (suc k) [] more leave = leave
rest_leave (suc k) (x ∷ xs) more leave = rest_leave k xs more leave.1

-- ---- a moment by which some were answered is one after their beginning

returned_since : (k : ℕ) (n : Told) (log : Log) {s : Replica} {old : Option Told} {xs : List Exchange} {r : Replica} {new : Option Told}
    (calls : AreCalls s old xs r new) → HadReturned k (Some n) log calls → Extends log n.log
returned_since zero n log calls had = had
returned_since (suc k) n log NoCalls had = absurd had
returned_since (suc k) n log (More u mid call rest) had = let later = told_after call.call.events n in
    extends_on log later.log n.log (returned_since k later log rest (rw (added_is_told call.call.events n) at had)) (grew call.call.events n)

answers_since : (k : ℕ) (n : Told) (log : Log) (s r : Replica) (old new : Option Told) (xs : List Exchange) (failed : Option Act)
    (calls : EndsCalls s r old new xs failed) → HadAnswers k (Some n) log s r old new xs failed calls → Extends log n.log
answers_since k n log s r old new xs None calls had = returned_since k n log calls had
answers_since k n log s r old new xs (Some a) calls had = returned_since k n log calls.2 had

pub were_since : (k : ℕ) (n : Told) (log : Log) (c : CallsMade) → WereAnswered k (Some n) log c → Extends log n.log
were_since k n log c were = answers_since k n log c.from c.to c.old c.new c.exchanges c.failed c.calls were

-- ---- the table

module _ (file : DataFile) (log : Log) (image : Image) (t : Table) (chance : NoChanceOf (format file) log image) where
  stays : (w : Work) → IsTableIn file (units_log (format file) log) (kept w) t → HasView file Whole w image → HasTable file t image
  stays w is has = has_table file
      log image has.0 t chance has.2.0 has.2.1 (table_bare file (units_log (format file) log) (kept w) has.0 t has.1.parts has.1.tail is)

  some_stays : (acts : List Act) (w : Work) → LeaveTable acts
      → IsTableIn file (units_log (format file) log) (kept w) t → HoldsSome file Whole w acts image → HasTable file t image
  some_stays [] w leave is has = stays w is has
  some_stays (a ∷ acts) w leave is (inl has) = stays w is has
  some_stays (a ∷ acts) w leave is (inr more) = let same = plain_stays file w a.given a.command (is_plain a.command leave.0) in
      some_stays acts (next file w a.given a.command).0 leave.1
      (table_stays file (units_log (format file) log) (kept w) (kept (next file w a.given a.command).0) t same.checkpoint same.tail is) more

module _ (file : DataFile) (w : Work)
    (t : Table) (base : Told) (mending : List Event) (c : CallsMade) (leave : LeaveTable (acts_in c.exchanges ++ list_of c.failed))
    (keeps : KeepsFile file Whole w base c.exchanges c.failed (over mending (events_made c) base))
    (is : IsTableIn file (units_log (format file) (did Sync base).log) (kept w) t) where
  abbrev pub end : Told
  end = told_after (events_made c) (told_after mending (did Sync base))

  abbrev acts : List Act
  acts = acts_in c.exchanges ++ list_of c.failed

  same : keeps.after ≡ end
  same = one_some (Some end) keeps.after end keeps.is refl

  barrier : Extends end.log (did Sync base).log
  barrier = subst (λ (x : Told). Extends x.log (did Sync base).log) same keeps.barrier

  moments : EachMoment (did Sync base).log end.log (IsTableMidway file t [])
  moments log moment = let mid : IsMidway file Whole w acts log =
      subst (λ (x : Told). EachMoment (did Sync base).log x.log (IsMidway file Whole w acts)) same keeps.moments log moment in
      let here = table_later file (did Sync base).log log (kept w) t moment.since is in
      record { safe = mid.safe; left = λ image left chance. (0, some_stays file log image t chance acts w leave here (mid.left image left chance)) }

  pub leaves_from : KeepsFrom file t base mending c [] [] end
  leaves_from = record {
    is = refl;
    moments = moments;
    answered = λ k log some more before behind had until. let since = extends_on log (told_after mending (did Sync base)).log
        (did Sync base).log (were_since k (told_after mending (did Sync base)) log c had) (grew mending (did Sync base)) in
        rw ((only_nones (take k c.exchanges) [] some (first_leave k c.exchanges (list_of c.failed) leave) before))
        (rw ((only_nones (drop k c.exchanges) (list_of c.failed) more (rest_leave k c.exchanges (list_of c.failed) leave) behind))
        (moments log (record { since = since; until = until })));
    end_safe = moments end.log (record { since = barrier; until = extends_self end.log });
  }

-- ---- a session

pub leaving_keeps_table : LeavingKeepsTable
leaving_keeps_table t s mended mending c calls leave = (
  record {
    changes = [];
    pending = [];
    are = are_none c.exchanges (list_of c.failed) leave;
    is_pending = pending_none c.exchanges c.failed leave;
    own = are_clients (acts_in c.exchanges ++ list_of c.failed) leave;
    keeps = λ view base table same may is. let w = begun_work s.file t.shown view in
        let stands = stands_shown s t view table (calls.stands view (shown_there s.file view base t same may)) is in
        let keeps = calls.keeps Whole view base same may stands in let there = table_bare s.file
        (units_log (format s.file) (did Sync base).log) view (kept w) table refl refl (table_at s.file view base t table same may is) in
        (end s.file w table base mending.events c leave keeps there, leaves_from s.file w table base mending.events c leave keeps there);
    anew = λ view table whole found distinct is. let w = begun_work s.file t.shown view in let base = begun_after mending.events t in
        let stands = stands_shown s t view table (calls.stands view found) is in
        let keeps = (calls.anew Whole view found distinct stands).keeps in
        let there = table_anew s.file t mended mending whole view (kept w) table refl refl is in
        (end s.file w table base [] c leave keeps there, leaves_from s.file w table base [] c leave keeps there);
  },
  refl,
  refl,
)
