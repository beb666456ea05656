-- Calls that were made, each of which leaves the table as it was, or changes it by its command: so it is at each moment of them.
use Rattle.std.proofs.Common.{◌≡◌, inl, inr, ℕ, zero, suc, true, List, [], ◌∷◌, ◌++◌, length, take, drop, Option, Some, None, Ok, refl, sym, ◌∙◌, ap, subst, append_assoc}
use Rattle.df_base.{specs.{Image.{Image}, Log.{Event, Log, add}, Moments.{EachMoment, Extends, adds}}, proofs.Laws.{adds_extends, adds_on, extends_on, extends_self, same_log, started, weaker}}
use Rattle.{df_disk.specs.Told.{Told}, df_theory.specs.{Device.{IsGoodWholeDisk, NoChanceOf, units_log}, Holds.{Held, Stands}, View.{View}}}
use Rattle.df_model.specs.{Commands.{Answer, ToAppend}, Work.{Work, kept}}
use Rattle.df_rows.{specs.{declared.command.Command.{Command as Change}, Tables.{Table, with_commands}}, proofs.Laws.{commands_more}}
use Rattle.df_session.{specs.{Acknowledging.{HadReturned}, Below.{DataFile, State as Replica, shape, told_after}, Links.{AreCalls, Calls, More, NoCalls, call_events}, Serving.{IsKept, Whole, format, next}, Session.{Act, Exchange}}, proofs.Laws.{added_is_told, told_append, joined, nothing_is_served}}
use Rattle.df_session.specs.Session as machine
use Rattle.df_table.{specs.{Keeping.{AreChanges, Changes, IsPending, IsTableMidway}, Table.{HasTable}, Written.{IsTableIn, WroteBodies}}, proofs.{Later.{good, good_moments, kept_behind, same_behind, told_log}, Leads.{table_bare}, Written.{bodies_on, table_on, table_shown}}}

-- ---- a base

-- by this log the file is kept for the state that the replica stands for, and this is the table of its view
pub record At (file : DataFile) (s : Replica) (w : Work) (n : Told) (t : Table) : Type 0 where
  pub same : s.file ≡ file
  pub live : s.live ≡ true
  pub kept_is : IsKept Whole s w n.log
  pub table : IsTableIn file (units_log (format file) n.log) (kept w) t

-- events in the order in which they were added
abbrev reversed : List Event → List Event
reversed [] = []
reversed (e ∷ es) = reversed es ++ e ∷ []

adds_events : (es : List Event) (log : Log) → (adds (reversed es) log).events ≡ es ++ log.events
adds_events [] log = refl
adds_events (e ∷ es) log = ap (λ (l : Log). l.events) (adds_on (reversed es) (e ∷ []) log) ∙ ap (λ (l : List Event). e ∷ l) (adds_events es log)

adds_start : (es : List Event) (log : Log) → (adds es log).start ≡ log.start
adds_start [] log = refl
adds_start (e ∷ es) log = adds_start es (add e log)

-- and of each later log
pub table_later : (file : DataFile) (early late : Log) (v : View) (t : Table)
    → Extends late early → IsTableIn file (units_log (format file) early) v t → IsTableIn file (units_log (format file) late) v t
table_later file early late v t more is = let on = table_on file (format file) (reversed more.0) early v t is in
    subst (λ (l : Log). IsTableIn file (units_log (format file) l) v t) (same_log
    (adds (reversed more.0) early) late (adds_events more.0 early ∙ sym more.1) (adds_start (reversed more.0) early ∙ sym more.2)) on

pub bodies_later : (file : DataFile) (early late : Log) (references : List (ℕ × ℕ)) (bodies : List (List ℕ)) → Extends late early
    → WroteBodies (units_log (format file) early) references bodies → WroteBodies (units_log (format file) late) references bodies
bodies_later file early late references bodies more is = subst (λ (l : Log). WroteBodies (units_log (format file) l) references bodies)
    (same_log (adds (reversed more.0) early) late (adds_events more.0 early ∙ sym more.1) (adds_start (reversed more.0) early ∙ sym more.2))
    (bodies_on (format file) (reversed more.0) early references bodies is)

pub grew : (es : List Event) (n : Told) → Extends (told_after es n).log n.log
grew es n = subst (λ (l : Log). Extends l n.log) (sym (told_log es n)) (adds_extends es n.log)

-- ---- a moment

pub none_taken : (t : Table) (changes : List Change) → with_commands (take 0 changes) t ≡ t
none_taken t [] = refl
none_taken t (c ∷ changes) = refl

module _ (file : DataFile) where
  -- an image that is left has it, where it has the view with each block that it references
  pub has_table : (log : Log) (image : Image) (v : View) (t : Table) → NoChanceOf (format file) log image → Held (shape file)
      ((format file).unit_at image) v → Stands ((format file).unit_at image) v → IsTableIn file (units_log (format file) log) v t
      → HasTable file t image
  has_table log image v t chance held stands is = record { view = v; held = held; table = table_shown (units_log (format file) log) ((format file).unit_at image) chance file v t stands is }

  -- one of two views, of which the first one has the table, and the second one that after some of the changes
  pub mid_of : (log : Log) (v u : View) (t : Table) (changes : List Change) (m : ℕ)
      → IsTableIn file (units_log (format file) log) v t → IsTableIn file (units_log (format file) log) u (with_commands (take m changes) t)
      → IsGoodWholeDisk (format file) (shape file) v u log → IsTableMidway file t changes log
  mid_of log v u t changes m first second good = record {
    safe = good.safe;
    left = λ image left chance. elim (good.left image left chance) [
      | inl before ↦ (0, rw (sym (none_taken t changes)) at (has_table log image v t chance before.0 before.1 first))
      | inr after ↦ (m, has_table log image u (with_commands (take m changes) t) chance after.0 after.1 second)
    ];
  }

  -- where the file is kept for a state
  pub mid_kept : (s : Replica) (w : Work) (n : Told) (t : Table) (changes : List Change) → At file s w n t → IsTableMidway file t changes n.log
  mid_kept s w n t changes is = let each = (nothing_is_served s (Some n) is.live).kept_on Whole w (Some n) is.kept_is in
      let mid = rw is.same at (each.0.1 n.log (record { since = extends_self n.log; until = extends_self n.log })) in record {
        safe = mid.safe;
        left = λ image left chance. let some = mid.left image left chance in
            (0, rw (sym (none_taken t changes)) at (has_table n.log image some.0 t chance some.2.0 some.2.1 (table_bare file (units_log (format file) n.log) (kept w) some.0 t some.1.parts some.1.tail is.table)));
      }

  -- more changes after, and some before
  take_front : (m : ℕ) (some more : List Change) → (k : ℕ) × (take k (some ++ more) ≡ take m some)
  take_front zero [] more = (0, none more)
    where
      none : (l : List Change) → take 0 l ≡ []
      none [] = refl
      none (c ∷ l) = refl
  take_front zero (c ∷ some) more = (0, refl)
  take_front (suc m) [] more = (0, none more)
    where
      none : (l : List Change) → take 0 l ≡ []
      none [] = refl
      none (c ∷ l) = refl
  take_front (suc m) (c ∷ some) more = let rest = take_front m some more in (suc rest.0, ap (λ (l : List Change). c ∷ l) rest.1)

  take_behind : (m : ℕ) (some more : List Change) → (k : ℕ) × (take k (some ++ more) ≡ some ++ take m more)
  take_behind m [] more = (m, refl)
  take_behind m (c ∷ some) more = let rest = take_behind m some more in (suc rest.0, ap (λ (l : List Change). c ∷ l) rest.1)

  pub mid_more : (log : Log) (t : Table) (some more : List Change) → IsTableMidway file t some log → IsTableMidway file t (some ++ more) log
  mid_more log t some more is = record {
    safe = is.safe;
    left = λ image left chance. let has = is.left image left chance in let k = take_front has.0 some more in (k.0, rw (sym k.1) at has.1);
  }

  pub mid_behind : (log : Log) (t : Table) (some more : List Change)
      → IsTableMidway file (with_commands some t) more log → IsTableMidway file t (some ++ more) log
  mid_behind log t some more is = record {
    safe = is.safe;
    left = λ image left chance. let has = is.left image left chance in let k = take_behind has.0 some more in
        (k.0, rw (sym (ap (λ (l : List Change). with_commands l t) k.1 ∙ commands_more some (take has.0 more) t)) at has.1);
  }

-- ---- calls

-- a call that has no answer, where there is one: the view after it has the table of before, or that after its command
abbrev pub FailKept : (file : DataFile) (failed : Option Act) (w : Work) (n : Told) (t : Table) → Type 0
FailKept file None w n t = Unit {0}
FailKept file (Some a) w n t = (pending : List Change) → Changes a.command (ToAppend (Ok (0, 0))) pending → (m : ℕ)
    × IsTableIn file (units_log (format file) n.log) (kept (next file w a.given a.command).0) (with_commands (take m pending) t)

-- one call after the other, from a state with this table: what was written before each has the table of the view after it
abbrev pub AreKept : (file : DataFile) (failed : Option Act) (w : Work) (n : Told)
    (t : Table) (xs : List Exchange) {s : Replica} {old : Option Told} {u : Replica} {new : Option Told} → AreCalls s old xs u new → Type 0
AreKept file failed w n t [] calls = FailKept file failed w n t
AreKept file failed w n t (x ∷ xs) (More r mid call rest) = (some : List Change) → Changes x.act.command x.answer some
    → IsTableIn file (units_log (format file) n.log) (kept (next file w x.act.given x.act.command).0) (with_commands some t)
    × AreKept file failed (next file w x.act.given x.act.command).0 (told_after call.call.events n) (with_commands some t) xs rest

-- after an answered call
pub at_behind : (file : DataFile) (a : Act) (s u : Replica) (old mid : Option Told) (x : Answer) (w : Work) (n : Told) (t v : Table)
    → At file s w n t → (c : Calls a s u old mid (Some x))
    → IsTableIn file (units_log (format file) n.log) (kept (next file w a.given a.command).0) v
    → At file u (next file w a.given a.command).0 (told_after c.call.events n) v
at_behind file a s u old mid x w n t v is c table = record {
  same = same_behind file a s u old mid x w n is.same is.kept_is c.call;
  live = c.call.live;
  kept_is = kept_behind file a s u old mid x w n is.same is.kept_is c.call;
  table = table_later
      file n.log (told_after c.call.events n).log _ v (rw (sym (told_log c.call.events n)) at (adds_extends c.call.events n.log)) table;
}

-- the calls of a session, the last of which perhaps failed
abbrev pub Last : (failed : Option Act) (u to : Replica) (mid new : Option Told) → Type 0
Last None u to mid new = Unit {0}
Last (Some a) u to mid new = Calls a u to mid new None

abbrev pub last_events : (failed : Option Act) (u to : Replica) (mid new : Option Told) → Last failed u to mid new → List Event
last_events None u to mid new last = []
last_events (Some a) u to mid new last = last.call.events

module _ (file : DataFile) (failed : Option Act) (u to : Replica)
    (mid new : Option Told) (pending : List Change) (is_pending : IsPending failed pending) (last : Last failed u to mid new) where
  abbrev last_told : Told → Told
  last_told n = told_after (last_events failed u to mid new last) n

  -- those of the call that has no answer
  failed_moments : (w : Work) (n : Told) (t : Table)
      → At file u w n t → FailKept file failed w n t → EachMoment n.log (last_told n).log (IsTableMidway file t pending)
  failed_moments w n t is fails = go failed is_pending last fails
    where
      go : (f : Option Act) → IsPending f pending → (l : Last f u to mid new)
          → FailKept file f w n t → EachMoment n.log (told_after (last_events f u to mid new l) n).log (IsTableMidway file t pending)
      go None none l fails = started n.log (IsTableMidway file t pending) (mid_kept file u w n t pending is)
      go (Some a) some l fails = λ log moment.
          let good = subst (λ (f : DataFile). IsGoodWholeDisk (format f) (shape f) (kept w) (kept (next f w a.given a.command).0) log)
          is.same (good_moments a u to mid new None w n is.kept_is l.call log moment) in let later = fails pending some in mid_of file log
          (kept w) (kept (next file w a.given a.command).0) t pending later.0 (table_later file n.log log (kept w) t moment.since is.table)
          (table_later
          file n.log log (kept (next file w a.given a.command).0) (with_commands (take later.0 pending) t) moment.since later.1) good

  abbrev all_told : {s : Replica} {old : Option Told} {xs : List Exchange} → AreCalls s old xs u mid → Told → Told
  all_told calls n = last_told (told_after (call_events calls) n)

  -- those of one call and of those after it
  moments_on : (a : Act) (s r : Replica) (old one : Option Told)
      (x : Answer) (w : Work) (n after : Told) (t : Table) (some more : List Change) → At file s w n t → (c : Calls a s r old one (Some x))
      → IsTableIn file (units_log (format file) n.log) (kept (next file w a.given a.command).0) (with_commands some t)
      → Extends after.log (told_after c.call.events n).log
      → EachMoment (told_after c.call.events n).log after.log (IsTableMidway file (with_commands some t) more)
      → EachMoment n.log after.log (IsTableMidway file t (some ++ more))
  moments_on a s r old one x w n after t some more is c table later rest =
      joined n.log (told_after c.call.events n).log after.log (IsTableMidway file t (some ++ more)) later (λ log moment.
      mid_more file log t some more (mid_of file log
      (kept w) (kept (next file w a.given a.command).0) t some (length some) (table_later file n.log log (kept w) t moment.since is.table)
      (rw ((take_all some)) (table_later file n.log log (kept (next file w a.given a.command).0) (with_commands some t) moment.since table))
      (good file a s r old one x w n is.same is.kept_is c.call log moment)))
      (weaker (told_after c.call.events n).log after.log (IsTableMidway file (with_commands some t) more)
      (IsTableMidway file t (some ++ more)) (λ log is. mid_behind file log t some more is) rest)
    where
      take_all : (l : List Change) → take (length l) l ≡ l
      take_all [] = refl
      take_all (c ∷ l) = ap (λ (x : List Change). c ∷ x) (take_all l)

  all_grew : {s : Replica} {old : Option Told} {xs : List Exchange} (calls : AreCalls s old xs u mid) (n : Told)
      → Extends (all_told calls n).log n.log
  all_grew calls n = let es = call_events calls in
      extends_on (all_told calls n).log (told_after es n).log n.log (grew (last_events failed u to mid new last) (told_after es n)) (grew es n)

  -- at each moment of all of them
  pub each_moment : (xs : List Exchange) (s : Replica) (old : Option Told) (calls : AreCalls s old xs u mid) (w : Work)
      (n : Told) (t : Table) (changes : List Change) → At file s w n t → AreKept file failed w n t xs calls → AreChanges xs changes
      → EachMoment n.log (all_told calls n).log (IsTableMidway file t (changes ++ pending))
  each_moment [] s old NoCalls w n t changes is kept_all are = subst (λ (l : List Change).
      EachMoment n.log (last_told n).log (IsTableMidway file t (l ++ pending))) (sym are) (failed_moments w n t is kept_all)
  each_moment (x ∷ xs) s old (More r one c rest) w n t changes is kept_all are = let some = are.0 in let more = are.1 in
      let here = kept_all some are.2 in let es = c.call.events in let behind = told_after es n in
      let there = at_behind file x.act s r old one x.answer w n t (with_commands some t) is c here.0 in
      let later = each_moment xs r one rest (next file w x.act.given x.act.command).0 behind (with_commands some t) more there here.1 are.3 in
      let all =
      moments_on x.act s r old one x.answer w n (all_told rest behind) t some (more ++ pending) is c here.0 (all_grew rest behind) later in
      subst (λ (o : Told).
      EachMoment n.log o.log (IsTableMidway file t (changes ++ pending))) (sym (ap last_told (told_append es (call_events rest) n)))
      (subst (λ (l : List Change). EachMoment n.log (all_told rest behind).log (IsTableMidway file t l))
      (sym (append_assoc some more pending) ∙ ap (λ (l : List Change). l ++ pending) (sym are.4)) all)

  -- at the end
  pub at_end : (xs : List Exchange) (s : Replica) (old : Option Told) (calls : AreCalls s old xs u mid) (w : Work)
      (n : Told) (t : Table) (changes : List Change) → At file s w n t → AreKept file failed w n t xs calls → AreChanges xs changes
      → IsTableMidway file (with_commands changes t) pending (all_told calls n).log
  at_end [] s old NoCalls w n t changes is kept_all are =
      subst (λ (l : List Change). IsTableMidway file (with_commands l t) pending (last_told n).log) (sym are) (failed_moments w n t is
      kept_all (last_told n).log (record { since = grew (last_events failed u to mid new last) n; until = extends_self (last_told n).log }))
  at_end (x ∷ xs) s old (More r one c rest) w n t changes is kept_all are = let es = c.call.events in let some = are.0 in
      let more = are.1 in let behind = told_after es n in let here = kept_all some are.2 in
      let there = at_behind file x.act s r old one x.answer w n t (with_commands some t) is c here.0 in
      let later = at_end xs r one rest (next file w x.act.given x.act.command).0 behind (with_commands some t) more there here.1 are.3 in
      subst (λ (o : Told). IsTableMidway file (with_commands changes t) pending o.log) (sym (ap last_told (told_append es (call_events rest) n)))
      (rw ((ap (λ (l : List Change). with_commands l t) are.4 ∙ commands_more some more t)) later)

  -- at each moment from the k-th answer on
  pub from_answer : (k : ℕ) (xs : List Exchange) (s : Replica) (old : Option Told)
      (calls : AreCalls s old xs u mid) (w : Work) (n : Told) (t : Table) (some more : List Change) (log : Log) → At file s w n t
      → AreKept file failed w n t xs calls → AreChanges (take k xs) some → AreChanges (drop k xs) more → HadReturned k (Some n) log calls
      → Extends (all_told calls n).log log → IsTableMidway file (with_commands some t) (more ++ pending) log
  from_answer zero xs s old calls w n t some more log is kept_all before after since until =
      subst (λ (l : List Change). IsTableMidway file (with_commands l t) (more ++ pending) log)
      (sym before) (each_moment xs s old calls w n t more is kept_all after log (record { since = since; until = until }))
  from_answer (suc k) [] s old NoCalls w n t some more log is kept_all before after since until = absurd since
  from_answer (suc k) (x ∷ xs) s old (More r one c rest) w n t some more log is kept_all before after since until = let first = before.0 in
      let here = kept_all first before.2 in let es = c.call.events in let behind = told_after es n in
      let there = at_behind file x.act s r old one x.answer w n t (with_commands first t) is c here.0 in let later =
      from_answer
      k xs r one rest (next file w x.act.given x.act.command).0 behind (with_commands first t) before.1 more log there here.1 before.3 after
      (rw (← (added_is_told es n)) since) (rw (← (ap last_told (told_append es (call_events rest) n))) until) in
      rw ((ap (λ (l : List Change). with_commands l t) before.4 ∙ commands_more first before.1 t)) later
