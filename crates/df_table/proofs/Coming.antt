-- What is left of a file that was in order, with a table of which something holds: by a log that shows what the disk shows, after a stop,
-- after as much of an open as was done, and after calls that keep the table.
use Rattle.std.proofs.Common.{◌≡◌, inl, inr, ℕ, false, List, [], ◌∷◌, ◌++◌, take, drop, Option, Some, refl, sym, ◌∙◌, subst}
use Rattle.df_base.{specs.{Image.{Image, IsImage, changed}, Log.{AreLoose, Event, IsLeft, IsLog, Log, Stop, Sync, add, loose, now}, Moments.{EachMoment, Extends}}, proofs.Laws.{extends_on, extends_self, from_before, now_is_image, one_some}}
use Rattle.{df_disk.specs.Told.{IsHonest, Told, did}, df_layout.specs.declared.layout.Layout.{Layout}, df_model.specs.Work.{Work}}
use Rattle.df_theory.{specs.{Device.{IsGoodWholeDisk, IsSafeDisk, NoChanceOf, units_log}, Found.{IsFound}, Holds.{Held, Stands}, Next.{IsSameBare}, View.{View}}, proofs.Laws.{disk_barrier_law, disk_stop_law, holds_found, one_view, rests_safe, safe_disk_law}}
use Rattle.df_units.{specs.Bytes.{unit_at}, proofs.Laws.{is_format}}
use Rattle.df_rows.specs.{declared.command.Command.{Command as Change}, Tables.{Table, with_commands}}
use Rattle.df_session.{specs.{Acknowledging.{WereAnswered}, Anew.{begun_after}, Begun.{begun_work}, Below.{AreDistinctUnits, DataFile, IsOpened, State as Replica, shape, told_after}, Following.{MayOpen}, Found.{FoundFile}, Keeping.{KeepsFile, over}, Laws.{CallsKeep}, Links.{CallsMade, events_made, list_of}, Opened.{MendsPartly}, Serving.{Whole, format}, Session.{acts_in}}, proofs.Laws.{file_there}}
use Rattle.df_table.{specs.{Keeping.{AreChanges, AreClients, IsTableMidway, KeepsFrom, KeepsTable}, Laws.{FindsIn}, Table.{HasTable, IsObjectTable}, Written.{IsTableIn}}, proofs.{Finding.{found_own, table_is_found}, FoundTable.{found_is_table}, Lasting.{grew, table_later}, Leads.{bare_by, table_bare}, Leaving.{were_since}, OneFile.{one_file}, Owned.{EachSeen, OwnView, OwnWork, Seen, kept_barrier, kept_seen, own_bare, own_begun}, Started.{shown_there, table_written}, Written.{table_shown}}}

pub now_left : (log : Log) → IsLog log → IsLeft log (now log)
now_left log is = record { whole = now_is_image log.start log.events is.start is.events; kept = λ sector firm. refl }

-- ---- an image, and a log

-- an image has a view, with each block that it references, whose sessions are the client's; and of its table this holds
pub record Has (file : DataFile) (P : Table → Type 0) (image : Image) : Type 0 where
  pub view : View
  pub held : Held (shape file) ((format file).unit_at image) view
  pub stands : Stands ((format file).unit_at image) view
  pub own : OwnView view
  pub table : Table
  pub is : IsObjectTable file ((format file).unit_at image) view table
  pub had : P table

-- the log is safe, and so is each image that a stop may leave
pub record Order (file : DataFile) (P : Table → Type 0) (log : Log) : Type 0 where
  pub safe : IsSafeDisk (format file) (shape file) log
  pub left : (image : Image) → IsLeft log image → NoChanceOf (format file) log image → Has file P image

module _ (file : DataFile) (P Q : Table → Type 0) where
  has_as : (image : Image) → ((t : Table) → P t → Q t) → Has file P image → Has file Q image
  has_as image turned has = record { view = has.view; held = has.held; stands = has.stands; own = has.own; table = has.table; is = has.is; had = turned has.table has.had }

  -- where one thing is said of a table, another is
  pub order_as : (log : Log) → ((t : Table) → P t → Q t) → Order file P log → Order file Q log
  order_as log turned order = record { safe = order.safe; left = λ image left chance. has_as image turned (order.left image left chance) }

module _ (file : DataFile) (P : Table → Type 0) where
  seen_has : (image : Image) (table : Table) → Seen file image → HasTable file table image → P table → Has file P image
  seen_has image table seen has had = record {
    view = seen.view;
    held = seen.held;
    stands = seen.stands;
    own = seen.own;
    table = table;
    is = rw (one_view (shape file) ((format file).unit_at image) has.view seen.view has.held seen.held) at has.table;
    had = had;
  }

  -- after some of these puts and drops
  mid_order : (before : Table) (perhaps : List Change) (log : Log)
      → ((n : ℕ) → P (with_commands (take n perhaps) before)) → EachSeen file log → IsTableMidway file before perhaps log → Order file P log
  mid_order before perhaps log had seen mid = record {
    safe = mid.safe;
    left = λ image left chance. let has = mid.left image left chance in
        seen_has image (with_commands (take has.0 perhaps) before) (seen image left chance) has.1 (had has.0);
  }

  -- ---- a log that is still

  -- as after a barrier, and after a stop, it leaves what it shows
  still : (log : Log) (image : Image) → ((sector : ℕ) → loose log sector ≡ false)
      → now log ≡ image → IsSafeDisk (format file) (shape file) log → Has file P image → Order file P log
  still log image firm shows safe there = record { safe = safe; left = λ other left chance. subst (Has file P) (sym shows ∙ (λ i sector. sym (left.kept sector (firm sector)) i)) there }

  pub stopped : (t : Told) (changes : List (ℕ × List ℕ)) → IsSafeDisk (format file) (shape file) t.log → AreLoose t.log.events changes
      → NoChanceOf (format file) t.log (changed changes (now t.log)) → Has file P (changed changes (now t.log))
      → Order file P (did (Stop changes) t).log
  stopped t changes safe loose chance there = still (did (Stop changes) t).log (changed changes (now t.log)) (λ sector. refl) refl
      (safe_disk_law (format file) (shape file) (did (Stop changes) t).log
      (is_format file.layout file.cluster) (record { start = safe.is_log.start; events = (loose, safe.is_log.events) })
      (rests_safe (shape file) (units_log (format file) (did (Stop changes) t).log)
      there.view (disk_stop_law (format file) (shape file) there.view t.log changes safe loose chance there.held))) there

-- ---- a life begins

-- where an image holds a view, with each block that it references, of whose table this holds, as one that was just made
pub view_has : (file : DataFile) (P : Table → Type 0) (image : Image) (first view : View) (table : Table) → IsSameBare first view
    → Held (shape file) ((format file).unit_at image) view → Stands ((format file).unit_at image) view → OwnView first
    → IsObjectTable file ((format file).unit_at image) first table → P table → Has file P image
view_has file P image first view table same held stands own is had = record {
  view = view;
  held = held;
  stands = stands;
  own = own_bare first view same own;
  table = table;
  is = bare_by (λ place unit. (format file).unit_at image place ≡ Some unit) file first view table same.parts same.tail is;
  had = had;
}

-- ---- calls that keep the table

-- They were made after an open, by this base: what is left at a moment after its barrier, at the end, and where this many were answered by
-- then.
pub record KeptOn (file : DataFile) (table : Table) (base : Told) (mending : List Event) (c : CallsMade) (changes pending : List Change) : Type 0 where
  pub seen : EachMoment (did Sync base).log (told_after (events_made c) (told_after mending (did Sync base))).log (EachSeen file)
  pub barrier : Extends (told_after (events_made c) (told_after mending (did Sync base))).log (did Sync base).log
  pub keeps : KeepsFrom file table base mending c changes pending (told_after (events_made c) (told_after mending (did Sync base)))

pub kept_by : (file : DataFile) (table : Table) (base : Told) (mending : List Event) (c : CallsMade)
    (changes pending : List Change) (w : Work) → OwnWork w → AreClients (acts_in c.exchanges ++ list_of c.failed) → (after : Told)
    → KeepsFrom file table base mending c changes pending after →
    KeepsFile file Whole w base c.exchanges c.failed (over mending (events_made c) base) → KeptOn file table base mending c changes pending
kept_by file table base mending c changes pending w own clients after from_table file_kept =
    let end = told_after (events_made c) (told_after mending (did Sync base)) in record {
      seen = kept_seen file w base c.exchanges c.failed end file_kept own clients;
      barrier = kept_barrier file w base c.exchanges c.failed end file_kept;
      keeps = subst (KeepsFrom file table base mending c changes pending) (one_some (Some end) after end from_table.is refl) from_table;
    }

module _ (file : DataFile) (table : Table) (base : Told) (mending : List Event)
    (c : CallsMade) (changes pending : List Change) (kept : KeptOn file table base mending c changes pending) (Q : Table → Type 0) where
  abbrev end : Told
  end = told_after (events_made c) (told_after mending (did Sync base))

  pub ends_order : ((n : ℕ) → Q (with_commands (take n pending) (with_commands changes table))) → Order file Q end.log
  ends_order had = mid_order file Q (with_commands changes table)
      pending end.log had (kept.seen end.log (record { since = kept.barrier; until = extends_self end.log })) kept.keeps.end_safe

  pub each_order : ((n : ℕ) → Q (with_commands (take n (changes ++ pending)) table)) → EachMoment (did Sync base).log end.log (Order file Q)
  each_order had log moment = mid_order file Q table (changes ++ pending) log had (kept.seen log moment) (kept.keeps.moments log moment)

  pub cut_order : (k : ℕ) (log : Log) (some more : List Change) → WereAnswered k (over mending [] base) log c
      → Extends end.log log → AreChanges (take k c.exchanges) some → AreChanges (drop k c.exchanges) more
      → ((n : ℕ) → Q (with_commands (take n (more ++ pending)) (with_commands some table))) → Order file Q log
  cut_order k log some more were until before behind had = let since = extends_on log (told_after mending (did Sync base)).log
      (did Sync base).log (were_since k (told_after mending (did Sync base)) log c were) (grew mending (did Sync base)) in
      mid_order file Q (with_commands some table) (more ++ pending)
      log had (kept.seen log (record { since = since; until = until })) (kept.keeps.answered k log some more before behind were until)

-- ---- a file in order, by a log that shows what the disk shows

module _ (file : DataFile) (P : Table → Type 0) (b : Told) (version : file.version ≡ 2) (honest : IsHonest b)
    (order : Order file P b.log) (chance : NoChanceOf (format file) b.log (now b.log)) (t : Told) (shown : b.shown ≡ t.shown) where
  -- ---- as it is opened

  pub here : Has file P (now b.log)
  here = order.left (now b.log) (now_left b.log order.safe.is_log) chance

  abbrev pub view : View
  view = here.view

  abbrev pub table : Table
  table = here.table

  pub may : MayOpen file view b
  may = record { version = version; safe = order.safe; honest = honest; found = holds_found (shape file) ((format file).unit_at (now b.log)) view here.held; no_chance = chance }

  shows : now b.log ≡ t.shown
  shows = (λ i sector. sym (honest.shows sector) i) ∙ shown

  found_shown : IsFound (shape file) (unit_at file.layout file.cluster t.shown) view
  found_shown = shown_there file view b t shown may

  stands_there : Stands (unit_at file.layout file.cluster t.shown) view
  stands_there = subst (λ (image : Image). Stands (unit_at file.layout file.cluster image) view) shows here.stands

  pub is_shown : IsObjectTable file (unit_at file.layout file.cluster t.shown) view table
  is_shown = subst (λ (image : Image). IsObjectTable file (unit_at file.layout file.cluster image) view table) shows here.is

  pub finds : FindsIn file t view table
  finds = table_is_found file t view table found_shown here.own is_shown

  one_opened : (layout : Layout) (s : Replica) → IsOpened layout t.shown s → s.file ≡ file
  one_opened layout s opened = one_file file layout t.shown view s found_shown opened

  -- ---- the barrier

  pub synced : Order file P (did Sync b).log
  synced = still file P (did Sync b).log (now b.log) (λ sector. refl) refl (safe_disk_law (format file) (shape file)
      (add Sync b.log) (is_format file.layout file.cluster) (record { start = order.safe.is_log.start; events = order.safe.is_log.events })
      (rests_safe (shape file)
      (units_log (format file) (add Sync b.log)) view (disk_barrier_law (format file) (shape file) view b.log order.safe may.found))) here

  pub behind_barrier : (n : Told)
      → Extends n.log (did Sync b).log → EachMoment (did Sync b).log n.log (Order file P) → EachMoment b.log n.log (Order file P)
  behind_barrier n grew later = from_before Sync b.log n.log (Order file P) order grew later

  -- ---- the disk failed within the mending

  table_in : (log : Log) → Extends log b.log → IsTableIn file (units_log (format file) log) view table
  table_in log later = table_later file b.log log
      view table later (table_written (units_log (format file) b.log) ((format file).unit_at (now b.log)) chance file view table here.is)

  good_order : (raised : View) → IsSameBare view raised
      → (log : Log) → Extends log b.log → IsGoodWholeDisk (format file) (shape file) view raised log → Order file P log
  good_order raised bare log later good = record {
    safe = good.safe;
    left = λ image left no. elim (good.left image left no) [
      | inl old ↦ has image no view here.own old.0 old.1 (table_in log later)
      | inr new ↦ has image no raised (own_bare view raised bare here.own)
          new.0 new.1 (table_bare file (units_log (format file) log) view raised table bare.parts bare.tail (table_in log later))
    ];
  }
    where
      has : (image : Image) → NoChanceOf (format file) log image → (v : View) → OwnView v → Held (shape file) ((format file).unit_at image)
          v → Stands ((format file).unit_at image) v → IsTableIn file (units_log (format file) log) v table → Has file P image
      has image fair v own held stands inside = record { view = v; held = held; stands = stands; own = own; table = table; is = table_shown (units_log (format file) log) ((format file).unit_at image) fair file v table stands inside; had = here.had }

  mended : (f : DataFile) (raised : View) (exit : Log) → f ≡ file → IsSameBare view raised →
      EachMoment (did Sync b).log exit (IsGoodWholeDisk (format f) (shape f) view raised) → EachMoment (did Sync b).log exit (Order file P)
  mended f raised exit one bare each log moment =
      good_order raised bare log (extends_on log (did Sync b).log b.log moment.since (Sync ∷ [], refl, refl)) (rw one at (each log moment))

  -- at each moment of as much of the mending as was done
  pub mends_order : (layout : Layout) (new : Option Told) (part : MendsPartly layout t new)
      → EachMoment b.log (told_after part.mending.events (did Sync b)).log (Order file P)
  mends_order layout new part = let es = part.mending.events in
      let one : part.found.file ≡ file = one_opened layout part.found part.opened in
      let mine : MayOpen part.found.file view b = rw one may in
      let theirs : Stands (unit_at part.found.file.layout part.found.file.cluster t.shown) view = rw one stands_there in
      let both = part.moments Whole view b shown mine theirs in let n = told_after es (did Sync b) in
      behind_barrier n (grew es (did Sync b)) (mended part.found.file _ n.log one both.1 both.0)

  -- ---- calls that keep the table were made on it

  module _ (layout : Layout) (found : FoundFile layout t) (c : CallsMade)
      (calls : CallsKeep t found.replica found.mended found.mending c) (keeps : KeepsTable t found.replica found.mending.events c) where
    one : found.replica.file ≡ file
    one = file_there layout t found ∙ one_opened layout found.found found.is_opened

    pub kept_on : KeptOn file table b found.mending.events c keeps.changes keeps.pending
    kept_on = let from_table : (after : Told) × KeepsFrom file table b found.mending.events c keeps.changes keeps.pending after = subst
        (λ (f : DataFile). (view : View) (base : Told) (table : Table)
        → base.shown ≡ t.shown → MayOpen f view base → IsObjectTable f (unit_at f.layout f.cluster t.shown) view table
        → (after : Told) × KeepsFrom f table base found.mending.events c keeps.changes keeps.pending after)
        one keeps.keeps view b table shown may is_shown in let file_kept : KeepsFile
        file Whole (begun_work file t.shown view) b c.exchanges c.failed (over found.mending.events (events_made c) b) =
        subst (λ (f : DataFile). (view : View) (base : Told)
        → base.shown ≡ t.shown → MayOpen f view base → Stands (unit_at f.layout f.cluster t.shown) view
        → KeepsFile f Whole (begun_work f t.shown view) base c.exchanges c.failed (over found.mending.events (events_made c) base))
        one (calls.keeps Whole) view b shown may stands_there in kept_by file table b found.mending.events c keeps.changes
        keeps.pending (begun_work file t.shown view) (own_begun file t.shown view here.own) keeps.own from_table.0 from_table.1 file_kept

-- ---- whatever was done to the disk before

-- so it is of calls after an open, by the log that is begun at its end
module _ (file : DataFile) (view : View) (t : Told) (whole : IsImage t.shown) (is_found : IsFound (shape
    file) (unit_at file.layout file.cluster t.shown) view) (distinct : AreDistinctUnits (unit_at file.layout file.cluster t.shown))
    (stands : Stands (unit_at file.layout file.cluster t.shown) view) (table : Table) (finds : FindsIn file t view table) where
  module _ (layout : Layout) (found : FoundFile layout t) (c : CallsMade)
      (calls : CallsKeep t found.replica found.mended found.mending c) (keeps : KeepsTable t found.replica found.mending.events c) where
    same_file : found.replica.file ≡ file
    same_file = file_there layout t found ∙ one_file file layout t.shown view found.found is_found found.is_opened

    abbrev base : Told
    base = begun_after found.mending.events t

    pub kept_anew : KeptOn file table base [] c keeps.changes keeps.pending
    kept_anew = let from_table : (after : Told) × KeepsFrom file table base [] c keeps.changes keeps.pending after = subst
        (λ (f : DataFile). (view : View) (table : Table) → IsImage t.shown → IsFound (shape f) (unit_at f.layout f.cluster t.shown) view
        → AreDistinctUnits (unit_at f.layout f.cluster t.shown) → IsObjectTable f (unit_at f.layout f.cluster t.shown) view table
        → (after : Told) × KeepsFrom f table base [] c keeps.changes keeps.pending after)
        same_file keeps.anew view table whole is_found distinct (found_is_table file t view table whole is_found finds) in
        let file_kept : KeepsFile file Whole (begun_work file t.shown view) base c.exchanges c.failed (over [] (events_made c) base) =
        subst (λ (f : DataFile). (view : View) → IsFound (shape f) (unit_at f.layout f.cluster t.shown) view
        → AreDistinctUnits (unit_at f.layout f.cluster t.shown) → Stands (unit_at f.layout f.cluster t.shown) view
        → KeepsFile f Whole (begun_work f t.shown view) base c.exchanges c.failed (over [] (events_made c) base))
        same_file (λ view found distinct stands. (calls.anew Whole view found distinct stands).keeps) view is_found distinct stands in
        kept_by file table base [] c keeps.changes keeps.pending (begun_work file t.shown view)
        (own_begun file t.shown view (found_own file t view table finds)) keeps.own from_table.0 from_table.1 file_kept
