-- A table that an opening finds after damage is that of a view which the file had: each block that it read is the one that was written
-- there with the known checksum.
use Rattle.{std.proofs.Common.{◌≡◌, ◌⊎◌, inl, inr, List, [], ◌∷◌, ◌++◌, Some, Ok, Err, refl, sym, ◌∙◌, ap}, df_units.specs.Bytes.{unit_at}}
use Rattle.{df_base.specs.Log.{Log, Sync, add}, df_disk.specs.{Adds.{after_all}, Told.{Told}}, df_model.specs.Memory.{memory_of}}
use Rattle.{df_history.specs.Histories.{Among, InHistoryPool, InHistoryPools, NoChanceOver, all_settled}, df_rows.specs.Tables.{Table}}
use Rattle.df_layout.specs.declared.layout.Layout.{Layout}
use Rattle.df_theory.{specs.{Chance.{InImages}, Found.{IsFound}, Holds.{Stands}, UnitLog.{UnitLog, settled}, Units.{AnyUnit, BlockPlace, BlockUnit, Place, Units}, View.{View}}, proofs.Laws.{pool_pools}}
use Rattle.df_session.{specs.{Anew.{begun_after}, Begun.{begun_work}, Below.{DataFile, FindsSince, IsOpened, shape, spelling, units_logs}, Found.{FoundFile}, Links.{events_made}, Reading.{shown_of}, Serving.{Firm, Whole}}, proofs.Laws.{file_there}}
use Rattle.df_table.{specs.{declared.ending.Ending.TheVariants.{Disk}, declared.status.Status.{Status}, Laws.{FindsIn}, Opening.{FindsTable}, Outside.{Outside}, Run.{ServesTable}, Table.{IsObjectTable, IsTableBy, references_of}}, proofs.Laws.{OneBlock, bodies_as, found_is_table, made_on_found, one_table_by, serves_finds, stands_shown, table_as, table_seen}}
use Rattle.df_lifetime.{specs.{Hurt.{at_end}, Life.{ShowsFile, ToItsEnd}, Life.Life.{Opened}, Since.{IsTableOfLogs, ServedTableBegins, ServedTableWasHad}}, proofs.{Agains.{every_life_is_lived, every_open_finds_since, may_reopen, own_rooms}, Files.{one_file}, HurtSessions.{shows_begun}, TableLives.{keeps_calls}}}

-- ---- what is shown, or was settled, was written

pools_in : (logs : List UnitLog) (place : Place) (x : AnyUnit) → InHistoryPool logs place x → InHistoryPools logs place x
pools_in [] place x pool = pool
pools_in (log ∷ logs) place x (inl pool) = inl (pool_pools log.start log.events place x pool)
pools_in (log ∷ logs) place x (inr pool) = inr (pools_in logs place x pool)

among_both : (one other : List Units) (image : Units) → Among (one ++ other) image → Among one image ⊎ Among other image
among_both [] other image among = inr among
among_both (i ∷ one) other image (inl is) = inl (inl is)
among_both (i ∷ one) other image (inr more) = elim (among_both one other image more) [
  | inl here ↦ inl (inr here)
  | inr there ↦ inr there
]

among_images : (images : List Units) (image : Units) (place : Place) (x : AnyUnit)
    → Among images image → image place ≡ Some x → InImages images place x
among_images [] image place x among at = among
among_images (i ∷ images) image place x (inl is) at = inl (rw is at at)
among_images (i ∷ images) image place x (inr more) at = inr (among_images images image place x more at)

settled_in : (logs : List UnitLog) (image : Units) (place : Place) (x : AnyUnit)
    → Among (all_settled logs) image → image place ≡ Some x → InHistoryPool logs place x
settled_in [] image place x among at = among
settled_in (log ∷ logs) image place x among at = elim (among_both (settled log) (all_settled logs) image among) [
  | inl here ↦ inl (inl (among_images (settled log) image place x here at))
  | inr there ↦ inr (settled_in logs image place x there at)
]

-- ---- the table

module _ (file : DataFile) (logs : List Log) (t : Told) (view : View) (table : Table) (chance : NoChanceOver (units_logs file
    logs) (unit_at file.layout file.cluster t.shown)) (is : IsObjectTable file (unit_at file.layout file.cluster t.shown) view table) where
  abbrev Pools : Place → AnyUnit → Type 0
  Pools = InHistoryPools (units_logs file logs)

  one : OneBlock Pools
  one a b c first second sum = chance.distinct (BlockPlace a) (BlockPlace a) (BlockUnit b) (BlockUnit c) first second sum

  written : IsTableBy Pools file view table
  written = table_as (λ place unit. unit_at file.layout file.cluster t.shown place ≡ Some unit) Pools file view table
      (bodies_as (λ place unit. unit_at file.layout file.cluster t.shown place ≡ Some unit) Pools (λ a b at. pools_in
      (units_logs file logs) (BlockPlace a) (BlockUnit b) (chance.pooled (BlockPlace a) (BlockUnit b) at)) (references_of file view)) is

  of_logs : IsTableOfLogs file logs view table
  of_logs = record {
    written = written;
    only = λ other by. one_table_by Pools one file view other table by written;
    settled = λ image among stands. table_seen Pools image (λ a b at. pools_in (units_logs file logs) (BlockPlace a)
        (BlockUnit b) (settled_in (units_logs file logs) image (BlockPlace a) (BlockUnit b) among at)) one file view table stands written;
  }

-- the disk didn't fail where a table was found
table_not_disk : (table : Table) → Ok table ≡ Err Disk → ⊥
table_not_disk table is = cc

-- what a run of the table serves is what the opening of its image finds
served_finds : (file : DataFile) (view : View) (t : Told) (layout : Layout) (old new : Outside) (status : Status) (found : FoundFile layout t) (serves : ServesTable layout t found old new status) (table : Table) → IsFound (shape file) (unit_at file.layout file.cluster t.shown) view
    → serves.opened ≡ Ok table → FindsIn file t view table
served_finds file view t layout old new status found serves table is opened =
    elim (serves_finds file view t is layout old new status found serves) [
      | inl disk ↦ absurd (table_not_disk table (sym opened ∙ disk))
      | inr finds ↦ rw opened at finds
    ]

pub served_table_was_had : ServedTableWasHad
served_table_was_had file older b t layout old new status found serves table life spared opened = let same = own_rooms file b.log
    older t (may_reopen file older b t.shown (every_life_is_lived file older b t.shown life) spared) layout found.found found.is_opened in
    let finds : FindsSince file b.log older t.shown found.found =
    every_open_finds_since file older b t.shown found.found life spared (rw same at found.is_opened) in
    let there : FindsIn file t finds.found table =
    served_finds file finds.found t layout old new status found serves table finds.is_found opened in
    (finds, of_logs file (add Sync b.log ∷ older) t finds.found table spared.chance (found_is_table file t finds.found table spared.whole finds.is_found there))

-- ---- a life begins with it

module _ (file : DataFile) (view : View) (t : Told) (layout : Layout) (old new : Outside) (status : Status) (found : FoundFile layout t) (serves : ServesTable layout t found old new status) (table : Table) (shows : ShowsFile Firm file view t.shown) (finds : FindsIn file t view table) where
  same_file : found.replica.file ≡ file
  same_file = file_there layout t found ∙ one_file 2 file layout t.shown view found.found shows.found found.is_opened

  -- each block stands, since the table was read from them
  whole_shows : ShowsFile Whole file view t.shown
  whole_shows = record {
    version = shows.version;
    whole = shows.whole;
    found = shows.found;
    distinct = shows.distinct;
    stands = let there = rw (sym same_file) at shows.found in rw same_file at
        (stands_shown found.replica t view table (serves.calls.stands view there)
        (rw (sym same_file) at (found_is_table file t view table shows.whole shows.found finds)));
  }

pub served_table_begins : ServedTableBegins
served_table_begins file view t n layout old new status found serves table shows opened to =
    let finds = served_finds file view t layout old new status found serves table shows.found opened in let c = serves.made in
    let es = found.mending.events in let on = made_on_found layout t found old new status serves in
    let keeps = keeps_calls ToItsEnd layout t found c serves.keeps in let end : Told = at_end [] c (begun_after es t) in (
      end,
      Opened file
          view t end layout found c ToItsEnd (whole_shows file view t layout old new status found serves table shows finds) serves.calls refl,
      keeps.0 ∷ [],
      (finds, keeps.1),
      shows_begun es c t (on.1 ∙ found.mending.told) (serves.calls.adds ∙ ap (after_all (events_made c)) (sym on.1)) n (on.2 ∙ to),
    )
