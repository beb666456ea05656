-- At the barrier of an open the table of the file is that of its view, and so it is by each log that shows what was shown then, at each
-- moment of the mending, and after it.
use Rattle.std.{proofs.{Common.{◌≡◌, ◌⊎◌, inl, inr, ℕ, zero, suc, ◌+◌, ◌<◌, ◌≤◌, ◌||◌, true, List, [], ◌∷◌, Option, Some, None, refl, sym, ◌∙◌, ap, subst, arith}, lemmas.Bool.{cases_eq}}, specs.List.{range_with_len}}
use Rattle.df_base.{specs.{Image.{Image, IsImage}, Log.{Sync}, Moments.{EachMoment}}, proofs.Laws.{one_some}}
use Rattle.df_base.specs.Log as logs
use Rattle.{df_damage.specs.Written.{IsWritten}, df_disk.specs.Told.{Told, did}, df_units.specs.Bytes.{unit_at}}
use Rattle.df_theory.{specs.{Chance.{NoChance}, Device.{units_log}, Found.{IsFound}, Holds.{Stands}, UnitLog.{UnitLog}, Units.{Block, BlockPlace, BlockUnit, Units}, View.{View}}, proofs.Laws.{pool_pools}}
use Rattle.df_model.specs.{Blocks.{entries, entry}, Work.{Work, is_captured, is_known, is_of, kept}}
use Rattle.df_rows.specs.{declared.command.Command.{Command as Change}, Tables.{Table}}
use Rattle.df_session.{specs.{Anew.{begun_after}, Begun.{begun_work}, Below.{AreDistinctUnits, DataFile, State as Replica, shape, told_after}, Following.{MayOpen}, Leaving.{image_after}, Opened.{Mends, MendsAll, begun_state}, Serving.{Firm, Keeps, Whole, format}, Links.{NoCalls}}, proofs.Laws.{calls_keep, kept_synced, shown_after}}
use Rattle.df_table.{specs.{Keeping.{IsTableMidway}, Table.{IsObjectTable, ShowsBodies, references_of}, Written.{IsTableIn}}, proofs.{Lasting.{At, grew, mid_of, none_taken, table_later}, Leads.{table_bare}, Written.{bodies_as, table_as}}}

-- ---- what is shown was written

module _ (log : UnitLog) (image : Units) (chance : NoChance log image) where
  pub table_written : (file : DataFile) (v : View) (t : Table) → IsObjectTable file image v t → IsTableIn file log v t
  table_written file v t is =
      let written : (a : ℕ) (b : Block) → image (BlockPlace a) ≡ Some (BlockUnit b) → IsWritten log (BlockPlace a) (BlockUnit b) =
      λ a b there. pool_pools log.start log.events (BlockPlace a) (BlockUnit b) (chance.pooled (BlockPlace a) (BlockUnit b) there) in
      table_as (λ place unit. image place ≡ Some unit)
      (IsWritten log) file v t (bodies_as (λ place unit. image place ≡ Some unit) (IsWritten log) written (references_of file v)) is

-- ---- each block is shown that is referenced

module _ (image : Units) (f : ℕ → Option ℕ) where
  abbrev Shown : (a c : ℕ) → Type 0
  Shown a c = (b : Block) × (image (BlockPlace a) ≡ Some (BlockUnit b)) × (b.checksum ≡ c) × (0 < b.kind)

  shown_case : (s a c : ℕ) (rest : List (ℕ × ℕ)) → f a ≡ Some c → (o : Option ℕ) → f s ≡ o → (bodies : List (List ℕ)) → ShowsBodies image (entry s o rest) bodies → ((s ≡ a → ⊥) → (more : List (List ℕ)) → ShowsBodies image rest more → Shown a c) → (s ≡ a) ⊎ (s ≡ a → ⊥) → Shown a c
  shown_case s a c rest is None none bodies shown later (inl here) = absurd (let apart : None ≡ Some c = sym none ∙ ap f here ∙ is in cc)
  shown_case s a c rest is None none bodies shown later (inr apart) = later apart bodies shown
  shown_case s a c rest is (Some d) some [] shown later place = absurd shown
  shown_case s a c rest is (Some d) some (body ∷ bodies) shown later (inl here) =
      let sum : d ≡ c = one_some (f a) d c (sym (ap f here) ∙ some) is in
      (shown.0.block, rw here at shown.0.there, shown.0.sum ∙ sum, shown.0.own)
  shown_case s a c rest is (Some d) some (body ∷ bodies) shown later (inr apart) = later apart bodies shown.1

  all_shown : (s n : ℕ) (bodies : List (List ℕ))
      → ShowsBodies image (entries f (range_with_len s n)) bodies → (a c : ℕ) → s ≤ a → a < s + n → f a ≡ Some c → Shown a c
  all_shown s zero bodies shown a c from to is = absurd (omega (arith, from, to))
  all_shown s (suc n) bodies shown a c from to is =
      shown_case s a c (entries f (range_with_len (s + 1) n)) is (f s) refl bodies shown (λ apart more there.
      all_shown (s + 1) n more there a c (omega (arith, from, apart)) (omega (arith, to)) is) (cases_eq s a)

-- so it is of a view for which a replica stands, where its table is there
pub stands_shown : (s : Replica) (t : Told) (view : View) (table : Table) → Keeps Firm s (begun_work s.file t.shown view) None → IsObjectTable s.file (unit_at s.file.layout s.file.cluster t.shown) view table → Stands (unit_at s.file.layout s.file.cluster t.shown) view
stands_shown s t view table here is a c referenced = let w = begun_work s.file t.shown view in
    let inside = here.0.grid a (ap (λ (o : Option ℕ). is_known
    o || (is_captured a w.running || (is_known (w.view.checkpoint.parts.references a) || is_of a w.view.checkpoint.chain))) referenced) in
    all_shown (unit_at s.file.layout s.file.cluster t.shown)
    view.checkpoint.parts.references 1 s.file.layout.blocks is.bodies is.there a c inside.0 (omega (arith, inside.1)) referenced

-- by a base that shows what was shown, and by which the file may be opened, the view is found in it, and its table is that of what was
-- written before the barrier
pub shown_there : (file : DataFile) (view : View) (base t : Told)
    → base.shown ≡ t.shown → MayOpen file view base → IsFound (shape file) (unit_at file.layout file.cluster t.shown) view
shown_there file view base t same may = subst (λ (image : Image).
    IsFound (shape file) (unit_at file.layout file.cluster image) view) ((λ i sector. sym (may.honest.shows sector) i) ∙ same) may.found

pub table_at : (file : DataFile) (view : View) (base t : Told) (table : Table) → base.shown ≡ t.shown → MayOpen file view base → IsObjectTable file (unit_at file.layout file.cluster t.shown) view table → IsTableIn file (units_log (format file) (did Sync base).log) view table
table_at file view base t table same may is = table_later file base.log (did Sync base).log view table (Sync ∷ [], refl, refl)
    (table_written (units_log (format file) base.log) ((format file).unit_at (logs.now base.log)) may.no_chance file view table
    (rw (sym ((λ i sector. sym (may.honest.shows sector) i) ∙ same)) at is))

-- ---- an open

module _ (t : Told) (s : Replica) (mended : Option Told) (over : MendsAll t s mended) (whole : IsImage t.shown)
    (live : s.live ≡ true) (view : View) (base : Told) (table : Table) (same : base.shown ≡ t.shown) (may : MayOpen s.file view base)
    (is : IsObjectTable s.file (unit_at s.file.layout s.file.cluster t.shown) view table) where
  abbrev pub behind : Told
  behind = told_after over.mending.events (did Sync base)

  pub found_there : IsFound (shape s.file) (unit_at s.file.layout s.file.cluster t.shown) view
  found_there = shown_there s.file view base t same may

  abbrev pub work : Work
  work = begun_work s.file t.shown view

  stands : Stands (unit_at s.file.layout s.file.cluster t.shown) view
  stands = stands_shown s t view table ((calls_keep t s mended over s mended [] None NoCalls whole live).stands view found_there) is

  at_barrier : IsTableIn s.file (units_log (format s.file) (did Sync base).log) view table
  at_barrier = table_at s.file view base t table same may is

  -- after the open the table is there
  pub at_begin : At s.file s work behind table
  at_begin = record {
    same = refl;
    live = live;
    kept_is = (calls_keep t s mended over s mended [] None NoCalls whole live).kept Whole view base same may stands;
    table = table_later s.file (did Sync base).log behind.log (kept work) table (grew over.mending.events (did Sync base))
        (table_bare s.file (units_log (format s.file) (did Sync base).log) view (kept work) table refl refl at_barrier);
  }

  -- and so it is at each moment of its mending, whatever is done after it
  pub mending_moments : (changes : List Change) → EachMoment (did Sync base).log behind.log (IsTableMidway s.file table changes)
  mending_moments changes log moment = let opens = over.over Whole view base same may stands in
      let later : View = kept (begun_state s.file base view s.fields) in
      let here = table_later s.file (did Sync base).log log view table moment.since at_barrier in
      mid_of s.file log view later table changes 0 here (rw (sym (none_taken table changes)) at
      (table_bare s.file (units_log (format s.file) log) view later table opens.bare.parts opens.bare.tail here)) (opens.moments log moment)

-- ---- after an open, whatever was done to the disk before

-- what was shown of a table is written in the log that is begun at the end of an open
module _ (file : DataFile) (t : Told) (mended : Option Told) (mending : Mends file (Some (did Sync t)) mended) (whole : IsImage t.shown) where
  abbrev begun : Told
  begun = begun_after mending.events t

  pub table_anew : (v u : View) (table : Table) → u.checkpoint.parts ≡ v.checkpoint.parts → u.tail ≡ v.tail → IsObjectTable
      file (unit_at file.layout file.cluster t.shown) v table → IsTableIn file (units_log (format file) (did Sync begun).log) u table
  table_anew v u table parts tail is =
      let shows : begun.shown ≡ image_after mending.events t.shown = shown_after mending.events (did Sync t) in
      let written : (a : ℕ) (b : Block) → unit_at file.layout file.cluster t.shown (BlockPlace a) ≡ Some (BlockUnit b)
      → IsWritten (units_log (format file) begun.log) (BlockPlace a) (BlockUnit b) =
      λ a b there. inl (inl (ap (λ (i : Image). unit_at file.layout file.cluster i (BlockPlace a)) shows
      ∙ (mending.spares t.shown whole).units.block a ∙ there)) in let at : IsTableIn file (units_log (format file) begun.log) v table =
      table_as (λ place unit.
      unit_at file.layout file.cluster t.shown place ≡ Some unit) (IsWritten (units_log (format file) begun.log)) file v table
      (bodies_as (λ place unit. unit_at file.layout file.cluster t.shown place
      ≡ Some unit) (IsWritten (units_log (format file) begun.log)) written (references_of file v)) is in
      table_bare file (units_log (format file) (did Sync begun).log)
      v u table parts tail (table_later file begun.log (did Sync begun).log v table (Sync ∷ [], refl, refl) at)

-- so the table is there, where calls begin
pub at_anew : (t : Told) (s : Replica) (mended : Option Told) (over : MendsAll t s mended) → IsImage t.shown
    → s.live ≡ true → (view : View) (table : Table) → IsFound (shape s.file) (unit_at s.file.layout s.file.cluster t.shown) view
    → AreDistinctUnits (unit_at s.file.layout s.file.cluster t.shown) → IsObjectTable s.file (unit_at s.file.layout s.file.cluster t.shown)
    view table → At s.file s (begun_work s.file t.shown view) (did Sync (begun_after over.mending.events t)) table
at_anew t s mended over whole live view table found distinct is =
    let none = calls_keep t s mended over s mended [] None NoCalls whole live in let w = begun_work s.file t.shown view in record {
      same = refl;
      live = live;
      kept_is = kept_synced Whole s w (begun_after over.mending.events t)
          (none.anew Whole view found distinct (stands_shown s t view table (none.stands view found) is)).kept;
      table = table_anew s.file t mended over.mending whole view (kept w) table refl refl is;
    }
