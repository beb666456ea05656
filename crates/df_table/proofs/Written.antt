-- What was written of a table is shown by each image that shows the blocks which the view references, none of them by chance; and what was
-- written stays so.
use Rattle.{std.proofs.Common.{◌≡◌, ◌<◌, inr, ℕ, List, [], ◌∷◌, Option, Some, None, refl, sym, ◌∙◌, ap}, df_rows.specs.Tables.{Table}}
use Rattle.{df_base.specs.{Log.{Event, Log, Stop, Sync, Write, add}, Moments.{adds}}, df_damage.specs.Written.{IsWritten}}
use Rattle.{df_model.specs.Blocks.{addresses, entries, entry}, df_session.specs.Below.{DataFile, shape}}
use Rattle.df_theory.{specs.{Chance.{NoChance}, Device.{Format, units_log}, Holds.{Stands}, UnitLog.{UnitLog}, Units.{AnyUnit, Block, BlockPlace, BlockUnit, Place, Units}, View.{View}}, proofs.Laws.{pool_pools}}
use Rattle.df_table.specs.{Table.{HasBlockBody, HaveBodies, IsObjectTable, IsTableBy, ShowsBodies, ShowsBody, references_of}, Written.{IsTableIn, WroteBodies}}

-- ---- what is said of places alone

-- where one thing is said of a block, another is
pub bodies_as : (P Q : Place → AnyUnit → Type 0) → ((a : ℕ) (b : Block) → P (BlockPlace a) (BlockUnit b) → Q (BlockPlace a) (BlockUnit b))
    → (references : List (ℕ × ℕ)) (bodies : List (List ℕ)) → HaveBodies P references bodies → HaveBodies Q references bodies
bodies_as P Q turned [] [] have = tt
bodies_as P Q turned [] (body ∷ bodies) have = absurd have
bodies_as P Q turned (x ∷ more) [] have = absurd have
bodies_as P Q turned (x ∷ more) (body ∷ bodies) have = (
  record { block = have.0.block; there = turned x.0 have.0.block have.0.there; sum = have.0.sum; own = have.0.own; body_is = have.0.body_is },
  bodies_as P Q turned more bodies have.1,
)

pub table_as : (P Q : Place → AnyUnit → Type 0) (file : DataFile) (v : View) (t : Table) → ((bodies : List (List ℕ))
    → HaveBodies P (references_of file v) bodies → HaveBodies Q (references_of file v) bodies) → IsTableBy P file v t → IsTableBy Q file v t
table_as P Q file v t turned is = record { bodies = is.bodies; there = turned is.bodies is.there; few = is.few; base = is.base; rows = is.rows; commands = is.commands; tail = is.tail; is = is.is }

-- ---- shown

-- an address shows a block with a checksum, no trailer's
abbrev pub Stood : Units → (a c : ℕ) → Type 0
Stood image a c = (b : Block) × (image (BlockPlace a) ≡ Some (BlockUnit b)) × (b.checksum ≡ c) × (0 < b.kind)

-- One that shows each block which a view references, none of them but from these pools, in which one checksum at an address is one block:
-- its table is that of the pools.
module _ (Pool : Place → AnyUnit → Type 0)
    (image : Units) (seen : (a : ℕ) (b : Block) → image (BlockPlace a) ≡ Some (BlockUnit b) → Pool (BlockPlace a) (BlockUnit b))
    (one : (a : ℕ) (b c : Block) → Pool (BlockPlace a) (BlockUnit b) → Pool (BlockPlace a) (BlockUnit c) → b.checksum ≡ c.checksum → b ≡ c) where
  body_shown : (x : ℕ × ℕ) (body : List ℕ) → Stood image x.0 x.1 → HasBlockBody Pool x body → ShowsBody image x body
  body_shown x body stood wrote =
      let same : stood.0 ≡ wrote.block = one x.0 stood.0 wrote.block (seen x.0 stood.0 stood.1) wrote.there (stood.2 ∙ sym wrote.sum) in
      record { block = wrote.block; there = stood.1 ∙ ap (λ (b : Block). Some (BlockUnit b)) same; sum = wrote.sum; own = wrote.own; body_is = wrote.body_is }

  module _ (f : ℕ → Option ℕ) (stands : (a c : ℕ) → f a ≡ Some c → Stood image a c) where
    entry_shown : (a : ℕ) (places : List ℕ) → ((bodies : List (List ℕ)) → HaveBodies Pool (entries f places) bodies
        → ShowsBodies image (entries f places) bodies) → (o : Option ℕ) → f a ≡ o → (bodies : List (List ℕ))
        → HaveBodies Pool (entry a o (entries f places)) bodies → ShowsBodies image (entry a o (entries f places)) bodies
    entry_shown a places rest None is bodies wrote = rest bodies wrote
    entry_shown a places rest (Some c) is [] wrote = absurd wrote
    entry_shown a places rest (Some c) is (body ∷ bodies) wrote = (body_shown (a, c) body (stands a c is) wrote.0, rest bodies wrote.1)

    all_shown : (places : List ℕ) (bodies : List (List ℕ))
        → HaveBodies Pool (entries f places) bodies → ShowsBodies image (entries f places) bodies
    all_shown [] [] wrote = tt
    all_shown [] (body ∷ bodies) wrote = absurd wrote
    all_shown (a ∷ places) bodies wrote = entry_shown a places (all_shown places) (f a) refl bodies wrote

  pub table_seen : (file : DataFile) (v : View) (t : Table) → Stands image v → IsTableBy Pool file v t → IsObjectTable file image v t
  table_seen file v t stands is = table_as Pool (λ place unit.
      image place ≡ Some unit) file v t (all_shown v.checkpoint.parts.references stands (addresses (shape file).layout)) is

-- so the table of an image that stands is that of the log
pub table_shown : (log : UnitLog) (image : Units)
    → NoChance log image → (file : DataFile) (v : View) (t : Table) → Stands image v → IsTableIn file log v t → IsObjectTable file image v t
table_shown log image chance file v t stands is = table_seen (IsWritten log) image (λ a b at.
    pool_pools log.start log.events (BlockPlace a) (BlockUnit b) (chance.pooled (BlockPlace a) (BlockUnit b) at))
    (λ a b c first second sum. chance.distinct (BlockPlace a) (BlockPlace a) (BlockUnit b) (BlockUnit c) first second sum) file v t stands is

-- ---- later

module _ (f : Format) (place : Place) (x : AnyUnit) where
  written_add : (e : Event) (log : Log) → IsWritten (units_log f log) place x → IsWritten (units_log f (add e log)) place x
  written_add (Write at bytes) log is = inr is
  written_add Sync log is = inr is
  written_add (Stop changes) log is = inr is

  pub written_on : (es : List Event) (log : Log) → IsWritten (units_log f log) place x → IsWritten (units_log f (adds es log)) place x
  written_on [] log is = is
  written_on (e ∷ es) log is = written_on es (add e log) (written_add e log is)

pub bodies_on : (f : Format) (es : List Event) (log : Log) (references : List (ℕ × ℕ)) (bodies : List (List ℕ))
    → WroteBodies (units_log f log) references bodies → WroteBodies (units_log f (adds es log)) references bodies
bodies_on f es log references bodies wrote = bodies_as (IsWritten (units_log f log)) (IsWritten (units_log f (adds es log))) (λ a b is.
    written_on f (BlockPlace a) (BlockUnit b) es log is) references bodies wrote

-- and so is the table, whatever is done
pub table_on : (file : DataFile) (f : Format) (es : List Event) (log : Log) (v : View) (t : Table)
    → IsTableIn file (units_log f log) v t → IsTableIn file (units_log f (adds es log)) v t
table_on file f es log v t is =
    table_as (IsWritten (units_log f log)) (IsWritten (units_log f (adds es log))) file v t (bodies_on f es log (references_of file v)) is
