-- A live block that is read: the call that was made, and what the opening finds by it.
use Rattle.std.proofs.{Common.{◌≡◌, inl, inr, ℕ, Bool, true, not, List, [], ◌∷◌, Option, Some, None, refl, sym, ◌∙◌, ap, Result, Ok, Err}, lemmas.Option.{none-some}}
use Rattle.{df_base.specs.Causes.{Blamed}, df_disk.specs.Told.{Told}, df_theory.specs.Units.{Block}, df_rows.specs.Tables.{Table}}
use Rattle.df_model.specs.{Blocks.{sum_at}, Commands.{ReadBlock, ToReadBlock}, Faults.{is_read_fault}, Refusals.{first_refusal}, Supply.{block_read}, Work.{is_known}, declared.reading.ReadError.{ReadError}}
use Rattle.df_model.specs.declared.reading.ReadError.TheVariants as read
use Rattle.df_session.{specs.{Answering.{ServesBlockRead, answer_of}, Below.{State as Replica, memory}, BlockReads.{IsBlockFound, IsReadBlock, what_block}, Reading.{shown_of}}, proofs.Laws.{reads_block}}
use Rattle.df_session.specs.declared.hearing.Fault.TheVariants as faults
use Rattle.df_table.{specs.{declared.ending.Ending.{Ending}, declared.ending.Ending.TheVariants.{Damaged}, Calls.{Comes}, Opening.{GivesRows, LacksRows, ReadsTableBlock, TakesRows, block_ending}, Statuses.{is_disk}}, proofs.{BodyTaken.{body_comes, by_body}, Joined.{one_failed, one_spent}}}

-- ---- the call

module _ (address : ℕ) (s t : Replica) (old new : Option Told) (same : new ≡ old) where
  -- the block is lent
  pub block_comes : (before most : ℕ) (table : Table) (body : List ℕ) (b : Block) (r : Result Table Ending) → ServesBlockRead (ReadBlock
      address) s t old (what_block (Ok b)) (answer_of is_read_fault ToReadBlock (Ok b)) → TakesRows address before most table body r
      → Comes (ReadBlock address ∷ []) s t old new r
  block_comes before most table body b r serves takes =
      body_comes Table (GivesRows before most table body) (LacksRows address before most table body) (ReadBlock address)
      s t old new (ToReadBlock (Ok b)) r (reads_block s t old new same address (Some (Ok b)) (Some (ToReadBlock (Ok b))) serves) tt takes

  -- or it isn't
  pub block_refused : (e : ReadError) → (e ≡ read.NotLive → ⊥) → ServesBlockRead (ReadBlock address) s t old (what_block (Err e))
      (answer_of is_read_fault ToReadBlock (Err e)) → Comes {T = Table} (ReadBlock address ∷ []) s t old new (Err (block_ending e))
  block_refused read.DiskFault known serves =
      one_failed (ReadBlock address) s t old new faults.Disk (reads_block s t old new same address None None serves, tt)
  block_refused read.NotLive known serves = absurd (known refl)
  block_refused (read.Damaged place class) known serves =
      one_spent (ReadBlock address) s t old new (ToReadBlock (Err (read.Damaged place class))) (Damaged place class) (reads_block s t old new same address (Some (Err class)) (Some (ToReadBlock (Err (read.Damaged place class)))) serves) (inr (refl, (ToReadBlock (Err (read.Damaged place class)), ([], refl), inl refl)))

-- ---- what is found

module _ (address : ℕ) (s : Replica) (told : Option Told) (t : Told) (is : told ≡ Some t) (before most : ℕ) (table : Table) where
  pub block_found_here : (b : Block) (body : List ℕ) (r : Result Table Ending) → b.body ≡ body → IsReadBlock address s told (Ok b)
      → TakesRows address before most table body r → ReadsTableBlock (shown_of s.file t.shown) (memory s) address before most table r
  block_found_here b body r same exact takes =
      by_body Table (GivesRows before most table b.body) (LacksRows address before most table b.body) (ReadsTableBlock
      (shown_of s.file t.shown) (memory s) address before most table) r (λ later is. (b, shown, is)) (λ place is. (b, shown, is))
      (rw (sym same) at takes)
    where
      shown : block_read (shown_of s.file t.shown) (memory s) (ReadBlock address) ≡ Ok b
      shown = sym (rw is at exact.1)

  pub block_unfound : (e : ReadError) → (e ≡ read.NotLive → ⊥) → IsReadBlock address s told (Err e)
      → ReadsTableBlock (shown_of s.file t.shown) (memory s) address before most table (Err (block_ending e))
  block_unfound read.DiskFault known exact = tt
  block_unfound read.NotLive known exact = absurd (known refl)
  block_unfound (read.Damaged place class) known exact = (exact.1, sym (rw is at exact.2))

-- ---- no refusal, and whom it blames

pub live_there : (address : ℕ) (s : Replica) (told : Option Told) (e : ReadError)
    → is_known (sum_at address (memory s).blocks.live) ≡ true → IsReadBlock address s told (Err e) → e ≡ read.NotLive → ⊥
live_there address s told e known exact is =
    none-some read.NotLive (sym (ap (λ (b : Bool). first_refusal {E = ReadError} ((not b, read.NotLive) ∷ [])) known) ∙ rw is at exact)

pub read_blamed : (e : ReadError) (n now : ℕ)
    → (e ≡ read.NotLive → ⊥) → Blamed (is_read_fault e) n now → Blamed (is_disk (block_ending e)) n now
read_blamed read.DiskFault n now known blamed = blamed
read_blamed read.NotLive n now known blamed = absurd (known refl)
read_blamed (read.Damaged place class) n now known blamed = blamed
