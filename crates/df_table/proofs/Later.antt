-- One call by a base: the file is kept for the machine's next state, each moment of it is good, and a block that it writes was written from
-- then on.
use Rattle.std.proofs.Common.{◌≡◌, ℕ, Bool, if◌then◌else◌, List, [], ◌∷◌, Option, Some, None, refl, sym, ◌∙◌, ap, subst, eq-eqb}
use Rattle.df_base.{specs.{Image.{Image}, Log.{Event, Log}, Moments.{EachMoment, adds}}, proofs.Laws.{now_is_image}}
use Rattle.df_base.specs.Log as logs
use Rattle.{df_damage.specs.Written.{IsWritten}, df_disk.specs.{Told.{Told, did}, Adds.{after_all}}, df_units.specs.Bytes.{unit_at}}
use Rattle.df_theory.{specs.{Device.{IsGoodWholeDisk, units_log}, UnitLog.{now, put_one}, Units.{AnyUnit, Block, BlockPlace, BlockUnit, or_else}}, proofs.Laws.{now_units, pool_pools}}
use Rattle.df_model.specs.{declared.errors.BlockError.{BlockError}, Commands.{Answer, Command, WriteBlock, supplied_sum, supplied_sums}, Making.{block_of, next_address}, Memory.{memory_of}, Refusals.{block_refusals, first_refusal}, Supply.{puts_of, unless}, Work.{Work, kept}}
use Rattle.df_session.{specs.{Below.{DataFile, State as Replica, memory, shape, spelling, told_after}, Leaving.{image_after}, Serving.{EachIsGood, IsCall, IsKept, Keeps, Whole, format, next}, Session.{Act}}, proofs.Laws.{added_is_told}}

-- ---- what is told

pub told_log : (es : List Event) (n : Told) → (told_after es n).log ≡ adds es n.log
told_log [] n = refl
told_log (e ∷ es) n = told_log es (did e n)

image_on : (es : List Event) (log : Log) → image_after es (logs.now log) ≡ logs.now (adds es log)
image_on [] log = refl
image_on (e ∷ es) log = image_on es (logs.add e log)

-- ---- a call

-- the moments of one, by a base
pub good_moments : (a : Act) (s u : Replica) (old mid : Option Told) (answer : Option Answer) (w : Work) (n : Told)
    → IsKept Whole s w n.log → (c : IsCall a.given a.command s u old mid answer) → EachMoment
    n.log (told_after c.events n).log (IsGoodWholeDisk (format s.file) (shape s.file) (kept w) (kept (next s.file w a.given a.command).0))
good_moments a s u old mid answer w n kept_is c = let is = (c.keeps Whole w (Some n) kept_is).0 in (rw (added_is_told c.events n) at is).1

-- ---- an answered call

module _ (file : DataFile) (a : Act) (s u : Replica) (old mid : Option Told) (x : Answer) (w : Work)
    (n : Told) (same : s.file ≡ file) (kept_is : IsKept Whole s w n.log) (c : IsCall a.given a.command s u old mid (Some x)) where
  abbrev pub behind : Told
  behind = told_after c.events n

  abbrev pub work : Work
  work = (next file w a.given a.command).0

  both : (x ≡ (next file w a.given a.command).1) × Keeps Whole u work (Some behind)
  both = let is = (c.keeps Whole w (Some n) kept_is).1 in let there = subst (λ (f : DataFile).
      (x ≡ (next f w a.given a.command).1) × Keeps Whole u (next f w a.given a.command).0 (after_all c.events (Some n))) same is in
      (there.0, subst (λ (o : Option Told). Keeps Whole u work o) (added_is_told c.events n) there.1)

  pub answer_is : x ≡ (next file w a.given a.command).1
  answer_is = both.0

  pub kept_behind : IsKept Whole u work behind.log
  kept_behind = both.1

  pub same_behind : u.file ≡ file
  same_behind = c.file ∙ same

  pub memory_is : memory s ≡ memory_of (shape file) (spelling file) w
  memory_is = subst (λ (f : DataFile). memory s ≡ memory_of (shape f) (spelling f) w) same kept_is.stands

  -- what is shown at the end was written
  pub shown_written : (address : ℕ) (b : Block) → unit_at file.layout file.cluster (logs.now behind.log) (BlockPlace address)
      ≡ Some (BlockUnit b) → IsWritten (units_log (format file) behind.log) (BlockPlace address) (BlockUnit b)
  shown_written address b is = let units = units_log (format file) behind.log in
      let by = subst (λ (f : DataFile). now (units_log (format f) behind.log) (BlockPlace address) ≡ Some (BlockUnit b)
      → IsWritten (units_log (format f) behind.log) (BlockPlace address) (BlockUnit b)) same_behind
      (λ at. let log = units_log (format u.file) behind.log in pool_pools log.start
      log.events (BlockPlace address) (BlockUnit b) (kept_behind.kept_by.0.tidy.rests.pooled (BlockPlace address) (BlockUnit b) at)) in
      by ((λ i. now_units (format file) behind.log.start behind.log.events i (BlockPlace address)) ∙ is)

  -- each moment of it is good
  pub good : EachMoment n.log behind.log (IsGoodWholeDisk (format file) (shape file) (kept w) (kept work))
  good = let is : EachMoment n.log behind.log (IsGoodWholeDisk (format s.file)
      (shape s.file) (kept w) (kept (next s.file w a.given a.command).0)) = good_moments a s u old mid (Some x) w n kept_is c in
      subst (λ (f : DataFile).
      EachMoment n.log behind.log (IsGoodWholeDisk (format f) (shape f) (kept w) (kept (next f w a.given a.command).0))) same is

  -- a block that it writes is written
  pub block_written : (body : List ℕ) → a.command ≡ WriteBlock 1 body → first_refusal (block_refusals (memory s) 1 body) ≡ None
      → IsWritten (units_log (format file) behind.log)
      (BlockPlace (next_address (memory s))) (BlockUnit (block_of (memory s).content.boot (supplied_sum a.given) 1 body))
  block_written body is fine = let address = next_address (memory s) in let sums = supplied_sums a.given in
      let b = block_of (memory s).content.boot (supplied_sum a.given) 1 body in let image = logs.now n.log in
      let leaves = c.leaves image (now_is_image n.log.start n.log.events kept_is.log_is.start kept_is.log_is.events) in
      let put : puts_of (memory s) sums (WriteBlock 1 body) (BlockPlace address) ≡ Some (BlockUnit b) =
      ap (λ (o : Option BlockError). unless o (put_one (BlockPlace address) (BlockUnit b)) (BlockPlace address)) fine
      ∙ ap (λ (e : Bool). if e then Some (BlockUnit b) else None) (eq-eqb address address refl) in
      let shown : unit_at s.file.layout s.file.cluster (image_after c.events image) (BlockPlace address) ≡ Some (BlockUnit b) =
      leaves.units.block address ∙ ap (λ (k : Command).
      or_else (puts_of (memory s) sums k (BlockPlace address)) (unit_at s.file.layout s.file.cluster image (BlockPlace address))) is
      ∙ ap (λ (o : Option AnyUnit). or_else o (unit_at s.file.layout s.file.cluster image (BlockPlace address))) put in
      let there : unit_at file.layout file.cluster (image_after c.events image) (BlockPlace address) ≡ Some (BlockUnit b) =
      rw (← same) shown in let now_is : logs.now behind.log ≡ image_after c.events image =
      ap (λ (l : Log). logs.now l) (told_log c.events n) ∙ sym (image_on c.events n.log) in
      shown_written address b (ap (λ (i : Image). unit_at file.layout file.cluster i (BlockPlace address)) now_is ∙ there)
