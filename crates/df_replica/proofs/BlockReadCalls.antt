-- Each read of a block is the machine's: it does nothing to the disk, and what it found is what it was supplied with.
use Rattle.std.{proofs.{Common.{◌≡◌, ℕ, Bool, true, false, cond, not, List, [], Option, Some, None, refl, sym, ◌∙◌, ap, subst}}, specs.Prelude.{Result, Ok, Err, is_some}}
use Rattle.{df_disk.specs.Told.{Told}, df_layout.specs.declared.{damage.Class.{Class}, places.{Place.{Place}, Zone.TheVariants.{Grid}}}}
use Rattle.{df_format.specs.{declared.kind.Kind.TheVariants.{Block}, Message.{Message}, Own.{place_in}}, df_buffers.specs.Sounds.{Holding}}
use Rattle.{df_trailer.specs.Rooms.{number_in}, df_grid.specs.{Grid.{IsKnownBlock}, Reads.{HoldsKnown, Loads, ReadsBlock}}}
use Rattle.{df_units.specs.Meaning.{block_of}, df_opening.specs.Below.{State, memory}}
use Rattle.df_theory.specs.Units
use Rattle.df_model.specs.After as after
use Rattle.df_model.specs.{After.{shown_or}, Blocks.{sum_at}, Commands.{ForReadBlock, Given, IsInput, ReadBlock, ToReadBlock, supplied_block}, Memory.{Memory}, Refusals.{first_refusal, read_refusals}, Work.{is_known}, declared.reading.ReadError.{ReadError}}
use Rattle.df_model.specs.declared.reading.ReadError.TheVariants as read
use Rattle.df_replica.{specs.{Answering.{GivesBlock, ServesBlockRead}, BlockReads.{IsBlockFound, IsReadBlock}, Supply.{IsSupplied}}, proofs.{Calls.{AreCalls, Answered, answered_call, answered_quiet, stopped_call}, Leaves.{makes_nothing}, ReadCalls.{no_sums}}}

module _ (s : State) (address : ℕ) (live : s.live ≡ true) where
  abbrev damaged : Class → ReadError
  damaged = read.Damaged (place_in Grid address)

  calls : (given : Given) → AreCalls given (ReadBlock address) s []
  calls given g w t k = record { steps = []; are = tt; does = refl }

  input : (told : Option Told) (given : Given) → IsSupplied s told (ReadBlock address) given → IsInput given (ReadBlock address)
  input told given supplied = record { checksums = no_sums given (ForReadBlock (supplied_block given)) supplied.0 refl; fields = tt }

  answered : (given : Given) (answer : Result Units.Block ReadError) → after.read_answer (memory s) (supplied_block given) address ≡ answer
      → Answered given (ReadBlock address) s s [] (ToReadBlock answer)
  answered given answer same = answered_quiet s s given (ReadBlock address) (ToReadBlock answer) refl refl live
      (λ w work rep.
      (ap ToReadBlock (sym same) ∙ ap (λ (m : Memory). ToReadBlock (after.read_answer m (supplied_block given) address)) rep, rep))
      (λ w work rep. tt)

  answers : (told : Option Told) (found : Option (Result Units.Block Class)) (answer : Result Units.Block ReadError)
      → ((given : Given) → IsSupplied s told (ReadBlock address) given
      → GivesBlock told found given → after.read_answer (memory s) (supplied_block given) address ≡ answer)
      → ServesBlockRead (ReadBlock address) s s told found (Some (ToReadBlock answer))
  answers told found answer same given supplied gives =
      answered_call given (ReadBlock address) s [] (input told given supplied) (calls given) (makes_nothing given (ReadBlock address)
      s (λ place. refl) (λ no. no)) s (ToReadBlock answer) (answered given answer (same given supplied gives)) told told supplied refl

  block_is : (told : Option Told) (b : Result Units.Block Class) → IsBlockFound s address told b
      → (given : Given) → IsSupplied s told (ReadBlock address) given → GivesBlock told (Some b) given → supplied_block given ≡ b
  block_is None b by given supplied gives = gives
  block_is (Some t) b by given supplied gives = supplied.1 ∙ sym by

  -- a refusal
  pub block_refused : (told : Option Told) (e : ReadError) → first_refusal (read_refusals (memory s) address) ≡ Some e
      → ServesBlockRead (ReadBlock address) s s told None (Some (ToReadBlock (Err e)))
  block_refused told e some =
      answers told None (Err e) (λ given supplied gives. ap (λ (o : Option ReadError). shown_or o damaged (supplied_block given)) some)

  -- what was found
  pub block_serves : (told : Option Told) (b : Result Units.Block Class)
      → first_refusal (read_refusals (memory s) address) ≡ None → IsBlockFound s address told b
      → ServesBlockRead (ReadBlock address) s s told (Some b) (Some (ToReadBlock (shown_or None damaged b)))
  block_serves told b none by = answers told (Some b) (shown_or None damaged b) (λ given supplied gives.
      ap (λ (o : Option ReadError). shown_or o damaged (supplied_block given)) none
      ∙ ap (λ (r : Result Units.Block Class). shown_or None damaged r) (block_is told b by given supplied gives))

  -- a fault
  pub block_stopped : (told : Option Told) (t : State) → t.live ≡ false → ServesBlockRead (ReadBlock address) s t told None None
  block_stopped told t dead given supplied gives = stopped_call given (ReadBlock address) s [] (input told given supplied)
      (calls given) (makes_nothing given (ReadBlock address) s (λ place. refl) (λ no. no)) t told told supplied dead refl

-- what the grid reads is what the machine does
found_by : (s : State) (address : ℕ) (told : Option Told) (b : Result Units.Block Class)
    → ReadsBlock s.file.layout s.file.cluster told address (sum_at address s.blocks.live) b → IsBlockFound s address told b
found_by s address None b is = tt
found_by s address (Some t) b is = is

-- a block is lent
pub record LendsBlock (s : State) (address : ℕ) (told : Option Told) (u : Message) : Type 0 where
  pub exact : IsReadBlock address s told (Ok (block_of u))
  pub known : IsKnownBlock Block s.file.layout s.file.cluster address (sum_at address s.blocks.live) u
  pub call : ServesBlockRead (ReadBlock address) s s told (Some (Ok (block_of u))) (Some (ToReadBlock (Ok (block_of u))))

-- a class is told
pub record TellsBlock (s : State) (address : ℕ) (told : Option Told) (place : Place) (class : Class) : Type 0 where
  pub exact : IsReadBlock address s told (Err (read.Damaged place class))
  pub call : ServesBlockRead (ReadBlock address) s s told (Some (Err class)) (Some (ToReadBlock (Err (read.Damaged place class))))

-- what a load of a block that isn't refused came to
pub record LoadsBlock (s : State) (address : ℕ) (told : Option Told) (wrong : Option Class) (held : Option Holding) : Type 0 where
  pub none : first_refusal (read_refusals (memory s) address) ≡ None
  pub loads : Loads s.file.layout s.file.cluster told address (sum_at address s.blocks.live) wrong held
  pub valid : HoldsKnown s.file.layout s.file.cluster address (sum_at address s.blocks.live) wrong held

module _ (s : State) (address : ℕ) (live : s.live ≡ true) (told : Option Told) (wrong : Option Class) (held : Option Holding)
    (load : LoadsBlock s address told wrong held) where
  pub lends_block : (h : Holding) → wrong ≡ None → held ≡ Some h → LendsBlock s address told h.unit
  lends_block h is has =
      let at : LoadsBlock s address told None (Some h) = subst (λ (o : Option Holding). LoadsBlock s address told None o) has
      (subst (λ (o : Option Class). LoadsBlock s address told o held) is load) in
      let by = found_by s address told (Ok (block_of h.unit)) at.loads in
      record { exact = (load.none, by); known = at.valid; call = block_serves s address live told (Ok (block_of h.unit)) load.none by }

  pub tells_block : (class : Class) (place : Place) → wrong ≡ Some class → place ≡ place_in Grid address → TellsBlock s address told place class
  tells_block class place is there =
      let by = found_by s address told (Err class) (subst (λ (o : Option Class). LoadsBlock s address told o held) is load).loads in
      subst (λ (p : Place). TellsBlock s address told p class) (sym there)
      (record { exact = (load.none, refl, by); call = block_serves s address live told (Err class) load.none by })

-- ---- whether it is refused

pub not_live : (s : State) (address : ℕ) (o : Option (List ℕ)) (b : Bool) → number_in o ≡ sum_at address s.blocks.live
    → is_some o ≡ not b → b ≡ true → first_refusal (read_refusals (memory s) address) ≡ Some read.NotLive
not_live s address None b there is none = ap (λ (k : Option ℕ). cond (not (is_known k)) (Some read.NotLive) None) (sym there)
not_live s address (Some check) b there is none = absurd (cc)

pub is_live : (s : State) (address : ℕ) (o : Option (List ℕ)) (b : Bool)
    → number_in o ≡ sum_at address s.blocks.live → is_some o ≡ not b → b ≡ false → first_refusal (read_refusals (memory s) address) ≡ None
is_live s address None b there is some = absurd (cc)
is_live s address (Some check) b there is some = ap (λ (k : Option ℕ). cond (not (is_known k)) (Some read.NotLive) None) (sym there)
