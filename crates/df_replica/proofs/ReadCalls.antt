-- Each read is the machine's: it does nothing to the disk, and what it found is what it was supplied with.
use Rattle.std.{proofs.{Common.{◌≡◌, ℕ, ◌+◌, ◌%◌, Bool, true, false, cond, not, ◌&&◌, nat_lt, [], Option, Some, None, refl, sym, ◌∙◌, ap, subst}, lemmas.Option.{same_Some}}, specs.Prelude.{Result, Ok, Err, nat_le, slice_get}}
use Rattle.{df_disk.specs.Told.{Told}, df_buffers.specs.Sounds.{Holding}, df_places.specs.Shelves.{HoldsFound, IsRead}}
use Rattle.df_layout.specs.{declared.damage.Class.{Class}, declared.places.Place.{Place}, declared.places.Zone.TheVariants.{WalPrepares}}
use Rattle.df_format.specs.{declared.kind.Kind.TheVariants.{Prepare}, Message.{Message}, Own.{place_in}, Spelling.{IsCheck}}
use Rattle.{df_units.specs.Meaning.{message_of}, df_opening.specs.Below.{State, memory}}
use Rattle.df_theory.specs.Units
use Rattle.df_model.specs.After as after
use Rattle.df_model.specs.{After.{shown_or}, Codec.{AreChecksums}, Commands.{ForReadPrepare, Given, IsInput, ReadPrepare, ToReadPrepare, supplied_message, supplied_sums}, Faults.{is_prepare_fault}, Memory.{Memory, prepare_sum}, Refusals.{first_refusal, prepare_refusals}, declared.reading.PrepareError.{PrepareError}}
use Rattle.df_model.specs.declared.reading.PrepareError.TheVariants as prepare
use Rattle.df_replica.{specs.{Answering.{GivesFound, ServesRead, answer_of}, Reading.{IsFoundBy, IsKnownUnit, IsReadPrepare, check_in, prepare_found, prepare_wanted}, Supply.{IsSupplied}, Stopping.{left_by}}, proofs.{ReadFinds.{prepare_found_by, prepare_known, prepare_lacks_by}, Calls.{AreCalls, Answered, answered_call, answered_quiet, stopped_call}, Leaves.{makes_nothing}}}

-- what makes no unit is supplied with no checksum
pub no_sums : (given other : Given) → given ≡ other → supplied_sums other ≡ [] → AreChecksums (supplied_sums given)
no_sums given other is none = subst AreChecksums (sym (ap supplied_sums is ∙ none)) tt

module _ (s : State) (op : ℕ) (live : s.live ≡ true) where
  calls : (given : Given) → AreCalls given (ReadPrepare op) s []
  calls given g w t k = record { steps = []; are = tt; does = refl }

  input : (told : Option Told) (given : Given) → IsSupplied s told (ReadPrepare op) given → IsInput given (ReadPrepare op)
  input told given supplied = record { checksums = no_sums given (ForReadPrepare (supplied_message given)) supplied.0 refl; fields = tt }

  answered : (given : Given) (answer : Result Units.Message PrepareError)
      → after.prepare_answer (memory s) (supplied_message given) op ≡ answer → Answered given (ReadPrepare op) s s [] (ToReadPrepare answer)
  answered given answer same = answered_quiet s s given (ReadPrepare op) (ToReadPrepare answer) refl refl live
      (λ w work rep.
      (ap ToReadPrepare (sym same) ∙ ap (λ (m : Memory). ToReadPrepare (after.prepare_answer m (supplied_message given) op)) rep, rep))
      (λ w work rep. tt)

  answers : (told : Option Told) (found : Option (Result Units.Message Class)) (answer : Result Units.Message PrepareError)
      → ((given : Given) → IsSupplied s told (ReadPrepare op) given
      → GivesFound told found given → after.prepare_answer (memory s) (supplied_message given) op ≡ answer)
      → ServesRead (ReadPrepare op) s s told found (Some (ToReadPrepare answer))
  answers told found answer same given supplied gives =
      answered_call given (ReadPrepare op) s [] (input told given supplied) (calls given) (makes_nothing given (ReadPrepare op) s (λ place.
      refl) (λ no. no)) s (ToReadPrepare answer) (answered given answer (same given supplied gives)) told told supplied refl

  message_is : (told : Option Told) (m : Result Units.Message Class) → IsFoundBy s (ReadPrepare op) told m
      → (given : Given) → IsSupplied s told (ReadPrepare op) given → GivesFound told (Some m) given → supplied_message given ≡ m
  message_is None m by given supplied gives = gives
  message_is (Some t) m by given supplied gives = supplied.1 ∙ sym by

  -- a refusal
  pub prepare_refused : (told : Option Told) (e : PrepareError)
      → first_refusal (prepare_refusals (memory s) op) ≡ Some e → ServesRead (ReadPrepare op) s s told None (Some (ToReadPrepare (Err e)))
  prepare_refused told e some = answers told None (Err e) (λ given supplied gives. ap (λ (o : Option PrepareError).
      shown_or o (prepare.Damaged (place_in WalPrepares (op % s.file.layout.slots))) (supplied_message given)) some)

  -- what was found
  pub prepare_serves : (told : Option Told) (m : Result Units.Message Class)
      → first_refusal (prepare_refusals (memory s) op) ≡ None → IsFoundBy s (ReadPrepare op) told m → ServesRead (ReadPrepare op)
      s s told (Some m) (Some (ToReadPrepare (shown_or None (prepare.Damaged (place_in WalPrepares (op % s.file.layout.slots))) m)))
  prepare_serves told m none by =
      answers told (Some m) (shown_or None (prepare.Damaged (place_in WalPrepares (op % s.file.layout.slots))) m) (λ given supplied gives.
      ap (λ (o : Option PrepareError).
      shown_or o (prepare.Damaged (place_in WalPrepares (op % s.file.layout.slots))) (supplied_message given)) none
      ∙ ap (λ (r : Result Units.Message Class).
      shown_or None (prepare.Damaged (place_in WalPrepares (op % s.file.layout.slots))) r) (message_is told m by given supplied gives))

  -- a fault
  pub prepare_stopped : (told : Option Told) (t : State) → t.live ≡ false → ServesRead (ReadPrepare op) s t told None None
  prepare_stopped told t dead given supplied gives = stopped_call given (ReadPrepare op) s [] (input told given supplied)
      (calls given) (makes_nothing given (ReadPrepare op) s (λ place. refl) (λ no. no)) t told told supplied dead refl

-- ---- a refusal

-- the one refusal of a read of a prepare
abbrev pub IsNotKept : PrepareError → Type 0
IsNotKept (prepare.NotKept first last) = Unit {0}
IsNotKept e = ⊥

not_kept : (s : State) (op : ℕ) (e : PrepareError) → first_refusal (prepare_refusals (memory s) op) ≡ Some e → IsNotKept e
not_kept s op e some = by (not (nat_lt s.fields.op op && nat_le op s.head)) some
  where
    by : (b : Bool) → cond b (Some (prepare.NotKept (s.fields.op + 1) s.head)) None ≡ Some e → IsNotKept e
    by true is = subst IsNotKept (same_Some _ _ is) tt
    by false is = absurd (cc)

-- what a read answers where it is refused
pub refused_reads : (s : State) (op : ℕ) (live : s.live ≡ true) (told : Option Told) (e : PrepareError)
    → first_refusal (prepare_refusals (memory s) op) ≡ Some e → IsReadPrepare op s told (Err e)
refused_reads s op live told (prepare.NotKept first last) some = some
refused_reads s op live told (prepare.Damaged place class) some = absurd (not_kept s op (prepare.Damaged place class) some)
refused_reads s op live told prepare.DiskFault some = absurd (not_kept s op prepare.DiskFault some)

pub refused_serves : (A : Type 0) (s : State) (op : ℕ) (live : s.live ≡ true) (told : Option Told) (e : PrepareError)
    → first_refusal (prepare_refusals (memory s) op) ≡ Some e → ServesRead (ReadPrepare op)
    s (left_by {T = A} is_prepare_fault s (Err e)) told (prepare_found (Err e)) (answer_of is_prepare_fault ToReadPrepare (Err e))
refused_serves A s op live told (prepare.NotKept first last) some = prepare_refused s op live told (prepare.NotKept first last) some
refused_serves A s op live told (prepare.Damaged place class) some = absurd (not_kept s op (prepare.Damaged place class) some)
refused_serves A s op live told prepare.DiskFault some = absurd (not_kept s op prepare.DiskFault some)

-- ---- what was read

abbrev pub place_for : State → ℕ → Place
place_for s op = place_in WalPrepares (op % s.file.layout.slots)

-- a unit is lent
pub record LendsAs (s : State) (op : ℕ) (told : Option Told) (u : Message) : Type 0 where
  pub exact : IsReadPrepare op s told (Ok (message_of u))
  pub known : IsKnownUnit Prepare s.file (place_for s op) (prepare_sum (memory s) op) u
  pub call : ServesRead (ReadPrepare op) s s told (Some (Ok (message_of u))) (Some (ToReadPrepare (Ok (message_of u))))

-- a class is told
pub record TellsOf (s : State) (op : ℕ) (told : Option Told) (place : Place) (class : Class) : Type 0 where
  pub exact : IsReadPrepare op s told (Err (prepare.Damaged place class))
  pub call : ServesRead (ReadPrepare op) s s told (Some (Err class)) (Some (ToReadPrepare (Err (prepare.Damaged place class))))

-- what a load of a prepare that isn't refused came to
pub record LoadsPrepare (s : State) (op : ℕ) (told : Option Told) (wrong : Option Class) (held : Option Holding) : Type 0 where
  pub none : first_refusal (prepare_refusals (memory s) op) ≡ None
  pub fits : IsCheck (check_in (slice_get s.headers (op % s.file.layout.slots)))
  pub holds : HoldsFound Prepare (prepare_wanted s.file s.headers op) wrong held
  pub read : IsRead Prepare (prepare_wanted s.file s.headers op) told wrong held

module _ (s : State) (op : ℕ) (live : s.live ≡ true) (told : Option Told) (wrong : Option Class) (held : Option Holding)
    (load : LoadsPrepare s op told wrong held) where
  pub lends_as : (h : Holding) → wrong ≡ None → held ≡ Some h → LendsAs s op told h.unit
  lends_as h is has = let at : LoadsPrepare s op told None (Some h) = subst (λ (o : Option Holding). LoadsPrepare s op told None o) has
      (subst (λ (o : Option Class). LoadsPrepare s op told o held) is load) in
      let by = prepare_found_by s op load.none load.fits told h at.holds at.read in record {
        exact = (load.none, by);
        known = prepare_known s op load.none load.fits h at.holds;
        call = prepare_serves s op live told (Ok (message_of h.unit)) load.none by;
      }

  pub tells_of : (class : Class) (place : Place) → wrong ≡ Some class → place ≡ place_for s op → TellsOf s op told place class
  tells_of class place is there =
      let lacks : LoadsPrepare s op told (Some class) held = subst (λ (o : Option Class). LoadsPrepare s op told o held) is load in
      let by = prepare_lacks_by s op load.none load.fits told class held lacks.read in
      subst (λ (p : Place). TellsOf s op told p class) (sym there)
      (record { exact = (load.none, refl, by); call = prepare_serves s op live told (Err class) load.none by })
