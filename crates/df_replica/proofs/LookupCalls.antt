-- Each read of a reply is the machine's: it does nothing to the disk, and what it found is what it was supplied with.
use Rattle.std.{proofs.{Common.{◌≡◌, ℕ, Bool, true, false, cond, nat_lt, [], Option, Some, None, refl, sym, ◌∙◌, ap, subst}, lemmas.Option.{same_Some}}, specs.Prelude.{Result, Ok, Err}}
use Rattle.{df_disk.specs.Told.{Told}, df_format.specs.{declared.kind.Kind.TheVariants.{Reply}, Message.{Message}, Own.{place_in}}}
use Rattle.df_layout.specs.{declared.damage.Class.{Class}, declared.places.Place.{Place}, declared.places.Zone.TheVariants.{ClientReplies}}
use Rattle.{df_buffers.specs.Sounds.{Holding}, df_units.specs.Meaning.{message_of}}
use Rattle.df_theory.specs.Units
use Rattle.df_model.specs.After as after
use Rattle.df_model.specs.{After.{shown_or}, Commands.{ForReadReply, Given, IsInput, ReadReply, ToReadReply, supplied_message}, Faults.{is_lookup_fault}, Memory.{Memory}, Refusals.{first_refusal, is_new, last_op, lookup_refusals, session_of_client}, declared.reading.LookupError.{LookupError}}
use Rattle.df_model.specs.Memory as memory
use Rattle.df_model.specs.declared.reading.LookupError.TheVariants as lookup
use Rattle.df_opening.specs.Below.{State, memory, reply_sum as known_sum}
use Rattle.df_replica.{specs.{Answering.{GivesFound, ServesRead, answer_of}, declared.lookup.Stored.{Stored}, Lookups.{HoldsKnown, IsReadReply, IsStoredFor, TellsShown, place_for, reply_found, reply_shown}, Reading.{IsFoundBy, IsKnownUnit}, Supply.{IsSupplied}, Stopping.{left_by}}, proofs.{LookupFinds.{reply_found_by, reply_known, reply_lacks_by}, Calls.{AreCalls, Answered, answered_call, answered_quiet, stopped_call}, Leaves.{makes_nothing}, ReadCalls.{no_sums}}}

module _ (s : State) (client : ℕ) (live : s.live ≡ true) where
  calls : (given : Given) → AreCalls given (ReadReply client) s []
  calls given g w t k = record { steps = []; are = tt; does = refl }

  input : (told : Option Told) (given : Given) → IsSupplied s told (ReadReply client) given → IsInput given (ReadReply client)
  input told given supplied = record { checksums = no_sums given (ForReadReply (supplied_message given)) supplied.0 refl; fields = tt }

  answered : (given : Given) (answer : Result Units.Message LookupError) → after.lookup_answer (memory s) (supplied_message given) client
      ≡ answer → Answered given (ReadReply client) s s [] (ToReadReply answer)
  answered given answer same = answered_quiet s s given (ReadReply client) (ToReadReply answer) refl refl live
      (λ w work rep.
      (ap ToReadReply (sym same) ∙ ap (λ (m : Memory). ToReadReply (after.lookup_answer m (supplied_message given) client)) rep, rep))
      (λ w work rep. tt)

  answers : (told : Option Told) (found : Option (Result Units.Message Class)) (answer : Result Units.Message LookupError)
      → ((given : Given) → IsSupplied s told (ReadReply client) given
      → GivesFound told found given → after.lookup_answer (memory s) (supplied_message given) client ≡ answer)
      → ServesRead (ReadReply client) s s told found (Some (ToReadReply answer))
  answers told found answer same given supplied gives =
      answered_call given (ReadReply client) s [] (input told given supplied) (calls given) (makes_nothing given (ReadReply client)
      s (λ place. refl) (λ no. no)) s (ToReadReply answer) (answered given answer (same given supplied gives)) told told supplied refl

  message_is : (told : Option Told) (m : Result Units.Message Class) → IsFoundBy s (ReadReply client) told m
      → (given : Given) → IsSupplied s told (ReadReply client) given → GivesFound told (Some m) given → supplied_message given ≡ m
  message_is None m by given supplied gives = gives
  message_is (Some t) m by given supplied gives = supplied.1 ∙ sym by

  -- a refusal
  pub lookup_refused : (told : Option Told) (e : LookupError) → first_refusal (lookup_refusals (memory s) client) ≡ Some e
      → ServesRead (ReadReply client) s s told None (Some (ToReadReply (Err e)))
  lookup_refused told e some = answers told None (Err e) (λ given supplied gives. ap (λ (o : Option LookupError).
      shown_or o (lookup.Damaged (place_in ClientReplies (place_for s client))) (supplied_message given)) some)

  -- what was found
  pub lookup_serves : (told : Option Told) (m : Result Units.Message Class)
      → first_refusal (lookup_refusals (memory s) client) ≡ None → IsFoundBy s (ReadReply client) told m → ServesRead (ReadReply client)
      s s told (Some m) (Some (ToReadReply (shown_or None (lookup.Damaged (place_in ClientReplies (place_for s client))) m)))
  lookup_serves told m none by =
      answers told (Some m) (shown_or None (lookup.Damaged (place_in ClientReplies (place_for s client))) m) (λ given supplied gives.
      ap (λ (o : Option LookupError). shown_or o (lookup.Damaged (place_in ClientReplies (place_for s client))) (supplied_message given)) none
      ∙ ap (λ (r : Result Units.Message Class).
      shown_or None (lookup.Damaged (place_in ClientReplies (place_for s client))) r) (message_is told m by given supplied gives))

  -- a fault
  pub lookup_stopped : (told : Option Told) (t : State) → t.live ≡ false → ServesRead (ReadReply client) s t told None None
  lookup_stopped told t dead given supplied gives = stopped_call given (ReadReply client) s [] (input told given supplied)
      (calls given) (makes_nothing given (ReadReply client) s (λ place. refl) (λ no. no)) t told told supplied dead refl

-- ---- a refusal

-- the two refusals of a read of a reply
abbrev pub IsRefusal : LookupError → Type 0
IsRefusal lookup.NoClient = Unit {0}
IsRefusal (lookup.ReplyPending op) = Unit {0}
IsRefusal e = ⊥

is_refusal : (s : State) (client : ℕ) (e : LookupError) → first_refusal (lookup_refusals (memory s) client) ≡ Some e → IsRefusal e
is_refusal s client e some = let session = session_of_client client (memory s).sessions in
    by (is_new session) (nat_lt s.replies (last_op session)) (last_op session) some
  where
    by : (new waits : Bool) (op : ℕ)
        → cond new (Some lookup.NoClient) (cond waits (Some (lookup.ReplyPending op)) None) ≡ Some e → IsRefusal e
    by true waits op is = subst IsRefusal (same_Some _ _ is) tt
    by false true op is = subst IsRefusal (same_Some _ _ is) tt
    by false false op is = absurd (cc)

-- what a read answers where it is refused
pub refused_reads : (s : State) (client : ℕ) (live : s.live ≡ true) (told : Option Told) (e : LookupError)
    → first_refusal (lookup_refusals (memory s) client) ≡ Some e → IsReadReply client s told (Err e)
refused_reads s client live told lookup.NoClient some = some
refused_reads s client live told (lookup.ReplyPending op) some = some
refused_reads s client live told (lookup.Damaged place class) some = absurd (is_refusal s client (lookup.Damaged place class) some)
refused_reads s client live told lookup.DiskFault some = absurd (is_refusal s client lookup.DiskFault some)

pub refused_serves : (A : Type 0) (s : State) (client : ℕ) (live : s.live ≡ true) (told : Option Told) (e : LookupError)
    → first_refusal (lookup_refusals (memory s) client) ≡ Some e → ServesRead (ReadReply client)
    s (left_by {T = A} is_lookup_fault s (Err e)) told (reply_found (Err e)) (answer_of is_lookup_fault ToReadReply (Err e))
refused_serves A s client live told lookup.NoClient some = lookup_refused s client live told lookup.NoClient some
refused_serves A s client live told (lookup.ReplyPending op) some = lookup_refused s client live told (lookup.ReplyPending op) some
refused_serves A s client live told (lookup.Damaged place class) some = absurd (is_refusal s client (lookup.Damaged place class) some)
refused_serves A s client live told lookup.DiskFault some = absurd (is_refusal s client lookup.DiskFault some)

-- ---- what was read

-- a unit is lent
pub record LendsAs (s : State) (client : ℕ) (told : Option Told) (u : Message) : Type 0 where
  pub exact : IsReadReply client s told (Ok (message_of u))
  pub known : IsKnownUnit Reply s.file (place_in ClientReplies (place_for s client)) (memory.reply_sum (memory s) (place_for s client)) u
  pub call : ServesRead (ReadReply client) s s told (Some (Ok (message_of u))) (Some (ToReadReply (Ok (message_of u))))

-- a class is told
pub record TellsOf (s : State) (client : ℕ) (told : Option Told) (place : Place) (class : Class) : Type 0 where
  pub exact : IsReadReply client s told (Err (lookup.Damaged place class))
  pub call : ServesRead (ReadReply client) s s told (Some (Err class)) (Some (ToReadReply (Err (lookup.Damaged place class))))

-- what a load of a reply that is stored came to
pub record LoadsReply (s : State) (client : ℕ) (told : Option Told) (stored : Stored) (wrong : Option Class) (held : Option Holding) : Type
    0 where
  pub for : IsStoredFor s client stored
  pub known : HoldsKnown Reply s.file (place_in ClientReplies stored.place) (known_sum stored.reply) wrong held
  pub tells : TellsShown told (reply_shown s.file stored.place stored.reply) wrong held

module _ (s : State) (client : ℕ) (live : s.live ≡ true) (told : Option Told) (stored : Stored) (wrong : Option Class) (held : Option Holding)
    (load : LoadsReply s client told stored wrong held) where
  pub lends_as : (h : Holding) → wrong ≡ None → held ≡ Some h → LendsAs s client told h.unit
  lends_as h is has =
      let at : LoadsReply s client told stored None (Some h) = subst (λ (o : Option Holding). LoadsReply s client told stored None o) has
      (subst (λ (o : Option Class). LoadsReply s client told stored o held) is load) in
      let by = reply_found_by s client stored load.for told h at.tells in record {
        exact = (load.for.served, by);
        known = reply_known s client stored load.for h.unit at.known;
        call = lookup_serves s client live told (Ok (message_of h.unit)) load.for.served by;
      }

  pub tells_of : (class : Class) (place : Place)
      → wrong ≡ Some class → place ≡ place_in ClientReplies stored.place → TellsOf s client told place class
  tells_of class place is there = let lacks : LoadsReply s client told stored (Some class) held =
      subst (λ (o : Option Class). LoadsReply s client told stored o held) is load in
      let by = reply_lacks_by s client stored load.for told class held lacks.tells in
      subst (λ (p : Place). TellsOf s client told p class) (sym (there ∙ ap (place_in ClientReplies) load.for.place))
      (record { exact = (load.for.served, refl, by); call = lookup_serves s client live told (Err class) load.for.served by })
