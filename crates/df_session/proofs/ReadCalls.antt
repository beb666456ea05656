-- A read or a check that is made: what it is rightly supplied with, and the call that it is. It does nothing to the disk.
use Rattle.{std.proofs.Common.{◌≡◌, ℕ, Option, Some, None, Result, Ok, Err, [], refl}, df_disk.specs.Told.{Told}}
use Rattle.{df_base.specs.{Image.{Image}, declared.Failed.{Failed}}, df_layout.specs.declared.damage.Class.{Class, TheVariants.{Blank}}}
use Rattle.{df_theory.specs.Units.{Block, Message}, df_session.specs.{Links.{Makes}, Own.{own_events}}}
use Rattle.df_model.specs.{Commands.{Answer, Command, ForReadBlock, ForReadPrepare, ForReadReply, ForScrub, Given, ReadBlock, ReadPrepare, ReadReply, Scrub}, declared.answers.Scrubbed.{Scrubbed}, declared.answers.Verdict.{Verdict}, declared.answers.Verdict.TheVariants.{Sound}}
use Rattle.df_replica.{specs.{Answering.{GivesBlock, GivesFound, GivesVerdict, ServesBlockRead, ServesRead, ServesScrub, scrub_answer}, Below.{verdict_in, State as Replica}, BlockReads.{block_found}, Reading.{message_at}, Scrubbing.{IsCheckFound, check_found}, Serving.{IsCall}, Supply.{IsSupplied}}, proofs.Laws.{adds_none}}

-- What a read is rightly supplied with, in its own case: what the image shows, where the disk tells it; else what the call found, or
-- anything where it came to no read.
record IsRead {U : Type 0} (s : Replica) (command : Command) (form : Result U Class → Given) (shown : Image → Result U Class) (Gives : Option Told → Option (Result U Class) → Given → Type 0) : Type 0 where
  pub told : (t : Told) (found : Option (Result U Class))
      → IsSupplied s (Some t) command (form (shown t.shown)) × Gives (Some t) found (form (shown t.shown))
  pub found : (unit : Result U Class) → IsSupplied s None command (form unit) × Gives None (Some unit) (form unit)
  pub nothing : IsSupplied s None command (form (Err Blank)) × Gives None None (form (Err Blank))
  pub quiet : own_events command s ≡ []

-- the call was supplied so, and added nothing
made_with : (command : Command) (given : Given) (s t : Replica) (old new : Option Told) (answer : Option Answer)
    → new ≡ old → own_events command s ≡ [] → IsCall given command s t old old answer → Makes command s t old new answer
made_with command given s t old new answer same quiet call = record {
  act = record { command = command; given = given };
  is = refl;
  calls = record { call = rw same call; own = adds_none command s old new answer quiet same };
}

-- the call of a read, by what the read serves
reads : {U : Type 0} (command : Command) (form : Result U Class → Given) (shown : Image → Result U Class) (Gives : Option Told → Option (Result U Class) → Given → Type 0) (s t : Replica) (old new : Option Told) → IsRead s command form shown Gives → new ≡ old → (found : Option (Result U Class)) (answer : Option Answer)
    → ((given : Given) → IsSupplied s old command given → Gives old found given → IsCall given command s t old old answer)
    → Makes command s t old new answer
reads command form shown Gives s t (Some now) new is same found answer serves = let both = is.told now found in
    made_with command (form (shown now.shown)) s t (Some now) new answer same is.quiet (serves (form (shown now.shown)) both.0 both.1)
reads command form shown Gives s t None new is same (Some unit) answer serves = let both = is.found unit in
    made_with command (form unit) s t None new answer same is.quiet (serves (form unit) both.0 both.1)
reads command form shown Gives s t None new is same None answer serves =
    made_with command (form (Err Blank)) s t None new answer same is.quiet (serves (form (Err Blank)) is.nothing.0 is.nothing.1)

-- ---- the three kinds

module _ (s t : Replica) (old new : Option Told) (same : new ≡ old) where
  pub reads_prepare : (op : ℕ) (found : Option (Result Message Class)) (answer : Option Answer)
      → ServesRead (ReadPrepare op) s t old found answer → Makes (ReadPrepare op) s t old new answer
  reads_prepare op = reads (ReadPrepare op) ForReadPrepare (message_at s (ReadPrepare op)) GivesFound s t old new
      (record { told = λ t found. ((refl, refl), tt); found = λ unit. ((refl, tt), refl); nothing = ((refl, tt), tt); quiet = refl }) same

  pub reads_reply : (client : ℕ) (found : Option (Result Message Class)) (answer : Option Answer)
      → ServesRead (ReadReply client) s t old found answer → Makes (ReadReply client) s t old new answer
  reads_reply client = reads (ReadReply client) ForReadReply (message_at s (ReadReply client)) GivesFound s t old new
      (record { told = λ t found. ((refl, refl), tt); found = λ unit. ((refl, tt), refl); nothing = ((refl, tt), tt); quiet = refl }) same

  pub reads_block : (address : ℕ) (found : Option (Result Block Class)) (answer : Option Answer)
      → ServesBlockRead (ReadBlock address) s t old found answer → Makes (ReadBlock address) s t old new answer
  reads_block address = reads (ReadBlock address) ForReadBlock (block_found s address) GivesBlock s t old new
      (record { told = λ t found. ((refl, refl), tt); found = λ unit. ((refl, tt), refl); nothing = ((refl, tt), tt); quiet = refl }) same

-- ---- a check

abbrev verdict_for : Replica → Option Told → Result Scrubbed Failed → Verdict
verdict_for s (Some t) r = check_found s t.shown
verdict_for s None (Ok scrubbed) = verdict_in scrubbed
verdict_for s None (Err e) = Sound

found_by : (s : Replica) (told : Option Told) (r : Result Scrubbed Failed) → IsCheckFound s told (verdict_for s told r)
found_by s (Some t) r = refl
found_by s None (Ok scrubbed) = tt
found_by s None (Err e) = tt

gives : (s : Replica) (told : Option Told) (r : Result Scrubbed Failed) → GivesVerdict told r (ForScrub (verdict_for s told r))
gives s (Some t) (Ok scrubbed) = tt
gives s (Some t) (Err e) = tt
gives s None (Ok scrubbed) = refl
gives s None (Err e) = tt

pub checks : (s t : Replica) (old new : Option Told) (r : Result Scrubbed Failed)
    → new ≡ old → ServesScrub s t old r → Makes Scrub s t old new (scrub_answer r)
checks s t old new r same serves = let given = ForScrub (verdict_for s old r) in
    made_with Scrub given s t old new (scrub_answer r) same refl (serves given (refl, found_by s old r) (gives s old r))
