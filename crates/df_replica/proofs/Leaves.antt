-- What a command puts, which blocks its device calls spare, and which are durable after it.
use Rattle.std.{proofs.{Common.{◌≡◌, ◌⊎◌, inl, inr, ℕ, zero, suc, ◌+◌, ◌<◌, ◌%◌, ◌==◌, ◌||◌, if◌then◌else◌, Bool, true, false, List, [], ◌∷◌, Option, Some, None, refl, sym, ◌∙◌, ap, subst, arith}, lemmas.Bool.{eqb-true, or_cases, or_left, or_right}, lemmas.Bool.Decides.{nat_tests}, lemmas.Option.{same_Some}}, specs.Prelude.{nat_lt}}
use Rattle.{df_base.specs.{Image.{Image, IsImage}, Log.{Event, Log, loose}, Moments.{adds}}, df_units.specs.Bytes.{has, unit_at}}
use Rattle.df_layout.specs.declared.layout.Layout.{Layout}
use Rattle.df_theory.specs.{Units.{AnyUnit, BlockPlace, BlockUnit, Content, CopyPlace, CopyUnit, HeaderPlace, Message, Place, PreparePlace, PrepareUnit, ReplyPlace, ReplyUnit, Units, or_else}, Device.{AreSteps}, Runs.{Step}, UnitLog.{put_one}}
use Rattle.df_model.{specs.{After.{with_verdict}, Change.{Change, Checks, Ends}, Commands.{Advance, Append, Command, Flush, Given, Reply, WriteBlock, supplied_sums, supplied_verdict}, Making.{block_of, first_of, group_of, next_address, place_of_reply, prepare_of, reply_of, trailer_block}, Memory.{Course, Memory, course, course_of, memory_of}, Refusals.{append_refusals, block_refusals, first_refusal, flush_refusals, reply_refusals}, Sense.{AtEachOf, IsClearAddress, IsWork}, Supply.{copies_of, group_puts, puts_of, step_puts, trailer_puts, unless}, Work.{Running, Work, is_captured, is_held, is_known, is_of}, declared.answers.Verdict.{Verdict}, declared.answers.Verdict.TheVariants.{Sound, Failing}}, proofs.Laws.{block_may_law, one_thing_law, some_of}}
use Rattle.df_opening.{specs.Below.{DataFile, Represents, State, memory, shape, spelling}, proofs.Laws.{FrontSteps, StartSynced, same_class, same_sector, shown_by, stays_firm, stays_whole, synced_first, unit_after, unwritten}}
use Rattle.df_replica.specs.{Leaving.{AreSettled, IsReadPlace, LeavesCopies, LeavesShown, SparesHeld, WritesNext, image_after, is_durable, SparesOthers}, Serving.{Firm, Keeps, format, next}}

-- ---- what a command puts at a block that is held

put_aside : (a b : ℕ) (x : AnyUnit) → (a ≡ b → ⊥) → put_one (BlockPlace a) x (BlockPlace b) ≡ None
put_aside a b x differs = by (a == b) refl
  where
    by : (c : Bool) → (a == b) ≡ c → (if c then Some x else None) ≡ None
    by true is = absurd (differs (eqb-true a b is))
    by false is = refl

unless_none : {E : Type 0} (o : Option E) (put : Units) (place : Place) → (o ≡ None → put place ≡ None) → unless o put place ≡ None
unless_none (Some e) put place none = refl
unless_none None put place none = none refl

-- prepares aside
group_aside : (n : ℕ) (ps : List Message) (a : ℕ) → group_puts n ps (BlockPlace a) ≡ None
group_aside n [] a = refl
group_aside n (p ∷ ps) a = ap (λ (o : Option AnyUnit). or_else o None) (group_aside n ps a)

module _ (file : DataFile) (w : Work) (work : IsWork (shape file) (spelling file) w) (a : ℕ) (held : is_held w a ≡ true) (sums : List ℕ) where
  abbrev m : Memory
  m = memory_of (shape file) (spelling file) w

  abbrev made : ℕ
  made = first_of sums

  left_unput : (r : Running) → w.running ≡ Some r → (WritesNext Advance w a → ⊥)
      → (left : List ℕ) → r.left ≡ left → trailer_puts m (course (spelling file) r) made left (BlockPlace a) ≡ None
  left_unput r running other [] is = refl
  left_unput r running other (x ∷ more) is = put_aside x a (BlockUnit (trailer_block m (course (spelling file) r) made)) (λ same.
      other (r, more, running, is ∙ ap (λ (n : ℕ). n ∷ more) same))

  step_unput : (WritesNext Advance w a → ⊥)
      → (o : Option Running) → w.running ≡ o → step_puts m (course_of (spelling file) o) made (BlockPlace a) ≡ None
  step_unput other None running = refl
  step_unput other (Some r) running = left_unput r running other r.left refl

  held_unput : (command : Command) → (WritesNext command w a → ⊥) → puts_of m sums command (BlockPlace a) ≡ None
  held_unput (Append client request body) other = unless_none (first_refusal (append_refusals m client request body)) (put_one
      (PreparePlace ((m.head + 1) % m.layout.slots)) (PrepareUnit (prepare_of m made client request body))) (BlockPlace a) (λ none. refl)
  held_unput Flush other = unless_none (first_refusal (flush_refusals m))
      (group_puts m.layout.slots (group_of m sums)) (BlockPlace a) (λ none. group_aside m.layout.slots (group_of m sums) a)
  held_unput (Reply op body) other = unless_none (first_refusal (reply_refusals m op body))
      (put_one (ReplyPlace (place_of_reply m)) (ReplyUnit (reply_of m made body))) (BlockPlace a) (λ none. refl)
  held_unput (WriteBlock kind body) other = unless_none (first_refusal (block_refusals m kind body))
      (put_one (BlockPlace (next_address m)) (BlockUnit (block_of m.content.boot made kind body))) (BlockPlace a)
      (λ none. put_aside (next_address m) a (BlockUnit (block_of m.content.boot made kind body)) (λ same.
      let free : is_held w (next_address m) ≡ false = (block_may_law (shape file) (spelling file) w kind body none).free in
      let no : true ≡ false = sym held ∙ ap (is_held w) (sym same) ∙ free in cc))
  held_unput Advance other = step_unput other w.running refl
  held_unput command other = refl

-- ---- what is durable after a command

-- the running checkpoint holds the block, by a reference or in the trailer as far as it is written
abbrev is_taken : Running → ℕ → Bool
is_taken r a = is_known (r.parts.references a) || is_of a r.written

-- the command is the last step of a checkpoint that holds the block
abbrev EndsWith : Command → Work → (a : ℕ) → Type 0
EndsWith Advance w a = (r : Running) × (w.running ≡ Some r) × (r.left ≡ []) × (is_taken r a ≡ true)
EndsWith command w a = ⊥

module _ (file : DataFile) (w : Work) (a : ℕ) where
  -- what is durable after it was durable before, or the checkpoint that it ends holds it
  abbrev WasDurable : Command → Type 0
  WasDurable command = (is_durable w a ≡ true) ⊎ EndsWith command w a

  checked_was : (at : ℕ) (verdict : Verdict) → is_durable (with_verdict w at verdict) a ≡ true → is_durable w a ≡ true
  checked_was at Sound is = is
  checked_was at (Failing class) is = is

  changed_was : (given : Given) (command : Command) (u : Work)
      → Change (shape file) (spelling file) w given command u → is_durable u a ≡ true → WasDurable command
  changed_was given command u (Ends r running left) is = inr (r, running, left, is)
  changed_was given command u (Checks x more list) is = inl (checked_was x.0 (supplied_verdict given) is)
  changed_was given command u case is = inl is

  was_durable : (given : Given) (command : Command) → is_durable (next file w given command).0 a ≡ true → WasDurable command
  was_durable given command is =
      changed_was given command (next file w given command).0 (one_thing_law (shape file) (spelling file) w given command) is

-- what is durable is held
pub durable_held : (w : Work) (a : ℕ) → is_durable w a ≡ true → is_held w a ≡ true
durable_held w a is = or_right (is_known (w.live a)) _ (or_right (is_captured a w.running) _ is)

-- so is what the running checkpoint holds
taken_captured : (r : Running) (a : ℕ) → is_taken r a ≡ true → is_captured a (Some r) ≡ true
taken_captured r a is = elim (or_cases (is_known (r.parts.references a)) (is_of a r.written) is) [
  | inl known ↦ or_left (is_known (r.parts.references a)) _ known
  | inr there ↦ or_right (is_known (r.parts.references a)) _ (or_left (is_of a r.written) _ there)
]

taken_held : (w : Work) (r : Running) (a : ℕ) → w.running ≡ Some r → is_taken r a ≡ true → is_held w a ≡ true
taken_held w r a running is =
    or_right (is_known (w.live a)) _ (or_left (is_captured a w.running) _ (ap (is_captured a) running ∙ taken_captured r a is))

-- the running trailer's next block is not a durable one
next_aside : (w : Work) (a : ℕ) → ((r : Running) → w.running ≡ Some r → AtEachOf (IsClearAddress w.live w.view.checkpoint) r.left)
    → is_durable w a ≡ true → (command : Command) → WritesNext command w a → ⊥
next_aside w a clear is Advance (r, more, running, left) = let free : IsClearAddress w.live w.view.checkpoint a =
    (subst (AtEachOf (IsClearAddress w.live w.view.checkpoint)) left (clear r running)).0 in
    elim (or_cases (is_known (w.view.checkpoint.parts.references a)) (is_of a w.view.checkpoint.chain) is) [
      | inl known ↦ let no : true ≡ false = sym known ∙ ap is_known free.unreferenced in cc
      | inr there ↦ let at = some_of a w.view.checkpoint.chain there in free.no_trailer at.0 at.1
    ]
next_aside w a clear is command never = never

-- nor does the last step write one
last_aside : (w : Work) (a : ℕ) (r : Running) → w.running ≡ Some r → r.left ≡ [] → (command : Command) → WritesNext command w a → ⊥
last_aside w a r running left Advance (q, more, on, to_come) = let same : r ≡ q = same_Some _ _ (sym running ∙ on) in
    let no : [] ≡ a ∷ more = sym left ∙ ap (λ (x : Running). x.left) same ∙ to_come in cc
last_aside w a r running left command never = never

-- ---- a call whose steps put what its command makes

-- the trailer of the running checkpoint is written
abbrev pub IsWhole : Option Course → Type 0
IsWhole None = ⊥
IsWhole (Some c) = c.left ≡ []

-- the command is the last step of a checkpoint
abbrev pub IsLast : Command → Memory → Type 0
IsLast Advance m = IsWhole m.running
IsLast command m = ⊥

-- its device calls are steps that put at each place that a call reads what the command makes of what is in memory; the last step begins
-- with a sync
pub record Makes (given : Given) (command : Command) (s : State) (events : List Event) : Type 0 where
  pub steps : List Step
  pub are : AreSteps (format s.file) events steps
  pub prepare : (k : ℕ) (o : Option AnyUnit)
      → unit_after steps (PreparePlace k) o ≡ or_else (puts_of (memory s) (supplied_sums given) command (PreparePlace k)) o
  pub reply : (k : ℕ) (o : Option AnyUnit)
      → unit_after steps (ReplyPlace k) o ≡ or_else (puts_of (memory s) (supplied_sums given) command (ReplyPlace k)) o
  pub block : (k : ℕ) (o : Option AnyUnit)
      → unit_after steps (BlockPlace k) o ≡ or_else (puts_of (memory s) (supplied_sums given) command (BlockPlace k)) o
  pub copy : (w : Work) → IsWork (shape s.file) (spelling s.file) w → Represents s w → (n : ℕ) (o : Option AnyUnit)
      → unit_after steps (CopyPlace n) o ≡ or_else (puts_of (memory s) (supplied_sums given) command (CopyPlace n)) o
  pub last : IsLast command (memory s) → StartSynced steps

-- a command that makes what its steps put
pub makes_put : (given : Given) (command : Command) (s : State) (events : List Event) (steps : List Step) (put : Units)
    → AreSteps (format s.file) events steps → ((place : Place) (o : Option AnyUnit) → unit_after steps place o ≡ or_else (put place) o)
    → ((place : Place) → put place ≡ puts_of (memory s) (supplied_sums given) command place)
    → (IsLast command (memory s) → ⊥) → Makes given command s events
makes_put given command s events steps put are after is other = let made : (place : Place) (o : Option AnyUnit)
    → unit_after steps place o ≡ or_else (puts_of (memory s) (supplied_sums given) command place) o = λ place o.
    after place o ∙ ap (λ (p : Option AnyUnit). or_else p o) (is place) in record {
      steps = steps;
      are = are;
      prepare = λ k o. made (PreparePlace k) o;
      reply = λ k o. made (ReplyPlace k) o;
      block = λ k o. made (BlockPlace k) o;
      copy = λ w work rep n o. made (CopyPlace n) o;
      last = λ last. absurd (other last);
    }

-- and one that makes nothing
pub makes_nothing : (given : Given) (command : Command) (s : State) → ((place : Place)
    → puts_of (memory s) (supplied_sums given) command place ≡ None) → (IsLast command (memory s) → ⊥) → Makes given command s []
makes_nothing given command s none other = makes_put given command s [] [] (λ place. None) tt (λ place o. refl) (λ place. sym (none place)) other

-- the four copies, one after the other
copy_passed : (n k : ℕ) (x : AnyUnit) (o : Option AnyUnit) → n < k → or_else (put_one (CopyPlace n) x (CopyPlace k)) o ≡ o
copy_passed n k x o less = let other : (n == k) ≡ false = grind (arith, nat_tests) in
    ap (λ (b : Bool). or_else (if b then Some x else None) o) other

-- the unit that they leave at a copy
abbrev pub copies_over : AnyUnit → (k : ℕ) → Option AnyUnit → Option AnyUnit
copies_over x k o = or_else (put_one (CopyPlace 3) x (CopyPlace k)) (or_else (put_one (CopyPlace 2) x (CopyPlace k))
    (or_else (put_one (CopyPlace 1) x (CopyPlace k)) (or_else (put_one (CopyPlace 0) x (CopyPlace k)) o)))

pub copies_made : (c : Content) (k : ℕ) (o : Option AnyUnit) → copies_over (CopyUnit c) k o ≡ or_else (copies_of c (CopyPlace k)) o
copies_made c zero o = refl
copies_made c (suc zero) o = refl
copies_made c (suc (suc zero)) o = refl
copies_made c (suc (suc (suc zero))) o = refl
copies_made c (suc (suc (suc (suc k)))) o = let n = suc (suc (suc (suc k))) in let x = CopyUnit c in
    let none : nat_lt n 4 ≡ false = grind (arith, nat_tests) in
    copy_passed 3 n x _ (omega arith) ∙ copy_passed 2 n x _ (omega arith) ∙ copy_passed 1 n x _ (omega arith) ∙ copy_passed 0 n x o (omega arith)
    ∙ sym (ap (λ (b : Bool). or_else (if b then Some x else None) o) none)

module _ (given : Given) (command : Command) (s : State) (events : List Event) (makes : Makes given command s events) where
  abbrev layout : Layout
  layout = s.file.layout

  abbrev cluster : ℕ
  cluster = s.file.cluster

  pub none_put : (place : Place)
      → IsReadPlace layout place → puts_of (memory s) (supplied_sums given) command place ≡ None → unit_after makes.steps place None ≡ None
  none_put (CopyPlace k) read none = absurd read
  none_put (HeaderPlace k) read none = absurd read
  none_put (PreparePlace k) read none = makes.prepare k None ∙ ap (λ (p : Option AnyUnit). or_else p None) none
  none_put (ReplyPlace k) read none = makes.reply k None ∙ ap (λ (p : Option AnyUnit). or_else p None) none
  none_put (BlockPlace k) read none = makes.block k None ∙ ap (λ (p : Option AnyUnit). or_else p None) none

  pub leaves_shown : (image : Image)
      → IsImage image → LeavesShown s.file (memory s) (supplied_sums given) command image (image_after events image)
  leaves_shown image whole = record {
    whole = stays_whole layout cluster events makes.steps image makes.are whole;
    units = record {
      prepare = λ k. shown_by layout cluster events makes.steps image makes.are whole (PreparePlace k)
          ∙ makes.prepare k (unit_at layout cluster image (PreparePlace k));
      reply = λ k. shown_by layout cluster events makes.steps image makes.are whole (ReplyPlace k)
          ∙ makes.reply k (unit_at layout cluster image (ReplyPlace k));
      block = λ k. shown_by layout cluster events makes.steps image makes.are whole (BlockPlace k)
          ∙ makes.block k (unit_at layout cluster image (BlockPlace k));
    };
    classes = λ place read none. same_class layout cluster (image_after events image) image place read (λ sector here.
        same_sector layout cluster events makes.steps
        makes.are image sector (unwritten layout cluster events makes.steps makes.are place (none_put place read none) sector here));
  }

  pub leaves_copies : (w : Work) → Keeps Firm s w None
      → (image : Image) → IsImage image → LeavesCopies s.file (memory s) (supplied_sums given) command image (image_after events image)
  leaves_copies w k image whole n = shown_by layout cluster events makes.steps image makes.are whole (CopyPlace n)
      ∙ makes.copy w k.0 k.1 n (unit_at layout cluster image (CopyPlace n))

  pub spares_held : (w : Work) → Keeps Firm s w None → SparesHeld s.file command w events
  spares_held w k a held other sector here = let none = subst (λ (x : Memory). puts_of x (supplied_sums given) command (BlockPlace a)
      ≡ None) (sym k.1) (held_unput s.file w k.0 a held (supplied_sums given) command other) in unwritten layout cluster
      events makes.steps makes.are (BlockPlace a) (makes.block a None ∙ ap (λ (p : Option AnyUnit). or_else p None) none) sector here

  -- no command but a step ends a checkpoint
  ends_by : (P : Command → Type 0) (w : Work) (a : ℕ) → (EndsWith Advance w a → P Advance) → (c : Command) → EndsWith c w a → P c
  ends_by P w a step Advance ends = step ends
  ends_by P w a step command never = absurd never

  ends_last : (w : Work) (a : ℕ) (c : Command) → EndsWith c w a → IsLast c (memory_of (shape s.file) (spelling s.file) w)
  ends_last w a = ends_by (λ c. IsLast c (memory_of (shape s.file) (spelling s.file) w)) w a (λ ends.
      subst (λ (o : Option Running). IsWhole (course_of (spelling s.file) o)) (sym ends.1) ends.2)

  ends_held : (w : Work) (a : ℕ) (c : Command) → EndsWith c w a → (is_held w a ≡ true) × (WritesNext c w a → ⊥)
  ends_held w a = ends_by (λ c. (is_held w a ≡ true) × (WritesNext c w a → ⊥)) w a (λ ends.
      (taken_held w ends.0 a ends.1 ends.3, last_aside w a ends.0 ends.1 ends.2 Advance))

  firm_then : (w : Work) (log : Log) (k : Keeps Firm s w None) → AreSettled s.file log w
      → (a sector : ℕ) → has layout (BlockPlace a) sector ≡ true → WasDurable s.file w a command → loose (adds events log) sector ≡ false
  firm_then w log k settled a sector here (inl was) = stays_firm events log
      sector (settled.firm a sector was here) (spares_held w k a (durable_held w a was) (next_aside w a k.0.clear was command) sector here)
  firm_then w log k settled a sector here (inr ends) = let both = ends_held w a command ends in
      let starts = makes.last (subst (λ (x : Memory). IsLast command x) (sym k.1) (ends_last w a command ends)) in
      synced_first layout cluster events makes.steps makes.are starts log sector (spares_held w k a both.0 both.1 sector here)

  pub settles_on : (w : Work) (log : Log)
      → Keeps Firm s w None → AreSettled s.file log w → AreSettled s.file (adds events log) (next s.file w given command).0
  settles_on w log k settled =
      record { firm = λ a sector durable here. firm_then w log k settled a sector here (was_durable s.file w a given command durable) }

-- what a front of a call's device calls leaves of the places at which its command puts nothing
module _ (given : Given) (command : Command) (s : State) (events : List Event) (makes : Makes given command s events)
    (part : List Event) (front : FrontSteps (format s.file) part makes.steps) (image : Image) (whole : IsImage image) where
  pub others_spared : SparesOthers s.file (memory s) (supplied_sums given) command image (image_after part image)
  others_spared = let layout = s.file.layout in let cluster = s.file.cluster in record {
    units = λ place read none. shown_by layout cluster part front.steps image front.are whole place
        ∙ front.aside place (unit_at layout cluster image place) (none_put given command s events makes place read none);
    classes = λ place read none. let aside = front.aside place None (none_put given command s events makes place read none) in
        same_class layout cluster (image_after part image) image place read (λ sector here. same_sector layout
        cluster part front.steps front.are image sector (unwritten layout cluster part front.steps front.are place aside sector here));
  }
