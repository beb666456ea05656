-- A call answers and leaves what the machine does over what is shown.
use Rattle.std.proofs.Common.{◌≡◌, inr, ℕ, ◌+◌, ◌<◌, ◌≤◌, List, [], ◌∷◌, length, Option, Some, None, refl, sym, ◌∙◌, ap, subst, arith}
use Rattle.{df_base.specs.Image.{Image, IsImage}, df_disk.specs.Told.{Told}, df_layout.proofs.Laws.{some_slots}}
use Rattle.df_theory.specs.{Units.{AnyUnit, BlockPlace, CopyPlace, HeaderPlace, Place, PreparePlace, ReplyPlace, Units, or_else, overlay}, View.{PassesTests}}
use Rattle.df_units.specs.{Bytes.{unit_at}, Wanted.{class_at}}
use Rattle.df_model.{specs.{Commands.{Advance, Answer, Append, Command, Flush, Given, ReadBlock, ReadPrepare, ReadReply, Reply, Scrub, WriteBlock, supplied_sum, supplied_sums}, Making.{first_of}, Memory.{Memory, memory_of}, Supply.{Shown, checksums_given, next as over, puts_of, shown_after}, Work.{Request, Work}}, proofs.Laws.{length_in}}
use Rattle.df_replica.{specs.{Appending.{unit_made}, Below.{RunningState, DataFile, State, course_in, memory, shape, spelling, told_after}, Flushing.{group_in, group_prepares, header_in, sums_of}, Leaving.{IsReadPlace, LeavesShown, image_after}, Reading.{shown_of}, Serving.{Firm, IsCall, Keeps, next}, Stepping.{made_by}, Supply.{IsSupplied}}, proofs.Laws.{added_is_told, shown_after as shown_then}}
use Rattle.df_session.{specs.{Agreeing.{AgreeShown, AreSums, IsFoundIn}, Results.{IsResult, OneMoreIsResult, SuppliedIsResult}, Codec.{IsContentOfFile, codec}}, proofs.{Agreed.{next_agrees}, Made.{AreAsMany, sums_made}, Supplied.{next_is, puts_are}}}

-- ---- what is shown then

module _ (file : DataFile) (m : Memory) (sums : List ℕ) (command : Command) (before after : Image)
    (shown : Shown) (leaves : LeavesShown file m sums command before after) (is : AreSums (codec file) m sums command)
    (agree : AgreeShown file.layout (shown_of file before) shown) where
  abbrev under : Units
  under = unit_at file.layout file.cluster before

  abbrev puts : Units
  puts = puts_of m sums command

  over_same : (place : Place)
      → under place ≡ shown.units place → overlay puts under place ≡ (shown_after (codec file) shown m command).units place
  over_same place same = ap (λ (put : Units). or_else (put place) (under place)) (puts_are (codec file) m sums command is)
      ∙ ap (or_else (puts_of m (checksums_given (codec file) m command) command place)) same

  unit_then : (place : Place) → IsReadPlace file.layout place → unit_at file.layout file.cluster after place ≡ overlay puts under place
  unit_then (CopyPlace k) read = absurd read
  unit_then (HeaderPlace k) read = absurd read
  unit_then (PreparePlace k) read = leaves.units.prepare k
  unit_then (ReplyPlace k) read = leaves.units.reply k
  unit_then (BlockPlace k) read = leaves.units.block k

  class_then : (place : Place) → IsReadPlace file.layout place → (o : Option AnyUnit)
      → puts place ≡ o → or_else o (under place) ≡ None → class_at file.layout file.cluster after place ≡ shown.damage place
  class_then place read None put none = leaves.classes place read put ∙ agree.classes place read none
  class_then place read (Some x) put none = absurd (cc)

  pub shown_agrees : AgreeShown file.layout (shown_of file after) (shown_after (codec file) shown m command)
  shown_agrees = record {
    units = record {
      prepare = λ k. leaves.units.prepare k ∙ over_same (PreparePlace k) (agree.units.prepare k);
      reply = λ k. leaves.units.reply k ∙ over_same (ReplyPlace k) (agree.units.reply k);
      block = λ k. leaves.units.block k ∙ over_same (BlockPlace k) (agree.units.block k);
    };
    classes = λ place read none. class_then place read (puts place) refl (sym (unit_then place read) ∙ none);
  }

-- ---- what is supplied

found_in : (s : State) (t : Told) (given : Given) (command : Command)
    → IsSupplied s (Some t) command given → IsFoundIn (shown_of s.file t.shown) (memory s) given command
found_in s t given (ReadPrepare op) is = is.1
found_in s t given (ReadReply client) is = is.1
found_in s t given (ReadBlock address) is = is.1
found_in s t given Scrub is = is.1
found_in s t given command is = tt

idle_sum : (s : State) (sum : ℕ) (o : Option RunningState) → s.running ≡ o → sum ≡ made_by s o → (memory s).running ≡ None → sum ≡ 0
idle_sum s sum None running is none = is
idle_sum s sum (Some r) running is none = let no = sym (ap (course_in s.file s.blocks) running) ∙ none in absurd (cc)

made_count : (s : State) (op : ℕ) (parent : List ℕ) (rs : List Request)
    → length (sums_of (group_prepares (group_in s) op parent rs)) ≡ length rs
made_count s op parent [] = refl
made_count s op parent (r ∷ rs) = omega (arith, made_count s (op + 1) (unit_made (header_in (group_in s) op parent r) r.body).header.checksum rs)

one_checksum : (given : Given) (x : ℕ) → supplied_sums given ≡ x ∷ [] → supplied_sums given ≡ supplied_sum given ∷ []
one_checksum given x is = is ∙ sym (ap (λ (xs : List ℕ). first_of xs ∷ []) is)

as_many : (s : State) (told : Option Told) (given : Given) (command : Command)
    → IsSupplied s told command given → AreAsMany (memory s) (supplied_sums given) command
as_many s told given (Append client request body) is = one_checksum given _ (ap supplied_sums is)
as_many s told given Flush is = ap (λ (g : Given). length (supplied_sums g)) is ∙ made_count s (s.head + 1) s.head_checksum s.staged
as_many s told given (Reply op body) is = one_checksum given _ (ap supplied_sums is)
as_many s told given (WriteBlock kind body) is = one_checksum given _ (ap supplied_sums is)
as_many s told given Advance is =
    (one_checksum given _ (ap supplied_sums is), idle_sum s (supplied_sum given) s.running refl (ap supplied_sum is))
as_many s told given (ReadPrepare op) is = ap supplied_sums is.0
as_many s told given (ReadReply client) is = ap supplied_sums is.0
as_many s told given (ReadBlock address) is = ap supplied_sums is.0
as_many s told given Scrub is = ap supplied_sums is.0
as_many s told given command is = ap supplied_sums is

pub supplied_is_result : SuppliedIsResult
supplied_is_result s w t command given rep supplied sums = next_is (shape s.file) (codec s.file) (shown_of s.file t.shown) w given command
    (rw rep at sums) (rw rep at (found_in s t given command supplied))

-- ---- a call

-- the superblock in memory is one of the file
of_file : (s : State) (w : Work) → Keeps Firm s w None → IsContentOfFile s.file (memory s).content
of_file s w k = let tests : PassesTests (shape s.file) (memory s).content =
    subst (PassesTests (shape s.file)) (sym (ap (λ (m : Memory). m.content) k.1)) k.0.view.checkpoint.tests in
    record { version = inr (tests.version ∙ k.0.version.version); layout = tests.layout; cluster = tests.cluster; rest = tests.rest }

-- a group of all that is staged has a slot for each
few_staged : (s : State) (w : Work) → Keeps Firm s w None → (0 < (memory s).layout.slots) × (length (memory s).staged ≤ (memory s).layout.slots)
few_staged s w k = let m = memory_of (shape s.file) (spelling s.file) w in let few : length m.staged ≤ m.layout.slots =
    omega (arith, k.0.staged.room, length_in m (m.head + 1) (m.head + length m.staged) (m.head + 1) m.head_checksum m.staged []) in
    subst (λ (n : Memory). (0 < n.layout.slots) × (length n.staged ≤ n.layout.slots)) (sym k.1) (some_slots s.file.layout, few)

module _ (given : Given) (command : Command) (s u : State) (t : Told) (new : Option Told)
    (answer : Answer) (w : Work) (shown : Shown) (call : IsCall given command s u (Some t) new (Some answer)) (k : Keeps Firm s w None)
    (whole : IsImage t.shown) (agree : AgreeShown s.file.layout (shown_of s.file t.shown) shown) where
  abbrev later : Image
  later = image_after call.events t.shown

  abbrev m : Memory
  m = memory_of (shape s.file) (spelling s.file) w

  leaves : LeavesShown s.file (memory s) (supplied_sums given) command t.shown later
  leaves = call.leaves t.shown whole

  sums : AreSums (codec s.file) (memory s) (supplied_sums given) command
  sums = let few = few_staged s w k in sums_made s.file (memory s) (supplied_sums given) t.shown
      later command (of_file s w k) few.0 few.1 (as_many s (Some t) given command call.supplied) leaves (call.copies w k t.shown whole)

  next_here : next s.file w given command ≡ over (shape s.file) (codec s.file) shown w command
  next_here =
      supplied_is_result s w t command given k.1 call.supplied sums ∙ next_agrees s.file (shown_of s.file t.shown) shown agree w k.0 command

  agrees_then : AgreeShown s.file.layout (shown_of s.file later) (shown_after (codec s.file) shown m command)
  agrees_then = subst (λ (x : Memory). AgreeShown s.file.layout (shown_of s.file later) (shown_after (codec s.file) shown x command))
      k.1 (shown_agrees s.file (memory s) (supplied_sums given) command t.shown later shown leaves sums agree)

  goes : (answer ≡ (over (shape s.file) (codec s.file) shown w command).1)
      × Keeps Firm u (over (shape s.file) (codec s.file) shown w command).0 None
  goes = subst (λ (x : Work × Answer). (answer ≡ x.1) × Keeps Firm u x.0 None) next_here (call.answers Firm w k)

  is_result : IsResult s.file shown w command answer u (told_after call.events t)
  is_result = record {
    file_is = call.file;
    answer_is = goes.0;
    keeps = goes.1;
    whole = subst IsImage (sym (shown_then call.events t)) leaves.whole;
    shown_is = rw (sym (shown_then call.events t)) at agrees_then;
  }

pub one_more_is_result : OneMoreIsResult
one_more_is_result given command s u t new answer w shown call k whole agree =
    (call.told ∙ added_is_told call.events t, is_result given command s u t new answer w shown call k whole agree)
