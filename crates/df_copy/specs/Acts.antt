-- What each act of a copy does: a reply or a block that is read and written, all of them, the trailer, and the superblock.
use Rattle.std.specs.Prelude.{◌≡◌, ◌<◌, ◌≤◌, ◌+◌, ℕ, Bool, true, List, length, slice_get, slice_set, Option, None, Some, Result, Ok, Err, OnOk}
use Rattle.df_base.specs.{declared.TheConstants.{HEADER}, Causes.{IsBlamed}, Log.{Event}}
use Rattle.df_disk.specs.{Told.{Told}, Adds.{AddsPart, after_all}}
use Rattle.df_layout.specs.{declared.layout.Layout.{Layout}, declared.places.Zone.TheVariants.{ClientReplies, Grid}}
use Rattle.df_format.specs.{declared.header.Header.{Header}, declared.kind.Kind.TheVariants.{Block, Reply}, Message.{Message}, Own.{place_in}, Valid.{IsUnit}}
use Rattle.df_units.specs.Meaning.{number_of}
use Rattle.df_grid.specs.{Grid.{GridState, with_blocks}, Table.{last_trailer_block}, Writes.{made_events}}
use Rattle.df_model.specs.{Blocks.{block_written}, Commands.{ReadBlock}, Memory.{reply_sum}, Refusals.{first_refusal}, Supply.{Shown, block_read, reply_at}}
use Rattle.df_opening.specs.Below.{DataFile, State, memory}
use Rattle.df_copy.specs.{declared.ending.Ending.{Ending}, declared.ending.Ending.TheVariants.{BlockTooLong, ReplyTooLong, Target as TargetFails}, declared.target.Target.{Target}}
use Rattle.df_copy.specs.{Statuses.{ByEnding, is_source, is_target}, Targets.{IsTarget, checks_of, last_message as last_block, reference_pair, trailer_of}}
use Rattle.df_copy.specs.Tests.{block_test, block_tests, is_at_rest, references, reply_test, reply_tests}
use Rattle.df_copy.specs.Units.{AreLiveBlocks, AreReplies, IsBlockAt, IsReplyAt, OverShown, all_events, moved, moved_from, reply_events}

-- ---- what is asked and left

-- a source that may be copied: calls may be made on it, no prepare is after its checkpoint and none waits for its reply, and the layout has a place for each of its sessions
pub record IsReadySource (layout : Layout) (s : State) : Type 0 where
  pub live : s.live ≡ true
  pub rest : is_at_rest (memory s) ≡ true
  pub fits : length s.table.sessions ≤ layout.clients

-- what is beside the target: the source, what its disk tells, and how often each of the two disks failed
pub record Beside : Type 0 where
  pub source : State
  pub told : Option Told
  pub faults : ℕ
  pub target_faults : ℕ

abbrev pub beside : State → Option Told → (faults target_faults : ℕ) → Beside
beside source told faults target_faults = record { source = source; told = told; faults = faults; target_faults = target_faults }

-- a call leaves the source as it was where it is Ok, and what the source's disk tells in any case; and each disk's count rose, once, exactly where the ending blames it
pub record LeavesSource {T : Type 0} (before now : Beside) (result : Result T Ending) : Type 0 where
  pub kept : OnOk result (now.source ≡ before.source)
  pub same : now.told ≡ before.told
  pub blames_source : IsBlamed is_source before.faults now.faults result
  pub blames_target : IsBlamed is_target before.target_faults now.target_faults result

-- ---- where a copy of units stops

-- In one of them: it fits, and the target's disk fails in its writes; or the source's disk fails; or the test of what is found of it ends the copy. But for the first nothing is written.
abbrev pub CopyStopsAt : DataFile → (from : Option Told) → (Fits : Message → Type 0) → (events : Message → List Event) → (test : Shown → Bool × Ending) → (old new : Option Told) → Ending → Type 0
CopyStopsAt file from Fits events test old new e = ByEnding ((u : Message) × Fits u × AddsPart (events u) old new) (new ≡ old) (λ x. OverShown file from (λ shown. test shown ≡ (true, x)) × (new ≡ old)) e

-- In their order: the first of them are written, or some part of that where the target's disk fails; and the source's disk fails after them, or the first test that holds ends the copy.
abbrev pub StopsBehind : {X : Type 0} → DataFile → (from : Option Told) → (events : X → List Event) → (tests : Shown → List (Bool × Ending)) → (old new : Option Told) → Ending → Type 0
StopsBehind {X = X} file from events tests old new e =
    ByEnding ((x : X) × AddsPart (events x) old new) ((x : X) × (new ≡ after_all (events x) old)) (λ y. OverShown file from (λ shown. first_refusal (tests shown) ≡ Some y) × (x : X) × (new ≡ after_all (events x) old)) e

-- ---- replies

-- a reply that is valid at its place of the layout
pub record MayPutReply (layout : Layout) (h : Header) (body : List ℕ) : Type 0 where
  pub unit : IsUnit layout h.cluster (place_in ClientReplies h.slot) (record { header = h; body = body })
  pub kind : h.kind ≡ Reply

-- a reply that is valid at its place of some layout, and the layout has the place
pub record HasReplyPlace (layout : Layout) (u : Message) : Type 0 where
  pub own : Layout
  pub is : IsUnit own u.header.cluster (place_in ClientReplies u.header.slot) u
  pub kind : u.header.kind ≡ Reply
  pub inside : u.header.slot < layout.clients

-- it is written into its place, and its checksum is kept; or it is too long, and nothing is written; or the disk fails
abbrev pub PutsReply : {T : Type 0} → Message → (t u : Target) → (old new : Option Told) → Result T Ending → Type 0
PutsReply r t u old new (Ok x) = (HEADER + length r.body ≤ t.layout.message_size) × (new ≡ after_all (reply_events t.layout r) old) × (u.checks ≡ slice_set t.checks r.header.slot r.header.checksum)
PutsReply r t u old new (Err TargetFails) = (HEADER + length r.body ≤ t.layout.message_size) × AddsPart (reply_events t.layout r) old new
PutsReply r t u old new (Err (ReplyTooLong place n)) = (place ≡ r.header.slot) × (n ≡ HEADER + length r.body) × (t.layout.message_size < n) × (new ≡ old)
PutsReply r t u old new (Err e) = ⊥

-- a stored reply that fits the layout
pub record FitsReply (layout : Layout) (s : State) (told : Option Told) (place : ℕ) (u : Message) : Type 0 where
  pub is : IsReplyAt s told place u
  pub fits : HEADER + length u.body ≤ layout.message_size

-- the reply of the session at a place: it is read and written; or one of the two disks fails; or the test of what is found of it ends the copy, and nothing is written
abbrev pub CopiesReply : {T : Type 0} → Layout → (place : ℕ) → State → (before behind : List (List ℕ)) → (from old new : Option Told) → Result T Ending → Type 0
CopiesReply layout place s before behind from old new (Ok x) = (r : Message) × FitsReply layout s from place r × (new ≡ after_all (reply_events layout r) old) × (behind ≡ slice_set before place r.header.checksum)
CopiesReply layout place s before behind from old new (Err e) = CopyStopsAt s.file from (FitsReply layout s from place) (reply_events layout) (λ shown. reply_test layout place (reply_at shown (reply_sum (memory s) place) place)) old new e

-- the checksum of some session's place was set
pub record SetsCheck (sessions : ℕ) (before behind : List (List ℕ)) : Type 0 where
  pub place : ℕ
  pub check : List ℕ
  pub inside : place < sessions
  pub set : behind ≡ slice_set before place check

-- the replies of the first places, each of which fits
pub record FitReplies (layout : Layout) (s : State) (told : Option Told) (us : List Message) : Type 0 where
  pub are : AreReplies s told us
  pub fit : (k : ℕ) (u : Message) → slice_get us k ≡ Some u → HEADER + length u.body ≤ layout.message_size

-- those of all places, and no test holds; or of the first of them, where one of the two disks fails, or a test ends the copy after them
abbrev pub CopiesReplies : {T : Type 0} → Layout → State → (checks : List (List ℕ)) → (from old new : Option Told) → Result T Ending → Type 0
CopiesReplies layout s checks from old new (Ok x) =
    (rs : List Message) × FitReplies layout s from rs × (length rs ≡ length s.table.sessions) × (new ≡ after_all (all_events (reply_events layout) rs) old) × (checks ≡ checks_of rs)
    × OverShown s.file from (λ shown. first_refusal (reply_tests layout shown (memory s)) ≡ None)
CopiesReplies layout s checks from old new (Err e) =
    StopsBehind {X = (rs : List Message) × FitReplies layout s from rs} s.file from (λ x. all_events (reply_events layout) x.0) (λ shown. reply_tests layout shown (memory s)) old new e

-- ---- blocks

-- the grid with a block more, which is live
abbrev pub with_block : GridState → Message → GridState
with_block g u = with_blocks g (block_written g.blocks u.header.op (number_of u.header.checksum))

-- replies were written, and blocks
abbrev pub IsCopyBegun : State → Target → Type 0
IsCopyBegun s t = (rs : List Message) × (bs : List Message) × IsTarget t.layout s.file.cluster rs bs t

-- a block of this cluster that is valid at this address of some layout
pub record IsBlockOf (cluster address : ℕ) (u : Message) : Type 0 where
  pub own : Layout
  pub is : IsUnit own cluster (place_in Grid address) u
  pub kind : u.header.kind ≡ Block

-- a target with this block more, at the next address
pub record HasNext (u : Message) (t n : Target) : Type 0 where
  pub layout_is : n.layout ≡ t.layout
  pub grid : n.grid ≡ with_block t.grid (moved (t.copied + 1) u)
  pub checks : n.checks ≡ t.checks
  pub copied : n.copied ≡ t.copied + 1

-- it is written to the next address; or it is too long, and nothing is written; or the disk fails
abbrev pub PutsBlock : {T : Type 0} → (address : ℕ) → Message → (t n : Target) → (old new : Option Told) → Result T Ending → Type 0
PutsBlock address b t n old new (Ok x) = (HEADER + length b.body ≤ t.layout.block_size) × (new ≡ after_all (made_events t.layout (moved (t.copied + 1) b)) old) × HasNext b t n
PutsBlock address b t n old new (Err TargetFails) = (HEADER + length b.body ≤ t.layout.block_size) × AddsPart (made_events t.layout (moved (t.copied + 1) b)) old new
PutsBlock address b t n old new (Err (BlockTooLong a size)) = (a ≡ address) × (size ≡ HEADER + length b.body) × (t.layout.block_size < size) × (new ≡ old)
PutsBlock address b t n old new (Err e) = ⊥

-- a live block that fits the layout
pub record FitsBlock (layout : Layout) (s : State) (told : Option Told) (address : ℕ) (u : Message) : Type 0 where
  pub is : IsBlockAt s told address u
  pub fits : HEADER + length u.body ≤ layout.block_size

-- the block at a live address: it is read, and written to the next one; or one of the two disks fails; or the test of what is found of it ends the copy, and nothing is written
abbrev pub CopiesBlock : {T : Type 0} → Layout → (address : ℕ) → State → (t n : Target) → (from old new : Option Told) → Result T Ending → Type 0
CopiesBlock layout address s t n from old new (Ok x) = (b : Message) × FitsBlock layout s from address b × (new ≡ after_all (made_events layout (moved (t.copied + 1) b)) old) × HasNext b t n
CopiesBlock layout address s t n from old new (Err e) =
    CopyStopsAt s.file from (FitsBlock layout s from address) (λ b. made_events layout (moved (t.copied + 1) b)) (λ shown. block_test layout address (block_read shown (memory s) (ReadBlock address))) old new e

-- an address: nothing is live there, and nothing is done; or a block is
abbrev pub CopiesAt : {T : Type 0} → Layout → (address : ℕ) → (known : Option ℕ) → State → (t n : Target) → (from old new : Option Told) → Result T Ending → Type 0
CopiesAt layout address None s t n from old new (Ok x) = (n ≡ t) × (new ≡ old)
CopiesAt layout address None s t n from old new (Err e) = ⊥
CopiesAt layout address (Some sum) s t n from old new result = CopiesBlock layout address s t n from old new result

-- the first of the live blocks, each of which fits
pub record FitBlocks (layout : Layout) (s : State) (told : Option Told) (us : List Message) : Type 0 where
  pub are : AreLiveBlocks s told us
  pub fit : (i : ℕ) (u : Message) → slice_get us i ≡ Some u → HEADER + length u.body ≤ layout.block_size

-- all of them, and no test holds; or the first of them, where one of the two disks fails, or a test ends the copy after them
abbrev pub CopiesBlocks : {T : Type 0} → Layout → State → List Message → Target → (from old new : Option Told) → Result T Ending → Type 0
CopiesBlocks layout s rs n from old new (Ok x) =
    (bs : List Message) × FitBlocks layout s from bs × (length bs ≡ length (references (memory s))) × (new ≡ after_all (all_events (made_events layout) (moved_from 1 bs)) old) × IsTarget layout s.file.cluster rs bs n
    × OverShown s.file from (λ shown. first_refusal (block_tests layout shown (memory s)) ≡ None)
CopiesBlocks layout s rs n from old new (Err e) =
    StopsBehind {X = (bs : List Message) × FitBlocks layout s from bs} s.file from (λ x. all_events (made_events layout) (moved_from 1 x.0)) (λ shown. block_tests layout shown (memory s)) old new e

-- ---- both

-- Replies and blocks were written, as many as the source has. The checksums of replies are in order of place; where two sessions had one client they needn't be those of the replies that were read.
abbrev pub IsCopied : Layout → State → Target → Type 0
IsCopied layout s t = (rs : List Message) × (bs : List Message) × IsTarget layout s.file.cluster rs bs t × (length rs ≡ length s.table.sessions) × (length bs ≡ length (references (memory s)))

-- ---- the trailer

-- replies and blocks were written, and the trailer after them, of which the grid names the last block
pub record IsTrailerWritten (layout : Layout) (s : State) (replies blocks : List Message) (t : Target) : Type 0 where
  pub layout_is : t.layout ≡ layout
  pub last : last_trailer_block t.grid.blocks.left t.grid.blocks.written ≡ reference_pair (last_block (trailer_of layout s (moved_from 1 blocks)))
  pub checks : t.checks ≡ checks_of replies
