-- The boot update of an open: what may be raised, the state after it, and what it does to the device.
use Rattle.std.specs.Prelude.{◌≡◌, ◌<◌, ◌≤◌, ℕ, List}
use Rattle.df_base.specs.{declared.TheConstants.{GREATEST, VERSION}, Log.{Event, IsLog, Log}}
use Rattle.df_theory.specs.{Units.{Content, Header, Parts, Units}, Shape.{Shape, clients}, View.{View, boot_of}, Holds.{Stands}, Next.{IsSameBare, MayBoot}, UnitLog.{UnitLog, now}, Rests.{IsDry}}
use Rattle.df_theory.specs.{Found.{AreOfPlaces, IsFound}, Runs.{Step, after_steps}, CopyPuts.{PutsCopies, update_steps}, GroupLaws.{IsMendedLog}, MendLaws.{MayMend}}
use Rattle.df_theory.specs.{Upgrades.{IsCleanBeyond, MayRaise, as_version, raise_steps, restarted_at}, Device.{AreSteps, Format, IsFormat, units_log}}
use Rattle.df_model.specs.{Work.{Work, kept, opened, raised}, Codec.{IsCodec}, Memory.{memory_of}, Making.{boot_content, named_places}, Sense.{IsBacked, IsVersionTwo, IsWork, ShowsWritten}}
use Rattle.df_model.specs.{Laws.{BacksOn, IsKeptBy, LeadsOn}, OnDisk.{BacksOnDisk, LeadsOnDisk}}

-- ---- what may be raised

-- the state that an open finds, in a file of either version: its boot may be raised, in a superblock of version 2 that records the state as it is
abbrev pub BootMayLaw : Type 0
BootMayLaw =
    (sh : Shape) (spell : Parts → List ℕ) (image : Units) (v : View) (sum : ℕ) → IsCodec sh spell → clients sh ≤ named_places → AreOfPlaces sh image → IsFound sh image v → boot_of v < GREATEST
    → MayBoot (as_version VERSION v) (boot_content (memory_of sh spell (opened sh image (as_version VERSION v))) sum)

-- the state after a boot update makes sense. Of what is in memory the superblock alone is another one, and the bare view is the one of before
pub record Raises (sh : Shape) (spell : Parts → List ℕ) (w : Work) (d : Content) : Type 0 where
  pub may : MayBoot (kept w) d
  pub sense : IsWork sh spell (raised w d)
  pub memory : memory_of sh spell (raised w d) ≡ record (memory_of sh spell w) { content = d }
  pub bare : IsSameBare (kept w) (kept (raised w d))

-- so any state that makes sense may be raised, where boots are left
abbrev pub RaisedLaw : Type 0
RaisedLaw = (sh : Shape) (spell : Parts → List ℕ) (w : Work) (sum : ℕ) → IsWork sh spell w → boot_of (kept w) < GREATEST → Raises sh spell w (boot_content (memory_of sh spell w) sum)

-- ---- what it does to the device

-- it writes the four copies, a sync after each
pub record DoesBoot (d : Content) (steps : List Step) : Type 0 where
  pub puts : PutsCopies d
  pub are : steps ≡ update_steps puts

-- a file after its mending, of which nothing is loose: it is as a state has it, but for what survived above its head
pub record IsMendedFor (sh : Shape) (spell : Parts → List ℕ) (log : UnitLog) (w : Work) : Type 0 where
  pub sense : IsWork sh spell w
  pub mended : IsMendedLog sh log (kept w)
  pub dry : IsDry log
  pub written : ShowsWritten (now log) w

-- in one log: it leads from there to a file that is kept by the state after it
abbrev pub BootCommandLaw : Type 0
BootCommandLaw =
    (sh : Shape) (spell : Parts → List ℕ) (log : UnitLog) (w : Work) (sum : ℕ) (steps : List Step) → IsMendedFor sh spell log w → boot_of (kept w) < GREATEST → DoesBoot (boot_content (memory_of sh spell w) sum) steps
    → LeadsOn sh spell log w (raised w (boot_content (memory_of sh spell w) sum)) steps × (IsBacked log w → BacksOn sh log w (raised w (boot_content (memory_of sh spell w) sum)) steps)

-- ---- an open

-- an open mends, with these writes, and raises the boot after that
pub record DoesOpen (d : Content) (headers : List Units) (copies : List (ℕ × Units)) (steps : List Step) : Type 0 where
  pub puts : PutsCopies d
  pub are : steps ≡ raise_steps headers copies puts

-- a file after the barrier of an open, of which nothing is loose: it may be mended, with a state
pub record MayOpenFor (sh : Shape) (spell : Parts → List ℕ) (log : UnitLog) (w : Work) (table : ℕ → Header) (headers : List Units) (copies : List (ℕ × Units)) : Type 0 where
  pub sense : IsWork sh spell w
  pub may : MayMend sh log (kept w) table headers copies
  pub dry : IsDry log
  pub written : ShowsWritten (now log) w

-- in one log: it leads from there to a file that is kept by the state after the boot update, whatever survived of a group
abbrev pub OpenCommandLaw : Type 0
OpenCommandLaw =
    (sh : Shape) (spell : Parts → List ℕ) (log : UnitLog) (w : Work) (table : ℕ → Header) (headers : List Units) (copies : List (ℕ × Units)) (sum : ℕ) (steps : List Step)
    → MayOpenFor sh spell log w table headers copies → boot_of (kept w) < GREATEST → DoesOpen (boot_content (memory_of sh spell w) sum) headers copies steps
    → LeadsOn sh spell log w (raised w (boot_content (memory_of sh spell w) sum)) steps × (IsBacked log w → BacksOn sh log w (raised w (boot_content (memory_of sh spell w) sum)) steps)

-- these device calls, in order, are its steps
pub record DoesOpenOnDisk (f : Format) (d : Content) (headers : List Units) (copies : List (ℕ × Units)) (events : List Event) : Type 0 where
  pub steps : List Step
  pub are : AreSteps f events steps
  pub does : DoesOpen d headers copies steps

abbrev pub DiskOpenLaw : Type 0
DiskOpenLaw =
    (f : Format) (sh : Shape) (spell : Parts → List ℕ) (log : Log) (w : Work) (table : ℕ → Header) (headers : List Units) (copies : List (ℕ × Units)) (sum : ℕ) (events : List Event)
    → IsFormat f → IsLog log → MayOpenFor sh spell (units_log f log) w table headers copies → boot_of (kept w) < GREATEST → DoesOpenOnDisk f (boot_content (memory_of sh spell w) sum) headers copies events
    → LeadsOnDisk f sh spell log w (raised w (boot_content (memory_of sh spell w) sum)) events × (IsBacked (units_log f log) w → BacksOnDisk f sh log w (raised w (boot_content (memory_of sh spell w) sum)) events)

-- whatever the copies of an image showed in which a view is found: after a mending and the boot update, a log that is restarted there is kept by the state after it
abbrev pub RaisedKeptLaw : Type 0
RaisedKeptLaw =
    (sh : Shape) (spell : Parts → List ℕ) (image : Units) (v : View) (table : ℕ → Header) (headers : List Units) (copies : List (ℕ × Units)) (sum : ℕ) (puts : PutsCopies (boot_content (memory_of sh spell (opened sh image v)) sum))
    → IsCodec sh spell → IsVersionTwo sh v → MayRaise sh v.checkpoint.content.version image v table headers copies (boot_content (memory_of sh spell (opened sh image v)) sum) → IsCleanBeyond image v
    → IsKeptBy sh spell (restarted_at (now (after_steps (raise_steps headers copies puts) (restarted_at image)))) (raised (opened sh image v) (boot_content (memory_of sh spell (opened sh image v)) sum))
    × (Stands image v → IsBacked (restarted_at (now (after_steps (raise_steps headers copies puts) (restarted_at image)))) (raised (opened sh image v) (boot_content (memory_of sh spell (opened sh image v)) sum)))
