-- What each writer owes, and what it then has at every moment.
use Rattle.std.specs.Prelude.{◌≡◌, ◌⊎◌, ◌<◌, ◌%◌, ℕ, length, List, [], ◌∷◌, ◌++◌, Some}
use Rattle.df_theory.specs.CopyPuts.{PutsCopies, update_steps}
use Rattle.df_theory.specs.Units.{AnyUnit, Block, BlockPlace, BlockUnit, Content, CopyPlace, CopyUnit, Header, HeaderPlace, HeaderUnit, Message, Place, PreparePlace, PrepareUnit, ReplyPlace, ReplyUnit, Units, IsReserved}
use Rattle.df_theory.specs.{Tails.{In}, Shape.{Shape, slots}, Trailer.{InChain}, View.{Checkpoint, View, boot_of}, Holds.{Holds}}
use Rattle.df_theory.specs.Next.{IsSameBare, MayAppend, MayBoot, MayFinish, MayReply, appended, booted, checkpointed, replied}
use Rattle.df_theory.specs.{UnitLog.{PutsOne, Stopped, Synced, UnitLog, add, now, put_one, settled, wrote}, Chance.{EachLeft}, Grown.{Grown, IsClear, IsSafe}}
use Rattle.df_theory.specs.Rests.{AgreeBeside, IsCalmPut, IsDry, IsGoodLog, IsQuiet, RestsOn, Stepped}
use Rattle.df_theory.specs.{Runs.{AtEach, Command, IsPartWay, LeadOn, Leads, Puts, Step, Syncs, after_steps, steps_of, view_after}, MakingLaws.{all_puts}}

-- a log that rests on a view is safe, and each image that a stop leaves holds that view
abbrev pub RestLaw : Type 0
RestLaw = (sh : Shape) (log : UnitLog) (v : View) → RestsOn sh log v → IsSafe sh log × EachLeft log (λ image. Holds sh image v)

-- a sync makes a safe log rest on the view of its image, where its image holds a view
abbrev pub SyncLaw : Type 0
SyncLaw = (sh : Shape) (log : UnitLog) (v : View) → Grown sh (add Synced log) → Holds sh (now log) v → RestsOn sh (add Synced log) v

-- so does a stop, whatever it leaves: the next session goes on from there
abbrev pub StopLaw : Type 0
StopLaw = (sh : Shape) (log : UnitLog) (v : View) (image : Units) → Grown sh (add (Stopped image) log) → Holds sh image v → RestsOn sh (add (Stopped image) log) v

-- a log that is restarted at an image which holds a view rests on it. Holding asks that beside copy 0 no copy shows a content above the choice: without that a later repair can be misled to it
abbrev pub AnewLaw : Type 0
AnewLaw = (sh : Shape) (image : Units) (v : View) → Holds sh image v → RestsOn sh (record { start = image; events = [] }) v

-- a write that the view doesn't see may stay loose, whatever else is written meanwhile
abbrev pub CalmLaw : Type 0
CalmLaw = (sh : Shape) (log : UnitLog) (v : View) (put : Units) → RestsOn sh log v → IsCalmPut sh (settled log) v put → RestsOn sh (wrote put log) v × Stepped sh log put v v

-- the write of one unit puts one unit
abbrev pub PutOneLaw : Type 0
PutOneLaw = (place : Place) (x : AnyUnit) → PutsOne (put_one place x) place x

-- a write that leads on, with its sync, is a command
abbrev pub WriteLaw : Type 0
WriteLaw = (sh : Shape) (log : UnitLog) (put : Units) (v u : View) → RestsOn sh log v → Stepped sh log put v u → Leads sh log v (record { steps = Puts put ∷ Syncs ∷ []; view = u })

-- the header sectors of an append: what the ring shows, and the new header
pub record IsHeaderSector (sh : Shape) (image : Units) (p : Message) (put : Units) : Type 0 where
  pub each : (place : Place) (y : AnyUnit) → put place ≡ Some y → (s : ℕ) × (h : Header) × (place ≡ HeaderPlace s) × (y ≡ HeaderUnit h)
      × ((image (HeaderPlace s) ≡ Some (HeaderUnit h)) ⊎ ((s ≡ p.header.op % slots sh) × (h ≡ p.header)))

-- an append: the prepare, a sync, its header sector, a sync. From the first sync on each image left has the prepare
pub record AppendsPrepare (sh : Shape) (log : UnitLog) (v u : View) (prepare headers : Units) : Type 0 where
  pub before : IsGoodLog sh v v log
  pub prepare_loose : IsGoodLog sh v u (wrote prepare log)
  pub prepare_synced : IsGoodLog sh u u (add Synced (wrote prepare log))
  pub header_loose : IsGoodLog sh u u (wrote headers (add Synced (wrote prepare log)))
  pub leads : Leads sh log v (record { steps = Puts prepare ∷ Syncs ∷ Puts headers ∷ Syncs ∷ []; view = u })

abbrev pub AppendLaw : Type 0
AppendLaw =
    (sh : Shape) (log : UnitLog) (v : View) (p : Message) (prepare headers : Units)
    → RestsOn sh log v → IsQuiet log → IsClear (settled log) v → MayAppend sh v (p ∷ []) → PutsOne prepare (PreparePlace (p.header.op % slots sh)) (PrepareUnit p) → IsHeaderSector sh (now log) p headers
    → AppendsPrepare sh log v (appended v (p ∷ [])) prepare headers

-- a write for each prepare of a group, in any order
abbrev pub AllPutPrepare : Shape → List Message → List Units → Type 0
AllPutPrepare sh [] [] = Unit {0}
AllPutPrepare sh (p ∷ ps) (put ∷ puts) = PutsOne put (PreparePlace (p.header.op % slots sh)) (PrepareUnit p) × AllPutPrepare sh ps puts
AllPutPrepare sh [] (put ∷ puts) = ⊥
AllPutPrepare sh (p ∷ ps) [] = ⊥

-- the same prepares, in some order
pub record AreSame (ps qs : List Message) : Type 0 where
  pub there : (p : Message) → In p ps → In p qs
  pub back : (p : Message) → In p qs → In p ps

-- the header sectors of a group: what the ring shows, and the new headers
pub record IsGroupSector (sh : Shape) (image : Units) (ps : List Message) (put : Units) : Type 0 where
  pub each : (place : Place) (y : AnyUnit) → put place ≡ Some y → (s : ℕ) × (h : Header) × (place ≡ HeaderPlace s) × (y ≡ HeaderUnit h)
      × ((image (HeaderPlace s) ≡ Some (HeaderUnit h)) ⊎ ((p : Message) × In p ps × (s ≡ p.header.op % slots sh) × (h ≡ p.header)))

abbrev pub AreGroupSectors : Shape → Units → List Message → List Units → Type 0
AreGroupSectors sh image ps [] = Unit {0}
AreGroupSectors sh image ps (put ∷ puts) = IsGroupSector sh image ps put × AreGroupSectors sh image ps puts

-- a group: its prepares in any order, one sync, its header sectors, a sync
abbrev pub flush_steps : List Units → List Units → List Step
flush_steps prepares headers = all_puts prepares ++ Syncs ∷ (all_puts headers ++ Syncs ∷ [])

-- until the first sync each image left has nothing of the group or all of it, from then on all
pub record Flushes (sh : Shape) (log : UnitLog) (v u : View) (prepares headers : List Units) : Type 0 where
  pub loose : AtEach (IsGoodLog sh v u) log (all_puts prepares)
  pub synced : RestsOn sh (add Synced (after_steps (all_puts prepares) log)) u
  pub after : AtEach (IsGoodLog sh u u) (add Synced (after_steps (all_puts prepares) log)) (all_puts headers ++ Syncs ∷ [])
  pub clear : IsClear (settled (after_steps (flush_steps prepares headers) log)) u
  pub leads : Leads sh log v (record { steps = flush_steps prepares headers; view = u })

-- groups of several are appended in a file with boots alone
abbrev pub FlushLaw : Type 0
FlushLaw =
    (sh : Shape) (log : UnitLog) (v : View) (ps qs : List Message) (prepares headers : List Units)
    → RestsOn sh log v → IsQuiet log → IsClear (settled log) v → MayAppend sh v ps → (1 < length ps → 0 < boot_of v)
    → AreSame qs ps → AllPutPrepare sh qs prepares → AreGroupSectors sh (now log) ps headers
    → Flushes sh log v (appended v ps) prepares headers

-- a reply: one write into the session's slot, and a sync
abbrev pub ReplyLaw : Type 0
ReplyLaw =
    (sh : Shape) (log : UnitLog) (v : View) (put : Units) (place : ℕ) (r : Message)
    → RestsOn sh log v → IsQuiet log → MayReply v place r → PutsOne put (ReplyPlace place) (ReplyUnit r)
    → Stepped sh log put v (replied v place r)

-- a block at an address that the checkpoint's trailer doesn't stand at
abbrev pub BlockLaw : Type 0
BlockLaw =
    (sh : Shape) (log : UnitLog) (v : View) (put : Units) (a : ℕ) (b : Block)
    → RestsOn sh log v → ((c : Block) → InChain a c v.checkpoint.chain → ⊥) → PutsOne put (BlockPlace a) (BlockUnit b)
    → RestsOn sh (wrote put log) v × Stepped sh log put v v

-- header sectors that are written anew: what the ring shows, headers of the tail, and reserved ones
pub record IsHeaderMend (sh : Shape) (image : Units) (v : View) (put : Units) : Type 0 where
  pub each : (place : Place) (y : AnyUnit) → put place ≡ Some y → (s : ℕ) × (h : Header) × (place ≡ HeaderPlace s) × (y ≡ HeaderUnit h)
      × ((image (HeaderPlace s) ≡ Some (HeaderUnit h)) ⊎ ((p : Message) × In p v.tail × (p.header ≡ h) × (s ≡ h.op % slots sh)) ⊎ IsReserved h)

abbrev pub HeaderLaw : Type 0
HeaderLaw =
    (sh : Shape) (log : UnitLog) (v : View) (put : Units) → RestsOn sh log v → IsHeaderMend sh (now log) v put
    → RestsOn sh (wrote put log) v × Stepped sh log put v v

-- a copy of the chosen content, where two other copies show it
abbrev pub CopyLaw : Type 0
CopyLaw =
    (sh : Shape) (log : UnitLog) (v : View) (put : Units) (k : ℕ) → RestsOn sh log v → IsQuiet log → PutsOne put (CopyPlace k) (CopyUnit v.checkpoint.content) → AgreeBeside (now log) v.checkpoint.content k
    → Stepped sh log put v v

-- a superblock update. Until copy 1 is written each image left has the old view, from its sync on the new one
pub record Updates (sh : Shape) (log : UnitLog) (v u : View) (puts : PutsCopies u.checkpoint.content) : Type 0 where
  pub first : Stepped sh log puts.put0 v v
  pub second : Stepped sh (add Synced (wrote puts.put0 log)) puts.put1 v u
  pub third : Stepped sh (add Synced (wrote puts.put1 (add Synced (wrote puts.put0 log)))) puts.put2 u u
  pub fourth : Stepped sh (add Synced (wrote puts.put2 (add Synced (wrote puts.put1 (add Synced (wrote puts.put0 log)))))) puts.put3 u u
  pub leads : Leads sh log v (record { steps = update_steps puts; view = u })

-- the update of a finished checkpoint, whose trailer is shown
abbrev pub UpdateLaw : Type 0
UpdateLaw =
    (sh : Shape) (log : UnitLog) (v : View) (c : Checkpoint) (puts : PutsCopies c.content)
    → RestsOn sh log v → IsDry log → IsClear (settled log) v → MayFinish sh v c
    → ((n : ℕ) → n < 4 → now log (CopyPlace n) ≡ Some (CopyUnit v.checkpoint.content))
    → ((a : ℕ) (b : Block) → InChain a b c.chain → now log (BlockPlace a) ≡ Some (BlockUnit b))
    → Updates sh log v (checkpointed v c) puts

-- a boot update: four copies, as of a checkpoint. At each moment each image left has the view before or after; their bare view is one
abbrev pub BootLaw : Type 0
BootLaw =
    (sh : Shape) (log : UnitLog) (v : View) (d : Content) (puts : PutsCopies d)
    → RestsOn sh log v → IsDry log → MayBoot v d
    → ((n : ℕ) → n < 4 → now log (CopyPlace n) ≡ Some (CopyUnit v.checkpoint.content))
    → Updates sh log v (booted v d) puts × IsSameBare v (booted v d)

-- one command after the other: at each moment of all of them each image left has the view after a part of the commands, from the first on, and at the end the view after all
abbrev pub CommandsLaw : Type 0
CommandsLaw =
    (sh : Shape) (log : UnitLog) (v : View) (cs : List Command) → RestsOn sh log v → LeadOn sh log v cs
    → AtEach (IsPartWay sh v cs) log (steps_of cs) × RestsOn sh (after_steps (steps_of cs) log) (view_after v cs)
