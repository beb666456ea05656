-- What damage can do to a file whose log rests on a view: sectors hurt, lost or swapped, so long as no unit comes about by chance.
use Rattle.std.specs.{Prelude.{◌≡◌, ◌⊎◌, ◌<◌, ◌≤◌, ◌+◌, ◌-◌, ◌%◌, ℕ, length, List, ◌++◌, Some}, List.{slice_get}}
use Rattle.df_base.specs.declared.TheConstants.{GREATEST, HEADER}
use Rattle.df_theory.specs.Units.{AnyUnit, Block, BlockPlace, Content, CopyPlace, Header, HeaderPlace, HeaderUnit, Message, Place, PreparePlace, ReplyPlace, ReplyUnit, Session, Units}
use Rattle.df_theory.specs.{Sessions.{Answers, sessions_after}, Tails.{In}, Shape.{Shape, slots}, Copies.{Agree, IsChosen}, Trailer.{Links}, View.{IsSoundCheckpoint, View, boot_of, sessions}}
use Rattle.df_theory.specs.{Shows.{Needs}, Holds.{Holds, IsNamed}, UnitLog.{UnitLog, now}, Chance.{Distinct, InPool, InPools, NoChance}, Grown.{Grows}, Rests.{RestsOn}}
use Rattle.df_theory.specs.{Found.{AreOfPlaces, IsFound, IsReach, IsReplies, IsTail, NotBehind, NotLost, slot_behind}, Opens.{Arrives, BadField, BootSpent, Damaged, NoQuorum, Opens, Refusal, Refused}}
use Rattle.df_theory.specs.{Past.{FromEmpty, Was}, HistoryLaws.{AreDistinct, ShowsSettled}}

-- each unit shown is of the pool
abbrev pub ShowsPool : UnitLog → Units → Type 0
ShowsPool log shown = (place : Place) (x : AnyUnit) → shown place ≡ Some x → InPool log place x

-- damage at places that the view doesn't need (header sectors, two copies, free blocks, empty slots) changes nothing
abbrev pub HurtLaw : Type 0
HurtLaw =
    (sh : Shape) (log : UnitLog) (v : View) (shown : Units) → RestsOn sh log v → ShowsPool log shown → Agree shown v.checkpoint.content
    → ((place : Place) (x : AnyUnit) → Needs sh v place x → shown place ≡ Some x) → Holds sh shown v

-- while two copies show it, what an open finds has the file's checkpoint, whatever else is hurt
abbrev pub CheckpointStaysLaw : Type 0
CheckpointStaysLaw =
    (sh : Shape) (log : UnitLog) (v w : View) (shown : Units) → RestsOn sh log v → NoChance log shown → Agree shown v.checkpoint.content
    → IsFound sh shown w → w.checkpoint ≡ v.checkpoint

-- while two copies show it, no unit is of a later checkpoint: an open never blames the superblock
abbrev pub NeverBehindLaw : Type 0
NeverBehindLaw =
    (sh : Shape) (log : UnitLog) (v : View) (shown : Units) → RestsOn sh log v → ShowsPool log shown → Agree shown v.checkpoint.content
    → IsChosen shown v.checkpoint.content × NotBehind sh shown v.checkpoint.content

-- what an open finds has each op above the pin whose header of its boot is shown, with that header's checksum
abbrev pub HeadersTellLaw : Type 0
HeadersTellLaw =
    (sh : Shape) (shown : Units) (w : View) (s : ℕ) (h : Header) → AreOfPlaces sh shown → IsFound sh shown w → shown (HeaderPlace s) ≡ Some (HeaderUnit h) → h.boot ≡ boot_of w → w.checkpoint.content.pin < h.op
    → (p : Message) × In p w.tail × (p.header.op ≡ h.op) × (p.header.checksum ≡ h.checksum)

-- the tail that is found is a front of the file's
abbrev pub TailIsFrontLaw : Type 0
TailIsFrontLaw =
    (sh : Shape) (log : UnitLog) (v : View) (shown : Units) (tail : List Message) → RestsOn sh log v → NoChance log shown → IsTail sh shown v.checkpoint tail
    → (p : Message) → In p tail → In p v.tail

-- where the slot after the tail that is found shows what it should, nothing was lost: a lost prepare is blamed on a slot that is hurt
abbrev pub LostIsHurtLaw : Type 0
LostIsHurtLaw =
    (sh : Shape) (log : UnitLog) (v : View) (shown : Units) (tail more : List Message) → RestsOn sh log v → NoChance log shown → Agree shown v.checkpoint.content → IsTail sh shown v.checkpoint tail → IsReach sh shown v.checkpoint tail more
    → shown (PreparePlace (slot_behind sh v.checkpoint tail more)) ≡ now log (PreparePlace (slot_behind sh v.checkpoint tail more))
    → NotLost shown v.checkpoint.content (v.checkpoint.content.op + length tail)

-- each prepare of the group of this one shows what it should
abbrev pub IsGroupUnhurt : Shape → UnitLog → View → Units → Message → Type 0
IsGroupUnhurt sh log v shown p = (q : Message) → In q v.tail → q.header.group ≡ p.header.group → shown (PreparePlace (q.header.op % slots sh)) ≡ now log (PreparePlace (q.header.op % slots sh))

-- of the group of a prepare that the found tail lacks, and that left no trace, one slot is hurt
abbrev pub MissingIsHurtLaw : Type 0
MissingIsHurtLaw =
    (sh : Shape) (log : UnitLog) (v : View) (shown : Units) (tail : List Message) → RestsOn sh log v → NoChance log shown → IsTail sh shown v.checkpoint tail → NotLost shown v.checkpoint.content (v.checkpoint.content.op + length tail)
    → (p : Message) → In p v.tail → v.checkpoint.content.op + length tail < p.header.op → IsGroupUnhurt sh log v shown p → ⊥

-- a stored reply that is not shown as it should be: its slot is hurt, or that of a later prepare of the same client is
abbrev pub ReplyIsHurtLaw : Type 0
ReplyIsHurtLaw =
    (sh : Shape) (log : UnitLog) (v : View) (shown : Units) (tail : List Message) (n k : ℕ) (s : Session) → RestsOn sh log v → NoChance log shown → IsTail sh shown v.checkpoint tail
    → IsReplies shown v.checkpoint.content tail n → slice_get (sessions_after v.checkpoint.parts.sessions tail) k ≡ Some s → s.op ≤ n → shown (ReplyPlace k) ≡ now log (ReplyPlace k)
    → ((r : Message) × (shown (ReplyPlace k) ≡ Some (ReplyUnit r)) × Answers s r × IsNamed v.checkpoint.content k r) ⊎ ((t : Session) × (p : Message) × (slice_get (sessions v) k ≡ Some t) × In p v.tail × (p.header.client ≡ t.client) × (v.checkpoint.content.op + length tail < p.header.op))

-- damage never makes a superblock or a trailer that fails its tests: what two copies of settled units agree on was the checkpoint of a view, and the blocks that it names are that view's, as far as they are shown
abbrev pub FieldsHoldLaw : Type 0
FieldsHoldLaw =
    (sh : Shape) (images : List Units) (v : View) (grows : Grows sh images v) → FromEmpty sh images v grows → AreDistinct images
    → (shown : Units) → ShowsSettled images shown → (c : Content) → Agree shown c
    → (w : View) × Was sh images v grows w × (w.checkpoint.content ≡ c) × IsSoundCheckpoint sh w.checkpoint
    × ((bs : List (ℕ × Block)) (a k : ℕ) → Arrives shown bs c.trailer c.trailer_checksum a k → (rest : List (ℕ × Block)) × (w.checkpoint.chain ≡ bs ++ rest) × Links (sh.layout.block_size - HEADER) c rest a k)

-- so an open of settled units finds no copies that agree, or blames a place, or finds a state: no field is ever bad
abbrev pub NoBadFieldLaw : Type 0
NoBadFieldLaw =
    (sh : Shape) (images : List Units) (v : View) (grows : Grows sh images v) → FromEmpty sh images v grows → AreDistinct images
    → (shown : Units) → ShowsSettled images shown → Opens sh shown (Refused BadField) → ⊥

-- the place doesn't show what it should
abbrev pub IsHurt : UnitLog → Units → Place → Type 0
IsHurt log shown place = shown place ≡ now log place → ⊥

-- a refusal that blames what is hurt: a block of the grid or a slot of the prepare ring that is hurt; for a reply its slot, or a slot of the group of a prepare of the same client and of a later op than the tail that is found reaches. A file whose boot is spent is refused without blame
abbrev pub RefusalBlamesHurt : Shape → UnitLog → View → Units → Refusal → Type 0
RefusalBlamesHurt sh log v shown NoQuorum = ⊥
RefusalBlamesHurt sh log v shown BadField = ⊥
RefusalBlamesHurt sh log v shown BootSpent = boot_of v ≡ GREATEST
RefusalBlamesHurt sh log v shown (Damaged (CopyPlace n)) = ⊥
RefusalBlamesHurt sh log v shown (Damaged (HeaderPlace s)) = ⊥
RefusalBlamesHurt sh log v shown (Damaged (PreparePlace s)) = IsHurt log shown (PreparePlace s)
RefusalBlamesHurt sh log v shown (Damaged (BlockPlace a)) = IsHurt log shown (BlockPlace a)
RefusalBlamesHurt sh log v shown (Damaged (ReplyPlace k)) =
    shown (ReplyPlace k) ≡ now log (ReplyPlace k)
    → (s : Session) × (p : Message) × (tail : List Message) × (slice_get (sessions v) k ≡ Some s) × In p v.tail × (p.header.client ≡ s.client) × IsTail sh shown v.checkpoint tail × (v.checkpoint.content.op + length tail < p.header.op) × (IsGroupUnhurt sh log v shown p → ⊥)

-- where the log rests on a view and two copies show the choice, each refusal of an open blames what is hurt
abbrev pub BlameLaw : Type 0
BlameLaw =
    (sh : Shape) (log : UnitLog) (v : View) (shown : Units) (refusal : Refusal) → RestsOn sh log v → NoChance log shown → Agree shown v.checkpoint.content
    → Opens sh shown (Refused refusal) → RefusalBlamesHurt sh log v shown refusal

-- a read by a known checksum gives the unit that was written there, and no other: any unit of the pools, and what is shown with its checksum
abbrev pub ReadLaw : Type 0
ReadLaw = (log : UnitLog) (shown : Units) (place other : Place) (x y : AnyUnit) → NoChance log shown → InPools log.start log.events place x → shown other ≡ Some y → Distinct x y
