-- Groups: what the walk of an open finds of them, what nothing survives of, and how a group and a boot update lead from one tidy file to the next.
use Rattle.std.specs.Prelude.{◌≡◌, ◌⊎◌, ◌↔◌, ◌<◌, ◌≤◌, ◌+◌, ◌-◌, ◌%◌, ℕ, length, List, [], ◌∷◌, take, Option, Some, None}
use Rattle.df_theory.specs.{Units.{Content, Header, HeaderPlace, HeaderUnit, Message, PreparePlace, PrepareUnit, ReplyPlace, ReplyUnit, Session, Units, IsAlone}, Sessions.{sessions_after}}
use Rattle.df_theory.specs.{Tails.{In, Chain, EndsAt, Fits, last_mark, last_checksum, AreGroups, AreWholeGroups}, Shape.{Shape, slots, clients}, View.{Checkpoint, View, boot_of, head}}
use Rattle.df_theory.specs.{Holds.{IsWhole}, Next.{MayAppend, MayBoot, appended, booted}, UnitLog.{UnitLog, now, settled}, Grown.{IsClear}, Rests.{IsQuiet, RestsOn}, Cases.{IsEmpty, Takes, decision}}
use Rattle.df_theory.specs.{Found.{AreOfPlaces, IsFound, IsReach, IsTail, NotLost}, Runs.{Command, Syncs, after_steps}, CopyPuts.{PutsCopies, update_steps}}
use Rattle.df_theory.specs.{WriterLaws.{AllPutPrepare, AreSame, flush_steps}, MendLaws.{AllPutTable, Reaches}, WholeLaws.{IsStanding}, TidyLaws.{IsTidy, KeepsStanding, LeadsTidily}}

-- in a file without boots, as all of version 1, nothing ever survives
abbrev pub ClearLaw : Type 0
ClearLaw = (sh : Shape) (log : UnitLog) (v : View) → RestsOn sh log v → boot_of v ≡ 0 → IsClear (settled log) v

-- so the slot of each op above the head is empty by the table alone
abbrev pub ClearSlotLaw : Type 0
ClearSlotLaw =
    (sh : Shape) (image : Units) (v : View) (o : ℕ) → AreOfPlaces sh image → IsFound sh image v → boot_of v ≡ 0 → head v < o → o ≤ v.checkpoint.content.op + slots sh
    → IsEmpty (decision (slots sh) (boot_of v) image o)

-- ---- the walk of an open

-- whole groups, and after them as much as is reached of one that isn't over
pub record Walks (sh : Shape) (image : Units) (b : Checkpoint) (tail more : List Message) : Type 0 where
  pub chain : Chain (clients sh) (b.content.op + 1) b.content.op_checksum 0 b.parts.sessions tail
  pub takes : (p : Message) → In p tail → Takes (slots sh) image b.content p
  pub room : length tail ≤ slots sh
  pub grouped : AreGroups 0 b.content.op (b.content.op + 1) tail
  pub groups : AreWholeGroups (b.content.op + length tail) tail
  pub pin_ends : EndsAt b.content.pin tail
  pub reaches : b.content.pin ≤ b.content.op + length tail
  pub pinned : last_checksum b.content.op_checksum (take (b.content.pin - b.content.op) tail) ≡ b.content.pin_checksum
  pub reach : IsReach sh image b tail more
  pub goes_on : (p : Message) → In p more → b.content.op + length tail + length more < p.header.group_last

abbrev pub WalkLaw : Type 0
WalkLaw = (sh : Shape) (image : Units) (b : Checkpoint) (tail more : List Message) → Walks sh image b tail more → IsTail sh image b tail

-- where each prepare of it was appended alone, as in version 1, the walk ends where no further one fits
pub record WalksAlone (sh : Shape) (image : Units) (b : Checkpoint) (tail : List Message) : Type 0 where
  pub alone : (p : Message) → In p tail → IsAlone p.header
  pub chain : Chain (clients sh) (b.content.op + 1) b.content.op_checksum 0 b.parts.sessions tail
  pub takes : (p : Message) → In p tail → Takes (slots sh) image b.content p
  pub room : length tail ≤ slots sh
  pub reaches : b.content.pin ≤ b.content.op + length tail
  pub pinned : last_checksum b.content.op_checksum (take (b.content.pin - b.content.op) tail) ≡ b.content.pin_checksum
  pub longest : (p : Message) → length tail < slots sh → Takes (slots sh) image b.content p
      → Fits (clients sh) (b.content.op + 1 + length tail) (last_checksum b.content.op_checksum tail) (last_mark 0 tail) (sessions_after b.parts.sessions tail) p.header → ⊥

abbrev pub AloneLaw : Type 0
AloneLaw = (sh : Shape) (image : Units) (b : Checkpoint) (tail : List Message) → WalksAlone sh image b tail → IsTail sh image b tail × IsReach sh image b tail []

-- ---- the group rule, told by the prepare before

-- the prepare before is the last of its group
abbrev pub GroupEnded : Option Header → Type 0
GroupEnded None = ⊥
GroupEnded (Some q) = q.group_last ≡ q.op

-- it begins a group: after the checkpoint, after the pin, or after a group that is over
pub record IsGroupFirst (op pin : ℕ) (before : Option Header) (h : Header) : Type 0 where
  pub first : h.group ≡ h.op
  pub behind : (h.op ≡ op + 1) ⊎ (h.op ≡ pin + 1) ⊎ GroupEnded before

-- or it goes on with the group of the prepare before, which isn't over
pub record IsGroupNext (op pin : ℕ) (before : Option Header) (h : Header) : Type 0 where
  pub inside : (h.op ≡ op + 1 → ⊥) × (h.op ≡ pin + 1 → ⊥)
  pub prepare : Header
  pub is : before ≡ Some prepare
  pub same : (h.group ≡ prepare.group) × (h.group_last ≡ prepare.group_last)
  pub open_yet : prepare.group_last ≡ prepare.op → ⊥

-- each prepare does one of the two, and the one at the pin is the last of its group
abbrev pub FollowGroups : ℕ → ℕ → Option Header → List Message → Type 0
FollowGroups op pin before [] = Unit {0}
FollowGroups op pin before (p ∷ ps) = (IsGroupFirst op pin before p.header ⊎ IsGroupNext op pin before p.header) × (p.header.op ≡ pin → p.header.group_last ≡ p.header.op) × FollowGroups op pin (Some p.header) ps

abbrev pub GroupRuleLaw : Type 0
GroupRuleLaw =
    (clients op parent mark pin : ℕ) (ss : List Session) (ps : List Message) → op ≤ pin → Chain clients (op + 1) parent mark ss ps
    → FollowGroups op pin None ps ↔ (AreGroups 0 op (op + 1) ps × ((p : Message) → In p ps → p.header.op ≡ pin → p.header.group_last ≤ pin))

-- ---- what is lost, told case by case

-- a header of this boot and of the group that begins here is shown
abbrev pub ShowsGroup : Units → Content → ℕ → Type 0
ShowsGroup image c first = (s : ℕ) × (h : Header) × (image (HeaderPlace s) ≡ Some (HeaderUnit h)) × (h.boot ≡ c.boot) × (h.group ≡ first)

-- a prepare that is shown, of the group above the head, which is of several, and of which no header is shown
pub record IsSurvivorOf (image : Units) (c : Content) (top : ℕ) (p : Message) : Type 0 where
  pub first : p.header.group ≡ top + 1
  pub several : p.header.group < p.header.group_last
  pub untold : ShowsGroup image c (top + 1) → ⊥

-- none of the cases in which something is lost: where more is reached than whole groups, a header of that group is shown; a header, a prepare that didn't survive, or a reply is of an op above the head
pub record NoneLost (image : Units) (c : Content) (top : ℕ) (more : List Message) : Type 0 where
  pub open_group : 0 < length more → ShowsGroup image c (top + 1) → ⊥
  pub header : (s : ℕ) (h : Header) → image (HeaderPlace s) ≡ Some (HeaderUnit h) → h.boot ≡ c.boot → h.op ≤ top
  pub prepare : (s : ℕ) (p : Message) → image (PreparePlace s) ≡ Some (PrepareUnit p) → p.header.boot ≡ c.boot → top < p.header.op → IsSurvivorOf image c top p
  pub superblock : c.head ≤ top
  pub reply : (k : ℕ) (r : Message) → image (ReplyPlace k) ≡ Some (ReplyUnit r) → r.header.boot ≡ c.boot → (r.header.op ≤ top) × (r.header.mark ≤ top)

-- the two rules on validity that this needs: a header's group begins at its op or before, and a group of several has a boot
pub record HaveGroups (image : Units) : Type 0 where
  pub header : (s : ℕ) (h : Header) → image (HeaderPlace s) ≡ Some (HeaderUnit h) → h.group ≤ h.op
  pub prepare : (s : ℕ) (p : Message) → image (PreparePlace s) ≡ Some (PrepareUnit p) → p.header.group < p.header.group_last → 0 < p.header.boot

abbrev pub LostLaw : Type 0
LostLaw = (image : Units) (c : Content) (top : ℕ) (more : List Message) → HaveGroups image → NoneLost image c top more ↔ NotLost image c top

-- ---- tidy files

-- a group: its prepares in some order, a sync, its header sectors, a sync
abbrev pub flush_command : View → List Message → List Units → List Units → Command
flush_command v ps prepares headers = record { steps = flush_steps prepares headers; view = appended v ps }

-- what the header of each slot of the ring is to be: that of its prepare of the group, or the one that is shown; and those of the group are written, and no header beside the ring
pub record IsGroupTable (sh : Shape) (image : Units) (ps : List Message) (table : ℕ → Header) (headers : List Units) : Type 0 where
  pub from : (s : ℕ) → s < slots sh → (image (HeaderPlace s) ≡ Some (HeaderUnit (table s))) ⊎ ((p : Message) × In p ps × (s ≡ p.header.op % slots sh) × (table s ≡ p.header))
  pub inside : (s : ℕ) → Reaches headers (HeaderPlace s) → s < slots sh
  pub own : (p : Message) → In p ps → table (p.header.op % slots sh) ≡ p.header
  pub reached : (p : Message) → In p ps → Reaches headers (HeaderPlace (p.header.op % slots sh))

abbrev pub TidyFlushLaw : Type 0
TidyFlushLaw =
    (sh : Shape) (log : UnitLog) (v : View) (ps qs : List Message) (prepares : List Units) (table : ℕ → Header) (headers : List Units)
    → IsTidy sh log v → MayAppend sh v ps → (1 < length ps → 0 < boot_of v) → AreSame qs ps → AllPutPrepare sh qs prepares → AllPutTable table headers → IsGroupTable sh (now log) ps table headers
    → LeadsTidily sh log v (flush_command v ps prepares headers) × (IsStanding log v → KeepsStanding sh log v (flush_command v ps prepares headers))

-- and after it the ring shows the table
abbrev pub FlushRingLaw : Type 0
FlushRingLaw =
    (sh : Shape) (log : UnitLog) (ps qs : List Message) (prepares : List Units) (table : ℕ → Header) (headers : List Units)
    → AllPutPrepare sh qs prepares → AllPutTable table headers → IsGroupTable sh (now log) ps table headers
    → (s : ℕ) → s < slots sh → now (after_steps (flush_steps prepares headers) log) (HeaderPlace s) ≡ Some (HeaderUnit (table s))

-- a file that is mended: it is tidy, but for what survived above its head
pub record IsMendedLog (sh : Shape) (log : UnitLog) (v : View) : Type 0 where
  pub rests : RestsOn sh log v
  pub quiet : IsQuiet log
  pub whole : IsWhole sh (now log) v

-- a boot update
abbrev pub boot_command : View → (d : Content) → PutsCopies d → Command
boot_command v d puts = record { steps = Syncs ∷ update_steps puts; view = booted v d }

-- it leads to a tidy file, whatever survived before
abbrev pub TidyBootLaw : Type 0
TidyBootLaw =
    (sh : Shape) (log : UnitLog) (v : View) (d : Content) (puts : PutsCopies d) → IsMendedLog sh log v → MayBoot v d
    → LeadsTidily sh log v (boot_command v d puts) × (IsStanding log v → KeepsStanding sh log v (boot_command v d puts))
