-- Histories that grew as they should, and logs that are safe wherever a stop falls.
use Rattle.std.specs.Prelude.{◌≡◌, ◌⊎◌, ◌<◌, ◌≤◌, ℕ, List, [], ◌∷◌, Some}
use Rattle.df_theory.specs.Units.{Place, CopyPlace, HeaderPlace, PreparePlace, ReplyPlace, BlockPlace, Header, Message, Content, AnyUnit, CopyUnit, HeaderUnit, PrepareUnit, ReplyUnit, Units}
use Rattle.df_theory.specs.{Shape.{Shape}, Tails.{In, IsCutOff}, Copies.{IsNextContent}, View.{View, boot_of, head}, Holds.{Holds}, Next.{Next}}
use Rattle.df_theory.specs.{UnitLog.{UnitLog, Synced, Stopped, add, settled, IsLeftBy}, Chance.{InImages, NoChance, AreFair}, First.{IsFirstContent, IsFirst, ShowsMade, AreMade}}

-- a unit of this view: of its tail, a reserved header, a stored reply, a copy of its content, or a copy 0 of the next one
abbrev pub InView : View → Place → AnyUnit → Type 0
InView v (CopyPlace n) x = (c : Content) × (x ≡ CopyUnit c) × ((c ≡ v.checkpoint.content) ⊎ ((n ≡ 0) × IsNextContent v.checkpoint.content c))
InView v (HeaderPlace s) x = (h : Header) × (x ≡ HeaderUnit h) × ((h.op ≡ 0) ⊎ ((p : Message) × In p v.tail × (p.header ≡ h)))
InView v (PreparePlace s) x = (p : Message) × (x ≡ PrepareUnit p) × In p v.tail
InView v (ReplyPlace k) x = (r : Message) × (x ≡ ReplyUnit r) × (v.stored k ≡ Some r)
InView v (BlockPlace a) x = Unit {0}

-- a unit of the history: it was settled there before, or is one of the view's
abbrev pub InHistory : List Units → View → Place → AnyUnit → Type 0
InHistory images v place x = InImages images place x ⊎ InView v place x

-- no prepare of the view's boot was settled above its head
abbrev pub IsClear : List Units → View → Type 0
IsClear images v = (s : ℕ) (p : Message) → InImages images (PreparePlace s) (PrepareUnit p) → p.header.boot ≡ boot_of v → p.header.op ≤ head v

-- a part of a group that a stop left above the head, all of it at once: of the group one is missing
pub record IsLeftGroup (images : List Units) (image : Units) (v : View) (p : Message) : Type 0 where
  pub clear : IsClear images v
  pub own : p.header.boot ≡ boot_of v
  pub cut : IsCutOff (head v) p.header
  pub missing : ℕ
  pub from : head v < missing
  pub to : missing ≤ p.header.group_last
  pub lacks : (s : ℕ) (q : Message) → image (PreparePlace s) ≡ Some (PrepareUnit q) → q.header.boot ≡ boot_of v → q.header.op ≡ missing → ⊥

abbrev pub IsSurvivor : List Units → Units → View → Place → AnyUnit → Type 0
IsSurvivor images image v (CopyPlace n) x = ⊥
IsSurvivor images image v (HeaderPlace s) x = ⊥
IsSurvivor images image v (PreparePlace s) x = (p : Message) × (x ≡ PrepareUnit p) × IsLeftGroup images image v p
IsSurvivor images image v (ReplyPlace k) x = ⊥
IsSurvivor images image v (BlockPlace a) x = ⊥

-- each unit that is shown is one of the history, or survived
abbrev pub AllInHistory : List Units → Units → View → Type 0
AllInHistory images image v = (place : Place) (x : AnyUnit) → image place ≡ Some x → InHistory images v place x ⊎ IsSurvivor images image v place x

-- the next view. Where something of a boot survived, its checkpoint and its tail stay until the boot is raised
pub record GoesOn (images : List Units) (u v : View) : Type 0 where
  pub next : Next u v
  pub clear : ((v.checkpoint ≡ u.checkpoint) × (v.tail ≡ u.tail)) ⊎ (boot_of u < boot_of v) ⊎ IsClear images u

-- the first image with a view: where the log begins, or where a file was made
abbrev pub Begins : Shape → Units → List Units → View → Type 0
Begins sh image [] v = Unit {0}
Begins sh image (before ∷ images) v = IsFirst sh v × ShowsMade v.checkpoint.content image × AreMade v.checkpoint.content (before ∷ images)

-- the images have views, each next to the one before it; v is the view of the newest
abbrev pub Grows : Shape → List Units → View → Type 0
Grows sh [] v = ⊥
Grows sh (image ∷ images) v = Holds sh image v × (Begins sh image images v ⊎ (AllInHistory images image v × ((u : View) × GoesOn images u v × Grows sh images u)))

-- the history grew, up to this view
pub record HasGrown (sh : Shape) (log : UnitLog) (v : View) : Type 0 where
  pub fair : AreFair log.start log.events
  pub grows : Grows sh (settled log) v

-- a file is being made, and has no view yet
pub record HasMade (sh : Shape) (log : UnitLog) (c : Content) : Type 0 where
  pub fair : AreFair log.start log.events
  pub first : IsFirstContent sh c
  pub made : AreMade c (settled log)

-- the history grew as it should
abbrev pub Grown : Shape → UnitLog → Type 0
Grown sh log = ((v : View) × HasGrown sh log v) ⊎ ((c : Content) × HasMade sh log c)

-- grown, and still so after a sync and after any stop
pub record IsSafe (sh : Shape) (log : UnitLog) : Type 0 where
  pub grown : Grown sh log
  pub synced : Grown sh (add Synced log)
  pub stopped : (image : Units) → IsLeftBy log image → NoChance log image → Grown sh (add (Stopped image) log)
