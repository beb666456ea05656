-- Why an open refuses a disk that may be hurt.
use Rattle.std.specs.{Prelude.{◌≡◌, ◌⊎◌, ◌<◌, ◌+◌, ◌%◌, ℕ, List, length, Some, Err}, List.{slice_get}}
use Rattle.df_base.specs.declared.TheConstants.{FIRST_VERSION, GREATEST}
use Rattle.df_disk.specs.Told.{Told}
use Rattle.df_layout.specs.{declared.layout.Layout.{Layout}, declared.places.Zone.{Zone}, declared.places.Zone.TheVariants.{ClientReplies, Grid, Superblock, WalHeaders, WalPrepares}}
use Rattle.df_model.specs.{declared.errors.OpenError.{OpenError}, declared.errors.OpenError.TheVariants.{BadField, BootSpent, Damaged, DiskFault, LayoutDiffers, NoQuorum, NotFormatted, Version}}
use Rattle.df_theory.specs.{Found.{IsTail}, Tails.{In}, Units.{BlockPlace, CopyPlace, Message, PreparePlace, ReplyPlace, Session}, View.{View, boot_of, sessions}}
use Rattle.df_units.specs.Bytes.{unit_at}
use Rattle.df_recovery.specs.{Found.{IsLayoutShownAs}, Opening.{RefusesAs}, Surveys.{SurveysAs}, Below.{DataFile, shape}}
use Rattle.df_damage.specs.{Disks.{HasEqualCopies, MayBeHurtAs}, Hurt.{HasTwoCopies, IsHurtFile, IsHurtPlace}, Versions.{IsUnspent}}

-- the refusals of a file that damage explains: no copies, no two that agree, or a place that is named; a version, a field, a layout or a spent boot never
abbrev pub MayBeOfDamage : OpenError → Type 0
MayBeOfDamage NotFormatted = Unit {0}
MayBeOfDamage (NoQuorum classes) = Unit {0}
MayBeOfDamage (Version found) = ⊥
MayBeOfDamage (BadField field value) = ⊥
MayBeOfDamage (LayoutDiffers reserved found) = ⊥
MayBeOfDamage (Damaged place class) = Unit {0}
MayBeOfDamage DiskFault = ⊥
MayBeOfDamage BootSpent = ⊥

-- with rooms of the file's layout no other refusal comes, and none where no sector of the file is hurt; a fault of the disk in the open itself is none of these
abbrev pub RefusalsAreOfDamage : Type 0
RefusalsAreOfDamage =
    (version : ℕ) (file : DataFile) (view : View) (t : Told) (e : OpenError) → MayBeHurtAs version file view t → IsUnspent version view → SurveysAs version file.layout t.shown (Err e) → (e ≡ DiskFault → ⊥)
    → MayBeOfDamage e × IsHurtFile file.layout t

-- where a boot is said to be spent it is the file's own that is: damage raises none
abbrev pub SpentIsTheFiles : Type 0
SpentIsTheFiles = (version : ℕ) (file : DataFile) (view : View) (t : Told) → MayBeHurtAs version file view t → SurveysAs version file.layout t.shown (Err BootSpent) → boot_of view ≡ GREATEST

-- the refusals that name the superblock: it shows nothing, no two of its copies agree, or a unit is of a later checkpoint or boot than the choice
abbrev pub NamesSuperblock : OpenError → Type 0
NamesSuperblock NotFormatted = Unit {0}
NamesSuperblock (NoQuorum classes) = Unit {0}
NamesSuperblock (Damaged place class) = place.zone ≡ Superblock
NamesSuperblock e = ⊥

-- they come only where a copy is hurt
abbrev pub SuperblockIsHurt : Type 0
SuperblockIsHurt =
    (version : ℕ) (file : DataFile) (view : View) (t : Told) (e : OpenError) → MayBeHurtAs version file view t → SurveysAs version file.layout t.shown (Err e) → NamesSuperblock e
    → (n : ℕ) × IsHurtPlace file.layout t (CopyPlace n)

-- what a look at the copies answers, before there are rooms: the file's layout, or a refusal that is of damage, and none where the four copies were equal and two stand
pub record ProbesHurt (version : ℕ) (file : DataFile) (t : Told) : Type 0 where
  pub layout : (shown : Layout) → IsLayoutShownAs version t.shown shown → shown ≡ file.layout
  pub refused : (e : OpenError) → RefusesAs version t.shown e → MayBeOfDamage e × IsHurtFile file.layout t
  pub usable : HasEqualCopies file t.log → HasTwoCopies t → (e : OpenError) → RefusesAs version t.shown e → ⊥

abbrev pub ProbeIsOfHurt : Type 0
ProbeIsOfHurt = (version : ℕ) (file : DataFile) (view : View) (t : Told) → MayBeHurtAs version file view t → ProbesHurt version file t

-- a later op of the client at this place of the table, which the tail that is found doesn't reach: the slot of its prepare is hurt, or that of another one of its group, of which there is none in version 1
pub record LacksLater (file : DataFile) (view : View) (t : Told) (k : ℕ) : Type 0 where
  pub session : Session
  pub at : slice_get (sessions view) k ≡ Some session
  pub prepare : Message
  pub in_tail : In prepare view.tail
  pub client : prepare.header.client ≡ session.client
  pub found : List Message
  pub is_tail : IsTail (shape file) (unit_at file.layout file.cluster t.shown) view.checkpoint found
  pub later : view.checkpoint.content.op + length found < prepare.header.op
  pub lost : Message
  pub lost_in_tail : In lost view.tail
  pub group : lost.header.group ≡ prepare.header.group
  pub alone : file.version ≡ FIRST_VERSION → lost ≡ prepare
  pub hurt : IsHurtPlace file.layout t (PreparePlace (lost.header.op % file.layout.slots))

-- what is blamed is hurt: a block, the slot of a prepare, that of a reply or one of a later prepare of its client; never a copy or a header
abbrev pub IsBlamedPlace : DataFile → View → Told → Zone → ℕ → Type 0
IsBlamedPlace file view t Superblock n = ⊥
IsBlamedPlace file view t WalHeaders s = ⊥
IsBlamedPlace file view t WalPrepares s = IsHurtPlace file.layout t (PreparePlace s)
IsBlamedPlace file view t ClientReplies k = IsHurtPlace file.layout t (ReplyPlace k) ⊎ LacksLater file view t k
IsBlamedPlace file view t Grid a = IsHurtPlace file.layout t (BlockPlace a)

-- the refusals of a file whose four copies were equal: a place alone is named, and what is blamed is hurt
abbrev pub BlamesHurt : DataFile → View → Told → OpenError → Type 0
BlamesHurt file view t (Damaged place class) = IsBlamedPlace file view t place.zone place.index
BlamesHurt file view t e = ⊥

-- of four equal superblock copies, with at most two hurt, no other refusal comes
abbrev pub RefusalsBlameHurt : Type 0
RefusalsBlameHurt =
    (version : ℕ) (file : DataFile) (view : View) (t : Told) (e : OpenError) → MayBeHurtAs version file view t → IsUnspent version view → HasEqualCopies file t.log → HasTwoCopies t → SurveysAs version file.layout t.shown (Err e)
    → (e ≡ DiskFault → ⊥) → BlamesHurt file view t e
