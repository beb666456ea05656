-- What an open finds on a disk that may be hurt.
use Rattle.std.specs.Prelude.{◌≡◌, ◌<◌, ℕ, Some}
use Rattle.df_base.specs.Log.{Sync, add, now}
use Rattle.df_disk.specs.Told.{Told}
use Rattle.df_layout.specs.declared.places.Zone.TheVariants.{Superblock, WalHeaders}
use Rattle.df_theory.specs.{Found.{IsFound}, Holds.{IsWhole}, Tails.{In}, Units.{Header, HeaderPlace, HeaderUnit, Message}, View.{View}}
use Rattle.df_units.specs.Bytes.{unit_at}
use Rattle.df_recovery.specs.{Surveys.{IsOpenedAs}, Below.{DataFile, State, shape}}
use Rattle.df_damage.specs.{Disks.{HasEqualCopies, MayBeHurtAs}, Hurt.{HasTwoCopies, IsHurtInside, IsUnhurtZone}, Past.{WasHad}, Unrefused.{IsNotRefusedAs}, Versions.{IsUnspent}}

-- what is found is of this file, and the file had it
abbrev pub FoundWasHad : Type 0
FoundWasHad = (version : ℕ) (file : DataFile) (view : View) (t : Told) (s : State) → MayBeHurtAs version file view t → (is : IsOpenedAs version file.layout t.shown s) → (s.file ≡ file) × WasHad file (add Sync t.log) is.view

-- the file is opened as it was left: nothing refuses, and a state that is found has this view
pub record OpensAsLeftAs (version : ℕ) (file : DataFile) (view : View) (t : Told) : Type 0 where
  pub found : IsFound (shape file) (unit_at file.layout file.cluster t.shown) view
  pub opens : IsNotRefusedAs version file t.shown
  pub finds : (s : State) → (is : IsOpenedAs version file.layout t.shown s) → (s.file ≡ file) × (is.view ≡ view)

-- where version 2 is asked for, as an open does
abbrev pub OpensAsLeft : DataFile → View → Told → Type 0
OpensAsLeft file view t = OpensAsLeftAs 2 file view t

-- a file that had four equal superblock copies, of which at most two are hurt, and nothing else, is opened as it was left
abbrev pub TwoCopiesAreEnough : Type 0
TwoCopiesAreEnough =
    (version : ℕ) (file : DataFile) (view : View) (t : Told) → MayBeHurtAs version file view t → IsUnspent version view → HasEqualCopies file t.log → HasTwoCopies t → IsHurtInside file.layout t Superblock → OpensAsLeftAs version file view t

-- so is one of which header sectors alone are hurt, whether its copies were equal or not
abbrev pub HeadersMayBeHurt : Type 0
HeadersMayBeHurt = (version : ℕ) (file : DataFile) (view : View) (t : Told) → MayBeHurtAs version file view t → IsUnspent version view → IsHurtInside file.layout t WalHeaders → OpensAsLeftAs version file view t

-- of four equal copies, with at most two and any other sectors hurt, a state that is found has the file's checkpoint
abbrev pub CheckpointStays : Type 0
CheckpointStays =
    (version : ℕ) (file : DataFile) (view : View) (t : Told) (s : State) → MayBeHurtAs version file view t → HasEqualCopies file t.log → HasTwoCopies t → (is : IsOpenedAs version file.layout t.shown s) → (is.view.checkpoint ≡ view.checkpoint)

-- the tail has the prepare of each header of the ring whose op is above the checkpoint
abbrev pub HasEachHeader : DataFile → Told → View → Type 0
HasEachHeader file t found =
    (slot : ℕ) (h : Header) → unit_at file.layout file.cluster (now t.log) (HeaderPlace slot) ≡ Some (HeaderUnit h) → found.checkpoint.content.op < h.op → (p : Message) × In p found.tail × (p.header.op ≡ h.op) × (p.header.checksum ≡ h.checksum)

-- with no header sector hurt a state that is found has each of these prepares, whatever else is hurt; with no copy hurt either it has the file's checkpoint
abbrev pub HeadersTell : Type 0
HeadersTell =
    (version : ℕ) (file : DataFile) (view : View) (t : Told) (s : State) → MayBeHurtAs version file view t → IsUnhurtZone file.layout t WalHeaders → (is : IsOpenedAs version file.layout t.shown s)
    → HasEachHeader file t is.view × (IsUnhurtZone file.layout t Superblock → (is.view.checkpoint ≡ view.checkpoint))

-- where the log leaves nothing to mend, too, as after each finished session, a state that is found has every prepare of the tail
abbrev pub WholeTailIsFound : Type 0
WholeTailIsFound =
    (version : ℕ) (file : DataFile) (view : View) (t : Told) (s : State) → MayBeHurtAs version file view t → IsWhole (shape file) (unit_at file.layout file.cluster (now t.log)) view → IsUnhurtZone file.layout t WalHeaders → IsUnhurtZone file.layout t Superblock
    → (is : IsOpenedAs version file.layout t.shown s) → (p : Message) → In p view.tail → In p is.view.tail
