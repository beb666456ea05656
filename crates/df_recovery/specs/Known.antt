-- The prepares that a superblock names, as an open finds them after its checkpoint: all of them fit, or one of them is blamed.
use Rattle.std.specs.Prelude.{◌≡◌, ◌⊎◌, ◌<◌, ◌+◌, ◌%◌, ℕ, List, Result, Ok, Err, length}
use Rattle.df_layout.specs.declared.layout.Layout.{Layout}
use Rattle.df_format.specs.{Copies.{content_with}, declared.superblock.SuperFields.{SuperFields}}
use Rattle.df_sessions.specs.{declared.session.Session.{Session}, Requests.{sessions_of}}
use Rattle.df_theory.specs.{Units.{Message, Units}, Shape.{Shape, clients, slots}, Opens.{IsUnfit, LacksKnown}, View.{Checkpoint}}
use Rattle.df_units.specs.Meaning.{content_of}
use Rattle.df_group.specs.declared.reach.Reach.{Reach}
use Rattle.df_journal.specs.{Scan.{Scan}, Shows.{TellsRings}, Tail.{IsReached}}

-- the checkpoint of a superblock with these fields and sessions, in a file of this layout
pub record IsBaseOf (sh : Shape) (b : Checkpoint) (layout : Layout) (f : SuperFields) (sessions : List Session) : Type 0 where
  pub slots_are : slots sh ≡ layout.slots
  pub clients_are : clients sh ≡ layout.clients
  pub content_is : b.content ≡ content_of (content_with f)
  pub sessions_are : b.parts.sessions ≡ sessions_of sessions

-- the greatest named op whose prepare isn't shown has this slot, or, where each is shown, the least one that doesn't fit
abbrev pub BlamesKnown : Shape → Units → Checkpoint → ℕ → Type 0
BlamesKnown sh image b slot =
    ((a : ℕ) × (slot ≡ a % slots sh) × LacksKnown sh image b.content a)
    ⊎ ((front : List Message) × (slot ≡ (b.content.op + length front + 1) % slots sh) × IsUnfit sh image b front)

-- the slot is one of the ring, and of each image that shows what was scanned it is that one
pub record BlamesSlot (layout : Layout) (scan : Scan) (f : SuperFields) (sessions : List Session) (slot : ℕ) : Type 0 where
  pub below : slot < layout.slots
  pub blames : (sh : Shape) (image : Units) (b : Checkpoint) → TellsRings layout image scan → IsBaseOf sh b layout f sessions
      → BlamesKnown sh image b slot

-- how far prepares go on, with the sessions after them; or the slot that is blamed
abbrev pub AnswersKnown : Layout → Scan → SuperFields → List Session → Result Reach ℕ → List Session → Type 0
AnswersKnown layout scan f sessions (Ok reach) after = (sh : Shape) (image : Units) (b : Checkpoint) → TellsRings layout image scan
    → IsBaseOf sh b layout f sessions → IsReached sh image b reach after
AnswersKnown layout scan f sessions (Err slot) after = BlamesSlot layout scan f sessions slot
