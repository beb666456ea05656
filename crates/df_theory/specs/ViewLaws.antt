-- An image and its view.
use Rattle.std.specs.Prelude.{◌≡◌, ◌↔◌, ◌<◌, ◌≤◌, ◌+◌, ◌%◌, ℕ, List, length}
use Rattle.df_base.specs.declared.TheConstants.{FIRST_VERSION, GREATEST}
use Rattle.df_theory.specs.{Units.{Content, Message, Units, HeaderPlace, PreparePlace}, Tails.{last_checksum}, Shape.{Shape, slots}, Copies.{IsChosen}}
use Rattle.df_theory.specs.{View.{Checkpoint, PassesTests, View, boot_of, head}, Holds.{Holds}, Cases.{SaysOfSlot, IsEmpty, IsTake, decided, decision}, Found.{AreOfPlaces, IsClean, IsFound}}
use Rattle.df_theory.specs.Opens.{AreKnown, BootSpent, Found, IsUnfit, LacksKnown, OpenAnswer, Opens, Refused}

-- an image holds one view
abbrev pub OneViewLaw : Type 0
OneViewLaw = (sh : Shape) (image : Units) (v u : View) → Holds sh image v → Holds sh image u → v ≡ u

-- the view that an image holds is what an open finds in it; and what an open finds is held, where the copies are clean
abbrev pub FoundLaw : Type 0
FoundLaw = (sh : Shape) (image : Units) (v : View) → (Holds sh image v → IsFound sh image v) × (AreOfPlaces sh image → IsFound sh image v → IsClean image v → Holds sh image v)

-- an open finds one state: two that it might find are one
abbrev pub OneFoundLaw : Type 0
OneFoundLaw = (sh : Shape) (image : Units) (v u : View) → IsFound sh image v → IsFound sh image u → v ≡ u

-- where an open finds a state the slot of each op of its tail is taken, and each other slot is empty once the head is known
abbrev pub SlotLaw : Type 0
SlotLaw =
    (sh : Shape) (image : Units) (v : View) (o : ℕ) → AreOfPlaces sh image → IsFound sh image v → v.checkpoint.content.op < o → o ≤ v.checkpoint.content.op + slots sh
    → (v.checkpoint.content.pin < o → o ≤ head v → IsTake (decision (slots sh) (boot_of v) image o)) × (head v < o → IsEmpty (decided (slots sh) (boot_of v) (head v) image o))

-- one content is chosen
abbrev pub OneChosenLaw : Type 0
OneChosenLaw = (image : Units) (c d : Content) → IsChosen image c → IsChosen image d → c ≡ d

-- an open gives one answer
abbrev pub OneAnswerLaw : Type 0
OneAnswerLaw = (sh : Shape) (image : Units) (x y : OpenAnswer) → Opens sh image x → Opens sh image y → x ≡ y

-- the answer is a state exactly where no step refuses
abbrev pub FoundAnswerLaw : Type 0
FoundAnswerLaw = (sh : Shape) (image : Units) (v : View) → Opens sh image (Found v) ↔ (IsFound sh image v × (boot_of v < GREATEST))

-- and where a state is found, only a spent boot is refused
abbrev pub SpentAnswerLaw : Type 0
SpentAnswerLaw = (sh : Shape) (image : Units) → Opens sh image (Refused BootSpent) ↔ ((v : View) × IsFound sh image v × (boot_of v ≡ GREATEST))

-- what the decision on a slot says of it: taken where its prepare is of the wanted op and boot, lost where only its header is, empty where neither is
abbrev pub DecisionLaw : Type 0
DecisionLaw = (n b o : ℕ) (image : Units) → SaysOfSlot b o (image (HeaderPlace (o % n))) (image (PreparePlace (o % n))) (decision n b image o)

-- an open of any image has an answer: there is none of which no step speaks
abbrev pub AnAnswerLaw : Type 0
AnAnswerLaw = (sh : Shape) (image : Units) → AreOfPlaces sh image → ((x : OpenAnswer) → Opens sh image x → ⊥) → ⊥

-- of the prepares that the superblock names, one op is refused: the greatest one that isn't shown, or else the least one that doesn't fit
abbrev pub OneKnownLaw : Type 0
OneKnownLaw =
    (sh : Shape) (image : Units) (b : Checkpoint) (a e : ℕ) (front rear : List Message)
    → (LacksKnown sh image b.content a → LacksKnown sh image b.content e → a ≡ e) × (LacksKnown sh image b.content a → IsUnfit sh image b front → ⊥) × (IsUnfit sh image b front → IsUnfit sh image b rear → length front ≡ length rear)

-- and none that is found
abbrev pub FoundKnownLaw : Type 0
FoundKnownLaw = (sh : Shape) (image : Units) (v : View) → IsFound sh image v → ((a : ℕ) → LacksKnown sh image v.checkpoint.content a → ⊥) × ((front : List Message) → IsUnfit sh image v.checkpoint front → ⊥)

-- where all that are named are shown, the last of them is the one at the pin
abbrev pub KnownEndsLaw : Type 0
KnownEndsLaw = (n : ℕ) (image : Units) (op checksum parent : ℕ) (ps : List Message) → AreKnown n image op checksum ps → 0 < length ps → last_checksum parent ps ≡ checksum

-- a file of version 1 names none beyond its checkpoint, and its boot is never spent
abbrev pub FirstVersionLaw : Type 0
FirstVersionLaw =
    (sh : Shape) (image : Units) (b : Checkpoint) → sh.version ≡ FIRST_VERSION → PassesTests sh b.content
    → ((a : ℕ) → LacksKnown sh image b.content a → ⊥) × ((front : List Message) → IsUnfit sh image b front → ⊥) × (b.content.boot ≡ 0)
