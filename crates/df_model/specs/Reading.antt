-- What reads give on a file that is kept, and what a tour lists.
use Rattle.std.specs.{Prelude.{◌≡◌, ◌⊎◌, ◌≤◌, ℕ, suc, zero, List, [], ◌∷◌, ◌++◌, length, map, Some, None, Ok}, List.{slice_get}}
use Rattle.df_layout.specs.{declared.damage.Class.{Class}, declared.damage.Finding.{Finding}}
use Rattle.df_theory.specs.{Units.{Block, BlockPlace, BlockUnit, Message, Place, Session}, Sessions.{Answers}, Tails.{In}, Shape.{Shape}, View.{sessions}, UnitLog.{UnitLog, now}}
use Rattle.df_model.specs.{Work.{Work, first_tour, reference_of}, Codec.{InGrid}, Memory.{memory_of, referenced_of}, Refusals.{first_refusal, lookup_refusals, prepare_refusals}}
use Rattle.df_model.specs.{After.{newest, to_check}, Commands.{Answer, Command, ReadBlock, ReadPrepare, ReadReply, Scrub, ToReadBlock, ToReadPrepare, ToReadReply, ToScrub}}
use Rattle.df_model.specs.{Supply.{Codec, Shown, check_of, class_at, last_work, next, result}, Sense.{IsBacked, RiseFrom, ShowsBlock}, Laws.{IsKeptBy}, declared.answers.Verdict.{Verdict}}
use Rattle.df_model.specs.{declared.answers.Verdict.TheVariants.{Sound, Failing}, declared.answers.Scrubbed.TheVariants.{Checked, TourEnd}}

abbrev pub shown_by : UnitLog → (Place → Class) → Shown
shown_by log damage = record { units = now log; damage = damage }

-- ---- reads

-- a prepare that is kept is read
abbrev pub PrepareReadLaw : Type 0
PrepareReadLaw =
    (sh : Shape) (codec : Codec) (log : UnitLog) (damage : Place → Class) (w : Work) (op : ℕ) → IsKeptBy sh codec.spell log w → first_refusal (prepare_refusals (memory_of sh codec.spell w) op) ≡ None
    → (p : Message) × In p w.view.tail × (p.header.op ≡ op) × ((next sh codec (shown_by log damage) w (ReadPrepare op)).1 ≡ ToReadPrepare (Ok p))

-- so is a reply that is stored
abbrev pub ReplyReadLaw : Type 0
ReplyReadLaw =
    (sh : Shape) (codec : Codec) (log : UnitLog) (damage : Place → Class) (w : Work) (client : ℕ) → IsKeptBy sh codec.spell log w → first_refusal (lookup_refusals (memory_of sh codec.spell w) client) ≡ None
    → (k : ℕ) × (s : Session) × (r : Message) × (slice_get (sessions w.view) k ≡ Some s) × (s.client ≡ client) × (w.view.stored k ≡ Some r) × Answers s r × ((next sh codec (shown_by log damage) w (ReadReply client)).1 ≡ ToReadReply (Ok r))

-- and a block that is live
abbrev pub BlockReadLaw : Type 0
BlockReadLaw =
    (sh : Shape) (codec : Codec) (log : UnitLog) (damage : Place → Class) (w : Work) (a c : ℕ) → IsKeptBy sh codec.spell log w → IsBacked log w → w.live a ≡ Some c
    → (b : Block) × (b.checksum ≡ c) × (now log (BlockPlace a) ≡ Some (BlockUnit b)) × ((next sh codec (shown_by log damage) w (ReadBlock a)).1 ≡ ToReadBlock (Ok b))

-- ---- the scrubber

-- where every referenced block is shown, no check fails
abbrev pub ScrubLaw : Type 0
ScrubLaw =
    (sh : Shape) (codec : Codec) (log : UnitLog) (damage : Place → Class) (w : Work) (x : ℕ × ℕ) (more : List (ℕ × ℕ)) → IsKeptBy sh codec.spell log w → IsBacked log w → to_check (memory_of sh codec.spell w) ≡ x ∷ more
    → (next sh codec (shown_by log damage) w Scrub).1 ≡ ToScrub (Checked x.0 Sound)

abbrev pub with_finding : ℕ → Verdict → List Finding → List Finding
with_finding a Sound rest = rest
with_finding a (Failing class) rest = record { address = a; «class» = class } ∷ rest

-- those of these blocks that aren't shown as they are known, each with the class of what is shown
abbrev pub failing : Shown → List (ℕ × ℕ) → List Finding
failing shown [] = []
failing shown (x ∷ xs) = with_finding x.0 (check_of shown x) (failing shown xs)

-- a check of each of them
abbrev pub checks : Shown → List (ℕ × ℕ) → List Answer
checks shown [] = []
checks shown (x ∷ xs) = ToScrub (Checked x.0 (check_of shown x)) ∷ checks shown xs

abbrev pub scrubs : ℕ → List Command
scrubs zero = []
scrubs (suc n) = Scrub ∷ scrubs n

-- a tour from its start to its end: it checks each referenced block, counts them and those that fail, and puts the failing ones last into the ring
pub record IsTour (sh : Shape) (codec : Codec) (shown : Shown) (w : Work) (xs : List (ℕ × ℕ)) : Type 0 where
  pub answers : result sh codec shown w (scrubs (suc (length xs))) ≡ checks shown xs ++ ToScrub (TourEnd (length xs) (length (failing shown xs))) ∷ []
  pub after : last_work sh codec shown w (scrubs (suc (length xs))) ≡ record w { tour = first_tour; findings = newest (w.findings ++ failing shown xs) }

abbrev pub TourLaw : Type 0
TourLaw = (sh : Shape) (codec : Codec) (shown : Shown) (w : Work) → w.tour ≡ first_tour → length w.findings ≤ 64 → IsTour sh codec shown w (referenced_of (memory_of sh codec.spell w))

abbrev pub address_of : Finding → ℕ
address_of f = f.address

abbrev pub InFindings : Finding → List Finding → Type 0
InFindings f [] = ⊥
InFindings f (x ∷ xs) = (f ≡ x) ⊎ InFindings f xs

-- what is listed is exactly what is referenced and not shown, in order of address
pub record AreFailing (sh : Shape) (shown : Shown) (w : Work) (fs : List Finding) : Type 0 where
  pub order : RiseFrom 1 (map address_of fs)
  pub each : (f : Finding) → InFindings f fs → InGrid sh.layout f.address × ((c : ℕ) × (reference_of w f.address ≡ Some c) × (ShowsBlock shown.units f.address c → ⊥)) × (f.«class» ≡ class_at shown (BlockPlace f.address))
  pub all : (a c : ℕ) → InGrid sh.layout a → reference_of w a ≡ Some c → (ShowsBlock shown.units a c → ⊥) → InFindings (record { address = a; «class» = class_at shown (BlockPlace a) }) fs

abbrev pub FailingLaw : Type 0
FailingLaw = (sh : Shape) (codec : Codec) (shown : Shown) (w : Work) → AreFailing sh shown w (failing shown (referenced_of (memory_of sh codec.spell w)))
