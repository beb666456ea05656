-- What becomes of a block over calls: as long as a reason holds its address, it is shown there, and a read by its checksum gives it.
use Rattle.std.specs.Prelude.{◌≡◌, ◌<◌, ℕ, List, [], ◌∷◌, Option, Some, None, Ok}
use Rattle.df_base.specs.Log.{Event}
use Rattle.df_disk.specs.{Told.{IsHonest, Told}, Adds.{after_all}}
use Rattle.df_theory.specs.Units.{Block, BlockPlace, BlockUnit}
use Rattle.df_model.specs.{Commands.{IsInput}, Supply.{block_at, no_trailer}, Work.{Running, Work}}
use Rattle.df_opening.specs.Below.{DataFile, State}
use Rattle.df_replica.specs.{Reading.{shown_of}, Serving.{Keeps, Whole, format, next}, Session.{Act, Exchange, IsServed, acts_in, work_after}}

-- a block with this checksum is held at the address: it is live, or the running or the durable checkpoint references it
pub data HoldsBlock (w : Work) (a c : ℕ) : Type 0 where
  IsLive : w.live a ≡ Some c → HoldsBlock w a c
  IsCaptured : (r : Running) → w.running ≡ Some r → r.parts.references a ≡ Some c → HoldsBlock w a c
  IsDurable : w.view.checkpoint.parts.references a ≡ Some c → HoldsBlock w a c

-- after each of these acts a block is held at the address, whatever its checksum
abbrev pub StaysHeld : DataFile → (a : ℕ) → Work → List Act → Type 0
StaysHeld file a w [] = Unit {0}
StaysHeld file a w (x ∷ acts) = ((d : ℕ) × HoldsBlock (next file w x.given x.command).0 a d) × StaysHeld file a (next file w x.given x.command).0 acts

-- what each act was supplied with is in range
abbrev pub AreInputs : List Act → Type 0
AreInputs [] = Unit {0}
AreInputs (x ∷ acts) = IsInput x.given x.command × AreInputs acts

-- where the disk tells what its log leaves, the address shows a block with this checksum, no trailer's, and a read by the checksum gives it
abbrev pub ShowsHeld : DataFile → (a c : ℕ) → Option Told → Type 0
ShowsHeld file a c None = Unit {0}
ShowsHeld file a c (Some t) =
    IsHonest t
    → (b : Block) × (b.checksum ≡ c) × (0 < b.kind) × ((format file).unit_at t.shown (BlockPlace a) ≡ Some (BlockUnit b)) × (no_trailer (block_at (shown_of file t.shown) (Some c) a) ≡ Ok b)

-- From a file that shows each block that it references, over any calls that were served: a block that is held at first is still held as long as its address stays held,
-- and shown, by each log by which the file was kept.
abbrev pub HeldBlocksAreShown : Type 0
HeldBlocksAreShown =
    (s0 s : State) (told0 told : Option Told) (exchanges : List Exchange) (events : List Event) → IsServed s0 s told0 told exchanges events → AreInputs (acts_in exchanges)
    → (w : Work) (base : Option Told) → Keeps Whole s0 w base → (a c : ℕ) → HoldsBlock w a c → StaysHeld s0.file a w (acts_in exchanges)
    → HoldsBlock (work_after s0.file w (acts_in exchanges)) a c × ShowsHeld s0.file a c (after_all events base)
