-- A call of a replica over a disk that tells what it shows: it answers, and leaves in memory and shown, what the machine does over what is shown, whatever that is.
use Rattle.std.specs.Prelude.{◌≡◌, List, [], ◌∷◌, Option, Some, None}
use Rattle.df_base.specs.Image.{IsImage}
use Rattle.df_disk.specs.Told.{Told}
use Rattle.df_model.specs.{Commands.{Answer, Command, Given, IsCommandInRange, supplied_sums}, Memory.{memory_of}, Sense.{IsWork}, Supply.{Shown, next as over, result, shown_after}, Work.{Work}}
use Rattle.df_replica.specs.{Below.{DataFile, Represents, State, memory, shape, spelling, told_after}, Reading.{shown_of}, Serving.{Firm, IsCall, Keeps, next}, Supply.{IsSupplied}}
use Rattle.df_session.specs.{Agreeing.{AgreeShown, AreSums}, Codec.{codec}}

-- no command tells apart what agrees
abbrev pub NextAgrees : Type 0
NextAgrees =
    (file : DataFile) (one other : Shown) (w : Work) (command : Command) → AgreeShown file.layout one other → IsWork (shape file) (spelling file) w → over (shape file) (codec file) one w command ≡ over (shape file) (codec file) other w command

-- the fields of each command are in the range of their types
abbrev pub AreInRange : List Command → Type 0
AreInRange [] = Unit {0}
AreInRange (c ∷ cs) = IsCommandInRange c × AreInRange cs

-- nor do commands one after the other, each over what those before it left shown
abbrev pub ResultAgrees : Type 0
ResultAgrees =
    (file : DataFile) (one other : Shown) (w : Work) (commands : List Command) → AgreeShown file.layout one other → IsWork (shape file) (spelling file) w → AreInRange commands
    → result (shape file) (codec file) one w commands ≡ result (shape file) (codec file) other w commands

-- a command that is rightly supplied over what a disk shows is the machine's over that
abbrev pub SuppliedIsResult : Type 0
SuppliedIsResult =
    (s : State) (w : Work) (t : Told) (command : Command) (given : Given) → Represents s w → IsSupplied s (Some t) command given → AreSums (codec s.file) (memory s) (supplied_sums given) command
    → next s.file w given command ≡ over (shape s.file) (codec s.file) (shown_of s.file t.shown) w command

-- the answer, the state after it, and what is shown then, are the machine's over this
pub record IsResult (file : DataFile) (shown : Shown) (w : Work) (command : Command) (answer : Answer) (u : State) (n : Told) : Type 0 where
  pub file_is : u.file ≡ file
  pub answer_is : answer ≡ (over (shape file) (codec file) shown w command).1
  pub keeps : Keeps Firm u (over (shape file) (codec file) shown w command).0 None
  pub whole : IsImage n.shown
  pub shown_is : AgreeShown file.layout (shown_of file n.shown) (shown_after (codec file) shown (memory_of (shape file) (spelling file) w) command)

-- so it is of each call that is answered, from each state of the machine that the replica stands for, over whatever agrees with what the disk shows
abbrev pub OneMoreIsResult : Type 0
OneMoreIsResult =
    (given : Given) (command : Command) (s u : State) (t : Told) (new : Option Told) (answer : Answer) (w : Work) (shown : Shown) (call : IsCall given command s u (Some t) new (Some answer)) → Keeps Firm s w None → IsImage t.shown
    → AgreeShown s.file.layout (shown_of s.file t.shown) shown → (new ≡ Some (told_after call.events t)) × IsResult s.file shown w command answer u (told_after call.events t)
