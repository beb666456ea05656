-- Each read of what a file holds is Ok: no prepare, reply or block that is kept is refused or found damaged on a disk that is honest over the log by which it is kept.
use Rattle.std.specs.{Prelude.{◌≡◌, ◌<◌, ◌≤◌, ℕ, Ok, Option, Some}, List.{slice_get}}
use Rattle.df_disk.specs.Told.{IsHonest, Told}
use Rattle.df_theory.specs.{Tails.{In}, Units.{Block, Message, Session}, View.{head, sessions}}
use Rattle.df_model.specs.{Commands.{Answer, Command, Given, ReadBlock, ReadPrepare, ReadReply, ToReadBlock, ToReadPrepare, ToReadReply}, Work.{Work}}
use Rattle.df_session.specs.Below.{State}
use Rattle.df_session.specs.Serving.{Grade, IsCall, IsKept, Whole}

-- A call that was answered so, from a state of the replica that keeps the file for this state of the machine, by a log over which the disk is honest: the one that is
-- told, or another base with the same shown image
pub record IsAnsweredRead (g : Grade) (w : Work) (command : Command) (x : Answer) : Type 0 where
  pub given : Given
  pub state : State
  pub later : State
  pub told : Told
  pub new : Option Told
  pub base : Told
  pub same : base.shown ≡ told.shown
  pub keeps : IsKept g state w base.log
  pub honest : IsHonest base
  pub call : IsCall given command state later (Some told) new (Some x)

-- a prepare of the tail is read: any op above the checkpoint's and at most the head
abbrev pub KeptPreparesAreRead : Type 0
KeptPreparesAreRead =
    (g : Grade) (w : Work) (op : ℕ) (x : Answer) → IsAnsweredRead g w (ReadPrepare op) x → w.view.checkpoint.content.op < op → op ≤ head w.view
    → (p : Message) × In p w.view.tail × (p.header.op ≡ op) × (x ≡ ToReadPrepare (Ok p))

-- so is the reply that is stored for a client
abbrev pub KeptRepliesAreRead : Type 0
KeptRepliesAreRead =
    (g : Grade) (w : Work) (k : ℕ) (s : Session) (r : Message) (x : Answer) → IsAnsweredRead g w (ReadReply s.client) x → slice_get (sessions w.view) k ≡ Some s → w.view.stored k ≡ Some r → x ≡ ToReadReply (Ok r)

-- and a block that is live, in a file that shows each block that it references
abbrev pub LiveBlocksAreRead : Type 0
LiveBlocksAreRead = (w : Work) (a c : ℕ) (x : Answer) → IsAnsweredRead Whole w (ReadBlock a) x → w.live a ≡ Some c → (b : Block) × (b.checksum ≡ c) × (x ≡ ToReadBlock (Ok b))
