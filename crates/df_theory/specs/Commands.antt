-- The commands that a program carries out on a file: their steps, and the views that they lead to.
use Rattle.std.specs.Prelude.{ℕ, List, [], ◌∷◌}
use Rattle.df_theory.specs.{Units.{Message, Units}, View.{Checkpoint, View}, Next.{appended, checkpointed, replied}, Runs.{Command, Puts, Syncs}, CopyPuts.{PutsCopies, update_steps}}
use Rattle.df_theory.specs.MendLaws.{mend_steps}

-- an append: the prepare, a sync, its header sector, a sync
abbrev pub append_command : View → Message → Units → Units → Command
append_command v p prepare headers = record { steps = Puts prepare ∷ Syncs ∷ Puts headers ∷ Syncs ∷ []; view = appended v (p ∷ []) }

-- a reply and a sync
abbrev pub reply_command : View → ℕ → Message → Units → Command
reply_command v place r put = record { steps = Puts put ∷ Syncs ∷ []; view = replied v place r }

-- a block, which stays loose
abbrev pub block_command : View → Units → Command
block_command v put = record { steps = Puts put ∷ []; view = v }

-- what writes nothing: a read, or a call that is refused
abbrev pub idle_command : View → Command
idle_command v = record { steps = []; view = v }

abbrev pub sync_command : View → Command
sync_command v = record { steps = Syncs ∷ []; view = v }

-- a finished checkpoint: the sync that settles its blocks, and the update
abbrev pub finish_command : View → (c : Checkpoint) → PutsCopies c.content → Command
finish_command v c puts = record { steps = Syncs ∷ update_steps puts; view = checkpointed v c }

abbrev pub mend_command : View → List Units → List (ℕ × Units) → Command
mend_command v headers copies = record { steps = mend_steps headers copies; view = v }
