-- What a command does to the state: it leaves it, or one thing happens. As `Next` is for a view, so is this for the machine.
use Rattle.std.specs.Prelude.{◌≡◌, ℕ, List, [], ◌∷◌, Some, None}
use Rattle.df_theory.specs.{Units.{Message, Parts, Units}, Shape.{Shape}, Runs.{Step}}
use Rattle.df_model.specs.{Work.{Running, Work, first_tour}, Memory.{Memory, memory_of}}
use Rattle.df_model.specs.Refusals.{append_refusals, begin_refusals, block_refusals, first_refusal, flush_refusals, release_refusals, reply_refusals, stage_refusals}
use Rattle.df_model.specs.Making.{group_of, needed_of, next_address, place_of_reply, prepare_of, reply_of}
use Rattle.df_model.specs.After.{begun, finished, next_trailer, to_check, with_group, with_live, with_reply, with_running, with_staged, with_trailer_block, with_verdict}
use Rattle.df_model.specs.Laws.{DoesCommand, DoesNothing}
use Rattle.df_model.specs.Commands.{Advance, Append, Begin, Command, Flush, Given, Release, Reply, Scrub, Stage, WriteBlock, after, supplied_sum, supplied_sums, supplied_verdict}

-- the command appends these prepares: an append one, where nothing is staged, and a flush all that is staged
pub data Groups (m : Memory) (given : Given) : Command → List Message → Type 0 where
  One : (client request : ℕ) (body : List ℕ) → first_refusal (append_refusals m client request body) ≡ None → m.staged ≡ [] → Groups m given (Append client request body) (prepare_of m (supplied_sum given) client request body ∷ [])
  Staged : first_refusal (flush_refusals m) ≡ None → Groups m given Flush (group_of m (supplied_sums given))

-- the command asks nothing of the device, as far as it isn't refused
abbrev pub IsIdle : Shape → (Parts → List ℕ) → Work → Given → Command → Type 0
IsIdle sh spell w given command = (image : Units) (steps : List Step) → DoesCommand sh spell image w given command steps → DoesNothing steps

-- The state stays, as after each read and each refusal; or prepares are appended as a group, and nothing is staged any more; a request is staged; a reply is stored; a block is live; it is let
-- go; a checkpoint is begun, the next block of its trailer is written, it is finished; a block is checked; a tour ends.
pub data Change (sh : Shape) (spell : Parts → List ℕ) (w : Work) (given : Given) : Command → Work → Type 0 where
  Stays : (command : Command) → IsIdle sh spell w given command → Change sh spell w given command w
  Appends : (command : Command) (ps : List Message) → Groups (memory_of sh spell w) given command ps → Change sh spell w given command (with_group w ps)
  Stages : (client request : ℕ) (body : List ℕ) → first_refusal (stage_refusals (memory_of sh spell w) client request body) ≡ None
      → Change sh spell w given (Stage client request body) (with_staged w (record { client = client; request = request; body = body }))
  Replies : (op : ℕ) (body : List ℕ) → first_refusal (reply_refusals (memory_of sh spell w) op body) ≡ None
      → Change sh spell w given (Reply op body) (with_reply w (place_of_reply (memory_of sh spell w)) (reply_of (memory_of sh spell w) (supplied_sum given) body))
  Lives : (kind : ℕ) (body : List ℕ) → first_refusal (block_refusals (memory_of sh spell w) kind body) ≡ None → Change sh spell w given (WriteBlock kind body) (with_live w (next_address (memory_of sh spell w)) (Some (supplied_sum given)))
  LetsGo : (address : ℕ) → first_refusal (release_refusals (memory_of sh spell w) address) ≡ None → Change sh spell w given (Release address) (with_live w address None)
  Begins : (root : List ℕ) → first_refusal (begin_refusals (memory_of sh spell w) (needed_of spell (memory_of sh spell w) root) root) ≡ None → Change sh spell w given (Begin root) (with_running w (Some (begun sh spell w root)))
  Writes : (r : Running) (a : ℕ) (more : List ℕ) → w.running ≡ Some r → r.left ≡ a ∷ more → Change sh spell w given Advance (with_trailer_block w r a (next_trailer sh spell w r (supplied_sum given)) more)
  Ends : (r : Running) → w.running ≡ Some r → r.left ≡ [] → Change sh spell w given Advance (finished sh spell w r (supplied_sum given))
  Checks : (x : ℕ × ℕ) (more : List (ℕ × ℕ)) → to_check (memory_of sh spell w) ≡ x ∷ more → Change sh spell w given Scrub (with_verdict w x.0 (supplied_verdict given))
  TourEnds : to_check (memory_of sh spell w) ≡ [] → Change sh spell w given Scrub (record w { tour = first_tour })

-- each command is one of these
abbrev pub OneThingLaw : Type 0
OneThingLaw = (sh : Shape) (spell : Parts → List ℕ) (w : Work) (given : Given) (command : Command) → Change sh spell w given command (after sh spell w given command).0
