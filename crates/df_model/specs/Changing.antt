-- How a command changes what is in memory: a function of it.
use Rattle.std.specs.Prelude.{◌≡◌, ℕ, ◌+◌, ◌-◌, ◌==◌, if◌then◌else◌, List, [], ◌∷◌, ◌++◌, length, map, take, drop, slice_set, Option, Some, None}
use Rattle.df_theory.specs.{Units.{Message, Parts, Session}, Sessions.{noted, sessions_after}, Tails.{last_checksum}, Shape.{Shape}}
use Rattle.df_model.specs.Work.{Request, Work, first_tour, is_held, reference_of}
use Rattle.df_model.specs.Blocks.{Blocks, block_released, block_written, blocks_captured, blocks_of, capture_finished, is_held_in, reference_in, trailer_written}
use Rattle.df_model.specs.Memory.{Course, Memory, free_of, memory_of, sum_of_message}
use Rattle.df_model.specs.Refusals.{append_refusals, begin_refusals, block_refusals, first_refusal, flush_refusals, release_refusals, reply_refusals, stage_refusals}
use Rattle.df_model.specs.{Making.{finishing_content, group_of, needed_of, next_address, parts_of, place_of_reply, prepare_of}, After.{newest, to_check}, Codec.{InGrid}, Sense.{IsWork}}
use Rattle.df_model.specs.{declared.answers.Verdict.{Verdict}, declared.answers.Verdict.TheVariants.{Sound, Failing}}
use Rattle.df_model.specs.Commands.{Advance, Append, Begin, Command, Flush, Given, Release, Reply, Scrub, Stage, WriteBlock, after, supplied_sum, supplied_sums, supplied_verdict}

-- ---- what is kept of the grid

-- what is refused changes nothing
abbrev pub unless_refused : {E X : Type 0} → Option E → X → X → X
unless_refused (Some e) before later = before
unless_refused None before later = later

abbrev pub trailer_step : Blocks → (sum : ℕ) → List ℕ → Blocks
trailer_step b sum [] = capture_finished b
trailer_step b sum (a ∷ more) = trailer_written b a sum more

abbrev pub after_step_in : Blocks → (sum : ℕ) → Option Course → Blocks
after_step_in b sum None = b
after_step_in b sum (Some r) = trailer_step b sum r.left

abbrev pub blocks_after : (Parts → List ℕ) → Memory → Given → Command → Blocks
blocks_after spell m given (WriteBlock kind body) = unless_refused (first_refusal (block_refusals m kind body)) m.blocks (block_written m.blocks (next_address m) (supplied_sum given))
blocks_after spell m given (Release address) = unless_refused (first_refusal (release_refusals m address)) m.blocks (block_released m.blocks address)
blocks_after spell m given (Begin root) = unless_refused (first_refusal (begin_refusals m (needed_of spell m root) root)) m.blocks (blocks_captured m.blocks (take (needed_of spell m root) (free_of m)))
blocks_after spell m given Advance = after_step_in m.blocks (supplied_sum given) m.running
blocks_after spell m given command = m.blocks

abbrev pub BlocksLaw : Type 0
BlocksLaw = (sh : Shape) (spell : Parts → List ℕ) (w : Work) (given : Given) (command : Command) → blocks_of sh (after sh spell w given command).0 ≡ blocks_after spell (memory_of sh spell w) given command

-- the lists say of an address of the grid what the state does
abbrev pub ListsLaw : Type 0
ListsLaw = (sh : Shape) (w : Work) (a : ℕ) → InGrid sh.layout a → (is_held_in (blocks_of sh w) a ≡ is_held w a) × (reference_in (blocks_of sh w) a ≡ reference_of w a)

-- ---- the rest

-- a client that makes a request has no stored reply to it; a new one goes last
abbrev pub unstored : (client : ℕ) → List Session → List (Option ℕ) → List (Option ℕ)
unstored client [] sums = None ∷ []
unstored client (s ∷ ss) [] = []
unstored client (s ∷ ss) (x ∷ xs) = if s.client == client then None ∷ xs else x ∷ unstored client ss xs

abbrev pub appended_in : Memory → Message → Memory
appended_in m p = record m {
  head = m.head + 1;
  head_checksum = p.header.checksum;
  sessions = noted p.header m.sessions;
  prepares = m.prepares ++ p.header.checksum ∷ [];
  stored = unstored p.header.client m.sessions m.stored;
  waiting = m.waiting ++ p.header.checksum ∷ [];
}

abbrev pub staged_in : Memory → Request → Memory
staged_in m r = record m { staged = m.staged ++ r ∷ [] }

-- one after the other
abbrev pub unstored_all : List Session → List Message → List (Option ℕ) → List (Option ℕ)
unstored_all ss [] sums = sums
unstored_all ss (p ∷ ps) sums = unstored_all (noted p.header ss) ps (unstored p.header.client ss sums)

abbrev pub flushed_in : Memory → List Message → Memory
flushed_in m ps = record m {
  head = m.head + length ps;
  head_checksum = last_checksum m.head_checksum ps;
  sessions = sessions_after m.sessions ps;
  prepares = m.prepares ++ map sum_of_message ps;
  stored = unstored_all m.sessions ps m.stored;
  waiting = m.waiting ++ map sum_of_message ps;
  staged = [];
}

abbrev pub replied_in : Memory → (sum : ℕ) → Memory
replied_in m sum = record m { replies = m.replies + 1; stored = slice_set m.stored (place_of_reply m) (Some sum); waiting = drop 1 m.waiting }

abbrev pub begun_in : (Parts → List ℕ) → Memory → (root : List ℕ) → Course
begun_in spell m root = record { op = m.head; op_checksum = m.head_checksum; root = root; text = spell (parts_of m root); count = 0; last = 0; last_checksum = 0; left = take (needed_of spell m root) (free_of m) }

-- the next block of the trailer is written; where all are, the checkpoint is durable, and its prepares leave the tail
abbrev pub course_on : Memory → (sum : ℕ) → Course → List ℕ → Memory
course_on m sum r [] = record m { content = finishing_content m r sum; root = r.root; prepares = drop (r.op - m.content.op) m.prepares; running = None }
course_on m sum r (a ∷ more) = record m { running = Some (record r { count = r.count + 1; last = a; last_checksum = sum; left = more }) }

abbrev pub step_in : Memory → (sum : ℕ) → Option Course → Memory
step_in m sum None = m
step_in m sum (Some r) = course_on m sum r r.left

abbrev pub checked_in : Memory → Verdict → List (ℕ × ℕ) → Memory
checked_in m verdict [] = record m { tour = first_tour }
checked_in m Sound (x ∷ more) = record m { tour = record { last = x.0; checked = m.tour.checked + 1; failing = m.tour.failing } }
checked_in m (Failing class) (x ∷ more) = record m { tour = record { last = x.0; checked = m.tour.checked + 1; failing = m.tour.failing + 1 }; findings = newest (m.findings ++ record { address = x.0; «class» = class } ∷ []) }

abbrev pub rest_after : (Parts → List ℕ) → Memory → Given → Command → Memory
rest_after spell m given (Append client request body) = unless_refused (first_refusal (append_refusals m client request body)) m (appended_in m (prepare_of m (supplied_sum given) client request body))
rest_after spell m given (Stage client request body) = unless_refused (first_refusal (stage_refusals m client request body)) m (staged_in m (record { client = client; request = request; body = body }))
rest_after spell m given Flush = unless_refused (first_refusal (flush_refusals m)) m (flushed_in m (group_of m (supplied_sums given)))
rest_after spell m given (Reply op body) = unless_refused (first_refusal (reply_refusals m op body)) m (replied_in m (supplied_sum given))
rest_after spell m given (Begin root) = unless_refused (first_refusal (begin_refusals m (needed_of spell m root) root)) m (record m { running = Some (begun_in spell m root) })
rest_after spell m given Advance = step_in m (supplied_sum given) m.running
rest_after spell m given Scrub = checked_in m (supplied_verdict given) (to_check m)
rest_after spell m given command = m

-- what is in memory after a command
abbrev pub memory_after : (Parts → List ℕ) → Memory → Given → Command → Memory
memory_after spell m given command = record (rest_after spell m given command) { blocks = blocks_after spell m given command }

abbrev pub ChangeLaw : Type 0
ChangeLaw =
    (sh : Shape) (spell : Parts → List ℕ) (w : Work) (given : Given) (command : Command) → IsWork sh spell w → memory_of sh spell (after sh spell w given command).0 ≡ memory_after spell (memory_of sh spell w) given command
