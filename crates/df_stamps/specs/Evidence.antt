-- What was seen of the counters, and what it says of the state that was found.
--
-- A state is found from units that are shown: the superblock, the tail of prepares after its checkpoint, and replies. Its
-- head is the last prepare's op, its sequence the superblock's, and its replies the greatest of the superblock's number, the
-- last prepare's mark and the ops of the replies. That each number was once the file's isn't enough: each has to be borne by
-- a unit whose own counters lie within all three (`counters_stood_together` of df_theory is that law). Without any one of the following, a file finds a state that it never had.
-- Written (head, replies, sequence), the superblock being (0,0,1) where nothing else is said:
--
-- the last prepare's mark counts among the replies: after (1,0,1), (1,1,1), (2,1,1) the reply is lost, and (2,0,1) is found;
-- the superblock's number of replies does: after (1,0,1), (1,1,1), (1,1,2) the reply is lost, and the last superblock alone
-- finds (1,0,2);
-- the superblock's head isn't beyond the found one: after (1,0,1), (1,0,2), where the checkpoint covers no op, the prepare is
-- lost, and (0,0,2) is found;
-- no reply's mark is: after (1,0,1), (2,0,1), (2,1,1) the second prepare is lost, and the reply to the first finds (1,1,1);
-- no prepare's checkpoint is beyond the found one: after (0,0,2), (1,0,2) the older superblock finds (1,0,1);
-- and no reply's is: after (1,0,1), (1,0,2), (1,1,2) the older superblock finds (1,1,1).
use Rattle.std.specs.Prelude.{ℕ, ◌+◌, ◌<◌, ◌≤◌, ◌⊎◌}
use Rattle.df_stamps.specs.declared.counters.Counters.{Counters}

-- something was written after a later checkpoint than that of this sequence and op, or in a later boot than this
abbrev pub IsBehind : Counters → ℕ → ℕ → ℕ → ℕ → Type 0
IsBehind seen sequence op slots boot = (sequence < seen.checkpoint) ⊎ (op + slots < seen.ring_op) ⊎ (boot < seen.boot)

-- nothing was
pub record IsUpToDate (seen : Counters) (sequence op slots current : ℕ) : Type 0 where
  pub checkpoint : seen.checkpoint ≤ sequence
  pub ring_op : seen.ring_op ≤ op + slots
  pub boot : seen.boot ≤ current

-- something shows an op beyond the head that was found
abbrev pub IsLost : Counters → ℕ → ℕ → Type 0
IsLost seen superblock_head head = (head < seen.ring_op) ⊎ (head < seen.reply_top) ⊎ (head < superblock_head)

-- nothing does
pub record IsComplete (seen : Counters) (superblock_head head : ℕ) : Type 0 where
  pub ring_op : seen.ring_op ≤ head
  pub reply_top : seen.reply_top ≤ head
  pub superblock : superblock_head ≤ head
