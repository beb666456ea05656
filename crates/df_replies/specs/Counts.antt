-- The greatest numbers of the replies that are shown.
use Rattle.std.specs.Prelude.{◌≡◌, ◌==◌, ◌⊎◌, ◌↔◌, ◌≤◌, ◌<◌, ℕ, if◌then◌else◌, List, Some, Result, Ok, Err, max, slice_get}
use Rattle.df_layout.specs.declared.damage.Class.{Class}
use Rattle.df_format.specs.declared.header.Header.{Header}
use Rattle.df_stamps.specs.declared.counters.Counters.{Counters}
pub use Rattle.df_units.specs.Greatest.{RepliesWithin, in_boot}

-- a number of a reply that is shown, 0 where none is; the op and the mark of one of this boot alone
abbrev pub op_of_reply : ℕ → Result Header Class → ℕ
op_of_reply boot (Ok h) = if h.boot == boot then h.op else 0
op_of_reply boot (Err class) = 0

abbrev pub mark_in : ℕ → Result Header Class → ℕ
mark_in boot (Ok h) = if h.boot == boot then h.mark else 0
mark_in boot (Err class) = 0

abbrev pub checkpoint_in : Result Header Class → ℕ
checkpoint_in (Ok h) = h.checkpoint
checkpoint_in (Err class) = 0

abbrev pub boot_in : Result Header Class → ℕ
boot_in (Ok h) = h.boot
boot_in (Err class) = 0

-- the counters with one more reply
abbrev pub counting_reply : ℕ → Counters → Result Header Class → Counters
counting_reply boot seen reply = record {
  ring_op = seen.ring_op;
  reply_top = max seen.reply_top (max (op_of_reply boot reply) (mark_in boot reply));
  checkpoint = max seen.checkpoint (checkpoint_in reply);
  boot = max seen.boot (boot_in reply);
}

-- of the first k replies none has a greater number
abbrev pub AreNotAbove : (Result Header Class → ℕ) → ℕ → ℕ → List (Result Header Class) → Type 0
AreNotAbove number n k replies = (j : ℕ) (reply : Result Header Class) → j < k → slice_get replies j ≡ Some reply → number reply ≤ n

-- the counters with the first k replies
pub record CountsSome (current : ℕ) (start : Counters) (replies : List (Result Header Class)) (k : ℕ) (seen : Counters) : Type 0 where
  pub ring_op : seen.ring_op ≡ start.ring_op
  pub checkpoint : (n : ℕ) → (seen.checkpoint ≤ n) ↔ ((start.checkpoint ≤ n) × AreNotAbove checkpoint_in n k replies)
  pub boot : (n : ℕ) → (seen.boot ≤ n) ↔ ((start.boot ≤ n) × AreNotAbove boot_in n k replies)
  pub reply_top : (n : ℕ) → (seen.reply_top ≤ n) ↔ ((start.reply_top ≤ n) × AreNotAbove (op_of_reply current) n k replies × AreNotAbove (mark_in current) n k replies)

-- the greatest of a start and of the ops of those of the first k replies that are of this boot
pub record IsGreatest (boot start : ℕ) (replies : List (Result Header Class)) (k top : ℕ) : Type 0 where
  pub from : start ≤ top
  pub each : AreNotAbove (op_of_reply boot) top k replies
  pub reached : (start ≡ top) ⊎ ((j : ℕ) × (h : Header) × (slice_get replies j ≡ Some (Ok h)) × (h.op ≡ top) × (h.boot ≡ boot))
