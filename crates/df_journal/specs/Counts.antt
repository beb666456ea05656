-- The greatest numbers of the units in the two rings, and in the reply slots.
use Rattle.std.specs.Prelude.{◌≡◌, ◌↔◌, ◌≤◌, ℕ, Some, Result, Ok, Err, max}
use Rattle.df_layout.specs.declared.damage.Class.{Class}
use Rattle.df_format.specs.declared.header.Header.{Header as FileHeader}
use Rattle.df_theory.specs.Units.{Header, HeaderPlace, HeaderUnit, Message, PreparePlace, PrepareUnit, Units}
use Rattle.df_units.specs.Meaning.{header_of}
pub use Rattle.df_units.specs.Greatest.{RepliesWithin, RingsWithin, in_boot}
pub use Rattle.df_group.specs.Cut.{binding_op}
use Rattle.df_stamps.specs.declared.counters.Counters.{Counters}

-- in the two rings the ops that bind the head are at most n
pub record BindWithin (boot top : ℕ) (image : Units) (n : ℕ) : Type 0 where
  pub header : (s : ℕ) (h : Header) → image (HeaderPlace s) ≡ Some (HeaderUnit h) → in_boot boot (λ x. x.op) h ≤ n
  pub prepare : (s : ℕ) (p : Message) → image (PreparePlace s) ≡ Some (PrepareUnit p) → binding_op boot top p.header ≤ n

-- this is the greatest of them
abbrev pub CountsBinding : ℕ → ℕ → Units → ℕ → Type 0
CountsBinding boot top image number = (n : ℕ) → (number ≤ n) ↔ BindWithin boot top image n

-- the greatest numbers of the rings
pub record CountsRings (image : Units) (seen : Counters) : Type 0 where
  pub ring_op : (n : ℕ) → (seen.ring_op ≤ n) ↔ RingsWithin image (λ h. h.op) n
  pub checkpoint : (n : ℕ) → (seen.checkpoint ≤ n) ↔ RingsWithin image (λ h. h.checkpoint) n
  pub boot : (n : ℕ) → (seen.boot ≤ n) ↔ RingsWithin image (λ h. h.boot) n

-- of both, but for the ops and marks of the replies
pub record CountsAll (image : Units) (seen : Counters) : Type 0 where
  pub ring_op : (n : ℕ) → (seen.ring_op ≤ n) ↔ RingsWithin image (λ h. h.op) n
  pub checkpoint : (n : ℕ) → (seen.checkpoint ≤ n) ↔ (RingsWithin image (λ h. h.checkpoint) n × RepliesWithin image (λ h. h.checkpoint) n)
  pub boot : (n : ℕ) → (seen.boot ≤ n) ↔ (RingsWithin image (λ h. h.boot) n × RepliesWithin image (λ h. h.boot) n)

-- the greatest op and mark of the replies of this boot
abbrev pub CountsReplies : ℕ → Units → Counters → Type 0
CountsReplies boot image seen = (n : ℕ) → (seen.reply_top ≤ n) ↔ (RepliesWithin image (in_boot boot (λ h. h.op)) n × RepliesWithin image (in_boot boot (λ h. h.mark)) n)

-- the counters of all that binds the head in this boot, where it may be this one
pub record CountsBound (boot top : ℕ) (image : Units) (seen : Counters) : Type 0 where
  pub ring_op : CountsBinding boot top image seen.ring_op
  pub replies : CountsReplies boot image seen

-- a number of what is seen, 0 where it is no unit
abbrev pub number_in : (Header → ℕ) → Result FileHeader Class → ℕ
number_in number (Ok h) = number (header_of h)
number_in number (Err class) = 0

-- the counters with one more unit of the rings
abbrev pub with_unit : Counters → Result FileHeader Class → Counters
with_unit seen ring = record {
  ring_op = max seen.ring_op (number_in (λ h. h.op) ring);
  reply_top = seen.reply_top;
  checkpoint = max seen.checkpoint (number_in (λ h. h.checkpoint) ring);
  boot = max seen.boot (number_in (λ h. h.boot) ring);
}
