-- How great a number of the units that an image shows is.
use Rattle.std.specs.Prelude.{◌≡◌, ◌==◌, ◌≤◌, ℕ, if◌then◌else◌, Some}
use Rattle.df_theory.specs.Units.{Header, HeaderPlace, HeaderUnit, Message, PreparePlace, PrepareUnit, ReplyPlace, ReplyUnit, Units}

-- a number of those headers alone that are of a boot, 0 of all others
abbrev pub in_boot : ℕ → (Header → ℕ) → Header → ℕ
in_boot boot number h = if h.boot == boot then number h else 0

-- in each unit of the two rings the number is at most n
pub record RingsWithin (image : Units) (number : Header → ℕ) (n : ℕ) : Type 0 where
  pub header : (s : ℕ) (h : Header) → image (HeaderPlace s) ≡ Some (HeaderUnit h) → number h ≤ n
  pub prepare : (s : ℕ) (p : Message) → image (PreparePlace s) ≡ Some (PrepareUnit p) → number p.header ≤ n

-- in each reply
abbrev pub RepliesWithin : Units → (Header → ℕ) → ℕ → Type 0
RepliesWithin image number n = (k : ℕ) (r : Message) → image (ReplyPlace k) ≡ Some (ReplyUnit r) → number r.header ≤ n
