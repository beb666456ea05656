-- What an append keeps of the stored replies.
use Rattle.std.proofs.Common.{◌≡◌, ℕ, nat_lt, Bool, true, false, if◌then◌else◌, Option, Some, None}
use Rattle.df_theory.specs.{Units.{Message, Session}, Next.{kept}}

pub kept_some : (s : Option Session) (op : ℕ) (old : Option Message) (r : Message) → kept s op old ≡ Some r → old ≡ Some r
kept_some None op old r is = absurd (cc)
kept_some (Some s) op old r is = go (nat_lt op s.op) is
  where
    go : (b : Bool) → (if b then None else old) ≡ Some r → old ≡ Some r
    go true is = absurd (cc)
    go false is = is
