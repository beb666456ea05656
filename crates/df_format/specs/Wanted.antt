-- Which of the units that are valid at a place is the one wanted.
use Rattle.std.specs.Prelude.{◌≡◌, ℕ, List, ⊤}
use Rattle.df_format.specs.{declared.kind.Kind.TheVariants.{Prepare, Reply}, Message.{Message}}

-- any unit, a prepare with an op, the unit with a checksum, or the reply to a request of a client
pub data Wanted : Type 0 where
  Any : Wanted
  Op : (op : ℕ) → Wanted
  Checksum : (checksum : List ℕ) → Wanted
  Answer : (client request op : ℕ) → Wanted

-- the prepare with this op
pub record IsOp (n : ℕ) (u : Message) : Type 0 where
  pub kind : u.header.kind ≡ Prepare
  pub op : u.header.op ≡ n

-- the reply with these numbers
pub record IsAnswer (c r n : ℕ) (u : Message) : Type 0 where
  pub kind : u.header.kind ≡ Reply
  pub client : u.header.client ≡ c
  pub request : u.header.request ≡ r
  pub op : u.header.op ≡ n

-- the unit is one that is wanted
abbrev pub IsWanted : Wanted → Message → Type 0
IsWanted Any u = ⊤
IsWanted (Op op) u = IsOp op u
IsWanted (Checksum checksum) u = u.header.checksum ≡ checksum
IsWanted (Answer client request op) u = IsAnswer client request op u
