-- Which prepare fits where a walk along prepares stands, by its header.
use Rattle.std.specs.Prelude.{◌≡◌, ◌≤◌, ◌+◌, ℕ, List}
use Rattle.df_format.specs.declared.header.Header.{Header}
use Rattle.df_sessions.specs.{declared.session.Session.{Session}, Requests.{sessions_of}}
use Rattle.df_theory.specs.Tails.{Fits, FitsGroup}
use Rattle.df_units.specs.Meaning.{header_of, number_of}
use Rattle.df_group.specs.{declared.groups.Tail.{Tail}, declared.groups.Position.{Position}}

-- the end of a tail whose last prepare has this header
abbrev pub tail_to : Header → Tail
tail_to h = record { op = h.op; checksum = h.checksum; mark = h.mark }

-- where a walk stands that has come to a prepare with this header
abbrev pub position_of : Header → Position
position_of h = record { last = tail_to h; group = (header_of h).group; group_last = (header_of h).group_last }

-- the group of the prepare with this header fits where a walk stands, and it ends at the head that the superblock names, if the prepare has that op
abbrev pub GroupFitsAt : ℕ → Position → Header → Type 0
GroupFitsAt head at h = FitsGroup at.group at.group_last (at.last.op + 1) (header_of h) × (h.op ≡ head → (header_of h).group_last ≤ head)

-- the prepare fits there, and its group does
abbrev pub FitsAt : ℕ → ℕ → Position → List Session → Header → Type 0
FitsAt clients head at sessions h = Fits clients (at.last.op + 1) (number_of at.last.checksum) at.last.mark (sessions_of sessions) (header_of h) × GroupFitsAt head at h
