-- What a trailer may say, and how it is spelled.
use Rattle.std.specs.{Prelude.{◌≡◌, ◌<◌, ◌≤◌, ◌^◌, ℕ, List, [], ◌∷◌, length, Some}, List.{slice_get}}
use Rattle.df_base.specs.declared.TheConstants.{GREATEST, HEADER}
pub use Rattle.df_base.specs.Fields.{AreBytes}
use Rattle.df_theory.specs.{Units.{Layout, Parts, Session}, Shape.{Shape}, Trailer.{greatest_trailer}}

-- an address of the grid
abbrev pub InGrid : Layout → ℕ → Type 0
InGrid l a = (0 < a) × (a ≤ l.blocks)

-- a checksum is 16 bytes long
abbrev pub IsChecksum : ℕ → Type 0
IsChecksum c = c < 2 ^ 128

abbrev pub AreChecksums : List ℕ → Type 0
AreChecksums [] = Unit {0}
AreChecksums (c ∷ cs) = IsChecksum c × AreChecksums cs

-- the fields of a session are in range
pub record IsLawfulSession (s : Session) : Type 0 where
  pub client : (0 < s.client) × (s.client < 2 ^ 128)
  pub request : (0 < s.request) × (s.request ≤ GREATEST)
  pub op : (0 < s.op) × (s.op ≤ GREATEST)

-- no more sessions than there are places, of clients that differ
pub record AreLawful (places : ℕ) (ss : List Session) : Type 0 where
  pub few : length ss ≤ places
  pub each : (k : ℕ) (s : Session) → slice_get ss k ≡ Some s → IsLawfulSession s
  pub apart : (j k : ℕ) (s t : Session) → slice_get ss j ≡ Some s → slice_get ss k ≡ Some t → s.client ≡ t.client → j ≡ k

-- what the trailer of a checkpoint of this op may say, in a file of this layout
pub record IsLawful (l : Layout) (op : ℕ) (parts : Parts) : Type 0 where
  pub root : (length parts.root ≤ 1024) × AreBytes parts.root
  pub sessions : AreLawful l.clients parts.sessions
  pub reached : (k : ℕ) (s : Session) → slice_get parts.sessions k ≡ Some s → s.op ≤ op
  pub ops : (j k : ℕ) (s t : Session) → slice_get parts.sessions j ≡ Some s → slice_get parts.sessions k ≡ Some t → s.op ≡ t.op → j ≡ k
  pub references : (a c : ℕ) → parts.references a ≡ Some c → InGrid l a × IsChecksum c

-- the spelling of trailers: what is spelled is read back, what is read of bytes is lawful, and a block has room for a piece
pub record IsCodec (sh : Shape) (spell : Parts → List ℕ) : Type 0 where
  pub some : (parts : Parts) → 0 < length (spell parts)
  pub size : (op : ℕ) (parts : Parts) → IsLawful sh.layout op parts → length (spell parts) ≤ greatest_trailer sh.layout
  pub reads : (op : ℕ) (parts : Parts) → IsLawful sh.layout op parts → sh.parse op (spell parts) ≡ Some parts
  pub lawful : (op : ℕ) (text : List ℕ) (parts : Parts) → AreBytes text → sh.parse op text ≡ Some parts → IsLawful sh.layout op parts
  pub room : HEADER < sh.layout.block_size
