-- One list of lawful parts has one text, and one text has one list of parts.
use Rattle.std.specs.Prelude.{◌≡◌, ◌≤◌, ◌<◌, ◌++◌, ℕ, List, Some, length, map}
use Rattle.df_base.specs.{declared.TheConstants.{GREATEST, HEADER}, Fields.{AreBytes}}
use Rattle.df_theory.specs.{Units.{Layout, Parts}, Shape.{Shape}}
use Rattle.df_model.specs.Codec.{IsLawful, IsCodec}
use Rattle.df_trailer.specs.{Spelling.{block_checksums, is_referenced, spell, text_size}, Text.{fault, ones, parse, parse_of, refusal}, declared.fault.Fault.{Fault}}

-- numbers of sessions fit their fields
abbrev pub HasLimits : Layout → Type 0
HasLimits l = l.clients ≤ 64

abbrev pub PartsLaw : Type 0
PartsLaw = (l : Layout) (op : ℕ) (parts : Parts) → HasLimits l → IsLawful l op parts → parse l op (spell l parts) ≡ Some parts

abbrev pub TextLaw : Type 0
TextLaw = (l : Layout) (op : ℕ) (text : List ℕ) (parts : Parts) → op ≤ GREATEST → AreBytes text → parse l op text ≡ Some parts
    → IsLawful l op parts × (spell l parts ≡ text)

abbrev pub CodecLaw : Type 0
CodecLaw = (sh : Shape) → HasLimits sh.layout → HEADER < sh.layout.block_size → sh.parse ≡ parse_of sh.layout → IsCodec sh (spell sh.layout)

-- a refusal stays, and it is the first part that fails
abbrev pub RefusalLaw : Type 0
RefusalLaw = (l : Layout) (op : ℕ) (text more : List ℕ) (f : Fault) → refusal l op text ≡ Some f → (refusal l op (text ++ more) ≡ Some f) × (fault l op (text ++ more) ≡ Some f)

abbrev pub SizeLaw : Type 0
SizeLaw = (l : Layout) (parts : Parts) → length (spell l parts) ≡ text_size l (length parts.root) (length parts.sessions) (ones (map is_referenced (block_checksums l parts)))
