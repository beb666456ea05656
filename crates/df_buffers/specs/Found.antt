-- The unit that is wanted at a place, and the class of what is there in its stead.
use Rattle.std.specs.Prelude.{◌≡◌, ℕ, List, Some, Result}
use Rattle.df_layout.specs.declared.damage.Class.{Class}
use Rattle.df_format.specs.{declared.kind.Kind.{Kind}, Message.{Message}, declared.header.Header.{Header}, Shown.{unit_in, class_of, header_or_class}, Valid.{IsUnit}}
use Rattle.df_format.specs.Wanted.{IsWanted, Wanted as Words, Any as AnyOne, Op as WithOp, Checksum as WithChecksum, Answer as AnswerTo}
use Rattle.df_buffers.specs.{declared.identity.Identity.{Identity}, declared.identity.Wanted.{Wanted}, declared.identity.Wanted.TheVariants.{Any, Op, Checksum, Answer}}

-- what is wanted, in the words of the format
abbrev pub wanted_words : Wanted → Words
wanted_words Any = AnyOne
wanted_words (Op op) = WithOp op
wanted_words (Checksum checksum) = WithChecksum checksum
wanted_words (Answer client request op) = AnswerTo client request op

-- the bytes are valid at the place, and the unit wanted
pub record FindsUnit (identity : Identity) (bytes : List ℕ) (u : Message) : Type 0 where
  pub valid : unit_in identity.layout identity.cluster identity.place bytes ≡ Some u
  pub wanted : IsWanted (wanted_words identity.wanted) u

-- and it is of this kind
pub record FindsKind (kind : Kind) (identity : Identity) (bytes : List ℕ) (u : Message) : Type 0 where
  pub found : FindsUnit identity bytes u
  pub of_kind : u.header.kind ≡ kind

-- a unit is valid at the place
abbrev pub IsValidUnit : Identity → Message → Type 0
IsValidUnit identity u = IsUnit identity.layout identity.cluster identity.place u

-- the class of bytes that aren't the unit wanted at the place
abbrev pub class_for : Identity → List ℕ → Class
class_for identity bytes = class_of identity.layout identity.cluster identity.place bytes

-- the header of the unit that is valid at the place, whatever is wanted, or the class of its bytes
abbrev pub shown_in : Identity → List ℕ → Result Header Class
shown_in identity bytes = header_or_class (unit_in identity.layout identity.cluster identity.place bytes) (class_for identity bytes)
