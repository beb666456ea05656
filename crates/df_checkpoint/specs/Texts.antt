-- The text of a chain, as the reader is given it.
use Rattle.std.specs.Prelude.{◌≡◌, ◌+◌, ◌-◌, ℕ, List, ◌++◌, length, drop, Option, Some, None, Result, Ok, Err}
use Rattle.df_disk.specs.Told.{Told}
use Rattle.df_layout.specs.declared.layout.Layout.{Layout}
use Rattle.df_theory.specs.{Units.{Block}, Trailer.{text_of}}
use Rattle.df_units.specs.Meaning.{layout_of, number_of}
use Rattle.df_trailer.specs.{declared.fault.Fault.{Fault}, declared.reader.Reader.{Reader}, Reading.{HasRead, bytes_read, failing_in}, Text.{answer, fault, refusal}}
use Rattle.df_grid.specs.Grid.{GridState}
use Rattle.df_checkpoint.specs.{declared.links.Link.{Link}, declared.fault.TrailerFault.{TrailerFault}, declared.fault.TrailerFault.TheVariants.{Damaged, BadField, DiskFault}}
use Rattle.df_checkpoint.specs.Chain.{Names, OfTold, asked}

-- what is refused of a text is a bad field
abbrev pub bad_of : Result (Unit {0}) Fault → Result (Unit {0}) TrailerFault
bad_of (Ok x) = Ok tt
bad_of (Err f) = Err (BadField f.field f.value)

-- a reader goes on with a piece: it has read the text with it, and refuses what fails in that, whatever comes after it
pub record Feeds (old new : Reader) (piece : List ℕ) (result : Result (Unit {0}) TrailerFault) : Type 0 where
  pub size : bytes_read new ≡ bytes_read old + length piece
  pub kept : (layout : Layout) (op : ℕ) (text : List ℕ) → HasRead layout op old text → HasRead layout op new (text ++ piece)
  pub given : Result (Unit {0}) Fault
  pub is : result ≡ bad_of given
  pub refuses : (layout : Layout) (op : ℕ) (text : List ℕ) → HasRead layout op old text → result ≡ bad_of (answer (refusal (layout_of layout) op (text ++ piece)))

-- the piece is the body of the block that is asked for
abbrev pub IsPieceBody : GridState → Option Told → Link → List ℕ → Type 0
IsPieceBody g told at piece = OfTold g told (λ shown. (b : Block) × (asked shown at.address (number_of at.checksum) ≡ Ok b) × (piece ≡ b.body))

pub record IsFed (g : GridState) (told : Option Told) (at : Link) (old new : Reader) (result : Result (Unit {0}) TrailerFault) : Type 0 where
  pub piece : List ℕ
  pub body : IsPieceBody g told at piece
  pub feeds : Feeds old new piece result

abbrev pub FeedAnswer : GridState → Option Told → Link → Reader → Reader → Result (Unit {0}) TrailerFault → Type 0
FeedAnswer g told at old new (Ok x) = IsFed g told at old new (Ok x)
FeedAnswer g told at old new (Err (BadField field value)) = IsFed g told at old new (Err (BadField field value))
FeedAnswer g told at old new (Err (Damaged address class)) = OfTold g told (λ shown. asked shown at.address (number_of at.checksum) ≡ Err class)
FeedAnswer g told at old new (Err DiskFault) = Unit {0}

-- ---- the whole text

-- the reader has read the text of this many blocks from the first one on; the references are from the last to the first
pub record HasReadTo (g : GridState) (told : Option Told) (refs : List Link) (op done : ℕ) (reader : Reader) : Type 0 where
  pub text : List ℕ
  pub has : HasRead g.layout op reader text
  pub is : OfTold g told (λ shown. (chain : List (ℕ × Block)) → Names shown refs chain → text ≡ text_of (drop (length refs - done) chain))

-- the reader has read the whole text, and nothing in it fails
pub record HasReadText (g : GridState) (told : Option Told) (refs : List Link) (op : ℕ) (reader : Reader) : Type 0 where
  pub text : List ℕ
  pub has : HasRead g.layout op reader text
  pub whole : failing_in reader ≡ None
  pub fine : fault (layout_of g.layout) op text ≡ None
  pub is : OfTold g told (λ shown. (chain : List (ℕ × Block)) → Names shown refs chain → text ≡ text_of chain)

-- where the disk tells what it shows, the second reading adds no refusal but the first part of the text that fails
abbrev pub TextAnswer : GridState → Option Told → List Link → ℕ → Reader → Result (Unit {0}) TrailerFault → Type 0
TextAnswer g told refs op reader (Ok x) = HasReadText g told refs op reader
TextAnswer g told refs op reader (Err (BadField field value)) =
    OfTold g told (λ shown. (chain : List (ℕ × Block)) → Names shown refs chain → fault (layout_of g.layout) op (text_of chain) ≡ Some (record { field = field; value = value }))
TextAnswer g told refs op reader (Err (Damaged address class)) = OfTold g told (λ shown. (chain : List (ℕ × Block)) → Names shown refs chain → ⊥)
TextAnswer g told refs op reader (Err DiskFault) = Unit {0}
