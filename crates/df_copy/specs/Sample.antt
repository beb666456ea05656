-- A history that begins with a copy and meets every premise: the copy of a file at rest, with a reply and a block, is damaged and opened.
use Rattle.std.specs.Prelude.{◌≡◌, ◌+◌, ℕ, [], length, None}
use Rattle.df_theory.specs.{Found.{IsClean, IsFound}, Holds.{IsWhole, Stands}, Shape.{Shape}, UnitLog.{UnitLog}, Units.{CopyPlace, HeaderPlace, Units}, View.{View, boot_of, head, sessions}}
use Rattle.df_history.specs.{OpenLaws.{BeginsHistory}, Sample.{IsReopened}}
use Rattle.df_copy.specs.Views.{IsCopyOf, IsOlder}

-- The target shows the copy of the source's view, with a reply and a block, and a history begins there. Then two copies of the superblock and the whole header ring are lost: an open finds the copied view, and the history goes on with a raised boot.
pub record CopySampleLaw : Type 0 where
  pub shape : Shape
  pub source : Units
  pub view : View
  pub target : Units
  pub copied : View
  pub copy : IsCopyOf shape.layout source view target copied
  pub found : IsFound shape target copied
  pub whole : IsWhole shape target copied
  pub clean : IsClean target copied
  pub stands : Stands target copied
  pub older : IsOlder target copied
  pub some : (head copied ≡ 1) × (copied.replies ≡ 1) × (length (sessions copied) ≡ 1) × (length copy.blocks ≡ 1)
  pub begins : BeginsHistory shape target
  pub hurt : Units
  pub lost : (hurt (CopyPlace 2) ≡ None) × (hurt (CopyPlace 3) ≡ None) × ((s : ℕ) → hurt (HeaderPlace s) ≡ None)
  pub next : UnitLog
  pub raised : View
  pub opened : IsReopened shape [] (record { start = target; events = [] }) hurt copied next raised
  pub goes_on : (boot_of raised ≡ boot_of copied + 1) × (head raised ≡ head copied) × (raised.replies ≡ copied.replies)
