-- Why the first file's trailer is refused, once as much of it as is known is shown.
use Rattle.std.specs.Prelude.{◌≡◌, ◌≢◌, ◌⊎◌, ◌<◌, ℕ}
use Rattle.df_base.specs.Image.{Image}
use Rattle.df_layout.specs.declared.fields.Field.TheVariants.{TrailerChain}
use Rattle.df_model.specs.{declared.errors.OpenError.{OpenError}, declared.errors.OpenError.TheVariants.{BadField}}
use Rattle.df_theory.specs.{Opens.{ReadsTo}, Shape.{Shape}, Trailer.{InChain}, Units.{Block, Content, Units}}
use Rattle.df_units.specs.Bytes.{unit_at}
use Rattle.df_grid.specs.Reads.{shown_of}
use Rattle.df_checkpoint.specs.Tests.{FailsTest}
use Rattle.df_opening.specs.Below.{DataFile, shape}

-- the chain comes to an address again that it has come from, with another checksum: one of the two blocks can't be shown
pub record ComesAgain (sh : Shape) (image : Units) (c : Content) (a : ℕ) : Type 0 where
  pub sum : ℕ
  pub reads : ReadsTo sh image c a sum
  pub block : Block
  pub chained : InChain a block reads.read
  pub other : block.checksum ≢ sum

-- a trailer is named, and this is the first test that fails: of a link, of the text, of the addresses of the chain, or of the ops that wait for their replies; or the chain comes to one of its own blocks
abbrev pub RefusesFirstTrailer : DataFile → Image → Content → OpenError → Type 0
RefusesFirstTrailer file image c (BadField field value) =
    (0 < c.trailer) × (FailsTest (shape file) (shown_of file.layout file.cluster image) c field value ⊎ ((field ≡ TrailerChain) × ComesAgain (shape file) (unit_at file.layout file.cluster image) c value))
RefusesFirstTrailer file image c e = ⊥
