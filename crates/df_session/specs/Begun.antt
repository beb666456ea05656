-- The state that calls begin with after an open, as a function of the file, of what the disk shows and of the view that is found in it: no replica is in sight.
use Rattle.std.specs.Prelude.{◌≡◌, Option}
use Rattle.df_base.specs.Image.{Image, IsImage}
use Rattle.df_disk.specs.Told.{Told}
use Rattle.df_theory.specs.{Found.{IsFound}, View.{View}}
use Rattle.df_units.specs.Bytes.{unit_at}
use Rattle.df_model.specs.{Supply.{begun_from}, Work.{Work, opened}}
use Rattle.df_replica.specs.{Below.{DataFile, State, shape}, Opened.{MendsAll, begun_state}}
use Rattle.df_session.specs.Codec.{codec}

-- what calls begin with where an open finds this view in this image
abbrev pub begun_work : DataFile → Image → View → Work
begun_work file image view = begun_from (shape file) (codec file) (opened (shape file) (unit_at file.layout file.cluster image) view)

-- it is the state that the superblock leads to which an open wrote
abbrev pub BegunIsWork : Type 0
BegunIsWork =
    (t : Told) (s : State) (mended : Option Told) → MendsAll t s mended → (view : View) → IsImage t.shown → IsFound (shape s.file) (unit_at s.file.layout s.file.cluster t.shown) view
    → begun_state s.file t view s.fields ≡ begun_work s.file t.shown view
