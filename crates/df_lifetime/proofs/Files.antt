-- What an open finds is the file: its layout and its cluster are those of the superblock that is chosen.
use Rattle.{std.proofs.Common.{◌≡◌, ℕ}, df_base.specs.Image.{Image}, df_layout.specs.declared.layout.Layout.{Layout}}
use Rattle.{df_theory.specs.{Found.{IsFound}, View.{View}}, df_units.specs.Bytes.{unit_at}, df_upgrade.specs.Below.{IsOpenedAs}}
use Rattle.df_session.{specs.Below.{State, shape, DataFile}, proofs.Laws.{found_file}}

-- what an open finds is the file in which a view is found, whatever version it asks for
pub one_file : (version : ℕ) (file : DataFile) (layout : Layout) (image : Image) (view : View) (s : State)
    → IsFound (shape file) (unit_at file.layout file.cluster image) view → IsOpenedAs version layout image s → s.file ≡ file
one_file version file layout image view s found is = found_file file s.file layout image view is.view found is.found
