-- The writes of sectors of a table are steps of the theory.
use Rattle.{std.proofs.Common.{ℕ, zero, suc, List, [], ◌∷◌, refl}, df_layout.specs.declared.layout.Layout.{Layout}}
use Rattle.{df_format.specs.declared.header.Header.{Header}, df_theory.specs.Device.{AreSteps}}
use Rattle.df_units.{specs.Format.{format_of}, proofs.Laws.{headers_put}}
use Rattle.df_headers.{specs.Ring.{AreOfRing, IsHeaderTable, header_write_steps, in_sector, sector_writes}, proofs.Tables.{table_written}}

pub writes_are_steps : (layout : Layout) (cluster : ℕ) (table : List Header) (sectors : List ℕ)
    → IsHeaderTable layout cluster table → AreOfRing layout sectors
    → AreSteps (format_of layout cluster) (sector_writes layout table sectors) (header_write_steps table sectors)
writes_are_steps layout cluster table [] is are = tt
writes_are_steps layout cluster table (k ∷ ks) is are = (
  headers_put layout cluster k (in_sector k table) (table_written layout cluster k table is (are zero k refl)),
  writes_are_steps layout cluster table ks is (λ i sector at. are (suc i) sector at),
)
