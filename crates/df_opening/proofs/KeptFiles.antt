-- What is kept of a file, however much of it: its log is safe, and it is kept for the machine's state.
use Rattle.{std.proofs.Common.{ℕ, List}, df_base.specs.Log.{Log}, df_model.specs.{Laws.{IsKeptBy}, Work.{Work}}}
use Rattle.df_theory.specs.{Device.{IsSafeDisk, units_log}, Shape.{Shape}, UnitLog.{UnitLog}, Units.{Parts}, View.{View}}
use Rattle.df_damage.specs.Below.{DataFile, State, shape, spelling}
use Rattle.df_opening.specs.Keeping.{Firm, Grade, IsGoodFor, IsKept, KeptFor, Whole, format}

-- a good log is safe
pub good_safe : (file : DataFile) (g : Grade) (v u : View) (log : Log)
    → IsGoodFor g (format file) (shape file) v u log → IsSafeDisk (format file) (shape file) log
good_safe file Firm v u log good = good.safe
good_safe file Whole v u log good = good.safe

-- what is kept, whether the referenced blocks are shown or not
pub firm_of : (g : Grade) (sh : Shape) (spell : Parts → List ℕ) (log : UnitLog) (w : Work)
    → KeptFor g sh spell log w → IsKeptBy sh spell log w
firm_of Firm sh spell log w by = by
firm_of Whole sh spell log w by = by.0

pub firmly : (g : Grade) (s : State) (w : Work) (log : Log)
    → IsKept g s w log → IsKeptBy (shape s.file) (spelling s.file) (units_log (format s.file) log) w
firmly g s w log k = firm_of g (shape s.file) (spelling s.file) (units_log (format s.file) log) w k.kept_by
