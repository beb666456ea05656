-- The op is the slot's, and the entry is the table's.
use Rattle.{std.proofs.Common.{◌≡◌, ◌∙◌, ap}, df_cases.specs.Cases.{decision_of}}
use Rattle.df_journal.{specs.{declared.table.Start.{Start}, Planned.{planned_on}, Scan.{Scan}}, proofs.Decisions.{planned_slot}}
use Rattle.df_journal.proofs.table.SlotTable.planned.Goals as goal

pub returns : goal.returns
returns c = let scan : Scan = c.args.self.now in let start : c.self.inside.start ≡ scan.start = ap (λ (s : Scan). s.start) c.self.view_is in
    record { model = λ layout image o tells of. planned_slot layout image scan c.args.slot c.op_at.result o c.args.head c.seen.result (decision_of c.planned_of.result) tells c.seen.ensures c.op_at.ensures (λ checks. c.planned_of.ensures checks ∙ ap (λ (s : Start). planned_on s c.args.head c.op_at.result c.seen.result) start) of }
