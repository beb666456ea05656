-- The op is the slot's, and the entry is the table's.
use Rattle.{std.proofs.Common.{◌≡◌, ◌∙◌, ap, ℕ}, df_cases.specs.Cases.{decision_of}}
use Rattle.df_journal.{specs.{Scan.{Scan}, Seen.{decision_on}}, proofs.Decisions.{decided_slot}}
use Rattle.df_journal.proofs.table.SlotTable.decision.Goals as goal

pub returns : goal.returns
returns c = let scan : Scan = c.args.self.now in
    let boot : c.self.inside.start.boot ≡ scan.start.boot = ap (λ (s : Scan). s.start.boot) c.self.view_is in
    record { model = λ layout image o tells of. decided_slot layout image scan c.args.slot c.op_at.result o c.seen.result (decision_of c.decision_on.result) tells c.seen.ensures c.op_at.ensures (λ checks. c.decision_on.ensures checks ∙ ap (λ (b : ℕ). decision_on b c.op_at.result c.seen.result) boot) of }
