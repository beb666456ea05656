-- The decision is the theory's, at the op that belongs in the slot.
use Rattle.{std.proofs.Common.{◌≡◌, ◌∷◌, [], ◌++◌, ◌<◌, ℕ, Bool, ap, append-nil, ◌∙◌, arith, length, sym}, df_theory.specs.Units.{Units}}
use Rattle.df_layout.specs.declared.{damage.Mend.{Mend}, layout.Layout.{Layout}, places.Zone.TheVariants.{WalHeaders}}
use Rattle.{df_cases.specs.{Cases.{decision_of}, declared.cases.Decision.{Decision}}, df_journal.specs.{Scan.{Scan}, Shows.{TellsRings}}}
use Rattle.df_recovery.{specs.Plan.{IsDecided, if_wanted, is_mended, needs_header, op_above_in_slot, shown_class, slot_mend}, proofs.Plans.{op_in_is}}
use Rattle.df_recovery.proofs.planning.plan_slot.Goals as goal

needed : (layout : Layout) (image : Units) (scan : Scan) (head slot : ℕ) (d : Decision) (wanted : Bool) → IsDecided scan head slot d
    → TellsRings layout image scan → slot < length scan.slots → wanted ≡ is_mended (decision_of d)
    → wanted ≡ needs_header layout scan.start head image slot
needed layout image scan head slot d wanted decided tells below is =
    is ∙ ap is_mended (decided layout image (op_above_in_slot layout.slots scan.start.op slot) tells
    (op_in_is layout scan.start.op slot (omega (arith, below, tells.table.size))))

pub returns-then-is_mended-clause-list : goal.returns-then-is_mended-clause-list
returns-then-is_mended-clause-list c = λ layout image tells. let slot = c.args.slot in
    let mend : Mend = slot_mend (shown_class c.args.found.now) slot in let at : c.from.result ≡ slot = c.from.ensures in
    let class = c.header_class.ensures in c.push_reserved.ensures.items
    ∙ (λ i. c.args.mends.now.items ++ record { place = record { zone = WalHeaders; index = at i }; class = class i } ∷ [])
    ∙ ap (λ (b : Bool). c.args.mends.now.items ++ if_wanted b mend)
    (needed layout image c.args.found.now c.args.head slot c.planned-decision.result _ c.planned-decision.ensures.model tells
    c.requires.slot c.if-is_mended.ensures)

pub returns-else-is_mended-clause-list : goal.returns-else-is_mended-clause-list
returns-else-is_mended-clause-list c = λ layout image tells. let mend : Mend = slot_mend (shown_class c.args.found.now) c.args.slot in
    sym (append-nil c.args.mends.now.items) ∙ ap (λ (b : Bool). c.args.mends.now.items ++ if_wanted b mend)
    (needed layout image c.args.found.now c.args.head c.args.slot c.planned-decision.result _ c.planned-decision.ensures.model tells
    c.requires.slot c.if-is_mended.ensures)
