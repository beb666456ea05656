-- The numbers of a replica that is ready are far from their end.
use Rattle.{std.proofs.Common.{◌≡◌, ◌+◌, ◌∙◌, ℕ, ap, arith, nat_lt}, df_model.specs.declared.answers.Summary.{Summary}}
use Rattle.df_table.proofs.Bounds.{head_bound, op_bound}
use Rattle.df_table.proofs.checkpointing.is_full.Goals as goal

pub returns : goal.returns
returns c = λ layout ready. let s = c.args.replica.now in let head = ap (λ (x : Summary). x.head) c.summary-summary.ensures in
    let op = ap (λ (x : Summary). x.checkpoint_op) c.summary-summary.ensures in
    let slots = ap (λ (x : Summary). x.layout.slots) c.summary-summary.ensures in
    let last : c.saturating_add-last.result ≡ s.fields.op + s.file.layout.slots = omega
    (arith, c.saturating_add-last.ensures, op, slots, op_bound layout s ready, head_bound layout s ready, s.file.layout.slots_within) in
    let next : c.saturating_add-next.result ≡ s.head + 1 = omega (arith, c.saturating_add-next.ensures, head, head_bound layout s ready) in
    ap (λ (n : ℕ). nat_lt n c.saturating_add-next.result) last ∙ ap (λ (n : ℕ). nat_lt (s.fields.op + s.file.layout.slots) n) next
