-- The numbers of a replica that is ready are in their ranges.
use Rattle.{std.proofs.Common.{◌≤◌, ◌^◌, ℕ, sym, ap, subst, arith}, df_layout.specs.declared.layout.Layout.{Layout}}
use Rattle.{df_model.specs.Memory.{Memory}, df_session.specs.Below.{State as Replica, memory}, df_table.specs.Ready.{IsReadyReplica}}

pub head_bound : (layout : Layout) (s : Replica) → IsReadyReplica layout s → s.head ≤ 2 ^ 62
head_bound layout s ready = subst (λ (n : ℕ). n ≤ 2 ^ 62) (sym (ap (λ (m : Memory). m.head) ready.stands.1)) ready.stands.0.view.head_to

pub op_bound : (layout : Layout) (s : Replica) → IsReadyReplica layout s → (memory s).content.op ≤ s.head
op_bound layout s ready = let op = ap (λ (m : Memory). m.content.op) ready.stands.1 in
    let last = ap (λ (m : Memory). m.head) ready.stands.1 in omega (arith, op, last)
