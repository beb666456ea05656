use Rattle.{std.proofs.Common.{List, ℕ, length, ◌∙◌, ap}, df_buffers.proofs.Probes.{copy_size}}
use Rattle.df_buffers.proofs.find.Raw+SuperSector.copy_beside.Goals as goal

pub decode_own_copy_beside-requires-clause-size : goal.decode_own_copy_beside-requires-clause-size
decode_own_copy_beside-requires-clause-size c =
    ap (λ (l : List ℕ). length l) c.deref.ensures.value ∙ c.self.invariant ∙ copy_size c.self.inside.layout

pub decode_own_copy_beside-requires-clause-other : goal.decode_own_copy_beside-requires-clause-other
decode_own_copy_beside-requires-clause-other c =
    ap (λ (l : List ℕ). length l) c.deref-2.ensures.value ∙ c.sound.invariant ∙ copy_size c.sound.inside.layout
