use Rattle.{std.proofs.Common.{List, ℕ, length, ◌∙◌, ap}, df_buffers.proofs.Probes.{copy_size}}
use Rattle.df_buffers.proofs.find.Raw+SuperSector.copy.Goals as goal

pub decode_own_copy-requires : goal.decode_own_copy-requires
decode_own_copy-requires c = ap (λ (l : List ℕ). length l) c.deref.ensures.value ∙ c.self.invariant ∙ copy_size c.self.inside.layout
