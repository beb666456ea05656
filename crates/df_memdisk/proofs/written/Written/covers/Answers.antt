-- A write of whole sectors has bytes for a sector exactly where it has a whole sector of them.
use Rattle.{std.proofs.Common.{◌/◌, ◌-◌, ap, ◌∙◌, nat_lt, ℕ, List, length}, df_memdisk.proofs.Covering.{covers_behind, covers_before}}
use Rattle.df_memdisk.proofs.written.Written.covers.Goals as goal

pub returns-then-self-sector-clause-answer : goal.returns-then-self-sector-clause-answer
returns-then-self-sector-clause-answer c =
    ap (λ (n : ℕ). nat_lt (c.args.sector - c.args.self.now.at) (n / 4096)) (ap (λ (bytes : List ℕ). length bytes) c.as_slice.ensures.value)
    ∙ covers_behind c.args.self.now.at c.args.sector c.args.self.now.bytes.items c.args.self.now.whole c.if-self-sector.true

pub returns-else-self-sector-clause-answer : goal.returns-else-self-sector-clause-answer
returns-else-self-sector-clause-answer c = covers_before c.args.self.now.at c.args.sector c.args.self.now.bytes.items c.if-self-sector.false
