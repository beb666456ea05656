use Rattle.{std.proofs.Common.{◌≡◌, ◌↔◌, IsTrue, subst}, df_format.specs.declared.superblock.SuperFields.{SuperFields}}
use Rattle.df_superblock.proofs.Verdicts.{holds_sound}
use Rattle.df_superblock.proofs.updates.holds.Goals as goal

pub returns-then-copy-number : goal.returns-then-copy-number
returns-then-copy-number c = let same : IsTrue c.same_fields.result ↔ (c.in-Sound.copy.fields ≡ c.args.content.now) =
    subst (λ (f : SuperFields). IsTrue c.same_fields.result ↔ (c.in-Sound.copy.fields ≡ f)) c.fields.ensures.value c.same_fields.ensures in
    holds_sound c.args.number c.args.slot.now c.in-Sound.copy c.args.content.now c.same_fields.result c.in-Sound.is c.if-copy-number.true same
