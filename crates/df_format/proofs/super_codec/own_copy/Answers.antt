use Rattle.{std.proofs.Common.{Option, ap, sym, ◌∙◌}, df_layout.specs.{declared.damage.Class.TheVariants.{Elsewhere}, declared.places.Zone.TheVariants.{Superblock}}}
use Rattle.df_format.{specs.{declared.superblock.SuperCopy.{SuperCopy}, Own.{place_in}}, proofs.CopyClasses.{copy_elsewhere, number_of}}
use Rattle.df_format.proofs.super_codec.own_copy.Goals as goal

pub returns-in-Some-2 : goal.returns-in-Some-2
returns-in-Some-2 c =
    copy_elsewhere c.args.number c.args.bytes.now c.in-Some.copy c.elsewhere.result
    (sym c.in-Some.is ∙ c.requires.copy) c.if-copy-number.false
    (c.elsewhere.ensures ∙ ap (λ (o : Option SuperCopy). Elsewhere (place_in Superblock (number_of o))) (sym c.in-Some-2.is ∙ c.in-Some.is))
