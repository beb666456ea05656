-- The laws of an image's answer where version 2 is asked for, as an open does.
use Rattle.{std.proofs.Common.{◌≡◌}, df_base.specs.Image.{Image}, df_format.specs.declared.superblock.SuperFields.{SuperFields}}
use Rattle.df_recovery.{specs.Opening.{HasSuper}, proofs.OneAnswer.{one_super_as}}

pub one_super : (image : Image) (f g : SuperFields) → HasSuper image f → HasSuper image g → f ≡ g
one_super image f g one two = one_super_as 2 2 image f g one two
