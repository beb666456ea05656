-- The rooms are of the layout.
use Rattle.{std.proofs.Common.{refl, subst}, df_units.{proofs.Laws.{none_within}, specs.Within.{AddsWithin}}}
use Rattle.{df_layout.specs.declared.layout.Layout.{Layout}, df_top.specs.Formats.{MakesFile}}
use Rattle.df_top.proofs.making.make_file.Goals as goal

pub returns-in-Ok-clause-makes : goal.returns-in-Ok-clause-makes
returns-in-Ok-clause-makes g c = subst (λ (l : Layout). MakesFile
    l c.args.cluster (g.D.Disk.told c.args.disk.now) (g.D.Disk.told c.make.new.disk) c.make.result) c.in-Ok.ensures c.make.ensures.makes

pub returns-in-Err-clause-makes : goal.returns-in-Err-clause-makes
returns-in-Err-clause-makes g c = λ before may some is honest. absurd (some refl)

pub returns-in-Ok-clause-within : goal.returns-in-Ok-clause-within
returns-in-Ok-clause-within g c = subst (λ (l : Layout).
    AddsWithin l (g.D.Disk.told c.args.disk.now) (g.D.Disk.told c.make.new.disk)) c.in-Ok.ensures c.make.ensures.within

pub returns-in-Err-clause-within : goal.returns-in-Err-clause-within
returns-in-Err-clause-within g c = none_within c.args.layout.now (g.D.Disk.told c.args.disk.now) (g.D.Disk.told c.args.disk.now) refl
