-- The rooms of the log are of the layout that the file is made for; and cluster 0 is refused with nothing done.
use Rattle.{std.proofs.Common.{subst}, df_layout.specs.declared.layout.Layout.{Layout}}
use Rattle.df_opening.{specs.Making.{FormatsFile}, proofs.Formatted.{no_cluster}}
use Rattle.df_opening.proofs.making.format.Goals as goal

pub returns-in-Some-clause-formats : goal.returns-in-Some-clause-formats
returns-in-Some-clause-formats g c = subst (λ (l : Layout). FormatsFile l c.args.cluster (g.D.Disk.told c.args.disk.now)
    (g.D.Disk.told c.make_on_blank.new.disk) c.make_on_blank.result) c.args.rooms.now.log_fits c.make_on_blank.ensures.formats

pub returns-in-None-clause-formats : goal.returns-in-None-clause-formats
returns-in-None-clause-formats g c = no_cluster c.args.rooms.now.layout c.args.cluster (g.D.Disk.told c.args.disk.now) c.in-None.ensures.none
