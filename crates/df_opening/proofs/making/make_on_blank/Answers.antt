-- Where the disk isn't blank nothing is written; else the calls are the theory's making, or a part of it.
use Rattle.{std.proofs.Common.{subst}, df_format.specs.SuperRules.{IsUsable}}
use Rattle.df_opening.proofs.Formatted.{failed_formats, made_formats, refused_formats}
use Rattle.df_opening.proofs.making.make_on_blank.Goals as goal

pub returns-in-Ok-make_file-clause-formats : goal.returns-in-Ok-make_file-clause-formats
returns-in-Ok-make_file-clause-formats g c =
    made_formats c.args.rooms.now.layout c.args.cluster (subst IsUsable c.requires.content c.fields-fields.ensures.usable) (g.D.Disk.told c.args.disk.now) (g.D.Disk.told c.test_blank.new.disk) (g.D.Disk.told c.make_file.new.disk) c.in-Ok.ensures.blank c.in-Ok.ensures.same c.in-Ok-make_file.ensures.events

pub returns-in-Err-make_file-clause-formats : goal.returns-in-Err-make_file-clause-formats
returns-in-Err-make_file-clause-formats g c =
    failed_formats c.args.rooms.now.layout c.args.cluster (subst IsUsable c.requires.content c.fields-fields.ensures.usable) (g.D.Disk.told c.args.disk.now) (g.D.Disk.told c.test_blank.new.disk) (g.D.Disk.told c.make_file.new.disk) c.in-Ok.ensures.blank c.in-Ok.ensures.same c.in-Err-make_file.ensures.events

pub returns-in-Err-clause-formats : goal.returns-in-Err-clause-formats
returns-in-Err-clause-formats g c =
    refused_formats c.args.rooms.now.layout c.args.cluster (subst IsUsable c.requires.content c.fields-fields.ensures.usable) (g.D.Disk.told c.args.disk.now) (g.D.Disk.told c.test_blank.new.disk) c.in-Err.refusal c.in-Err.ensures.cluster c.in-Err.ensures.blank c.in-Err.ensures.same
