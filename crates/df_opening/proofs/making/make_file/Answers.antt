-- The table that was cleared is that of reserved headers.
use Rattle.{std.proofs.Common.{List, ◌∙◌, subst}, df_disk.specs.Adds.{Adds}}
use Rattle.df_format.specs.{declared.header.Header.{Header}, declared.superblock.SuperFields.{SuperFields}, First.{first_super}, SuperRules.{IsUsable}}
use Rattle.df_opening.{specs.Making.{file_events}, proofs.NewFile.{cleared, named_of, small_of, writable}}
use Rattle.df_opening.proofs.making.make_file.Goals as goal

pub clear-requires-clause-cluster : goal.clear-requires-clause-cluster
clear-requires-clause-cluster g c = named_of c.args.rooms.now.layout c.args.cluster (subst IsUsable c.requires.content c.requires.usable)

pub write_file-requires-clause-sealed : goal.write_file-requires-clause-sealed
write_file-requires-clause-sealed g c = let is = subst IsUsable c.requires.content c.requires.usable in
    writable c.args.rooms.now.layout c.args.cluster (named_of c.args.rooms.now.layout c.args.cluster is) (small_of
    c.args.rooms.now.layout c.args.cluster is) c.clear.new.self (c.clear.ensures.count ∙ c.args.rooms.now.headers_fit) c.clear.ensures.each

pub returns-clause-events : goal.returns-clause-events
returns-clause-events g c = let same = cleared
    c.args.rooms.now.layout c.args.cluster c.clear.new.self (c.clear.ensures.count ∙ c.args.rooms.now.headers_fit) c.clear.ensures.each in
    subst (λ (t : List Header). Adds (file_events c.args.rooms.now.layout t (first_super c.args.rooms.now.layout c.args.cluster))
    (g.D.Disk.told c.args.disk.now) (g.D.Disk.told c.write_file.new.disk) c.write_file.result) same
    (subst (λ (f : SuperFields). Adds (file_events c.args.rooms.now.layout c.clear.new.self f) (g.D.Disk.told c.args.disk.now)
    (g.D.Disk.told c.write_file.new.disk) c.write_file.result) c.requires.content c.write_file.ensures.events)
