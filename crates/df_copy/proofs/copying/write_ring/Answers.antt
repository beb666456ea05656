-- The table that was cleared is the one of reserved headers.
use Rattle.{std.proofs.Common.{◌∙◌, List}, df_disk.specs.Adds.{Adds}, df_format.specs.declared.header.Header.{Header}}
use Rattle.{df_layout.specs.declared.layout.Layout.{Layout}, df_units.specs.Making.{header_writes}}
use Rattle.df_opening.{specs.Making.{sectors_in}, proofs.Laws.{cleared, writable}}
use Rattle.df_copy.proofs.copying.write_ring.Goals as goal

pub write_headers-requires-clause-sealed : goal.write_headers-requires-clause-sealed
write_headers-requires-clause-sealed g c = writable c.args.rooms.now.layout c.args.cluster
    c.requires.cluster c.ranges.cluster.fits c.clear.new.self (c.clear.ensures.count ∙ c.args.rooms.now.headers_fit) c.clear.ensures.each

pub returns-clause-events : goal.returns-clause-events
returns-clause-events g c = let layout : Layout = c.args.rooms.now.layout in rw
    (cleared layout c.args.cluster c.clear.new.self (c.clear.ensures.count ∙ c.args.rooms.now.headers_fit) c.clear.ensures.each) at
    c.write_headers.ensures.events
