-- The rooms' sectors are what is written, and their prepares are the file's.
use Rattle.{std.proofs.Common.{◌++◌, List, sym, ap, subst, ◌∙◌}, df_base.specs.Log.{Event}, df_disk.specs.Adds.{Adds}}
use Rattle.{df_buffers.specs.Sounds.{Holding}, df_format.specs.declared.header.Header.{Header}, df_headers.specs.Ring.{IsHeaderTable}}
use Rattle.{df_layout.specs.declared.layout.Layout.{Layout}, df_opening.specs.Below.{DataFile}}
use Rattle.df_journal.specs.{Append.{settle_events}, Flush.{MayPutGroup, held_prepares, sectors_of, with_headers}}
use Rattle.df_replica.{specs.Flushing.{AreMadeFor}, proofs.FlushUnits.{puts_same}}
use Rattle.df_replica.proofs.flush.flush_in.Goals as goal

may_put : (file : DataFile) (helds : List Holding) (table : List Header)
    → AreMadeFor file helds → IsHeaderTable file.layout file.cluster table → MayPutGroup file.layout file.cluster helds table
may_put file helds table made is = record { table_is = is; each = λ i held at. ((made i held at).layout_is, (made i held at).cluster) }

pub flush-requires-clause-may : goal.flush-requires-clause-may
flush-requires-clause-may g c =
    (c.args.file.now.cluster, may_put c.args.file.now c.args.group.now c.args.rooms.now.headers c.requires.made c.requires.rooms.table)

pub invariant_of-rooms-clause-headers_fit : goal.invariant_of-rooms-clause-headers_fit
invariant_of-rooms-clause-headers_fit g c = (c.flush.ensures.valid c.args.file.now.cluster (may_put c.args.file.now c.args.group.now
    c.args.rooms.now.headers c.requires.made c.requires.rooms.table)).count ∙ ap (λ (l : Layout). l.slots) (sym c.requires.rooms.layout_is)

pub returns-clause-events : goal.returns-clause-events
returns-clause-events g c = let us = held_prepares c.args.group.now in
    subst (λ (es : List Event). Adds es (g.D.Disk.told c.args.disk.now) (g.D.Disk.told c.flush.new.disk) c.flush.result)
    (ap (λ (es : List Event). es ++ settle_events c.args.file.now.layout (with_headers us c.args.rooms.now.headers) (sectors_of us))
    (puts_same c.args.file.now c.args.group.now c.requires.made)) c.flush.ensures.events

pub returns-clause-rooms : goal.returns-clause-rooms
returns-clause-rooms g c = record {
  layout_is = c.requires.rooms.layout_is;
  table = c.flush.ensures.valid
      c.args.file.now.cluster (may_put c.args.file.now c.args.group.now c.args.rooms.now.headers c.requires.made c.requires.rooms.table);
}
