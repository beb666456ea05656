use Rattle.df_buffers.proofs.Probes.{lent, opened_size}
use Rattle.df_buffers.proofs.probe.ProbeRoom.sector_mut.Goals as goal

pub returns : goal.returns
returns c = record {
  value = lent c.args.self.now c.self.inside.copies.items c.args.number c.from.result
      c.index_mut-sector.result.now _ c.self.view_is c.self.invariant c.from.ensures c.requires c.index_mut-sector.ensures.value;
  size = opened_size c.sector.inside.layout c.sector.inside.bytes.items c.index_mut-sector.result.now c.sector.view_is c.sector.invariant;
}
