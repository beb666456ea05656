use Rattle.df_buffers.proofs.Probes.{opened_size}
use Rattle.df_buffers.proofs.probe.ProbeRoom.sector.Goals as goal

pub returns-clause-size : goal.returns-clause-size
returns-clause-size c =
    opened_size c.sector.inside.layout c.sector.inside.bytes.items c.index-sector.result.now c.sector.view_is c.sector.invariant
