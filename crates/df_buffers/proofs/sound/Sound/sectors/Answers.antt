use Rattle.std.proofs.Common.{arith, rules, subst}
use Rattle.df_buffers.{specs.Sounds.{Holding, IsSound}, proofs.Finds.{ends, are_whole, sectors_bring}}
use Rattle.df_buffers.proofs.sound.Sound.sectors.Goals as goal

pub sectors_in-requires : goal.sectors_in-requires
sectors_in-requires g c = let e = ends _ _ _ g.met.K.UnitKind.stands c.self.invariant in omega (arith, e.sectors, c.deref.ensures.len)

pub returns-clause-whole : goal.returns-clause-whole
returns-clause-whole g c = are_whole _ _ c.args.self.now _ g.met.K.UnitKind.stands
    (subst (λ (h : Holding). IsSound g.K.RoomKind.ZONE g.K.UnitKind.KIND h) c.self.view_is c.self.invariant) (search rules)

pub returns-clause-brings : goal.returns-clause-brings
returns-clause-brings g c = sectors_bring _ _ c.args.self.now _ g.met.K.UnitKind.stands (subst (λ (h : Holding).
    IsSound g.K.RoomKind.ZONE g.K.UnitKind.KIND h) c.self.view_is c.self.invariant) (search rules) c.sectors_in.ensures.each
