-- What was read into the room is what the machine reads.
use Rattle.{std.{proofs.Common.{◌≡◌, Some, sym, ap, subst, ◌∙◌, arith}, specs.Prelude.{IfOk}}, df_model.specs.Blocks.{sum_at}}
use Rattle.{df_units.specs.Meaning.{number_of}, df_trailer.specs.Rooms.{number_in}}
use Rattle.df_grid.{specs.{Grid.{GridState}, Reads.{HoldsKnown, Loads}}, proofs.Loading.{holds_all, loads_all}}
use Rattle.df_grid.proofs.grid.Grid.load.Goals as goal

pub load-requires-clause-place : goal.load-requires-clause-place
load-requires-clause-place g c = let s = c.self.inside in let has = c.in-Some.ensures.inside in
    rw c.known_at-identity.ensures.identity (has.0, omega (arith, has.1, c.self.invariant.size_is))

pub returns-clause-loads : goal.returns-clause-loads
returns-clause-loads g c = let s = c.self.inside in
    let sum : sum_at c.args.address s.table.blocks.live ≡ Some (number_of c.in-Some.checksum) =
    sym c.live.ensures.checksum ∙ ap number_in c.in-Some.is in
    subst (λ (v : GridState). IfOk c.load.result (λ wrong. Loads v.layout v.cluster
    (g.D.Disk.told c.args.disk.now) c.args.address (sum_at c.args.address v.blocks.live) wrong c.load.new.self.held)) c.self.view_is
    (loads_all s.layout s.cluster c.args.address c.in-Some.checksum c.known_at-identity.ensures.check (g.D.Disk.told c.args.disk.now)
    c.known_at-identity.result c.known_at-identity.ensures.identity (sum_at c.args.address s.table.blocks.live) sum
    c.load.result c.load.new.self.held c.load.ensures.holds c.load.ensures.read)

pub returns-clause-valid : goal.returns-clause-valid
returns-clause-valid g c = let s = c.self.inside in
    let sum : sum_at c.args.address s.table.blocks.live ≡ Some (number_of c.in-Some.checksum) =
    sym c.live.ensures.checksum ∙ ap number_in c.in-Some.is in rw (← c.self.view_is)
    (holds_all s.layout s.cluster c.args.address c.in-Some.checksum c.known_at-identity.ensures.check (g.D.Disk.told c.args.disk.now)
    c.known_at-identity.result c.known_at-identity.ensures.identity (sum_at c.args.address s.table.blocks.live) sum
    c.load.result c.load.new.self.held c.load.ensures.holds)
