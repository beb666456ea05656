-- What was read into the room is what the machine reads.
use Rattle.{std.{proofs.Common.{◌≡◌, Some, refl, sym, ap, ◌∙◌, arith}, specs.Prelude.{Ok, Err}}, df_model.specs.Blocks.{sum_at}}
use Rattle.{df_format.specs.declared.kind.Kind.TheVariants.{Block}, df_units.specs.Meaning.{block_of, number_of}}
use Rattle.df_trailer.specs.Rooms.{number_in}
use Rattle.df_grid.{specs.{Grid.{GridState, IsKnownBlock}, Reads.{ReadsBlock}}, proofs.Reading.{shows_block, shows_other_block, shows_valid}}
use Rattle.df_grid.proofs.grid.Grid.show.Goals as goal

pub load-requires-clause-place : goal.load-requires-clause-place
load-requires-clause-place g c = let s = c.self.inside in let has = c.in-Some.ensures.inside in
    rw c.known_at-identity.ensures.identity (has.0, omega (arith, has.1, c.self.invariant.size_is))

pub returns-in-Some-2 : goal.returns-in-Some-2
returns-in-Some-2 g c = let s = c.self.inside in let sum : sum_at c.args.address s.table.blocks.live ≡ Some (number_of c.in-Some.checksum) =
    sym c.live.ensures.checksum ∙ ap number_in c.in-Some.is in (
      (refl, (λ _. tt), c.self.view_is),
      record {
        after = tt;
        block = tt;
        class = rw (← c.self.view_is)
            (shows_other_block s.layout s.cluster c.args.address c.in-Some.checksum c.known_at-identity.ensures.check (g.D.Disk.told c.args.disk.now) c.known_at-identity.result c.known_at-identity.ensures.identity c.in_ok-class.field-0 c.load.new.self.held (sum_at c.args.address s.table.blocks.live) c.in-Some-2.class c.in-Some-2.is c.in_ok-class.ensures.read sum);
        valid = tt;
        same = c.load.ensures.same;
        cause = record { later = c.in_ok-class.ensures.cause.later; failed = tt; same = c.in_ok-class.ensures.cause.same };
      },
    )

pub returns-in-None : goal.returns-in-None
returns-in-None g c = let s = c.self.inside in let sum : sum_at c.args.address s.table.blocks.live ≡ Some (number_of c.in-Some.checksum) =
    sym c.live.ensures.checksum ∙ ap number_in c.in-Some.is in (
      (refl, (λ _. tt), c.self.view_is),
      record {
        after = tt;
        block = rw (← c.self.view_is)
            (shows_block s.layout s.cluster c.args.address c.in-Some.checksum c.known_at-identity.ensures.check (g.D.Disk.told c.args.disk.now) c.known_at-identity.result c.known_at-identity.ensures.identity c.in_ok-class.field-0 c.load.new.self.held (sum_at c.args.address s.table.blocks.live) c.unit.result.now c.in-None.is c.unit.ensures c.in_ok-class.ensures.holds c.in_ok-class.ensures.read sum);
        class = tt;
        valid = rw (← c.self.view_is)
            (shows_valid s.layout s.cluster c.args.address c.in-Some.checksum c.known_at-identity.ensures.check (g.D.Disk.told c.args.disk.now) c.known_at-identity.result c.known_at-identity.ensures.identity c.in_ok-class.field-0 c.load.new.self.held Block (sum_at c.args.address s.table.blocks.live) c.unit.result.now c.in-None.is c.unit.ensures c.in_ok-class.ensures.holds sum);
        same = c.load.ensures.same;
        cause = record { later = c.in_ok-class.ensures.cause.later; failed = tt; same = c.in_ok-class.ensures.cause.same };
      },
    )
