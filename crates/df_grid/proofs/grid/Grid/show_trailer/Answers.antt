-- What was read into the room is what the machine reads.
use Rattle.{std.{proofs.Common.{Some, refl}, specs.Prelude.{Ok, Err}}, df_format.specs.declared.kind.Kind.TheVariants.{Trailer}}
use Rattle.df_units.specs.Meaning.{block_of, number_of}
use Rattle.df_grid.{specs.{Grid.{GridState, IsKnownBlock}, Reads.{ReadsTrailer}}, proofs.Reading.{shows_other_trailer, shows_trailer, shows_valid}}
use Rattle.df_grid.proofs.grid.Grid.show_trailer.Goals as goal

pub returns-in-Some : goal.returns-in-Some
returns-in-Some g c = let s = c.self.inside in (
  (refl, (λ _. tt), c.self.view_is),
  record {
    after = tt;
    block = tt;
    class = rw (← c.self.view_is)
        (shows_other_trailer s.layout s.cluster c.args.reference.address c.args.reference.checksum c.known_at-identity.ensures.check (g.D.Disk.told c.args.disk.now) c.known_at-identity.result c.known_at-identity.ensures.identity c.in_ok-class.field-0 c.load.new.self.held c.in-Some.class c.in-Some.is c.in_ok-class.ensures.read);
    valid = tt;
    same = c.load.ensures.same;
    cause = record { later = c.in_ok-class.ensures.cause.later; failed = tt; same = c.in_ok-class.ensures.cause.same };
  },
)

pub returns-in-None : goal.returns-in-None
returns-in-None g c = let s = c.self.inside in (
  (refl, (λ _. tt), c.self.view_is),
  record {
    after = tt;
    block = rw (← c.self.view_is)
        (shows_trailer s.layout s.cluster c.args.reference.address c.args.reference.checksum c.known_at-identity.ensures.check (g.D.Disk.told c.args.disk.now) c.known_at-identity.result c.known_at-identity.ensures.identity c.in_ok-class.field-0 c.load.new.self.held c.unit.result.now c.in-None.is c.unit.ensures c.in_ok-class.ensures.holds c.in_ok-class.ensures.read);
    class = tt;
    valid = rw (← c.self.view_is)
        (shows_valid s.layout s.cluster c.args.reference.address c.args.reference.checksum c.known_at-identity.ensures.check (g.D.Disk.told c.args.disk.now) c.known_at-identity.result c.known_at-identity.ensures.identity c.in_ok-class.field-0 c.load.new.self.held Trailer (Some (number_of c.args.reference.checksum)) c.unit.result.now c.in-None.is c.unit.ensures c.in_ok-class.ensures.holds refl);
    same = c.load.ensures.same;
    cause = record { later = c.in_ok-class.ensures.cause.later; failed = tt; same = c.in_ok-class.ensures.cause.same };
  },
)
