-- The room has one sector.
use Rattle.{std.proofs.Common.{◌≡◌, ◌∙◌, length, sym, ap, arith}, df_headers.proofs.Rooms.{kept, one_sector}}
use Rattle.df_headers.proofs.sectors.read_sector.Goals as goal

pub read-requires : goal.read-requires
read-requires g c = let size = one_sector c.args.room.now.layout _ c.bytes_mut.ensures.size in record {
  some = omega (arith, size);
  whole = omega (arith, size);
  last = omega (arith, size, c.first_of.ensures.below);
}

pub returns-clause-size : goal.returns-clause-size
returns-clause-size g c = let size : length c.bytes_mut.result.now ≡ 4096 = one_sector c.args.room.now.layout _ c.bytes_mut.ensures.size in
    let own : length c.args.room.now.bytes ≡ 4096 = sym (ap length c.bytes_mut.ensures.value) ∙ size in
    kept c.args.room.now.bytes c.read.new.into (c.read.auto.into ∙ size ∙ sym own) own
