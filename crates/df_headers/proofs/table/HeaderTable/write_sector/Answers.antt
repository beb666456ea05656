-- The sixteen headers are those of the table, and fill one sector of the disk.
use Rattle.{std.proofs.Common.{◌+◌, ◌-◌, ◌*◌, ◌≡◌, ◌∙◌, ℕ, List, take, drop, sym, subst, arith}, df_units.proofs.Laws.{headers_put}}
use Rattle.df_format.specs.{declared.header.Header.{Header}, UnitLaws.{AreSixteen}}
use Rattle.df_headers.{specs.Ring.{in_sector}, proofs.Rooms.{one_sector}}
use Rattle.df_headers.proofs.table.HeaderTable.write_sector.Goals as goal

pub put_all-requires-clause-sixteen : goal.put_all-requires-clause-sixteen
put_all-requires-clause-sixteen g c = subst (λ (n : ℕ). AreSixteen (take n (drop (16 * c.args.sector) c.deref.result.now)))
    (let same : 16 ≡ 16 * c.args.sector + 16 - 16 * c.args.sector = omega arith in same)
    (rw (sym (c.deref.ensures.value ∙ c.self.view_is)) at c.requires.sealed)

pub put_all-requires-clause-room : goal.put_all-requires-clause-room
put_all-requires-clause-room g c = one_sector c.args.room.now.layout _ c.bytes_mut-bytes.ensures.size

pub write-requires : goal.write-requires
write-requires g c = let size = one_sector c.args.room.now.layout _ c.bytes_mut-bytes.ensures.size in record {
  some = omega (arith, size, c.put_all.auto.bytes);
  whole = omega (arith, size, c.put_all.auto.bytes);
  last = omega (arith, size, c.put_all.auto.bytes, c.first_of.ensures.below);
}

pub returns-clause-steps : goal.returns-clause-steps
returns-clause-steps g c =
    λ cluster are. (headers_put c.args.room.now.layout cluster c.args.sector (in_sector c.args.sector c.args.self.now) are, tt)
