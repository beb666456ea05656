-- Both places are written, the mark as the sum of its bits.
use Rattle.std.proofs.Common.{◌≡◌, ◌+◌, ◌-◌, ◌*◌, Bool, true, false, refl, arith}
use mir.Val.{bool_byte}
use Rattle.df_grid.{specs.Entries.{bit, mark_of}, proofs.Zips.{has_place, set_entries}}
use Rattle.df_grid.proofs.entry.Entries.set.Goals as goal

byte_bit : (b : Bool) → bool_byte b ≡ bit b
byte_bit true = refl
byte_bit false = refl

pub index_mut-requires : goal.index_mut-requires
index_mut-requires c = let s = c.self.inside in
    let at = has_place s.checks.items s.marks.items c.args.self.now c.args.address c.self.invariant c.self.view_is c.requires in
    omega (arith, s.checks.ok.0, at)

pub index_mut-requires-2 : goal.index_mut-requires-2
index_mut-requires-2 c = let s = c.self.inside in
    let at = has_place s.checks.items s.marks.items c.args.self.now c.args.address c.self.invariant c.self.view_is c.requires in
    omega (arith, s.marks.ok.0, at)

pub returns : goal.returns
returns c = let s = c.self.inside in let e = c.args.entry.now in
    let is : c.from.result + 2 * c.from-2.result + 4 * c.from-3.result + 8 * c.from-4.result + 16 * c.from-5.result ≡ mark_of e =
    omega (
      arith,
      c.from.ensures,
      c.from-2.ensures,
      c.from-3.ensures,
      c.from-4.ensures,
      c.from-5.ensures,
      byte_bit e.live,
      byte_bit e.captured,
      byte_bit e.written,
      byte_bit e.durable,
      byte_bit e.chained,
    ) in rw (← c.self.view_is, is) (set_entries s.checks.items s.marks.items (c.args.address - 1) c.args.entry.now c.self.invariant)
