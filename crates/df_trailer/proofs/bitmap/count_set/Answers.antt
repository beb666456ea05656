use Rattle.std.proofs.Common.{◌+◌, ◌*◌, ◌<◌, ◌/◌, ℕ, arith}
use Rattle.df_trailer.{specs.Rooms.{bits_in_words}, proofs.{OneBit.{count_next, count_same}, bitmap.count_set.Goals.{then-is_set, else-is_set}}}
use Rattle.df_trailer.proofs.bitmap.count_set.Goals as goal

pub loop-place-preserved : goal.loop-place-preserved
loop-place-preserved c = let n : ℕ = (c.args.blocks + 7) / 8 in let x : ℕ = bits_in_words n c.args.words.now in
    let within : c.loop-place.place < 8 * n = omega arith in elim c.if-is_set.branch [
      | then-is_set w ↦
          (count_next c.loop-place.place x c.loop-place.count c.if-is_set.count c.is_set.result (c.is_set.ensures n within) w.if-is_set.true c.loop-place.invariant.0 w.count-is, omega (arith, w.count-is, c.loop-place.invariant.1))
      | else-is_set w ↦
          (count_same c.loop-place.place x c.loop-place.count c.if-is_set.count c.is_set.result (c.is_set.ensures n within) w.if-is_set.false c.loop-place.invariant.0 w.count-is, omega (arith, w.count-is, c.loop-place.invariant.1))
    ]
