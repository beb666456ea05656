-- One entry more, and with the last one of a group a count more.
use Rattle.std.{proofs.Common.{◌≡◌, ◌+◌, ◌-◌, ℕ, Some, ap, ◌∙◌, arith}, specs.Prelude.{slice_get}}
use Rattle.df_grid.{specs.Table.{captured_among}, proofs.{Groups.{as_bit, next_count, one_more, same_counts}, entry.count_captured.Goals.{then-place-eq0, else-place-eq0}}}
use Rattle.df_grid.proofs.entry.count_captured.Goals as goal

pub loop-place-preserved : goal.loop-place-preserved
loop-place-preserved c = let p = c.loop-place.place in let es = c.args.entries.now in
    let at : slice_get es p ≡ Some c.get.result = (let n : p ≡ p + 1 - 1 = omega arith in ap (λ (k : ℕ). slice_get es k) n ∙ c.get.ensures) in
    let count : c.loop-place.count + c.from-count.result ≡ captured_among es (p + 1) =
    omega (arith, c.loop-place.invariant.counted, c.from-count.ensures, as_bit c.get.result.captured, one_more p es c.get.result at) in
    elim c.if-place-eq0.branch [
      | then-place-eq0 w ↦ record {
        counted = count;
        counts = rw (w.counts-is, w.push.ensures.items) (next_count es
            p (c.loop-place.count + c.from-count.result) c.loop-place.counts.items c.loop-place.invariant.counts w.if-place-eq0.true count);
      }
      | else-place-eq0 w ↦ record {
        counted = count;
        counts = rw w.counts-is (same_counts es p c.loop-place.counts.items c.loop-place.invariant.counts w.if-place-eq0.false);
      }
    ]
