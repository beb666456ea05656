-- One more entry is counted, where it is held for the reason.
use Rattle.std.{proofs.Common.{◌≡◌, ◌+◌, ◌-◌, ◌∙◌, ℕ, Bool, List, ◌∷◌, Some, drop, length, ap, sym, arith}, specs.Prelude.{slice_get}}
use Rattle.df_grid.{specs.{declared.entry.Entry.{Entry}, Table.{is_held_for, picked}}, proofs.{Turns.{drop_past, drop_there, front_counts, front_fails}, entry.count_held.Goals.{then-held, else-held}}}
use Rattle.df_grid.proofs.entry.count_held.Goals as goal

pub loop-place-preserved : goal.loop-place-preserved
loop-place-preserved c = let p = c.loop-place.place in let es = c.args.entries.now in let held : Entry → Bool = is_held_for c.args.reason in
    let e = c.get-entry.result in
    let at : slice_get es p ≡ Some e = (let n : p ≡ p + 1 - 1 = omega arith in ap (λ (k : ℕ). slice_get es k) n ∙ c.get-entry.ensures) in
    let here : length (picked held (p + 1) (drop p es)) ≡ length (picked held (p + 1) (e ∷ drop (p + 1) es)) =
    ap (λ (l : List Entry). length (picked held (p + 1) l)) (drop_there es p e at) in elim c.if-held.branch [
      | then-held w ↦ record {
        few = omega (arith, w.count-is, c.loop-place.invariant.few);
        within = omega (arith, c.loop-place-test.true, c.len.ensures);
        counted = omega (arith, w.count-is, c.loop-place.invariant.counted, here, front_counts held (p + 1) e (drop (p + 1) es) (sym c.is_held_for-held.ensures ∙ w.if-held.true));
      }
      | else-held w ↦ record {
        few = omega (arith, w.count-is, c.loop-place.invariant.few);
        within = omega (arith, c.loop-place-test.true, c.len.ensures);
        counted = omega (arith, w.count-is, c.loop-place.invariant.counted, here, ap (λ (l : List (ℕ × ℕ)). length l) (front_fails held (p + 1) e (drop (p + 1) es) (sym c.is_held_for-held.ensures ∙ w.if-held.false)));
      }
    ]

pub returns-clause-count : goal.returns-clause-count
returns-clause-count c = let p = c.loop-place.place in let es = c.args.entries.now in let held : Entry → Bool = is_held_for c.args.reason in
    let none : length (picked held (p + 1) (drop p es)) ≡ 0 =
    ap (λ (l : List Entry). length (picked held (p + 1) l)) (drop_past es p (omega (arith, c.loop-place-test.false, c.len.ensures))) in
    omega (arith, c.loop-place.invariant.counted, none)
