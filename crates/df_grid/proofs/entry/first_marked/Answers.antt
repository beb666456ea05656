-- The entries above, one after the other, up to the first that is marked.
use Rattle.std.{proofs.Common.{ℕ, true, false, List, Some, drop, ◌≡◌, ◌+◌, ◌-◌, sym, ◌∙◌, ap, arith}, specs.Prelude.{slice_get}}
use Rattle.df_grid.{specs.{Entries.{is_marked}, Table.{picked}}, proofs.Turns.{drop_past, drop_there, front_fails, front_passes, pick_above}}
use Rattle.df_grid.proofs.entry.first_marked.Goals as goal

pub loop-place-init : goal.loop-place-init
loop-place-init c = pick_above is_marked c.args.above 1 c.args.above c.args.entries.now (omega arith) ∙ (let n : 1
    + c.args.above ≡ c.args.above + 1 = omega arith in ap (λ (k : ℕ). picked is_marked k (drop c.args.above c.args.entries.now)) n)

pub returns-then-is_marked : goal.returns-then-is_marked
returns-then-is_marked c = let p = c.loop-place.place in let es = c.args.entries.now in let at : slice_get es p ≡ Some c.get-entry.result =
    (let n : p ≡ p + 1 - 1 = omega arith in ap (λ (k : ℕ). slice_get es k) n ∙ c.get-entry.ensures) in
    let marked : is_marked c.get-entry.result ≡ true = sym c.is_marked.ensures ∙ c.if-is_marked.true in
    sym (ap (λ (l : List (ℕ × ℕ)). slice_get l 0) (c.loop-place.invariant ∙ ap (picked is_marked (p + 1))
    (drop_there es p c.get-entry.result at)) ∙ front_passes is_marked (p + 1) c.get-entry.result (drop (p + 1) es) marked)

pub loop-place-preserved : goal.loop-place-preserved
loop-place-preserved c = let p = c.loop-place.place in let es = c.args.entries.now in let at : slice_get es p ≡ Some c.get-entry.result =
    (let n : p ≡ p + 1 - 1 = omega arith in ap (λ (k : ℕ). slice_get es k) n ∙ c.get-entry.ensures) in
    let unmarked : is_marked c.get-entry.result ≡ false = sym c.is_marked.ensures ∙ c.if-is_marked.false in
    c.loop-place.invariant ∙ ap (picked is_marked (p + 1)) (drop_there es p c.get-entry.result at)
    ∙ front_fails is_marked (p + 1) c.get-entry.result (drop (p + 1) es) unmarked

pub returns : goal.returns
returns c = let p = c.loop-place.place in let es = c.args.entries.now in sym (ap (λ (l : List (ℕ × ℕ)). slice_get l 0)
    (c.loop-place.invariant ∙ ap (picked is_marked (p + 1)) (drop_past es p (omega (arith, c.loop-place-test.false, c.len.ensures)))))
