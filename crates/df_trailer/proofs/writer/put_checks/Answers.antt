use Rattle.std.proofs.Common.{◌≡◌, ◌+◌, ◌++◌, ℕ, List, Option, [], ◌∷◌, arith, length, length-append, refl, sym, ap, ◌∙◌, append_assoc}
use Rattle.df_trailer.{specs.{Spelling.{spell_checks}, Writing.{captured_blocks}}, proofs.{Shown.{checks_more, shown_all}, Skipped.{checks_begun, checks_front, checks_size, front_short, referenced_few, shown_whole}}}
use Rattle.df_trailer.proofs.writer.put_checks.Goals as goal

pub loop-place-init : goal.loop-place-init
loop-place-init g c = let f : ℕ → Option ℕ = g.G.CapturedBlocks.captured c.args.grid.now in let begin = c.begin_before-begin.result in
    let at : begin.at ≡ c.args.start + length (spell_checks (captured_blocks f begin.place)) =
    omega (arith, c.begin_before-begin.ensures.at, checks_size f begin.place) in
    (at, refl, λ text size were. checks_begun f c.args.from c.args.start begin.place begin.at c.args.room.now text size at c.begin_before-begin.ensures.before were)

pub put_check-at-requires-clause-small : goal.put_check-at-requires-clause-small
put_check-at-requires-clause-small g c = let f : ℕ → Option ℕ = g.G.CapturedBlocks.captured c.args.grid.now in
    omega (arith, checks_size f c.loop-place.place, referenced_few f c.loop-place.place, c.loop-place.invariant.0)

pub loop-place-preserved : goal.loop-place-preserved
loop-place-preserved g c = let f : ℕ → Option ℕ = g.G.CapturedBlocks.captured c.args.grid.now in let n : ℕ = c.loop-place.place in
    let done : List ℕ = spell_checks (captured_blocks f n) in let last : List ℕ = spell_checks (f (n + 1) ∷ []) in
    let more : spell_checks (captured_blocks f (n + 1)) ≡ done ++ last = checks_more f n in
    let size : length (spell_checks (captured_blocks f (n + 1))) ≡ length done + length last =
    ap (λ (xs : List ℕ). length xs) more ∙ length-append done last in (
      omega (arith, c.put_check-at.ensures.next, c.loop-place.invariant.0, size),
      c.put_check-at.ensures.length ∙ c.loop-place.invariant.1,
      λ text start were. shown_all c.args.from
          c.put_check-at.new.room ((text ++ done) ++ last) _ (append_assoc text done last ∙ ap (λ (xs : List ℕ). text ++ xs) (sym more))
          (c.put_check-at.ensures.shown
          (text ++ done) (omega (arith, length-append text done, c.loop-place.invariant.0)) (c.loop-place.invariant.2 text start were)),
    )

pub returns-then-at-end-clause-left : goal.returns-then-at-end-clause-left
returns-then-at-end-clause-left g c = let f : ℕ → Option ℕ = g.G.CapturedBlocks.captured c.args.grid.now in
    let some : List ℕ = spell_checks (captured_blocks f c.loop-place.place) in
    let all : List ℕ = spell_checks (captured_blocks f c.args.blocks) in
    let more = front_short some all (checks_front f c.loop-place.place c.args.blocks (omega arith)) in
    omega (arith, more, c.loop-place.invariant.0, c.loop-place.invariant.1)

pub returns-then-at-end-clause-shown : goal.returns-then-at-end-clause-shown
returns-then-at-end-clause-shown g c = λ text size were. let f : ℕ → Option ℕ = g.G.CapturedBlocks.captured c.args.grid.now in
    let some : List ℕ = spell_checks (captured_blocks f c.loop-place.place) in
    let all : List ℕ = spell_checks (captured_blocks f c.args.blocks) in
    shown_whole c.args.from c.loop-place.room text some all (checks_front f c.loop-place.place c.args.blocks (omega arith))
    (omega (arith, length-append text some, c.loop-place.invariant.0, c.loop-place.invariant.1)) (c.loop-place.invariant.2 text size were)
