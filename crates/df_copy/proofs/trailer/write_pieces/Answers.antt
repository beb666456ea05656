-- Each turn writes the next piece of the text.
use Rattle.{std.proofs.Common.{◌∙◌, ◌-◌, ◌≤◌, ℕ, List, length, ap, arith, subst, sym}, df_layout.specs.declared.layout.Layout.{Layout}}
use Rattle.{df_base.specs.Log.{Event}, df_disk.specs.Adds.{AddsPart, after_all}, df_grid.specs.Grid.{GridState}}
use Rattle.df_copy.{specs.Trailers.{text_in}, proofs.{Piecewise.{count_left, count_written, kept_layout, piece_added, piece_fails}, Trailing.{its_events, its_next}}}
use Rattle.df_copy.proofs.trailer.write_pieces.Goals as goal

pub write_piece-requires-clause-next : goal.write_piece-requires-clause-next
write_piece-requires-clause-next g c = λ none. let all = ap (λ (h : GridState). length h.blocks.left) c.loop-index.invariant.grid
    ∙ count_left c.args.capture.now.sequence (text_in c.args.grid.now c.args.capture.now) c.args.grid.now c.loop-index.index in
    let nothing = ap length none in omega (arith, all, nothing, c.requires.begun.left, c.loop-index-test.true)

pub write_piece-requires-clause-index : goal.write_piece-requires-clause-index
write_piece-requires-clause-index g c =
    let inside : c.loop-index.index ≤ length c.args.grid.now.blocks.left = omega (arith, c.requires.begun.left, c.loop-index-test.true) in
    let all = ap (λ (h : GridState). length h.blocks.written) c.loop-index.invariant.grid
    ∙ count_written c.args.capture.now.sequence (text_in c.args.grid.now c.args.capture.now) c.args.grid.now c.loop-index.index inside in
    let nothing = ap length c.requires.begun.written in
    (omega (arith, all, nothing), omega (arith, c.requires.begun.few, c.loop-index-test.true))

pub write_piece-requires-clause-room : goal.write_piece-requires-clause-room
write_piece-requires-clause-room g c = let same = ap (λ (h : GridState). h.layout.block_size) c.loop-index.invariant.grid in
    let kept = kept_layout c.args.capture.now.sequence (text_in c.args.grid.now c.args.capture.now) c.args.grid.now c.loop-index.index in
    subst (λ (n : ℕ). n - 256 ≤ length c.loop-index.room)
    (sym (same ∙ ap (λ (l : Layout). l.block_size) kept)) (omega (arith, c.requires.room, c.loop-index.invariant.room))

pub returns-in-Err-clause-events : goal.returns-in-Err-clause-events
returns-in-Err-clause-events g c =
    let inside : c.loop-index.index ≤ length c.args.grid.now.blocks.left = omega (arith, c.requires.begun.left, c.loop-index-test.true) in
    piece_fails c.args.capture.now.sequence (text_in c.args.grid.now c.args.capture.now) c.args.grid.now.layout
    c.args.grid.now (g.B.Disk.told c.args.to.now) (g.B.Disk.told c.loop-index.to) (g.B.Disk.told c.write_piece.new.disk) c.loop-index.index
    c.args.blocks c.loop-index-test.true c.loop-index.invariant.events
    (subst (λ (es : List Event). AddsPart es (g.B.Disk.told c.loop-index.to) (g.B.Disk.told c.write_piece.new.disk)) (its_events c.args.grid.now c.args.capture.now c.loop-index.index c.requires.begun.written inside c.loop-index.grid c.loop-index.invariant.grid) (c.in-Err.ensures {u = tt}).events)

pub returns-in-Err-clause-layout : goal.returns-in-Err-clause-layout
returns-in-Err-clause-layout g c = ap (λ (h : GridState). h.layout) ((c.in-Err.ensures {u = tt}).failed ∙ c.loop-index.invariant.grid)
    ∙ kept_layout c.args.capture.now.sequence (text_in c.args.grid.now c.args.capture.now) c.args.grid.now c.loop-index.index

pub loop-index-preserved : goal.loop-index-preserved
loop-index-preserved g c =
    let inside : c.loop-index.index ≤ length c.args.grid.now.blocks.left = omega (arith, c.requires.begun.left, c.loop-index-test.true) in
    let ok = c.in-Ok.ensures {u = tt} in record {
      grid = ok.written ∙ its_next c.args.grid.now
          c.args.capture.now c.loop-index.index c.requires.begun.written inside c.loop-index.grid c.loop-index.invariant.grid;
      events = piece_added c.args.capture.now.sequence (text_in c.args.grid.now c.args.capture.now) c.args.grid.now.layout c.args.grid.now
          (g.B.Disk.told c.args.to.now) (g.B.Disk.told c.loop-index.to) (g.B.Disk.told c.write_piece.new.disk) c.loop-index.index
          c.loop-index.invariant.events (ok.events ∙ ap (λ (es : List Event). after_all es (g.B.Disk.told c.loop-index.to)) (its_events c.args.grid.now c.args.capture.now c.loop-index.index c.requires.begun.written inside c.loop-index.grid c.loop-index.invariant.grid));
      room = ok.room ∙ c.loop-index.invariant.room;
      faults = ok.cause.same ∙ c.loop-index.invariant.faults;
    }

pub returns-clause-layout : goal.returns-clause-layout
returns-clause-layout g c = ap (λ (h : GridState). h.layout) c.loop-index.invariant.grid
    ∙ kept_layout c.args.capture.now.sequence (text_in c.args.grid.now c.args.capture.now) c.args.grid.now c.loop-index.index
