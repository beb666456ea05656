-- The trailer is begun after the blocks, and its pieces are written.
use Rattle.{std.proofs.Common.{◌≡◌, ◌∙◌, List, length, take, ap, arith, refl}, df_base.specs.Log.{Event}, df_opening.specs.Below.{memory}}
use Rattle.{df_disk.specs.Adds.{AddsPart, after_all}, df_format.specs.{declared.superblock.SuperFields.{SuperFields}, Message.{Message}}}
use Rattle.{df_model.specs.Blocks.{blocks_captured}, df_grid.specs.Grid.{GridState, free_addresses, with_blocks}}
use Rattle.df_copy.{specs.{Tests.{trailer_blocks, trailer_size}, Targets.{begun_grid}, Units.{moved_from}}, proofs.{Trailing.{enough_free, left_all, own_events, own_last, own_left}, Usables.{size_to, trailer_count}}}
use Rattle.df_copy.proofs.trailer.write_trailer.Goals as goal

pub capture-requires-clause-free : goal.capture-requires-clause-free
capture-requires-clause-free g c = let t = c.args.target.now in let begun = c.requires.begun in
    let enough = enough_free t.layout c.args.replica.now begun.1 begun.3 c.requires.room in let grid =
    ap (λ (h : GridState). length (free_addresses h)) c.set_boot.ensures ∙ ap (λ (h : GridState). length (free_addresses h)) begun.2.grid in
    omega (arith, enough, grid, c.requires.plan.blocks)

pub write_pieces-requires-clause-begun : goal.write_pieces-requires-clause-begun
write_pieces-requires-clause-begun g c = let t = c.args.target.now in let s = c.args.replica.now in
    let us : List Message = moved_from 1 c.requires.begun.1 in let boot = c.fields.result.now.boot in
    let whole : c.capture.new.self ≡ begun_grid t.grid boot c.args.plan.blocks =
    c.capture.ensures
    ∙ ap (λ (h : GridState). with_blocks h (blocks_captured h.blocks (take c.args.plan.blocks (free_addresses h)))) c.set_boot.ensures in
    let few = c.chains_have_room.ensures t.layout (trailer_size t.layout (memory s)) (trailer_blocks t.layout (memory s))
    (size_to t.layout s c.fields.ensures.state.root c.requires.ready.fits c.requires.room) (trailer_count t.layout s) in record {
      left =
          own_left t.layout s us t.grid c.capture.new.self c.capture_of-capture.result boot c.args.plan.blocks whole c.requires.begun.2.grid
          (ap (λ (f : SuperFields). f.boot) c.fields.ensures.value) c.requires.plan.blocks c.capture_of-capture.ensures.sequence
          c.capture_of-capture.ensures.root
          c.capture_of-capture.ensures.sessions (left_all t.layout s c.requires.begun.1 c.requires.begun.3 c.requires.room);
      written = ap (λ (h : GridState). h.blocks.written) whole;
      few = omega (arith, few, c.requires.plan.blocks);
    }

pub returns-in-Ok-clause-trailer : goal.returns-in-Ok-clause-trailer
returns-in-Ok-clause-trailer g c = λ rs bs is. let t = c.args.target.now in let s = c.args.replica.now in
    let us : List Message = moved_from 1 bs in let n = c.args.plan.blocks in let boot = c.fields.result.now.boot in
    let capture = c.capture_of-capture.result in let took = c.capture_of-capture.ensures in let begun = c.capture.new.self in
    let old = g.B.Disk.told c.args.to.now in let whole : begun ≡ begun_grid t.grid boot n =
    c.capture.ensures ∙ ap (λ (h : GridState). with_blocks h (blocks_captured h.blocks (take n (free_addresses h)))) c.set_boot.ensures in
    let booted = ap (λ (f : SuperFields). f.boot) c.fields.ensures.value in let ok = c.in-Ok.ensures {u = tt} in
    let first = c.requires.begun in let left = own_left t.layout s (moved_from 1 first.1) t.grid begun capture boot n whole first.2.grid
    booted c.requires.plan.blocks took.sequence took.root took.sessions (left_all t.layout s first.1 first.3 c.requires.room) in record {
      events = ok.events ∙ ap (λ (es : List Event). after_all es old) (own_events
          t.layout s us t.grid begun capture boot n whole is.grid booted c.requires.plan.blocks took.sequence took.root took.sessions);
      written = record {
        layout_is = refl;
        last = own_last t.layout s us t.grid begun capture boot n whole is.grid booted c.requires.plan.blocks
            took.sequence took.root took.sessions (omega (arith, c.if-plan-eq0.false)) left c.write_pieces.new.grid ok.grid;
        checks = is.checks;
      };
    }

pub returns-in-Err-clause-trailer : goal.returns-in-Err-clause-trailer
returns-in-Err-clause-trailer g c = λ rs bs is. let t = c.args.target.now in let s = c.args.replica.now in let n = c.args.plan.blocks in
    let boot = c.fields.result.now.boot in let took = c.capture_of-capture.ensures in let begun = c.capture.new.self in
    let whole : begun ≡ begun_grid t.grid boot n =
    c.capture.ensures ∙ ap (λ (h : GridState). with_blocks h (blocks_captured h.blocks (take n (free_addresses h)))) c.set_boot.ensures in
    record {
      events = rw
          (own_events t.layout s (moved_from 1 bs) t.grid begun c.capture_of-capture.result boot n whole is.grid (ap (λ (f : SuperFields). f.boot) c.fields.ensures.value) c.requires.plan.blocks took.sequence took.root took.sessions) at (c.in-Err.ensures {u = tt}).events;
      written = tt;
    }
