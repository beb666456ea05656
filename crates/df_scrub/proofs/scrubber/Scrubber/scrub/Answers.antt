-- Each check leaves less to be checked, and lists what it found; at the end nothing is left.
use Rattle.{std.proofs.Common.{◌<◌, refl, ◌∙◌, sym, subst, length, vec_len, arith}, df_grid.specs.Grid.{GridState}}
use Rattle.df_model.specs.declared.answers.Scrubbed.TheVariants.{Checked}
use Rattle.df_scrub.{specs.Scrubber.{left_in}, proofs.Touring.{begins, fewer, goes_on, has_room, same_step}}
use Rattle.df_scrub.proofs.scrubber.Scrubber.scrub.Goals as goal

pub loop-address-init : goal.loop-address-init
loop-address-init g c = record {
  touring = begins c.args.grid.now (g.D.Disk.told c.args.disk.now) c.args.self.now c.begin.new.self
      c.clear.new.self.items (vec_len c.clear.new.self) c.begin.ensures.begun c.begin.ensures.few c.clear.ensures.items c.clear.ensures.len;
  room = c.clear.ensures.capacity;
  grid = refl;
  same = refl;
  faults = refl;
}

pub list-requires : goal.list-requires
list-requires g c = let now = c.loop-address in
    let step = same_step c.args.grid.now now.grid (g.D.Disk.told c.args.disk.now) (g.D.Disk.told now.disk) now.self c.step.new.self c.in_ok-address.field-0 (Checked c.in-Checked.address c.in-Checked.verdict) now.invariant.grid now.invariant.same c.in-Checked.is c.in_ok-address.ensures.step in
    let room : vec_len now.report < c.args.grid.now.layout.blocks = has_room c.args.grid.now (g.D.Disk.told c.args.disk.now) c.args.self.now.findings now.self c.step.new.self now.report.items (vec_len now.report) c.in-Checked.address c.in-Checked.verdict now.invariant.touring step in
    omega (arith, room, now.invariant.room, c.requires.room)

pub loop-address-smaller : goal.loop-address-smaller
loop-address-smaller g c = let now = c.loop-address in
    let step = same_step now.grid now.grid (g.D.Disk.told now.disk) (g.D.Disk.told now.disk) now.self c.step.new.self
    c.in_ok-address.field-0 (Checked c.in-Checked.address c.in-Checked.verdict) refl refl c.in-Checked.is c.in_ok-address.ensures.step in
    subst (λ (k : GridState). length (left_in k c.step.new.self) < length (left_in now.grid now.self)) (sym c.step.ensures.grid)
    (fewer now.grid (g.D.Disk.told now.disk) now.self c.step.new.self c.in-Checked.address c.in-Checked.verdict step)

pub loop-address-preserved : goal.loop-address-preserved
loop-address-preserved g c = let now = c.loop-address in
    let step = same_step c.args.grid.now now.grid (g.D.Disk.told c.args.disk.now) (g.D.Disk.told now.disk) now.self c.step.new.self c.in_ok-address.field-0 (Checked c.in-Checked.address c.in-Checked.verdict) now.invariant.grid now.invariant.same c.in-Checked.is c.in_ok-address.ensures.step in
    record {
      touring = goes_on c.args.grid.now (g.D.Disk.told c.args.disk.now) c.args.self.now.findings now.self c.step.new.self now.report.items
          c.list.new.report.items (vec_len now.report) (vec_len c.list.new.report) c.in-Checked.address c.in-Checked.verdict
          now.invariant.touring step c.list.ensures.list c.list.ensures.len;
      room = c.list.ensures.room ∙ now.invariant.room;
      grid = c.step.ensures.grid ∙ now.invariant.grid;
      same = c.step.ensures.same ∙ now.invariant.same;
      faults = c.in_ok-address.ensures.cause.same ∙ now.invariant.faults;
    }
