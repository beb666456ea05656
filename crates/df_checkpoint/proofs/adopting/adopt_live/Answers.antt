-- A block that is referenced is adopted at a free address.
use Rattle.{std.proofs.Common.{◌≤◌, ◌∙◌, arith, sym, ap, subst, true}, df_layout.specs.declared.layout.Layout.{Layout}}
use Rattle.{df_model.specs.Blocks.{Blocks}, df_units.specs.Meaning.{number_of}, df_trailer.specs.Reading.{kept_at}}
use Rattle.df_grid.specs.{Grid.{GridState, with_blocks}, Table.{adopted}}
use Rattle.df_checkpoint.{proofs.Adopted.{live_next, live_same, live_unheld}}
use Rattle.df_checkpoint.proofs.adopting.adopt_live.Goals as goal

pub adopt-requires-clause-free : goal.adopt-requires-clause-free
adopt-requires-clause-free c = let i = c.loop-address.invariant in let within : c.loop-address.address ≤ c.args.grid.now.layout.blocks =
    omega (arith, c.loop-address-test, c.from-last.ensures, ap (λ (l : Layout). l.blocks) c.layout.ensures) in
    live_unheld c.loop-address.grid (kept_at c.args.reader.now) c.loop-address.address
    (omega (arith, c.loop-address.auto), subst (λ (h : GridState). c.loop-address.address ≤ h.layout.blocks) (sym i.grid) within)
    (ap (λ (h : GridState). h.blocks) i.grid)

pub loop-address-preserved : goal.loop-address-preserved
loop-address-preserved c = let i = c.loop-address.invariant in let k = number_of c.in-Some.checksum in record {
  grid = c.adopt.ensures ∙ ap (λ (h : GridState). with_blocks h (adopted h.blocks true c.loop-address.address k)) i.grid
      ∙ ap (λ (b : Blocks). with_blocks c.args.grid.now b)
      (live_next (kept_at c.args.reader.now) c.loop-address.address k (omega (arith, c.loop-address.auto)) (sym c.in-Some.ensures.value));
  count = omega (arith, i.count, c.in-Some.ensures.more);
  few = omega (arith, c.in-Some.ensures.few);
}

pub loop-address-preserved-in_default : goal.loop-address-preserved-in_default
loop-address-preserved-in_default c = let i = c.loop-address.invariant in record {
  grid = i.grid ∙ ap (λ (b : Blocks). with_blocks c.args.grid.now b)
      (live_same (kept_at c.args.reader.now) c.loop-address.address (omega (arith, c.loop-address.auto)) (sym c.in_default.ensures.value));
  count = sym c.in_default.ensures.same;
  few = omega (arith, i.few);
}
