-- What the room holds is what the machine reads.
use Rattle.{std.proofs.Common.{◌≡◌, ◌∙◌, ℕ, Bool, Option, None, Some, refl, ap, subst}, df_disk.specs.Told.{Told}}
use Rattle.{df_layout.specs.declared.{damage.Class.{Class}, layout.Layout.{Layout}}, df_buffers.specs.Sounds.{Holding}}
use Rattle.{df_model.specs.{Blocks.{sum_at}, Refusals.{first_refusal, read_refusals}}, df_grid.specs.Reads.{HoldsKnown, Loads}}
use Rattle.df_model.specs.declared.reading.ReadError.TheVariants as read
use Rattle.df_opening.specs.Below.{FitsGrid, Parts, State, memory, state_in}
use Rattle.df_replica.{specs.Stopping.{stopped}, proofs.{BlockReadCalls.{LoadsBlock, block_refused, block_stopped, is_live, lends_block, not_live, tells_block}, Lent.{lends_written_block}}}
use Rattle.df_replica.proofs.replica.Replica.read_block.Goals as goal

pub returns-then-is_none : goal.returns-then-is_none
returns-then-is_none g c = let told = g.D.Disk.told c.args.disk.now in let v = c.args.self.now in
    let some = subst (λ (s : State). first_refusal (read_refusals (memory s) c.args.address) ≡ Some read.NotLive) c.self.view_is (not_live
    (state_in c.self.inside.parts) c.args.address c.live.result c.is_none.result c.live.ensures c.is_none.ensures c.if-is_none.true) in (
      (refl, (λ _. tt), c.self.view_is),
      record { after = tt; exact = some; lent = tt; written = tt; call = block_refused v c.args.address c.requires.live told read.NotLive some; same = refl; cause = refl },
    )

pub returns-in-Err : goal.returns-in-Err
returns-in-Err g c = let told = g.D.Disk.told c.args.disk.now in let v = c.args.self.now in
    let none = subst (λ (s : State). first_refusal (read_refusals (memory s) c.args.address) ≡ None) c.self.view_is (is_live
    (state_in c.self.inside.parts) c.args.address c.live.result c.is_none.result c.live.ensures c.is_none.ensures c.if-is_none.false) in (
      (refl, (λ _. tt), ap (λ (b : Bool). record (state_in c.self.inside.parts) { live = b }) c.end_calls.ensures ∙ ap stopped c.self.view_is),
      record {
        after = tt;
        exact = none;
        lent = tt;
        written = tt;
        call = block_stopped v c.args.address c.requires.live told (stopped v) refl;
        same = c.load.ensures.same;
        cause = (c.in-Err.ensures.cause.later, c.in-Err.ensures.cause.failed);
      },
    )

-- what a load of the grid came to is said of the state that the parts are seen as
found : (p : Parts) (v : State) (a : ℕ) (told : Option Told) (wrong : Option Class) (held : Option Holding)
    → state_in p ≡ v → FitsGrid p.file p.grid.layout p.grid.cluster → first_refusal (read_refusals (memory (state_in p)) a) ≡ None
    → Loads p.grid.layout p.grid.cluster told a (sum_at a p.grid.blocks.live) wrong held
    → HoldsKnown p.grid.layout p.grid.cluster a (sum_at a p.grid.blocks.live) wrong held → LoadsBlock v a told wrong held
found p v a told wrong held view fits none loads valid = let sum = sum_at a p.grid.blocks.live in
    subst (λ (s : State). LoadsBlock s a told wrong held) view (record {
      none = none;
      loads = subst (λ (n : ℕ). Loads p.file.layout n told a sum wrong held) fits.grid_named
          (subst (λ (l : Layout). Loads l p.grid.cluster told a sum wrong held) fits.grid_fits loads);
      valid = subst (λ (n : ℕ). HoldsKnown p.file.layout n a sum wrong held) fits.grid_named
          (subst (λ (l : Layout). HoldsKnown l p.grid.cluster a sum wrong held) fits.grid_fits valid);
    })

pub returns-in-Some : goal.returns-in-Some
returns-in-Some g c = let told = g.D.Disk.told c.args.disk.now in let none = is_live
    (state_in c.self.inside.parts) c.args.address c.live.result c.is_none.result c.live.ensures c.is_none.ensures c.if-is_none.false in
    let load = found c.self.inside.parts
    c.args.self.now c.args.address told _ _ c.self.view_is c.self.invariant.grid none c.in-Ok.ensures.loads c.in-Ok.ensures.valid in
    let tells = tells_block c.args.self.now
    c.args.address c.requires.live told _ _ load c.in-Some.class c.block_place.result c.in-Some.is c.block_place.ensures in (
      (refl, (λ _. tt), c.self.view_is),
      record { after = tt; exact = tells.exact; lent = tt; written = tt; call = tells.call; same = c.load.ensures.same; cause = c.in-Ok.ensures.cause.same },
    )

pub returns-in-None : goal.returns-in-None
returns-in-None g c = let v = c.args.self.now in let a = c.args.address in let told = g.D.Disk.told c.args.disk.now in
    let none = is_live (state_in c.self.inside.parts) a c.live.result c.is_none.result c.live.ensures c.is_none.ensures c.if-is_none.false in
    let load = found c.self.inside.parts v a told _ _ c.self.view_is c.self.invariant.grid none c.in-Ok.ensures.loads c.in-Ok.ensures.valid in
    let lends = lends_block v a c.requires.live told _ _ load c.unit.result.now c.in-None.is c.unit.ensures in
    let written = lends_written_block a v _ told lends.exact in (
      (refl, (λ _. tt), c.self.view_is),
      record { after = tt; exact = lends.exact; lent = lends.known; written = written; call = lends.call; same = c.load.ensures.same; cause = c.in-Ok.ensures.cause.same },
    )
