-- The block is made at the next address, which is free.
use Rattle.{std.proofs.Common.{◌≡◌, ℕ, ◌+◌, false, List, length, refl, sym, ap, ◌∙◌, arith}, df_grid.specs.Grid.{GridState}}
use Rattle.{df_layout.specs.declared.layout.Layout.{Layout}, df_format.specs.{declared.header.Header.{Header}, Message.{Message}}}
use Rattle.{df_model.specs.Blocks.{is_held_in}, df_replica.specs.Blocks.{MayPut}}
use Rattle.df_copy.{specs.{declared.target.Target.{Target}, Targets.{IsTarget}, Units.{moved_from}}, proofs.{Frees.{held_behind}, Listed.{moved_length}, Units.{at_address, may_put_block}}}
use Rattle.df_copy.proofs.blocks.put_block.Goals as goal

-- the next address isn't held
next_free : (layout : Layout) (cluster : ℕ) (rs bs : List Message) (t : Target)
    → IsTarget layout cluster rs bs t → is_held_in t.grid.blocks (t.copied + 1) ≡ false
next_free layout cluster rs bs t is = ap (λ (g : GridState). is_held_in g.blocks (t.copied + 1)) is.grid
    ∙ held_behind (moved_from 1 bs) (t.copied + 1) (omega (arith, is.copied, moved_length 1 bs))

pub put_made-done-requires : goal.put_made-done-requires
put_made-done-requires g c = let t : Target = c.args.target.now in let u : Message = c.args.unit.now.unit in
    let of_layout = ap (λ (l : Layout). l.blocks) t.grid_fits in let size : c.header.result.now.size ≡ 256 + length u.body =
    ap (λ (h : Header). h.size) c.header.ensures.header ∙ c.requires.unit.is.body.size in
    let room = ap (λ (l : Layout). l.block_size) t.grid_fits in let may =
    may_put_block t.grid.cluster c.args.address u c.requires.unit t.trailer.block.layout t.grid
    (t.copied + 1) (t.trailer.block_fits ∙ t.trailer_fits ∙ sym t.grid_fits) refl (omega arith, omega (arith, of_layout, c.requires.room))
    (next_free t.layout c.requires.begun.0 c.requires.begun.1 c.requires.begun.2 t c.requires.begun.3) (omega (arith, size, room)) in
    record {
      may = rw (sym c.body.ensures) at
          (rw (sym (c.moved_to-header.ensures ∙ ap (at_address (t.copied + 1)) c.header-2.ensures.header)) at may);
    }
