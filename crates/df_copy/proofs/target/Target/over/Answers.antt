-- The rooms hold no block and no checksum.
use Rattle.{std.proofs.Common.{refl, ap, ◌∙◌}, df_layout.specs.declared.layout.Layout.{Layout}}
use Rattle.{df_format.specs.{Spelling.{no_checksum}, Super.{no_checksums}}, df_grid.specs.{Grid.{GridState}, Table.{no_blocks}}}
use Rattle.df_copy.proofs.target.Target.over.Goals as goal

pub returns : goal.returns
unfolding no_checksum no_checksums
returns c = let at : Layout → GridState = λ l. record { layout = l; cluster = c.args.cluster; boot = 0; blocks = no_blocks } in
    record { layout_is = refl; grid = c.into_grid.ensures ∙ ap at c.into_parts-log.ensures.grid; checks = refl; copied = refl }
