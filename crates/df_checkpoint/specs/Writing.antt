-- The piece of a checkpoint's text that is written next, and the trailer block over it.
use Rattle.std.specs.Prelude.{ℕ, ◌-◌, List}
use Rattle.df_base.specs.declared.TheConstants.{HEADER}
use Rattle.df_format.specs.Message.{Message}
use Rattle.df_model.specs.Blocks.{sum_at}
use Rattle.df_units.specs.Meaning.{layout_of}
use Rattle.df_trailer.specs.{Spelling.{spell}, Writing.{captured_parts, piece_of}}
use Rattle.df_grid.specs.{Grid.{GridState}, Writes.{next_unit}}
use Rattle.df_checkpoint.specs.declared.capture.Capture.{Capture}

-- the text of what was captured: of the grid's blocks those that are marked
abbrev pub text_in : GridState → Capture → List ℕ
text_in g capture = spell (layout_of g.layout) (captured_parts capture.root.items capture.sessions.items (λ a. sum_at a g.blocks.captured))

-- the piece with an index: a block's body, or what is left for the last one
abbrev pub piece_in : GridState → Capture → ℕ → List ℕ
piece_in g capture index = piece_of (g.layout.block_size - HEADER) index (text_in g capture)

-- the running trailer's next block over it
abbrev pub unit_in : GridState → Capture → ℕ → Message
unit_in g capture index = next_unit g capture.sequence (piece_in g capture index)
