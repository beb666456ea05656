-- None of the chain is held by the blocks that are referenced.
use Rattle.{std.{proofs.Common.{◌+◌, ◌∙◌, ap, refl}, specs.Prelude.{Err}}, df_model.specs.Blocks.{is_held_in}}
use Rattle.{df_trailer.specs.Reading.{kept_at}, df_grid.specs.Grid.{GridState}}
use Rattle.df_checkpoint.{specs.{declared.fault.TrailerFault.{TrailerFault}, Adopting.{AdoptAnswer}}, proofs.{Adopted.{apart_same, live_free}, Referenced.{among_inside, first_refused}}}
use Rattle.df_checkpoint.proofs.adopting.adopt.Goals as goal

pub first_referenced-requires : goal.first_referenced-requires
first_referenced-requires c = record { bits = λ a among. let inside = among_inside c.args.grid.now c.args.blocks.now a c.requires.apart among in c.requires.bits a inside.0 inside.1 }

pub adopt_chain-requires-clause-apart : goal.adopt_chain-requires-clause-apart
adopt_chain-requires-clause-apart c = apart_same
    c.args.grid.now c.adopt_live.new.grid c.args.blocks.now (ap (λ (g : GridState). g.layout) c.adopt_live.ensures) c.requires.apart

pub adopt_chain-requires-clause-free : goal.adopt_chain-requires-clause-free
adopt_chain-requires-clause-free c = λ a among. ap (λ (g : GridState). is_held_in g.blocks a) c.adopt_live.ensures
    ∙ live_free (kept_at c.args.reader.now) (c.args.grid.now.layout.blocks + 1) a (λ less some. c.in-None.ensures a among)

pub returns-in-Some-clause-answer : goal.returns-in-Some-clause-answer
returns-in-Some-clause-answer c = rw c.broken.ensures
    (refl, record { layout = refl; cluster = refl; boot = refl }, first_refused c.args.grid.now c.args.reader.now c.args.blocks.now c.in-Some.address c.requires.apart c.in-Some.ensures)
