-- The chain, the text and what the grid adopts, one after the other.
use Rattle.{std.{proofs.Common.{◌-◌, ◌∙◌, subst}, specs.Prelude.{Err, Ok}}, df_layout.specs.declared.layout.Layout.{Layout}}
use Rattle.df_theory.specs.Trailer.{IsCount}
use Rattle.df_checkpoint.proofs.{Adopted.{adopted_idle}, Complete.{found_answer}, ReadWhole.{adopt_same, chain_adopted, chain_refused, found_same, fresh_size, text_refused, text_same}}
use Rattle.df_checkpoint.proofs.reading.read_chain.Goals as goal

pub returns-in-Err-clause-answer : goal.returns-in-Err-clause-answer
returns-in-Err-clause-answer g c = λ sh same parse.
    chain_refused c.args.grid.now c.walk.new.grid (g.D.Disk.told c.args.disk.now) c.args.content.now c.args.reader.now c.in-Err.fault sh
    (found_same c.args.grid.now (g.D.Disk.told c.args.disk.now) c.args.content.now c.fields-content.result.now (Err c.in-Err.fault)
    sh c.fields-content.ensures.value
    (found_answer c.args.grid.now (g.D.Disk.told c.args.disk.now) c.fields-content.result.now c.block_count-count.result
    (Err c.in-Err.fault)
    (subst (λ (l : Layout). IsCount (l.block_size - 256) c.fields-content.result.now.trailer_size c.block_count-count.result)
    c.layout.ensures c.block_count-count.ensures) c.in-Err.ensures.apart c.in-Err.ensures.walked sh same))

pub read_text-requires-clause-fresh : goal.read_text-requires-clause-fresh
read_text-requires-clause-fresh g c = fresh_size c.args.grid.now.layout c.args.content.now.op c.args.reader.now c.requires.fresh

pub returns-in-Err-read_text-clause-answer : goal.returns-in-Err-read_text-clause-answer
returns-in-Err-read_text-clause-answer g c = λ sh same parse. text_refused c.args.grid.now c.read_text.new.grid
    (g.D.Disk.told c.args.disk.now) c.args.content.now c.in-Ok.blocks.items c.read_text.new.reader c.in-Err-read_text.fault sh same
    (found_same c.args.grid.now (g.D.Disk.told c.args.disk.now) c.args.content.now c.fields-content.result.now (Ok c.in-Ok.blocks)
    sh c.fields-content.ensures.value
    (found_answer c.args.grid.now (g.D.Disk.told c.args.disk.now) c.fields-content.result.now c.block_count-count.result (Ok c.in-Ok.blocks)
    (subst (λ (l : Layout). IsCount (l.block_size - 256) c.fields-content.result.now.trailer_size c.block_count-count.result)
    c.layout.ensures c.block_count-count.ensures) c.in-Ok.ensures.apart c.in-Ok.ensures.walked sh same))
    (text_same c.args.grid.now c.walk.new.grid (g.D.Disk.told c.args.disk.now) (g.D.Disk.told c.walk.new.disk)
    c.in-Ok.blocks.items c.deref.result.now c.args.content.now.op c.args.reader.now c.read_text.new.reader (Err c.in-Err-read_text.fault)
    c.in-Ok.ensures.grid c.in-Ok.ensures.same c.deref.ensures.0 c.in-Err-read_text.ensures.text c.requires.fresh)

pub returns-in-Ok-read_text-clause-answer : goal.returns-in-Ok-read_text-clause-answer
returns-in-Ok-read_text-clause-answer g c = λ sh same parse.
    chain_adopted c.args.grid.now c.adopt.new.grid (g.D.Disk.told c.args.disk.now) c.args.content.now c.in-Ok.blocks.items c.read_text.new.reader c.adopt.result sh same parse c.requires.file c.fields-content.ensures.usable.rules c.requires.named c.in-Ok.ensures.apart
    (found_same c.args.grid.now (g.D.Disk.told c.args.disk.now) c.args.content.now c.fields-content.result.now (Ok c.in-Ok.blocks)
    sh c.fields-content.ensures.value
    (found_answer c.args.grid.now (g.D.Disk.told c.args.disk.now) c.fields-content.result.now c.block_count-count.result (Ok c.in-Ok.blocks)
    (subst (λ (l : Layout). IsCount (l.block_size - 256) c.fields-content.result.now.trailer_size c.block_count-count.result)
    c.layout.ensures c.block_count-count.ensures) c.in-Ok.ensures.apart c.in-Ok.ensures.walked sh same))
    (text_same c.args.grid.now c.walk.new.grid (g.D.Disk.told c.args.disk.now) (g.D.Disk.told c.walk.new.disk)
    c.in-Ok.blocks.items c.deref.result.now c.args.content.now.op c.args.reader.now c.read_text.new.reader (Ok c.in-Ok-read_text.field-0)
    c.in-Ok.ensures.grid c.in-Ok.ensures.same c.deref.ensures.0 c.in-Ok-read_text.ensures.text c.requires.fresh)
    (adopt_same
    c.args.grid.now c.read_text.new.grid c.adopt.new.grid c.in-Ok.blocks.items c.deref-in-Ok-read_text.result.now c.read_text.new.reader
    c.adopt.result (c.in-Ok-read_text.ensures.grid ∙ c.in-Ok.ensures.grid) c.deref-in-Ok-read_text.ensures.0 c.adopt.ensures.answer)

pub returns-in-Ok-read_text-clause-idle : goal.returns-in-Ok-read_text-clause-idle
returns-in-Ok-read_text-clause-idle g c = adopted_idle
    c.read_text.new.grid c.adopt.new.grid c.read_text.new.reader c.deref-in-Ok-read_text.result.now c.adopt.result c.adopt.ensures.answer
