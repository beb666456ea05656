-- The reader is given the body of the block that is shown, and what it refuses is a bad field.
use Rattle.{std.proofs.Common.{◌∙◌, ℕ, List, ap, subst}, df_checkpoint.{specs.Texts.{Feeds, bad_of}, proofs.Fed.{fed_answer, fed_blames}}}
use Rattle.df_checkpoint.proofs.reading.feed_block.Goals as goal

pub returns-in-Ok-Ok-clause-fed : goal.returns-in-Ok-Ok-clause-fed
returns-in-Ok-Ok-clause-fed g c = let feeds : Feeds c.args.reader.now c.feed.new.self c.body.result.now c.as_bad.result = record {
  size = c.feed.ensures.size;
  kept = c.feed.ensures.kept;
  given = c.feed.result;
  is = c.as_bad.ensures;
  refuses = λ layout op text read. c.as_bad.ensures ∙ ap bad_of (c.feed.ensures.refusal layout op text read);
} in fed_answer c.args.grid.now (g.D.Disk.told c.args.disk.now)
    c.args.at c.reference.result c.args.reader.now c.feed.new.self c.in-Ok-Ok.unit.now.unit c.as_bad.result c.reference.ensures
    (rw c.in-Ok-Ok.field-0-is at c.in-Ok-Ok.ensures.block)
    (subst (λ (l : List ℕ). Feeds c.args.reader.now c.feed.new.self l c.as_bad.result) c.body.ensures feeds)

pub returns-in-Ok-Ok-clause-cause : goal.returns-in-Ok-Ok-clause-cause
returns-in-Ok-Ok-clause-cause g c = fed_blames (g.D.Disk.faults c.args.disk.now) (g.D.Disk.faults c.show_trailer.new.disk)
    c.as_bad.result c.feed.result c.in-Ok-Ok.ensures.cause.same c.as_bad.ensures
