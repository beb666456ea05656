-- The line is printed, and the status is that of the count.
use Rattle.{std.proofs.Common.{subst}, df_script_model.specs.Texts.{scrubbed_text}}
use Rattle.df_model.specs.declared.answers.Scrubbed.TheVariants as scrubs
use Rattle.df_top.specs.{Outside.{PrintsLine}, declared.status.Status.{Status}}
use Rattle.df_top.proofs.scrubbing.end_tour.Goals as goal

pub returns-clause-prints : goal.returns-clause-prints
returns-clause-prints g c = let old = g.W.Sink.written c.args.sink.now in let new = g.W.Sink.written c.print_tour.new.sink in
    rw c.listed.ensures.is at (c.ended.ensures.writes _ old new c.print_tour.ensures.prints)
