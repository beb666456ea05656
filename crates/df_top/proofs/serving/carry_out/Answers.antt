-- A word that executes a script is served by its pace; no other one reads it.
use Rattle.{std.proofs.Common.{◌≡◌, refl, sym, ◌∙◌, subst}, df_pace.specs.Beats.{idle}}
use Rattle.df_top.specs.{Mode.{ReadsScript}, Outside.{Outside, around, seen}, Run.{ServesIn}, declared.mode.Mode.{Mode}, declared.mode.Mode.TheVariants.{Run, Inspect, Paced}}
use Rattle.df_top.proofs.serving.carry_out.Goals as goal

pub returns-in-Run : goal.returns-in-Run
returns-in-Run g c = let old : Outside = seen g.D.Disk.told g.S.Source.left g.W.Sink.written c.args.outside in
    let new : Outside = around (g.D.Disk.told c.serve_file.new.outside.0)
    (g.S.Source.left c.serve_file.new.outside.1.0) (g.W.Sink.written c.serve_file.new.outside.1.1.0) in record {
      serves = rw c.in-Run.is (c.serve_file.ensures.serves Run c.idle.ensures);
      inspects = λ is. absurd (let no : Run ≡ Inspect = sym c.in-Run.is ∙ is in cc);
      unread = λ no. absurd (no (subst ReadsScript (sym c.in-Run.is) (idle, refl)));
      causes = c.serve_file.ensures.causes;
      ends = c.serve_file.ensures.ends;
    }

pub returns-in-Paced : goal.returns-in-Paced
returns-in-Paced g c = record {
  ends = c.serve_file-in-Paced.ensures.ends;
  causes = c.serve_file-in-Paced.ensures.causes;
  unread = λ no. absurd (no (subst ReadsScript (sym c.in-Paced.is) (c.in-Paced.pace, refl)));
  inspects = λ is. absurd (let no : Paced c.in-Paced.pace ≡ Inspect = sym c.in-Paced.is ∙ is in cc);
  serves = rw c.in-Paced.is (c.serve_file-in-Paced.ensures.serves (Paced c.in-Paced.pace) refl);
}

pub returns-in_default : goal.returns-in_default
returns-in_default g c = record {
  serves = c.work_on.ensures.serves (g.S.Source.left c.args.outside.source.now);
  inspects = c.work_on.ensures.inspects;
  unread = λ no. refl;
  causes = c.work_on.ensures.causes (g.S.Source.faults c.args.outside.source.now);
  ends = c.work_on.ensures.ends;
}
