-- A line that is refused does nothing.
use Rattle.{std.proofs.Common.{◌≡◌, ◌∙◌, Some, ap, refl, sym}, df_rows.specs.{Answers.{refusal_of}, Grammar.{said_with}, Lines.{line_in}}}
use Rattle.df_table.proofs.{Behind.{told_executes}, Executed.{line_back, refused_none, refused_text}}
use Rattle.df_table.proofs.turns.execute.Goals as goal

pub perform-requires : goal.perform-requires
perform-requires g c = record { serving = c.requires.serving; size = c.requires.size; fine = sym c.refusal.ensures ∙ c.in-None.is }

pub returns-in-Some-clause-executes : goal.returns-in-Some-clause-executes
returns-in-Some-clause-executes g c = let s = c.args.session.now in let said = said_with s.lines.body c.args.line in
    let is : refusal_of s.table (line_in said) ≡ Some c.in-Some.refusal =
    ap (refusal_of s.table) (line_back s.lines.body c.args.line c.requires.size) ∙ sym c.refusal.ensures ∙ c.in-Some.is in
    told_executes s.layout said s (g.D.Disk.told c.args.disk.now) (g.W.Sink.written c.args.sink.now) (g.W.Sink.written c.print_answer.new.sink) _ c.printed.result (refused_none s.table said c.in-Some.refusal is) (refused_text s.table s.replica.head said c.in-Some.refusal is)
    (c.printed.ensures.prints _ _ _ c.print_answer.ensures.prints) c.requires.serving.1.live

pub returns-in-Some-clause-disk : goal.returns-in-Some-clause-disk
returns-in-Some-clause-disk g c = c.printed.ensures.others _ _ _ (λ no. cc) refl
