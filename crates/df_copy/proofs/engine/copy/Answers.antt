-- The words name a layout, and no other one, or none.
use Rattle.{std.proofs.Common.{map, string_bytes, subst}, df_layout.specs.declared.layout.Layout.{Layout}, df_program.specs.Two.{around}}
use Rattle.df_copy.{specs.Run.{RunsCopy}, proofs.Ended.{one_meaning}}
use Rattle.df_copy.proofs.engine.copy.Goals as goal

-- ---- a layout

pub returns-in-Some-clause-usage : goal.returns-in-Some-clause-usage
returns-in-Some-clause-usage g c = λ none. absurd (none c.in-Some.layout (c.in-Some.ensures {u = tt}).found)

pub returns-in-Some-clause-untouched : goal.returns-in-Some-clause-untouched
returns-in-Some-clause-untouched g c = λ none. absurd (none c.in-Some.layout (c.in-Some.ensures {u = tt}).found)

pub returns-in-Some-clause-words : goal.returns-in-Some-clause-words
returns-in-Some-clause-words g c = λ is. absurd (c.copy_file.ensures.words is)

pub returns-in-Some-clause-runs : goal.returns-in-Some-clause-runs
returns-in-Some-clause-runs g c = λ layout means.
    subst (λ (l : Layout). RunsCopy l (around (g.A.Disk.told c.args.from.now) (g.B.Disk.told c.args.to.now) (g.W.Sink.written c.args.sink.now)) (around (g.A.Disk.told c.copy_file.new.from) (g.B.Disk.told c.copy_file.new.to) (g.W.Sink.written c.copy_file.new.sink)) c.copy_file.result)
    (one_meaning (map string_bytes c.args.words.now)
    c.in-Some.layout layout c.a_name_is_of_one_layout.ensures (c.in-Some.ensures {u = tt}).found means) c.copy_file.ensures.runs

-- ---- none

pub returns-in-None-clause-runs : goal.returns-in-None-clause-runs
returns-in-None-clause-runs g c = λ layout means. absurd ((c.in-None.ensures {u = tt}).none layout means)

pub returns-in-None-clause-words : goal.returns-in-None-clause-words
returns-in-None-clause-words g c = λ is. (c.in-None.ensures {u = tt}).none
