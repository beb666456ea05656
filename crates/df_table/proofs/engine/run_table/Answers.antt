-- The words are the table's, or they aren't: the clauses of the other say nothing.
use Rattle.std.proofs.{Common.{sym, ◌∙◌}, lemmas.Bool.{false≢true}}
use Rattle.df_table.proofs.engine.run_table.Goals as goal

-- ---- the word of the table

pub returns-then-is_table-clause-usage : goal.returns-then-is_table-clause-usage
returns-then-is_table-clause-usage g c = λ other. absurd (other (c.is_table.ensures.0 c.if-is_table.true))

pub returns-then-is_table-clause-untouched : goal.returns-then-is_table-clause-untouched
returns-then-is_table-clause-untouched g c = λ other. absurd (other (c.is_table.ensures.0 c.if-is_table.true))

pub returns-then-is_table-clause-unread : goal.returns-then-is_table-clause-unread
returns-then-is_table-clause-unread g c = λ other. absurd (other (c.is_table.ensures.0 c.if-is_table.true))

pub returns-then-is_table-clause-words : goal.returns-then-is_table-clause-words
returns-then-is_table-clause-words g c = λ is word. c.run_file.ensures.words is

pub returns-then-is_table-clause-runs : goal.returns-then-is_table-clause-runs
returns-then-is_table-clause-runs g c = λ word. c.run_file.ensures.runs

-- ---- other words

pub returns-else-is_table-clause-usage : goal.returns-else-is_table-clause-usage
returns-else-is_table-clause-usage g c = λ other. c.print_usage.ensures.writes

pub returns-else-is_table-clause-words : goal.returns-else-is_table-clause-words
returns-else-is_table-clause-words g c = λ is word. false≢true (sym c.if-is_table.false ∙ c.is_table.ensures.1 word)

pub returns-else-is_table-clause-runs : goal.returns-else-is_table-clause-runs
returns-else-is_table-clause-runs g c = λ word. absurd (false≢true (sym c.if-is_table.false ∙ c.is_table.ensures.1 word))
