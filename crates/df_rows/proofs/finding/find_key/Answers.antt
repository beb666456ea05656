-- The closure gives a row's key, and the keys rise.
use Rattle.{std.proofs.{Common.{rules}, lemmas.List.Sorted.{answers_always}}, df_rows.{specs.Rows.{Entry}, proofs.Found.{searched}}}
use Rattle.df_rows.proofs.finding.find_key.Goals as goal

pub returns : goal.returns
returns c = let facts = c.binary_search_by_key.ensures in
    let by_key = facts.position (λ (e : Entry). e.0) (answers_always _ _ _ (λ f a r g called. search rules)) in
    searched c.args.rows.now c.requires c.args.key _ facts.bound by_key
