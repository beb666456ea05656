-- A table of reserved headers is one.
use Rattle.{std.proofs.Common.{◌≡◌, ◌∙◌, length, ap, rules}, df_headers.proofs.Laws.{reserved_table}}
use Rattle.df_tests_zones.proofs.tests.rings.reserved_table.Goals as goal

pub returns : goal.returns
returns c = let count : length c.clear.new.self ≡ c.args.layout.now.slots =
    c.clear.ensures.count ∙ ap length c.over-table.ensures ∙ (search (rules, c.in_ok-room.ensures.len)) in
    reserved_table c.args.layout.now 7 c.clear.new.self (search rules) (search rules) count c.clear.ensures.each
