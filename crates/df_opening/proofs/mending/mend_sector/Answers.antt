-- The sixteen headers of a sector of a table may be written, and a sector is written exactly where the list has a slot of it.
use Rattle.std.proofs.{Common.{◌≡◌, ◌∙◌, Bool, ap, rules, sym, tests}, lemmas.{Iterator.{YieldsList-from_slice}, Iterator.Search.{any_from_yields_List}}}
use Rattle.{df_disk.specs.Adds.{after_all}, df_headers.{specs.Ring.{sector_writes}, proofs.Laws.{table_written}}}
use Rattle.{df_damage.specs.Plan.{if_wanted}, df_opening.specs.Mending.{lies_in, needs_sector}}
use Rattle.df_opening.proofs.mending.mend_sector.Goals as goal

pub write_sector-requires-clause-sealed : goal.write_sector-requires-clause-sealed
write_sector-requires-clause-sealed g c = (table_written c.args.file.now.layout c.args.file.now.cluster c.args.sector c.args.headers.now
    c.requires.table c.requires.sector).sixteen

pub returns-else-any-clause-wrote : goal.returns-else-any-clause-wrote
returns-else-any-clause-wrote g c = let at : c.any.result ≡ needs_sector c.args.mends.now c.args.sector =
    any_from_yields_List (lies_in c.args.sector) _ _ c.any.result c.any.ensures.ran (YieldsList-from_slice c.args.mends.now (cc))
    (λ x b q k. search (rules, tests)) in sym c.if-any.false ∙ at

pub returns-else-any-clause-events : goal.returns-else-any-clause-events
returns-else-any-clause-events g c =
    ap (λ (b : Bool). after_all (sector_writes c.args.file.now.layout c.args.headers.now (if_wanted b c.args.sector))
    (g.D.Disk.told c.args.disk.now)) (returns-else-any-clause-wrote g c)
