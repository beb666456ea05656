-- A table that stands in blocks has no more rows than its layout allows, each of which fits, and so it fits its blocks.
use Rattle.std.{proofs.{Common.{◌≡◌, ◌≤◌, ◌∙◌, ◌+◌, ℕ, zero, suc, List, [], ◌∷◌, length, ap, arith, refl, subst, sym}, lemmas.List.{length-map}}, specs.{FinMap.{len-entries}, Fork.{slice_chunk}, Prelude.{All}, List.{range_with_len}}}
use Rattle.std.specs.FinMap as maps
use Rattle.{df_layout.specs.declared.layout.Layout.{Layout}, df_session.specs.Below.{DataFile}}
use Rattle.df_rows.{specs.{declared.command.Command.{Command}, Blocks.{TakesAll, bodies_of, chunks_of}, Limits.{block_count, blocks_of_table, most_rows, rows_in_block}, Rows.{Entry, IsEntry, rows_of}, Tables.{Table, with_command, with_commands, with_rows}}, proofs.Laws.{AreRowsFit, command_fits, none_fits, rows_fit, tables_fit}}
use Rattle.df_theory.specs.{UnitLog.{UnitLog}, Units.{Message}, View.{View}}
use Rattle.df_table.{specs.{Table.{FollowAll, empty_table}, Written.{IsTableIn}}, proofs.{Behind.{HasFew}, ServedLines.{empty_few, follow_few, takes_few}}}

-- what is true of the table of a file
pub record HasBounds (layout : Layout) (t : Table) : Type 0 where
  pub max : t.max ≡ most_rows layout
  pub few : maps.len t.rows ≤ t.max
  pub fit : All IsEntry (maps.entries t.rows)
  pub blocks : length (bodies_of (rows_in_block layout) (maps.entries t.rows)) ≤ blocks_of_table layout

takes_fit : (t u : Table) (bodies : List (List ℕ)) → TakesAll t bodies u → AreRowsFit t.rows → AreRowsFit u.rows
takes_fit t u [] takes fit = subst (λ (x : Table). AreRowsFit x.rows) (sym takes) fit
takes_fit t u (body ∷ bodies) takes fit = takes_fit (with_rows takes.0 t) u bodies takes.2 (rows_fit t takes.0 takes.1.fit fit)

follow_fit : (t : Table) (ps : List Message) (cs : List Command) → FollowAll t ps cs → AreRowsFit t.rows → AreRowsFit (with_commands cs t).rows
follow_fit t [] [] follow fit = fit
follow_fit t [] (c ∷ cs) follow fit = absurd follow
follow_fit t (p ∷ ps) [] follow fit = absurd follow
follow_fit t (p ∷ ps) (c ∷ cs) follow fit = follow_fit (with_command c t) ps cs follow.1 (command_fits t c follow.0.fits fit)

range_count : (s n : ℕ) → length (range_with_len s n) ≡ n
range_count s zero = refl
range_count s (suc n) = ap suc (range_count (s + 1) n)

-- as many blocks as its rows take
count_bodies : (per : ℕ) (es : List Entry) → length (bodies_of per es) ≡ block_count per (length es)
count_bodies per es = length-map (chunks_of per es) rows_of
    ∙ length-map (range_with_len 0 (block_count per (length es))) (λ k. slice_chunk es per k) ∙ range_count 0 (block_count per (length es))

pub table_bounds : (file : DataFile) (log : UnitLog) (v : View) (t : Table) → IsTableIn file log v t → HasBounds file.layout t
table_bounds file log v t is = let most = most_rows file.layout in let few = rw (sym is.is) at (follow_few
    most is.base v.tail is.commands is.tail (takes_few most (empty_table file.layout) is.base is.bodies is.rows (empty_few file.layout))) in
    let fits = tables_fit file.layout (maps.len t.rows) few.few in record {
      max = few.max_is;
      few = omega (arith, few.few, few.max_is);
      fit = rw (sym is.is) at
          (follow_fit is.base v.tail is.commands is.tail (takes_fit (empty_table file.layout) is.base is.bodies is.rows none_fits));
      blocks = omega (arith, fits.blocks, count_bodies (rows_in_block file.layout) (maps.entries t.rows), ap (block_count (rows_in_block file.layout)) (len-entries t.rows));
    }
