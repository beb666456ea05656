-- How the table of a view follows from that of the one before: an append changes it by its command, and a checkpoint of the table leaves
-- it.
use Rattle.std.{proofs.Common.{◌≡◌, ◌≤◌, ℕ, List, [], ◌∷◌, ◌++◌, length, refl, sym, ◌∙◌, ap, arith}, specs.Prelude.{All}}
use Rattle.std.specs.FinMap as map
use Rattle.{df_damage.specs.Written.{IsWritten}, df_model.specs.Blocks.{addresses, entries}, df_session.specs.Below.{DataFile, shape}}
use Rattle.df_rows.{specs.{declared.command.Command.{Command}, Blocks.{TakesAll, bodies_of}, Limits.{blocks_of_table, most_rows, rows_in_block}, Rows.{IsEntry}, Tables.{Table, with_command, with_commands}}, proofs.Laws.{blocks_are_table, commands_more, some_rows}}
use Rattle.df_theory.specs.{UnitLog.{UnitLog}, Units.{AnyUnit, Message, Parts, Place}, View.{Checkpoint, View}}
use Rattle.df_table.specs.{Table.{CommandFollows, FollowAll, HaveBodies, IsTableBy, references_of}, Written.{IsTableIn, WroteBodies}}

-- one prepare more
pub follow_more : (t : Table) (ps : List Message) (cs : List Command) (p : Message) (c : Command)
    → FollowAll t ps cs → CommandFollows (with_commands cs t) p.body c → FollowAll t (ps ++ p ∷ []) (cs ++ c ∷ [])
follow_more t [] [] p c all one = (one, tt)
follow_more t [] (d ∷ cs) p c all one = absurd all
follow_more t (q ∷ ps) [] p c all one = absurd all
follow_more t (q ∷ ps) (d ∷ cs) p c all one = (all.0, follow_more (with_command d t) ps cs p c all.1 one)

-- after an append whose body is a command's, for which there is room
pub table_appended : (file : DataFile) (log : UnitLog) (v u : View) (t : Table) (p : Message) (c : Command) → u.checkpoint ≡ v.checkpoint
    → u.tail ≡ v.tail ++ p ∷ [] → CommandFollows t p.body c → IsTableIn file log v t → IsTableIn file log u (with_command c t)
table_appended file log v u t p c same longer follows is = record {
  bodies = is.bodies;
  there = rw (sym (ap (λ k. references_of file (record v { checkpoint = k })) same)) at is.there;
  few = is.few;
  base = is.base;
  rows = is.rows;
  commands = is.commands ++ c ∷ [];
  tail = rw (sym longer) at (follow_more is.base v.tail is.commands p c is.tail (rw is.is at follows));
  is = ap (with_command c) is.is ∙ sym (commands_more is.commands (c ∷ []) is.base);
}

-- of a view with the same parts and tail, wherever its blocks are said to be
pub bare_by : (At : Place → AnyUnit → Type 0) (file : DataFile) (v u : View) (t : Table)
    → u.checkpoint.parts ≡ v.checkpoint.parts → u.tail ≡ v.tail → IsTableBy At file v t → IsTableBy At file u t
bare_by At file v u t parts tail is = record {
  bodies = is.bodies;
  there = rw (sym (ap (λ (p : Parts). entries p.references (addresses (shape file).layout)) parts)) at is.there;
  few = is.few;
  base = is.base;
  rows = is.rows;
  commands = is.commands;
  tail = rw (sym tail) at is.tail;
  is = is.is;
}

pub table_bare : (file : DataFile) (log : UnitLog) (v u : View) (t : Table)
    → u.checkpoint.parts ≡ v.checkpoint.parts → u.tail ≡ v.tail → IsTableIn file log v t → IsTableIn file log u t
table_bare file log v u t parts tail is = bare_by (IsWritten log) file v u t parts tail is

-- after a call that leaves the checkpoint and the tail
pub table_stays : (file : DataFile) (log : UnitLog) (v u : View) (t : Table)
    → u.checkpoint ≡ v.checkpoint → u.tail ≡ v.tail → IsTableIn file log v t → IsTableIn file log u t
table_stays file log v u t same tail is = table_bare file log v u t (ap (λ (c : Checkpoint). c.parts) same) tail is

-- after a checkpoint whose references were written with the bodies of the table's blocks, and after which the tail is empty
pub table_finished : (file : DataFile) (log : UnitLog) (u : View) (t : Table) → t.max ≡ most_rows file.layout → map.len t.rows ≤ t.max
    → All IsEntry (map.entries t.rows) → length (bodies_of (rows_in_block file.layout) (map.entries t.rows)) ≤ blocks_of_table file.layout
    → WroteBodies log (references_of file u) (bodies_of (rows_in_block file.layout) (map.entries t.rows))
    → u.tail ≡ [] → IsTableIn file log u t
table_finished file log u t max few fit blocks wrote empty = record {
  bodies = bodies_of (rows_in_block file.layout) (map.entries t.rows);
  there = wrote;
  few = blocks;
  base = t;
  rows = rw (← max) (blocks_are_table (rows_in_block file.layout) t (omega (arith, some_rows file.layout)) fit few);
  commands = [];
  tail = rw empty tt;
  is = refl;
}
