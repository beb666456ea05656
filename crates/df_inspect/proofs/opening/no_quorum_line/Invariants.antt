-- The classes gone over are put after the first words.
use Rattle.{std.proofs.Common.{◌≡◌, ◌≤◌, ◌+◌, ◌*◌, ◌++◌, codes, length, take}, df_inspect.specs.Opening.{classes_text}}
use Rattle.df_inspect.proofs.opening.no_quorum_line.Given as goal

abbrev pub invariant-loop-class : goal.invariant-loop-class
invariant-loop-class l = record {
  put : l.line.items ≡ codes "refused NoQuorum" ++ classes_text (take l.class-index l.classes);
  room : length l.line.items ≤ 16 + 65 * l.class-index;
}
