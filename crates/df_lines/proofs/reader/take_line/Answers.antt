-- What the parser refuses says nothing.
use Rattle.std.proofs.Common.{ℕ, List, refl, sym, take}
use Rattle.df_lines.proofs.reader.take_line.Goals as goal

pub returns-in_default-clause-takes : goal.returns-in_default-clause-takes
returns-in_default-clause-takes g c = (
  refl,
  refl,
  λ said within says. c.in_default.ensures.none said (rw (sym c.bytes.ensures.value) at says),
)
