-- With no strike a sector shows what the log left.
use Rattle.{std.proofs.Common.{refl}, df_memdisk.specs.Struck.{shown_after}}
use Rattle.df_memdisk.proofs.memory.MemoryDisk.new.Goals as goal

pub returns-clause-blank : goal.returns-clause-blank
unfolding shown_after
returns-clause-blank c = rw (c.new.ensures.items, c.new-2.ensures.items) refl

pub returns-clause-honest : goal.returns-clause-honest
unfolding shown_after
returns-clause-honest c = rw (c.new.ensures.items, c.new-2.ensures.items) record { shows = λ sector. refl }
