-- The log begins blank, and its events are those that the disk keeps. With no strike a sector shows what they left.
use Rattle.{std.proofs.Common.{rules, ap, List}, df_base.proofs.Laws.{blank_is_image}}
use Rattle.df_memdisk.specs.{Struck.{shown_after}, declared.shown.Struck.{Struck}}
use Rattle.df_memdisk.proofs.memory.MemoryDisk.events.Goals as goal

pub returns-clause-log : goal.returns-clause-log
returns-clause-log c = record { start = blank_is_image; events = search rules }

pub returns-clause-unstruck_is_honest : goal.returns-clause-unstruck_is_honest
unfolding shown_after
returns-clause-unstruck_is_honest c =
    λ none. record { shows = λ sector. ap (λ (ss : List Struck). shown_after ss c.args.self.now.events sector) none }
