-- The back of the past has the events since.
use Rattle.std.proofs.{Common.{List, ap, ◌∙◌}, lemmas.List.{take_rest}}
use Rattle.df_memdisk.{specs.{History.{events_of}, declared.history.Happened.{Happened}}, proofs.Struck.{events_of-since}}
use Rattle.df_memdisk.proofs.shown.since.Goals as goal

pub returns : goal.returns
returns c = ap (λ (hs : List Happened). events_of hs) (take_rest c.args.past.now c.args.struck.now.events)
    ∙ events_of-since c.args.struck.now.events c.args.past.now
