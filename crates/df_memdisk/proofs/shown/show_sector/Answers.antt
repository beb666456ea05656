-- What a sector shows is what the events since its newest strike left there.
use Rattle.std.{proofs.Common.{◌≤◌, List, Option, length, ap, sym, subst, ◌∙◌}, specs.Prelude.{reverse, IfSome}}
use Rattle.df_base.specs.{Image.{blank}, Log.{Event, now_of}}
use Rattle.df_memdisk.{specs.{History.{events_of}, Struck.{left_of, shown_after}, declared.shown.Struck.{Struck}}, proofs.Struck.{strike_of-behind}}
use Rattle.df_memdisk.proofs.shown.show_sector.Goals as goal

pub since-requires : goal.since-requires
since-requires c = let P : Option Struck → Type 0 = λ o. IfSome o (λ s. s.events ≤ length c.args.past.now) in
    subst P (sym c.in-Some.ensures) (strike_of-behind (reverse c.args.strikes.now) (length c.args.past.now) c.args.sector c.requires.behind)

pub returns-in-Some-clause-bytes : goal.returns-in-Some-clause-bytes
unfolding shown_after
returns-in-Some-clause-bytes c = c.left_in_sector.ensures.bytes
    ∙ ap (λ (es : List Event). now_of (λ s. c.in-Some.struck.now.bytes) es c.args.sector) c.since.ensures
    ∙ ap (λ (o : Option Struck). left_of o (events_of c.args.past.now) c.args.sector) c.in-Some.ensures

pub returns-in-None-clause-bytes : goal.returns-in-None-clause-bytes
unfolding shown_after blank
returns-in-None-clause-bytes c = c.left_in_sector-in-None.ensures.bytes
    ∙ ap (λ (o : Option Struck). left_of o (events_of c.args.past.now) c.args.sector) c.in-None.ensures
